-- The test of UTF-8, by what a parser of it says.
use Rattle.std.proofs.Common.{List, false, refl, true, ℕ, ◌≡◌}
use Rattle.std.proofs.lemmas.Str.{IsUtf8-from_is_utf8, is_utf8-from_IsUtf8}
use Rattle.std.specs.Prelude.{Bool}
use Rattle.std.specs.Str.{IsUtf8, is_utf8}

pub is_utf8_text : (bytes : List ℕ) → IsUtf8 bytes → is_utf8 bytes ≡ true
is_utf8_text bytes is = is_utf8-from_IsUtf8 bytes is

pub is_no_utf8_text : (bytes : List ℕ) → ¬ (IsUtf8 bytes) → is_utf8 bytes ≡ false
is_no_utf8_text bytes not = by (is_utf8 bytes) refl
  where
    by : (b : Bool) → is_utf8 bytes ≡ b → b ≡ false
    by true e = absurd (not (IsUtf8-from_is_utf8 bytes e))
    by false e = refl
