-- The row of a line is that of its text.
use Rattle.std.proofs.Common.{◌≡◌, ◌∙◌, ℕ, Bool, true, false, List, Err, ap, refl, sym}
use Rattle.std.proofs.lemmas.Str.{IsUtf8-from_is_utf8, is_utf8-from_IsUtf8}
use Rattle.std.specs.Prelude.{if◌then◌else◌}
use Rattle.std.specs.Str.{IsUtf8, is_utf8}
use Rattle.sd_schema.specs.Row.{row_in, text_row}
use Rattle.sd_schema.specs.declared.fault.SchemaFault.TheVariants.{Utf8}

pub row_of_line : (line text : List ℕ) → text ≡ line → IsUtf8 line → row_in line ≡ text_row text
row_of_line line text same is =
    ap (λ b. if b then text_row line else Err Utf8) (is_utf8-from_IsUtf8 line is) ∙ ap text_row (sym same)

-- a text that isn't UTF-8 fails the test
pub no_texts : (bytes : List ℕ) → ¬ (IsUtf8 bytes) → is_utf8 bytes ≡ false
no_texts bytes isnt = by (is_utf8 bytes) refl
  where
    by : (b : Bool) → is_utf8 bytes ≡ b → b ≡ false
    by true is = absurd (isnt (IsUtf8-from_is_utf8 bytes is))
    by false is = refl
