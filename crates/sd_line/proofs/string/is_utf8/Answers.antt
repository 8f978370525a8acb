use Rattle.std.proofs.Common.{◌≡◌, ℕ, Bool, true, false, List, refl, sym}
use Rattle.std.specs.Str.{IsUtf8, is_utf8}
use Rattle.std.proofs.lemmas.Str.{IsUtf8-from_is_utf8, is_utf8-from_IsUtf8}
use Rattle.sd_line.proofs.string.is_utf8.Goals as goal

not_utf8 : (bs : List ℕ) → (IsUtf8 bs → ⊥) → (b : Bool) → is_utf8 bs ≡ b → false ≡ b
not_utf8 bs none true is = absurd (none (IsUtf8-from_is_utf8 bs is))
not_utf8 bs none false is = refl

pub returns-in-Ok : goal.returns-in-Ok
returns-in-Ok c = sym (is_utf8-from_IsUtf8 c.args.text.now c.in-Ok.ensures.cases.1)

pub returns-in-Err : goal.returns-in-Err
returns-in-Err c = not_utf8 c.args.text.now c.in-Err.ensures.cases.0 _ refl
