-- The head is there.
use Rattle.std.proofs.Common.{None, Some, arith, List, ℕ, ◌∷◌, ◌≡◌}
use Rattle.std.proofs.lemmas.Str.Pattern.{strip_prefix_char}
use Rattle.sd_whole_lint.proofs.entry_text.behind_head.Goals as goal

both : (text section result rest : List ℕ) → text ≡ 68 ∷ section → section ≡ 58 ∷ result → text ≡ 68 ∷ 58 ∷ rest → result ≡ rest
both text section result rest first second is = cc

behind : (text section rest : List ℕ) → text ≡ 68 ∷ section → text ≡ 68 ∷ 58 ∷ rest → section ≡ 58 ∷ rest
behind text section rest first is = cc

pub returns-in_default : goal.returns-in_default
returns-in_default c = λ rest is.
    absurd (strip_prefix_char 68 c.args.text.now None c.in_default.ensures.cases (omega arith) (58 ∷ rest) is)

pub returns-in-None : goal.returns-in-None
returns-in-None c = λ rest is.
    let first = strip_prefix_char 68 c.args.text.now (Some c.in-Some.section) c.in-Some.ensures.cases (omega arith) in
    absurd (strip_prefix_char 58 c.in-Some.section.now None c.in-None.ensures.cases (omega arith) rest
    (behind c.args.text.now c.in-Some.section.now rest first is))

pub returns-in-Some-strip_prefix : goal.returns-in-Some-strip_prefix
returns-in-Some-strip_prefix c = λ rest is.
    let first = strip_prefix_char 68 c.args.text.now (Some c.in-Some.section) c.in-Some.ensures.cases (omega arith) in
    let found = c.in-Some-strip_prefix.rest in
    let second = strip_prefix_char 58 c.in-Some.section.now (Some found) c.in-Some-strip_prefix.ensures.cases (omega arith) in
    both c.args.text.now c.in-Some.section.now found.now rest first second is
