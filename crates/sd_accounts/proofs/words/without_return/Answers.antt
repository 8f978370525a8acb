use Rattle.std.proofs.Common.{List, ap, lit<, ℕ, ◌∙◌}
use Rattle.std.specs.Borrow.{Bor}
use Rattle.std.proofs.lemmas.Str.Pattern.{strip_suffix_char}
use Rattle.sd_accounts.proofs.Lines.{stripped}
use Rattle.sd_accounts.proofs.words.without_return.Goals as goal

pub returns : goal.returns
returns c =
    ap (λ (text : Bor (List ℕ)). text.now) c.unwrap_or.ensures
    ∙ stripped c.args.line c.strip_suffix.result (strip_suffix_char 13 c.args.line.now c.strip_suffix.result c.strip_suffix.ensures.cases (lit< tt))
