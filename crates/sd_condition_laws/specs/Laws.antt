-- What holds of the texts of conditions.
use Rattle.std.specs.Prelude.{◌≡◌, ℕ, true, List, ◌++◌, Some, Ok}
use Rattle.sd_condition.specs.Laws.{AreTokens}
use Rattle.sd_condition.specs.Writing.{is_condition}
use Rattle.sd_condition.specs.declared.token.Token.{Token}
use Rattle.sd_condition_parse.specs.Condition.{condition_found}
use Rattle.sd_condition_text.specs.Text.{condition_text}
use Rattle.sd_text.specs.declared.alias.Aliases.{Aliases}

-- the printed text of a condition is parsed as that condition, whatever follows it
abbrev pub ConditionsComeBack : Type 0
ConditionsComeBack = (known : Aliases) (ts : List Token) (text rest : List ℕ) → AreTokens ts → is_condition ts ≡ true
    → condition_text ts ≡ Some text → condition_found known (text ++ rest) ≡ Ok (ts, rest)
