-- The terms of a condition's text ([MS-DTYP] 2.5.1.1, term): each as its tokens in postfix order.
use Rattle.std.specs.Prelude.{List, [], ◌∷◌, Option, Some, None, codes}
use Rattle.sd_condition.specs.declared.attribute.Attribute.{Attribute}
use Rattle.sd_condition.specs.declared.operator.Operator.{Operator}
use Rattle.sd_condition.specs.declared.token.Token.{Token}
use Rattle.sd_condition.specs.declared.token.Token.TheVariants as tokens
use Rattle.sd_condition.specs.declared.value.Value.TheVariants as values
use Rattle.sd_condition_parse.specs.Attribute.{attribute, prefixed_attribute}
use Rattle.sd_condition_parse.specs.Operator.{comparison, exists_words, member_words, worded}
use Rattle.sd_condition_parse.specs.Outcome.{Parser, found, choose, ◌>>=◌}
use Rattle.sd_condition_parse.specs.Run.{space}
use Rattle.sd_condition_parse.specs.Value.{list, literal_sid, value}
use Rattle.sd_condition_parse.specs.declared.value.Item.TheVariants.{Any, OnlySid}
use Rattle.sd_text.specs.Finding.{name_or}
use Rattle.sd_text.specs.Grammar.{begins}
use Rattle.sd_text.specs.declared.alias.Aliases.{Aliases}

-- ---- comparisons

-- what an attribute is compared with: a list, an attribute with a prefix, or a value
unfoldable pub right_operand : Aliases → Parser Token
right_operand known =
    choose (λ text. begins text (codes "{")) (list Any known >>= λ vs. found (tokens.List vs))
    (choose (λ text. begins text (codes "@")) (prefixed_attribute >>= λ a. found (tokens.Attribute a))
    (value known >>= λ v. found (tokens.Value v)))

-- after an attribute: the operator and what it is compared with; without an operator it stands alone
abbrev pub compared : Aliases → Attribute → Option Operator → Parser (List Token)
compared known left None = found (tokens.Attribute left ∷ [])
compared known left (Some operator) = do
  u ← space
  right ← right_operand known
  found (tokens.Attribute left ∷ right ∷ tokens.Operator operator ∷ [])

unfoldable pub attribute_term : Aliases → Attribute → Parser (List Token)
attribute_term known left = do
  u ← space
  operator ← comparison
  compared known left operator

-- ---- words before their operands

unfoldable pub exists_term : Operator → Parser (List Token)
exists_term operator = do
  u ← space
  a ← attribute
  found (tokens.Attribute a ∷ tokens.Operator operator ∷ [])

-- a SID, or a list of SIDs (sid-array)
unfoldable pub sids : Aliases → Parser Token
sids known =
    choose (λ text. begins text (codes "{")) (list OnlySid known >>= λ vs. found (tokens.List vs))
    (literal_sid known >>= λ s. found (tokens.Value (values.Sid s)))

unfoldable pub member_term : Aliases → Operator → Parser (List Token)
member_term known operator = do
  u ← space
  operand ← sids known
  found (operand ∷ tokens.Operator operator ∷ [])

-- ---- terms

unfoldable pub term : Aliases → Parser (List Token)
term known text =
    name_or (worded exists_words text) exists_term
    (name_or (worded member_words text) (member_term known)
    ((attribute >>= attribute_term known) text))
