-- The text of a condition ([MS-DTYP] 2.5.1.1, cond-expr): that of its tree. What has no text that is parsed as just
-- these tokens has none.
use Rattle.std.specs.Prelude.{ℕ, Bool, true, false, List, ◌++◌, Option, Some, None, codes}
use Rattle.std.specs.Prelude.{if◌then◌else◌}
use Rattle.std.specs.Fmt.{◌++?◌}
use Rattle.sd_data.specs.Outcome.{◌>>=◌}
use Rattle.sd_condition.specs.declared.attribute.Scope.{Scope}
use Rattle.sd_condition.specs.declared.attribute.Scope.TheVariants.{Local, User, Resource, Device}
use Rattle.sd_condition.specs.declared.operator.Operator.{Operator}
use Rattle.sd_condition.specs.declared.token.Token.{Token}
use Rattle.sd_condition.specs.declared.token.Token.TheVariants as tokens
use Rattle.sd_condition_text.specs.Attribute.{attribute_text}
use Rattle.sd_condition_text.specs.Operator.{form, word}
use Rattle.sd_condition_text.specs.Tree.{Tree, Operand, One, Two, tree_of}
use Rattle.sd_condition_text.specs.Value.{list_text, value_text}
use Rattle.sd_condition_text.specs.declared.operator.Form.{Form}
use Rattle.sd_condition_text.specs.declared.operator.Form.TheVariants.{Between, Before, Joining, Negating}

-- an operator has no text of an operand
unfoldable pub operand_text : Token → Option (List ℕ)
operand_text (tokens.Value value) = value_text value
operand_text (tokens.List list) = list_text list
operand_text (tokens.Attribute attribute) = attribute_text attribute
operand_text (tokens.Operator operator) = None

abbrev pub is_local : Scope → Bool
is_local Local = true
is_local User = false
is_local Resource = false
is_local Device = false

-- an attribute without a prefix, which doesn't stand on the right of a comparison (rel-op, contains-op, anyof-op)
abbrev pub is_local_attribute : Token → Bool
is_local_attribute (tokens.Value value) = false
is_local_attribute (tokens.List list) = false
is_local_attribute (tokens.Attribute attribute) = is_local attribute.scope
is_local_attribute (tokens.Operator operator) = false

-- what a part of a condition is to the operator that has it as an operand
pub record PartValue : Type 0 where
  pub text : Option (List ℕ)
  pub is_local : Bool

abbrev pub parenthesized : Option (List ℕ) → Option (List ℕ)
parenthesized text = Some (codes "(") ++? text ++? Some (codes ")")

abbrev pub on_the_right : PartValue → Option (List ℕ)
on_the_right right = if right.is_local then None else right.text

-- an operand that is a condition stands in parentheses, which precedence needs or not
abbrev pub one_text : Form → List ℕ → PartValue → Option (List ℕ)
one_text Negating word operand = Some word ++? parenthesized operand.text
one_text Before word operand = Some (word ++ codes " ") ++? operand.text
one_text Between word operand = None
one_text Joining word operand = None

abbrev pub two_text : Form → List ℕ → PartValue → PartValue → Option (List ℕ)
two_text Between word left right = left.text ++? Some (codes " " ++ word ++ codes " ") ++? on_the_right right
two_text Joining word left right =
    parenthesized left.text ++? Some (codes " " ++ word ++ codes " ") ++? parenthesized right.text
two_text Before word left right = None
two_text Negating word left right = None

abbrev pub operand_part : Token → PartValue
operand_part token = record { text = operand_text token; is_local = is_local_attribute token }

abbrev pub one_part : Operator → PartValue → PartValue
one_part operator operand = record { text = one_text (form operator) (word operator) operand; is_local = false }

abbrev pub two_part : Operator → PartValue → PartValue → PartValue
two_part operator left right = record { text = two_text (form operator) (word operator) left right; is_local = false }

-- a part of a condition: its text, and whether it is an attribute without a prefix
abbrev pub tree_part : Tree → PartValue
tree_part (Operand token) = operand_part token
tree_part (One operator tree) = one_part operator (tree_part tree)
tree_part (Two operator left right) = two_part operator (tree_part left) (tree_part right)

abbrev pub tree_text : Tree → Option (List ℕ)
tree_text tree = (tree_part tree).text

-- the whole stands in parentheses
unfoldable pub condition_text : List Token → Option (List ℕ)
condition_text ts = tree_of ts >>= λ tree. parenthesized (tree_text tree)
