-- The tree that a condition's tokens are: each operator, with the trees of its operands ([MS-DTYP] 2.4.4.17.4).
use Rattle.std.specs.Prelude.{List, [], ◌∷◌, ◌++◌, Option}
use Rattle.sd_condition.specs.declared.operator.Operator.{Operator}
use Rattle.sd_condition.specs.declared.token.Token.{Token}
use Rattle.sd_condition.specs.declared.token.Token.TheVariants as tokens
use Rattle.sd_condition_text.specs.Stack.{left_by}

-- a value, a list or an attribute; an operator over one tree; an operator over two
pub data Tree : Type 0 where
  Operand : Token → Tree
  One : Operator → Tree → Tree
  Two : Operator → Tree → Tree → Tree

abbrev pub tree_of : List Token → Option Tree
tree_of ts = left_by Operand One Two ts

-- the tokens of a tree, in postfix order
abbrev pub postfix : Tree → List Token
postfix (Operand token) = token ∷ []
postfix (One operator tree) = postfix tree ++ tokens.Operator operator ∷ []
postfix (Two operator left right) = postfix left ++ postfix right ++ tokens.Operator operator ∷ []
