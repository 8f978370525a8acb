-- What the tree of a condition says.
use Rattle.std.specs.Prelude.{◌≡◌, true, List, Some}
use Rattle.sd_condition.specs.Writing.{is_condition}
use Rattle.sd_condition.specs.declared.token.Token.{Token}
use Rattle.sd_condition_text.specs.Tree.{Tree, postfix, tree_of}

-- each condition has a tree
abbrev pub ConditionsHaveATree : Type 0
ConditionsHaveATree = (ts : List Token) → is_condition ts ≡ true → (tree : Tree) × (tree_of ts ≡ Some tree)

-- the tokens are those of their tree in postfix order
abbrev pub TreesSayTheTokens : Type 0
TreesSayTheTokens = (ts : List Token) (tree : Tree) → tree_of ts ≡ Some tree → postfix tree ≡ ts
