-- What the stack machine leaves of parts is the part of the tree that it leaves of trees.
use Rattle.std.proofs.Common.{List, None, Option, Some, [], map, refl, ◌∷◌, ◌≡◌}
use Rattle.std.specs.Option.{option_map}
use Rattle.sd_data.specs.Outcome.{◌>>=◌}
use Rattle.sd_condition.specs.declared.operator.Operator.{Operator}
use Rattle.sd_condition.specs.declared.token.Token.{Token}
use Rattle.sd_condition.specs.declared.token.Token.TheVariants as tokens
use Rattle.sd_condition_text.specs.Operator.{form}
use Rattle.sd_condition_text.specs.Stack.{after_one, after_operator, after_token, after_tokens, after_two, alone, left_by}
use Rattle.sd_condition_text.specs.Text.{one_part, operand_part, tree_part, two_part}
use Rattle.sd_condition_text.specs.Tree.{One, Operand, Tree, Two, tree_of}
use Rattle.sd_condition_text.specs.declared.operator.Form.{Form}
use Rattle.sd_condition_text.specs.declared.operator.Form.TheVariants.{Before, Between, Joining, Negating}

by_one : (operator : Operator) (trees : List Tree) → after_one (one_part operator) (map tree_part trees) ≡ option_map (map tree_part) (after_one (One operator) trees)
by_one operator [] = refl
by_one operator (tree ∷ trees) = refl

by_two : (operator : Operator) (trees : List Tree) → after_two (two_part operator) (map tree_part trees) ≡ option_map (map tree_part) (after_two (Two operator) trees)
by_two operator [] = refl
by_two operator (right ∷ []) = refl
by_two operator (right ∷ left ∷ trees) = refl

by_operator : (form : Form) (operator : Operator) (trees : List Tree)
    → after_operator (one_part operator) (two_part operator) form (map tree_part trees) ≡ option_map (map tree_part) (after_operator (One operator) (Two operator) form trees)
by_operator Between operator trees = by_two operator trees
by_operator Before operator trees = by_one operator trees
by_operator Joining operator trees = by_two operator trees
by_operator Negating operator trees = by_one operator trees

by_token : (t : Token) (trees : List Tree) → after_token operand_part one_part two_part t (map tree_part trees) ≡ option_map (map tree_part) (after_token Operand One Two t trees)
by_token (tokens.Value value) trees = refl
by_token (tokens.List list) trees = refl
by_token (tokens.Attribute attribute) trees = refl
by_token (tokens.Operator operator) trees = by_operator (form operator) operator trees

-- after a token that found its operands, or didn't
by_next : (ts : List Token) → ((trees : List Tree) → after_tokens operand_part one_part two_part ts (map tree_part trees) ≡ option_map (map tree_part) (after_tokens Operand One Two ts trees))
    → (next : Option (List Tree))
    → (option_map (map tree_part) next >>= λ stack. after_tokens operand_part one_part two_part ts stack) ≡ option_map (map tree_part) (next >>= λ stack. after_tokens Operand One Two ts stack)
by_next ts others None = refl
by_next ts others (Some stack) = others stack

by_tokens : (ts : List Token) (trees : List Tree) → after_tokens operand_part one_part two_part ts (map tree_part trees) ≡ option_map (map tree_part) (after_tokens Operand One Two ts trees)
by_tokens [] trees = refl
by_tokens (t ∷ ts) trees = rw (by_token t trees) (by_next ts (λ stack. by_tokens ts stack) (after_token Operand One Two t trees))

alone_of : (trees : List Tree) → alone (map tree_part trees) ≡ option_map tree_part (alone trees)
alone_of [] = refl
alone_of (tree ∷ []) = refl
alone_of (tree ∷ other ∷ others) = refl

left_alone : (left : Option (List Tree)) → (option_map (map tree_part) left >>= alone) ≡ option_map tree_part (left >>= alone)
left_alone None = refl
left_alone (Some trees) = alone_of trees

pub part_is_of_the_tree : (ts : List Token) → left_by operand_part one_part two_part ts ≡ option_map tree_part (tree_of ts)
part_is_of_the_tree ts = rw (by_tokens ts []) (left_alone (after_tokens Operand One Two ts []))
