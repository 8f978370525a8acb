-- Each condition has a tree, and the tree says its tokens.
use Rattle.std.proofs.Common.{List, None, Option, Some, [], ap, append-nil, append_assoc, cond, is_some, refl, subst, sym, true, ◌++◌, ◌∙◌, ◌∷◌, ◌≡◌}
use Rattle.std.proofs.lemmas.Bool.{and_parts}
use Rattle.sd_data.proofs.Found.{bound, held, some_is}
use Rattle.sd_data.specs.Outcome.{◌>>=◌}
use Rattle.sd_condition.specs.Stack.{after_one as operand_after_one, after_token as operands_after_token, after_tokens as operands_after, after_two as operands_after_two, alone as operand_alone, is_attribute, is_comparable, is_sids, is_truth, outcome}
use Rattle.sd_condition.specs.Writing.{is_condition}
use Rattle.sd_condition.specs.declared.operator.Operator.{Operator}
use Rattle.sd_condition.specs.declared.operator.Operator.TheVariants as operators
use Rattle.sd_condition.specs.declared.token.Token.{Token}
use Rattle.sd_condition.specs.declared.token.Token.TheVariants as tokens
use Rattle.sd_condition_text.specs.Laws.{ConditionsHaveATree, TreesSayTheTokens}
use Rattle.sd_condition_text.specs.Operator.{form}
use Rattle.sd_condition_text.specs.Stack.{after_one, after_operator, after_token, after_tokens, after_two, alone}
use Rattle.sd_condition_text.specs.Tree.{One, Operand, Tree, Two, postfix, tree_of}
use Rattle.sd_condition_text.specs.declared.operator.Form.{Form}
use Rattle.sd_condition_text.specs.declared.operator.Form.TheVariants.{Before, Between, Joining, Negating}

-- ---- the tokens of trees on a stack, of which the uppermost is the first

abbrev spread : List Tree → List Token
spread [] = []
spread (tree ∷ trees) = spread trees ++ postfix tree

said_by_one : (operator : Operator) (trees next : List Tree) → after_one (One operator) trees ≡ Some next → spread next ≡ spread trees ++ tokens.Operator operator ∷ []
said_by_one operator [] next e = absurd cc
said_by_one operator (tree ∷ trees) next e =
    ap spread (sym (some_is (One operator tree ∷ trees) next e)) ∙ sym (append_assoc (spread trees) (postfix tree) (tokens.Operator operator ∷ []))

said_by_two : (operator : Operator) (trees next : List Tree) → after_two (Two operator) trees ≡ Some next → spread next ≡ spread trees ++ tokens.Operator operator ∷ []
said_by_two operator [] next e = absurd cc
said_by_two operator (right ∷ []) next e = absurd cc
said_by_two operator (right ∷ left ∷ trees) next e =
    ap spread (sym (some_is (Two operator left right ∷ trees) next e)) ∙ simp append_assoc

said_by_operator : (form : Form) (operator : Operator) (trees next : List Tree) → after_operator (One operator) (Two operator) form trees ≡ Some next → spread next ≡ spread trees ++ tokens.Operator operator ∷ []
said_by_operator Between operator trees next e = said_by_two operator trees next e
said_by_operator Before operator trees next e = said_by_one operator trees next e
said_by_operator Joining operator trees next e = said_by_two operator trees next e
said_by_operator Negating operator trees next e = said_by_one operator trees next e

said_by_token : (t : Token) (trees next : List Tree) → after_token Operand One Two t trees ≡ Some next → spread next ≡ spread trees ++ t ∷ []
said_by_token (tokens.Value value) trees next e = ap spread (sym (some_is (Operand (tokens.Value value) ∷ trees) next e))
said_by_token (tokens.List list) trees next e = ap spread (sym (some_is (Operand (tokens.List list) ∷ trees) next e))
said_by_token (tokens.Attribute attribute) trees next e = ap spread (sym (some_is (Operand (tokens.Attribute attribute) ∷ trees) next e))
said_by_token (tokens.Operator operator) trees next e = said_by_operator (form operator) operator trees next e

said_by_tokens : (ts : List Token) (trees left : List Tree) → after_tokens Operand One Two ts trees ≡ Some left → spread left ≡ spread trees ++ ts
said_by_tokens [] trees left e = ap spread (sym (some_is trees left e)) ∙ sym (append-nil (spread trees))
said_by_tokens (t ∷ ts) trees left e =
    let step = bound (after_token Operand One Two t trees) (λ next. after_tokens Operand One Two ts next) left e in
    said_by_tokens ts step.0 left step.2
    ∙ ap (λ (front : List Token). front ++ ts) (said_by_token t trees step.0 step.1)
    ∙ append_assoc (spread trees) (t ∷ []) ts

alone_says : (trees : List Tree) (tree : Tree) → alone trees ≡ Some tree → spread trees ≡ postfix tree
alone_says [] tree e = absurd cc
alone_says (one ∷ []) tree e = ap postfix (some_is one tree e)
alone_says (one ∷ other ∷ others) tree e = absurd cc

pub trees_say_the_tokens : TreesSayTheTokens
trees_say_the_tokens ts tree e =
    let left = bound (after_tokens Operand One Two ts []) alone tree e in
    sym (alone_says left.0 tree left.2) ∙ said_by_tokens ts [] left.0 left.1

-- ---- a stack of trees has as many as one of operands

abbrev Alike : {A : Type 0} → List A → List Tree → Type 0
Alike [] [] = Unit {0}
Alike [] (tree ∷ trees) = ⊥
Alike (operand ∷ operands) [] = ⊥
Alike (operand ∷ operands) (tree ∷ trees) = Alike operands trees

abbrev Follows : {A : Type 0} → List A → Option (List Tree) → Type 0
Follows next trees = (more : List Tree) × (trees ≡ Some more) × Alike next more

found_by_one : (test : _) (operator : Operator) (operands : _) (trees : List Tree) (next : _)
    → Alike operands trees → operand_after_one test operands ≡ Some next → Follows next (after_one (One operator) trees)
found_by_one test operator [] trees next alike e = absurd cc
found_by_one test operator (operand ∷ operands) [] next alike e = absurd alike
found_by_one test operator (operand ∷ operands) (tree ∷ trees) next alike e =
    let left = held (test operand) _ next e in
    (One operator tree ∷ trees, refl, subst (λ those. Alike those (One operator tree ∷ trees)) (some_is _ next left.1) alike)

found_by_two : (left_test right_test : _) (operator : Operator) (operands : _) (trees : List Tree) (next : _)
    → Alike operands trees → operands_after_two left_test right_test operands ≡ Some next → Follows next (after_two (Two operator) trees)
found_by_two left_test right_test operator [] trees next alike e = absurd cc
found_by_two left_test right_test operator (right ∷ operands) [] next alike e = absurd alike
found_by_two left_test right_test operator (right ∷ []) (tree ∷ trees) next alike e = let one = held (right_test right) None next e in absurd cc
found_by_two left_test right_test operator (right ∷ left ∷ operands) (tree ∷ []) next alike e = absurd alike
found_by_two left_test right_test operator (right ∷ left ∷ operands) (tree ∷ other ∷ trees) next alike e =
    let one = held (right_test right) (operand_after_one left_test (left ∷ operands)) next e in
    let both = held (left_test left) _ next one.1 in
    (Two operator other tree ∷ trees, refl, subst (λ those. Alike those (Two operator other tree ∷ trees)) (some_is _ next both.1) alike)

found_by_operator : (operator : Operator) (operands : _) (trees : List Tree) (next : _)
    → Alike operands trees → operands_after_token (tokens.Operator operator) operands ≡ Some next → Follows next (after_token Operand One Two (tokens.Operator operator) trees)
found_by_operator operators.Equal = found_by_two is_attribute is_comparable operators.Equal
found_by_operator operators.NotEqual = found_by_two is_attribute is_comparable operators.NotEqual
found_by_operator operators.Less = found_by_two is_attribute is_comparable operators.Less
found_by_operator operators.LessOrEqual = found_by_two is_attribute is_comparable operators.LessOrEqual
found_by_operator operators.Greater = found_by_two is_attribute is_comparable operators.Greater
found_by_operator operators.GreaterOrEqual = found_by_two is_attribute is_comparable operators.GreaterOrEqual
found_by_operator operators.Contains = found_by_two is_attribute is_comparable operators.Contains
found_by_operator operators.Exists = found_by_one is_attribute operators.Exists
found_by_operator operators.AnyOf = found_by_two is_attribute is_comparable operators.AnyOf
found_by_operator operators.MemberOf = found_by_one is_sids operators.MemberOf
found_by_operator operators.DeviceMemberOf = found_by_one is_sids operators.DeviceMemberOf
found_by_operator operators.MemberOfAny = found_by_one is_sids operators.MemberOfAny
found_by_operator operators.DeviceMemberOfAny = found_by_one is_sids operators.DeviceMemberOfAny
found_by_operator operators.NotExists = found_by_one is_attribute operators.NotExists
found_by_operator operators.NotContains = found_by_two is_attribute is_comparable operators.NotContains
found_by_operator operators.NotAnyOf = found_by_two is_attribute is_comparable operators.NotAnyOf
found_by_operator operators.NotMemberOf = found_by_one is_sids operators.NotMemberOf
found_by_operator operators.NotDeviceMemberOf = found_by_one is_sids operators.NotDeviceMemberOf
found_by_operator operators.NotMemberOfAny = found_by_one is_sids operators.NotMemberOfAny
found_by_operator operators.NotDeviceMemberOfAny = found_by_one is_sids operators.NotDeviceMemberOfAny
found_by_operator operators.And = found_by_two is_truth is_truth operators.And
found_by_operator operators.Or = found_by_two is_truth is_truth operators.Or
found_by_operator operators.Not = found_by_one is_truth operators.Not

found_by_token : (t : Token) (operands : _) (trees : List Tree) (next : _)
    → Alike operands trees → operands_after_token t operands ≡ Some next → Follows next (after_token Operand One Two t trees)
found_by_token (tokens.Value value) operands trees next alike e =
    let more = Operand (tokens.Value value) ∷ trees in (more, refl, subst (λ those. Alike those more) (some_is _ next e) alike)
found_by_token (tokens.List list) operands trees next alike e =
    let more = Operand (tokens.List list) ∷ trees in (more, refl, subst (λ those. Alike those more) (some_is _ next e) alike)
found_by_token (tokens.Attribute attribute) operands trees next alike e =
    let more = Operand (tokens.Attribute attribute) ∷ trees in (more, refl, subst (λ those. Alike those more) (some_is _ next e) alike)
found_by_token (tokens.Operator operator) operands trees next alike e = found_by_operator operator operands trees next alike e

found_by_tokens : (ts : List Token) (operands : _) (trees : List Tree) (left : _)
    → Alike operands trees → operands_after ts operands ≡ Some left → Follows left (after_tokens Operand One Two ts trees)
found_by_tokens [] operands trees left alike e = (trees, refl, subst (λ those. Alike those trees) (some_is operands left e) alike)
found_by_tokens (t ∷ ts) operands trees left alike e =
    let step = bound (operands_after_token t operands) (λ next. operands_after ts next) left e in
    let first = found_by_token t operands trees step.0 alike step.1 in
    let others = found_by_tokens ts step.0 first.0 left first.2 step.2 in
    (others.0, ap (λ (next : Option (List Tree)). next >>= λ more. after_tokens Operand One Two ts more) first.1 ∙ others.1, others.2)

alone_alike : (operands : _) (trees : List Tree) (operand : _) → Alike operands trees → operand_alone operands ≡ Some operand → (tree : Tree) × (alone trees ≡ Some tree)
alone_alike [] trees operand alike e = absurd cc
alone_alike (one ∷ []) [] operand alike e = absurd alike
alone_alike (one ∷ []) (tree ∷ []) operand alike e = (tree, refl)
alone_alike (one ∷ []) (tree ∷ other ∷ trees) operand alike e = absurd alike
alone_alike (one ∷ other ∷ others) trees operand alike e = absurd cc

there_is : {A : Type 0} (found : Option A) → is_some found ≡ true → (x : A) × (found ≡ Some x)
there_is None e = absurd cc
there_is (Some x) e = (x, refl)

outcomes_have_a_tree : (ts : List Token) (operand : _) → outcome ts ≡ Some operand → (tree : Tree) × (tree_of ts ≡ Some tree)
unfolding outcome
outcomes_have_a_tree ts operand e =
    let stack = bound (operands_after ts []) (λ left. operand_alone left >>= λ alone. cond (is_truth alone) (Some alone) None) operand e in
    let top = bound (operand_alone stack.0) (λ alone. cond (is_truth alone) (Some alone) None) operand stack.2 in
    let left = found_by_tokens ts [] [] stack.0 tt stack.1 in
    let tree = alone_alike stack.0 left.0 top.0 left.2 top.1 in
    (tree.0, ap (λ (trees : Option (List Tree)). trees >>= alone) left.1 ∙ tree.1)

pub conditions_have_a_tree : ConditionsHaveATree
unfolding is_condition
conditions_have_a_tree ts e =
    let there = there_is (outcome ts) (and_parts (is_some (outcome ts)) _ e).0 in
    outcomes_have_a_tree ts there.0 there.1
