-- The tree of a condition is formed as the grammar has it: each operator stands over what it takes.
use Rattle.std.proofs.Common.{Bool, List, None, Option, Some, [], ap, cond, false, is_some, refl, subst, true, ◌∙◌, ◌∷◌, ◌≡◌}
use Rattle.std.proofs.lemmas.Bool.{and_parts}
use Rattle.std.specs.List.{list_all}
use Rattle.sd_data.proofs.Found.{bound, held, some_is}
use Rattle.sd_data.specs.Outcome.{◌>>=◌}
use Rattle.sd_condition.specs.Stack.{after_one as kind_after_one, after_token as kinds_after_token, after_tokens as kinds_after, after_two as kinds_after_two, alone as kind_alone, is_attribute, is_comparable, is_sid, is_sids, is_truth, outcome, values_operand}
use Rattle.sd_condition.specs.Writing.{is_condition}
use Rattle.sd_condition.specs.declared.operator.Operator.{Operator}
use Rattle.sd_condition.specs.declared.operator.Operator.TheVariants as operators
use Rattle.sd_condition.specs.declared.token.Token.{Token}
use Rattle.sd_condition.specs.declared.token.Token.TheVariants as tokens
use Rattle.sd_condition_parse.proofs.Operands.{Operand as Kind, a_condition, an_attribute}
use Rattle.sd_condition_text.specs.Stack.{after_one, after_token, after_tokens, after_two, alone}
use Rattle.sd_condition_text.specs.Tree.{One, Operand, Tree, Two, tree_of}

-- ---- what operators take

abbrev pub AttributeToken : Token → Type 0
AttributeToken (tokens.Value value) = ⊥
AttributeToken (tokens.List list) = ⊥
AttributeToken (tokens.Attribute attribute) = Unit {0}
AttributeToken (tokens.Operator operator) = ⊥

abbrev pub SidsToken : Token → Type 0
SidsToken (tokens.Value value) = is_sid value ≡ true
SidsToken (tokens.List list) = list_all is_sid list ≡ true
SidsToken (tokens.Attribute attribute) = ⊥
SidsToken (tokens.Operator operator) = ⊥

abbrev pub ComparableToken : Token → Type 0
ComparableToken (tokens.Value value) = Unit {0}
ComparableToken (tokens.List list) = Unit {0}
ComparableToken (tokens.Attribute attribute) = Unit {0}
ComparableToken (tokens.Operator operator) = ⊥

abbrev pub IsOperand : (Token → Type 0) → Tree → Type 0
IsOperand P (Operand token) = P token
IsOperand P (One operator tree) = ⊥
IsOperand P (Two operator left right) = ⊥

-- an operator over one tree, which is one that is true or false, or not
abbrev pub OneFits : Operator → Type 0 → Tree → Type 0
OneFits operators.Equal truth tree = ⊥
OneFits operators.NotEqual truth tree = ⊥
OneFits operators.Less truth tree = ⊥
OneFits operators.LessOrEqual truth tree = ⊥
OneFits operators.Greater truth tree = ⊥
OneFits operators.GreaterOrEqual truth tree = ⊥
OneFits operators.Contains truth tree = ⊥
OneFits operators.Exists truth tree = IsOperand AttributeToken tree
OneFits operators.AnyOf truth tree = ⊥
OneFits operators.MemberOf truth tree = IsOperand SidsToken tree
OneFits operators.DeviceMemberOf truth tree = IsOperand SidsToken tree
OneFits operators.MemberOfAny truth tree = IsOperand SidsToken tree
OneFits operators.DeviceMemberOfAny truth tree = IsOperand SidsToken tree
OneFits operators.NotExists truth tree = IsOperand AttributeToken tree
OneFits operators.NotContains truth tree = ⊥
OneFits operators.NotAnyOf truth tree = ⊥
OneFits operators.NotMemberOf truth tree = IsOperand SidsToken tree
OneFits operators.NotDeviceMemberOf truth tree = IsOperand SidsToken tree
OneFits operators.NotMemberOfAny truth tree = IsOperand SidsToken tree
OneFits operators.NotDeviceMemberOfAny truth tree = IsOperand SidsToken tree
OneFits operators.And truth tree = ⊥
OneFits operators.Or truth tree = ⊥
OneFits operators.Not truth tree = truth

abbrev pub Compares : Tree → Tree → Type 0
Compares left right = IsOperand AttributeToken left × IsOperand ComparableToken right

-- an operator over two trees, of which both are true or false, or not
abbrev pub TwoFits : Operator → Type 0 → Tree → Tree → Type 0
TwoFits operators.Equal truths left right = Compares left right
TwoFits operators.NotEqual truths left right = Compares left right
TwoFits operators.Less truths left right = Compares left right
TwoFits operators.LessOrEqual truths left right = Compares left right
TwoFits operators.Greater truths left right = Compares left right
TwoFits operators.GreaterOrEqual truths left right = Compares left right
TwoFits operators.Contains truths left right = Compares left right
TwoFits operators.Exists truths left right = ⊥
TwoFits operators.AnyOf truths left right = Compares left right
TwoFits operators.MemberOf truths left right = ⊥
TwoFits operators.DeviceMemberOf truths left right = ⊥
TwoFits operators.MemberOfAny truths left right = ⊥
TwoFits operators.DeviceMemberOfAny truths left right = ⊥
TwoFits operators.NotExists truths left right = ⊥
TwoFits operators.NotContains truths left right = Compares left right
TwoFits operators.NotAnyOf truths left right = Compares left right
TwoFits operators.NotMemberOf truths left right = ⊥
TwoFits operators.NotDeviceMemberOf truths left right = ⊥
TwoFits operators.NotMemberOfAny truths left right = ⊥
TwoFits operators.NotDeviceMemberOfAny truths left right = ⊥
TwoFits operators.And truths left right = truths
TwoFits operators.Or truths left right = truths
TwoFits operators.Not truths left right = ⊥

-- a tree that is true or false: a condition, or an attribute alone
abbrev pub IsTruth : Tree → Type 0
IsTruth (Operand token) = AttributeToken token
IsTruth (One operator tree) = OneFits operator (IsTruth tree) tree
IsTruth (Two operator left right) = TwoFits operator (IsTruth left × IsTruth right) left right

-- ---- the trees of a stack, beside their kinds

record Fits (kind : Kind) (tree : Tree) : Type 0 where
  attribute : is_attribute kind ≡ true → IsOperand AttributeToken tree
  sids : is_sids kind ≡ true → IsOperand SidsToken tree
  comparable : is_comparable kind ≡ true → IsOperand ComparableToken tree
  truth : is_truth kind ≡ true → IsTruth tree

value_fits : (b : Bool) (token : Token) → (b ≡ true → SidsToken token) → ComparableToken token → Fits (values_operand b) (Operand token)
value_fits true token sids comparable = record { attribute = λ e. absurd cc; sids = sids; comparable = λ e. comparable; truth = λ e. absurd cc }
value_fits false token sids comparable = record { attribute = λ e. absurd cc; sids = λ e. absurd cc; comparable = λ e. comparable; truth = λ e. absurd cc }

condition_fits : (tree : Tree) → IsTruth tree → Fits a_condition tree
condition_fits tree truth = record { attribute = λ e. absurd cc; sids = λ e. absurd cc; comparable = λ e. absurd cc; truth = λ e. truth }

abbrev Alike : List Kind → List Tree → Type 0
Alike [] [] = Unit {0}
Alike [] (tree ∷ trees) = ⊥
Alike (kind ∷ kinds) [] = ⊥
Alike (kind ∷ kinds) (tree ∷ trees) = Fits kind tree × Alike kinds trees

abbrev Follows : List Kind → Option (List Tree) → Type 0
Follows next trees = (more : List Tree) × (trees ≡ Some more) × Alike next more

by_one : (test : Kind → Bool) (operator : Operator) → ((kind : Kind) (tree : Tree) → Fits kind tree → test kind ≡ true → IsTruth (One operator tree))
    → (kinds : List Kind) (trees : List Tree) (next : List Kind) → Alike kinds trees → kind_after_one test kinds ≡ Some next → Follows next (after_one (One operator) trees)
by_one test operator forms [] trees next alike e = absurd cc
by_one test operator forms (kind ∷ kinds) [] next alike e = absurd alike
by_one test operator forms (kind ∷ kinds) (tree ∷ trees) next alike e =
    let left = held (test kind) _ next e in
    let fits = condition_fits (One operator tree) (forms kind tree alike.0 left.0) in
    (One operator tree ∷ trees, refl, subst (λ those. Alike those (One operator tree ∷ trees)) (some_is _ next left.1) (fits, alike.1))

by_two : (left_test right_test : Kind → Bool) (operator : Operator)
    → ((one other : Kind) (left right : Tree) → Fits one left → Fits other right → left_test one ≡ true → right_test other ≡ true → IsTruth (Two operator left right))
    → (kinds : List Kind) (trees : List Tree) (next : List Kind) → Alike kinds trees → kinds_after_two left_test right_test kinds ≡ Some next → Follows next (after_two (Two operator) trees)
by_two left_test right_test operator forms [] trees next alike e = absurd cc
by_two left_test right_test operator forms (right ∷ kinds) [] next alike e = absurd alike
by_two left_test right_test operator forms (right ∷ []) (tree ∷ trees) next alike e = let one = held (right_test right) None next e in absurd cc
by_two left_test right_test operator forms (right ∷ left ∷ kinds) (tree ∷ []) next alike e = absurd alike.1
by_two left_test right_test operator forms (right ∷ left ∷ kinds) (tree ∷ other ∷ trees) next alike e =
    let one = held (right_test right) (kind_after_one left_test (left ∷ kinds)) next e in
    let both = held (left_test left) _ next one.1 in
    let fits = condition_fits (Two operator other tree) (forms left right other tree alike.1.0 alike.0 both.0 one.0) in
    (Two operator other tree ∷ trees, refl, subst (λ those. Alike those (Two operator other tree ∷ trees)) (some_is _ next both.1) (fits, alike.1.1))

abbrev ByOperator : Operator → Type 0
ByOperator operator = (kinds : List Kind) (trees : List Tree) (next : List Kind)
    → Alike kinds trees → kinds_after_token (tokens.Operator operator) kinds ≡ Some next → Follows next (after_token Operand One Two (tokens.Operator operator) trees)

abbrev OfAttribute : Operator → Type 0
OfAttribute operator = (tree : Tree) → IsOperand AttributeToken tree → IsTruth (One operator tree)

by_attribute : (operator : Operator) → OfAttribute operator
    → (kinds : List Kind) (trees : List Tree) (next : List Kind) → Alike kinds trees → kind_after_one is_attribute kinds ≡ Some next → Follows next (after_one (One operator) trees)
by_attribute operator forms = by_one is_attribute operator (λ kind tree fits e. forms tree (fits.attribute e))

by_sids : (operator : Operator) → ((tree : Tree) → IsOperand SidsToken tree → IsTruth (One operator tree))
    → (kinds : List Kind) (trees : List Tree) (next : List Kind) → Alike kinds trees → kind_after_one is_sids kinds ≡ Some next → Follows next (after_one (One operator) trees)
by_sids operator forms = by_one is_sids operator (λ kind tree fits e. forms tree (fits.sids e))

by_comparison : (operator : Operator) → ((left right : Tree) → Compares left right → IsTruth (Two operator left right))
    → (kinds : List Kind) (trees : List Tree) (next : List Kind) → Alike kinds trees → kinds_after_two is_attribute is_comparable kinds ≡ Some next → Follows next (after_two (Two operator) trees)
by_comparison operator forms = by_two is_attribute is_comparable operator (λ one other left right a b e f. forms left right (a.attribute e, b.comparable f))

by_joint : (operator : Operator) → ((left right : Tree) → IsTruth left × IsTruth right → IsTruth (Two operator left right))
    → (kinds : List Kind) (trees : List Tree) (next : List Kind) → Alike kinds trees → kinds_after_two is_truth is_truth kinds ≡ Some next → Follows next (after_two (Two operator) trees)
by_joint operator forms = by_two is_truth is_truth operator (λ one other left right a b e f. forms left right (a.truth e, b.truth f))

by_operator : (operator : Operator) → ByOperator operator
by_operator operators.Equal = by_comparison operators.Equal (λ left right those. those)
by_operator operators.NotEqual = by_comparison operators.NotEqual (λ left right those. those)
by_operator operators.Less = by_comparison operators.Less (λ left right those. those)
by_operator operators.LessOrEqual = by_comparison operators.LessOrEqual (λ left right those. those)
by_operator operators.Greater = by_comparison operators.Greater (λ left right those. those)
by_operator operators.GreaterOrEqual = by_comparison operators.GreaterOrEqual (λ left right those. those)
by_operator operators.Contains = by_comparison operators.Contains (λ left right those. those)
by_operator operators.Exists = by_attribute operators.Exists (λ tree is. is)
by_operator operators.AnyOf = by_comparison operators.AnyOf (λ left right those. those)
by_operator operators.MemberOf = by_sids operators.MemberOf (λ tree is. is)
by_operator operators.DeviceMemberOf = by_sids operators.DeviceMemberOf (λ tree is. is)
by_operator operators.MemberOfAny = by_sids operators.MemberOfAny (λ tree is. is)
by_operator operators.DeviceMemberOfAny = by_sids operators.DeviceMemberOfAny (λ tree is. is)
by_operator operators.NotExists = by_attribute operators.NotExists (λ tree is. is)
by_operator operators.NotContains = by_comparison operators.NotContains (λ left right those. those)
by_operator operators.NotAnyOf = by_comparison operators.NotAnyOf (λ left right those. those)
by_operator operators.NotMemberOf = by_sids operators.NotMemberOf (λ tree is. is)
by_operator operators.NotDeviceMemberOf = by_sids operators.NotDeviceMemberOf (λ tree is. is)
by_operator operators.NotMemberOfAny = by_sids operators.NotMemberOfAny (λ tree is. is)
by_operator operators.NotDeviceMemberOfAny = by_sids operators.NotDeviceMemberOfAny (λ tree is. is)
by_operator operators.And = by_joint operators.And (λ left right those. those)
by_operator operators.Or = by_joint operators.Or (λ left right those. those)
by_operator operators.Not = by_one is_truth operators.Not (λ kind tree fits e. fits.truth e)

pushed : (kind : Kind) (token : Token) (kinds : List Kind) (trees : List Tree) (next : List Kind) → Fits kind (Operand token) → Alike kinds trees → Some (kind ∷ kinds) ≡ Some next
    → Follows next (Some (Operand token ∷ trees))
pushed kind token kinds trees next fits alike e =
    (Operand token ∷ trees, refl, subst (λ those. Alike those (Operand token ∷ trees)) (some_is _ next e) (fits, alike))

by_token : (t : Token) (kinds : List Kind) (trees : List Tree) (next : List Kind)
    → Alike kinds trees → kinds_after_token t kinds ≡ Some next → Follows next (after_token Operand One Two t trees)
by_token (tokens.Value value) kinds trees next alike e =
    pushed (values_operand (is_sid value)) (tokens.Value value) kinds trees next (value_fits (is_sid value) (tokens.Value value) (λ h. h) tt) alike e
by_token (tokens.List list) kinds trees next alike e =
    pushed (values_operand (list_all is_sid list)) (tokens.List list) kinds trees next (value_fits (list_all is_sid list) (tokens.List list) (λ h. h) tt) alike e
by_token (tokens.Attribute attribute) kinds trees next alike e =
    pushed (an_attribute attribute) (tokens.Attribute attribute) kinds trees next
    (record { attribute = λ h. tt; sids = λ h. absurd cc; comparable = λ h. tt; truth = λ h. tt }) alike e
by_token (tokens.Operator operator) kinds trees next alike e = by_operator operator kinds trees next alike e

by_tokens : (ts : List Token) (kinds : List Kind) (trees : List Tree) (left : List Kind)
    → Alike kinds trees → kinds_after ts kinds ≡ Some left → Follows left (after_tokens Operand One Two ts trees)
by_tokens [] kinds trees left alike e = (trees, refl, subst (λ those. Alike those trees) (some_is kinds left e) alike)
by_tokens (t ∷ ts) kinds trees left alike e =
    let step = bound (kinds_after_token t kinds) (λ next. kinds_after ts next) left e in
    let first = by_token t kinds trees step.0 alike step.1 in
    let others = by_tokens ts step.0 first.0 left first.2 step.2 in
    (others.0, ap (λ (next : Option (List Tree)). next >>= λ more. after_tokens Operand One Two ts more) first.1 ∙ others.1, others.2)

alone_alike : (kinds : List Kind) (trees : List Tree) (kind : Kind) → Alike kinds trees → kind_alone kinds ≡ Some kind → (tree : Tree) × (alone trees ≡ Some tree) × Fits kind tree
alone_alike [] trees kind alike e = absurd cc
alone_alike (one ∷ []) [] kind alike e = absurd alike
alone_alike (one ∷ []) (tree ∷ []) kind alike e = (tree, refl, subst (λ k. Fits k tree) (some_is one kind e) alike.0)
alone_alike (one ∷ []) (tree ∷ other ∷ trees) kind alike e = absurd alike.1
alone_alike (one ∷ other ∷ others) trees kind alike e = absurd cc

there_is : {A : Type 0} (found : Option A) → is_some found ≡ true → (x : A) × (found ≡ Some x)
there_is None e = absurd cc
there_is (Some x) e = (x, refl)

outcome_formed : (ts : List Token) (kind : Kind) → outcome ts ≡ Some kind → (tree : Tree) × (tree_of ts ≡ Some tree) × IsTruth tree
unfolding outcome
outcome_formed ts kind e =
    let stack = bound (kinds_after ts []) (λ left. kind_alone left >>= λ alone. cond (is_truth alone) (Some alone) None) kind e in
    let top = bound (kind_alone stack.0) (λ alone. cond (is_truth alone) (Some alone) None) kind stack.2 in
    let truth = held (is_truth top.0) (Some top.0) kind top.2 in
    let left = by_tokens ts [] [] stack.0 tt stack.1 in
    let tree = alone_alike stack.0 left.0 top.0 left.2 top.1 in
    (tree.0, ap (λ (trees : Option (List Tree)). trees >>= alone) left.1 ∙ tree.1, tree.2.truth truth.0)

-- the tree of a condition is true or false
pub conditions_are_formed : (ts : List Token) → is_condition ts ≡ true → (tree : Tree) × (tree_of ts ≡ Some tree) × IsTruth tree
unfolding is_condition
conditions_are_formed ts e =
    let there = there_is (outcome ts) (and_parts (is_some (outcome ts)) _ e).0 in
    outcome_formed ts there.0 there.1
