-- What the stack machine leaves of parts is the part of the tree that it leaves of trees.
use Rattle.std.proofs.Common.{List, None, Option, Some, [], ap, map, refl, sym, true, ◌∙◌, ◌∷◌, ◌≡◌}
use Rattle.std.specs.Option.{option_map}
use Rattle.sd_acl.specs.declared.ace.AceKind.{AceKind}
use Rattle.sd_check.specs.declared.grounds.Pass.{Pass}
use Rattle.sd_data.specs.Outcome.{◌>>=◌}
use Rattle.sd_condition.specs.Writing.{is_condition}
use Rattle.sd_condition.specs.declared.operator.Operator.{Operator}
use Rattle.sd_condition.specs.declared.operator.Operator.TheVariants as operators
use Rattle.sd_condition.specs.declared.token.Token.{Token}
use Rattle.sd_condition.specs.declared.token.Token.TheVariants as tokens
use Rattle.sd_condition_text.proofs.Trees.{conditions_have_a_tree}
use Rattle.sd_condition_text.specs.Operator.{form}
use Rattle.sd_condition_text.specs.Stack.{after_one, after_operator, after_token, after_tokens, after_two, alone, left_by}
use Rattle.sd_condition_text.specs.Tree.{One, Operand, Tree, Two, tree_of}
use Rattle.sd_evaluation.specs.Evaluation.{Leaf, Part, condition_truth, over_one, over_two, part_of, part_truth, truth_of}
use Rattle.sd_evaluation.specs.Facts.{FactsValue}

-- ---- any view of trees that goes over them as the machine does

by_one : {A : Type 0} (view : Tree → A) (one : A → A) (operator : Operator) → ((tree : Tree) → one (view tree) ≡ view (One operator tree))
    → (trees : List Tree) → after_one one (map view trees) ≡ option_map (map view) (after_one (One operator) trees)
by_one view one operator h [] = refl
by_one view one operator h (tree ∷ trees) = ap (λ x. Some (x ∷ map view trees)) (h tree)

by_two : {A : Type 0} (view : Tree → A) (two : A → A → A) (operator : Operator) → ((left right : Tree) → two (view left) (view right) ≡ view (Two operator left right))
    → (trees : List Tree) → after_two two (map view trees) ≡ option_map (map view) (after_two (Two operator) trees)
by_two view two operator h [] = refl
by_two view two operator h (right ∷ []) = refl
by_two view two operator h (right ∷ left ∷ trees) = ap (λ x. Some (x ∷ map view trees)) (h left right)

by_operator : (f : FactsValue) (kind : AceKind) (pass : Pass) (operator : Operator) (trees : List Tree)
    → after_operator (over_one f kind pass operator) (over_two f kind operator) (form operator) (map (part_of f kind pass) trees) ≡ option_map (map (part_of f kind pass)) (after_operator (One operator) (Two operator) (form operator) trees)
by_operator f kind pass operators.Exists trees = by_one (part_of f kind pass) (over_one f kind pass operators.Exists) operators.Exists (λ tree. refl) trees
by_operator f kind pass operators.NotExists trees = by_one (part_of f kind pass) (over_one f kind pass operators.NotExists) operators.NotExists (λ tree. refl) trees
by_operator f kind pass operators.Not trees = by_one (part_of f kind pass) (over_one f kind pass operators.Not) operators.Not (λ tree. refl) trees
by_operator f kind pass operators.MemberOf trees = by_one (part_of f kind pass) (over_one f kind pass operators.MemberOf) operators.MemberOf (λ tree. refl) trees
by_operator f kind pass operators.DeviceMemberOf trees = by_one (part_of f kind pass) (over_one f kind pass operators.DeviceMemberOf) operators.DeviceMemberOf (λ tree. refl) trees
by_operator f kind pass operators.MemberOfAny trees = by_one (part_of f kind pass) (over_one f kind pass operators.MemberOfAny) operators.MemberOfAny (λ tree. refl) trees
by_operator f kind pass operators.DeviceMemberOfAny trees = by_one (part_of f kind pass) (over_one f kind pass operators.DeviceMemberOfAny) operators.DeviceMemberOfAny (λ tree. refl) trees
by_operator f kind pass operators.NotMemberOf trees = by_one (part_of f kind pass) (over_one f kind pass operators.NotMemberOf) operators.NotMemberOf (λ tree. refl) trees
by_operator f kind pass operators.NotDeviceMemberOf trees = by_one (part_of f kind pass) (over_one f kind pass operators.NotDeviceMemberOf) operators.NotDeviceMemberOf (λ tree. refl) trees
by_operator f kind pass operators.NotMemberOfAny trees = by_one (part_of f kind pass) (over_one f kind pass operators.NotMemberOfAny) operators.NotMemberOfAny (λ tree. refl) trees
by_operator f kind pass operators.NotDeviceMemberOfAny trees = by_one (part_of f kind pass) (over_one f kind pass operators.NotDeviceMemberOfAny) operators.NotDeviceMemberOfAny (λ tree. refl) trees
by_operator f kind pass operator trees = by_two (part_of f kind pass) (over_two f kind operator) operator (λ left right. refl) trees

by_token : (f : FactsValue) (kind : AceKind) (pass : Pass) (t : Token) (trees : List Tree)
    → after_token Leaf (over_one f kind pass) (over_two f kind) t (map (part_of f kind pass) trees) ≡ option_map (map (part_of f kind pass)) (after_token Operand One Two t trees)
by_token f kind pass (tokens.Value value) trees = refl
by_token f kind pass (tokens.List list) trees = refl
by_token f kind pass (tokens.Attribute attribute) trees = refl
by_token f kind pass (tokens.Operator operator) trees = by_operator f kind pass operator trees

-- after a token that found its operands, or didn't
by_next : (f : FactsValue) (kind : AceKind) (pass : Pass) (ts : List Token)
    → ((trees : List Tree) → after_tokens Leaf (over_one f kind pass) (over_two f kind) ts (map (part_of f kind pass) trees) ≡ option_map (map (part_of f kind pass)) (after_tokens Operand One Two ts trees))
    → (next : Option (List Tree))
    → (option_map (map (part_of f kind pass)) next >>= λ stack. after_tokens Leaf (over_one f kind pass) (over_two f kind) ts stack) ≡ option_map (map (part_of f kind pass)) (next >>= λ stack. after_tokens Operand One Two ts stack)
by_next f kind pass ts others None = refl
by_next f kind pass ts others (Some stack) = others stack

by_tokens : (f : FactsValue) (kind : AceKind) (pass : Pass) (ts : List Token) (trees : List Tree)
    → after_tokens Leaf (over_one f kind pass) (over_two f kind) ts (map (part_of f kind pass) trees) ≡ option_map (map (part_of f kind pass)) (after_tokens Operand One Two ts trees)
by_tokens f kind pass [] trees = refl
by_tokens f kind pass (t ∷ ts) trees =
    rw (by_token f kind pass t trees) (by_next f kind pass ts (λ stack. by_tokens f kind pass ts stack) (after_token Operand One Two t trees))

alone_of : {A : Type 0} (view : Tree → A) (trees : List Tree) → alone (map view trees) ≡ option_map view (alone trees)
alone_of view [] = refl
alone_of view (tree ∷ []) = refl
alone_of view (tree ∷ other ∷ others) = refl

left_alone : {A : Type 0} (view : Tree → A) (left : Option (List Tree)) → (option_map (map view) left >>= alone) ≡ option_map view (left >>= alone)
left_alone view None = refl
left_alone view (Some trees) = alone_of view trees

part_is_of_the_tree : (f : FactsValue) (kind : AceKind) (pass : Pass) (ts : List Token)
    → left_by Leaf (over_one f kind pass) (over_two f kind) ts ≡ option_map (part_of f kind pass) (tree_of ts)
part_is_of_the_tree f kind pass ts = rw (by_tokens f kind pass ts []) (left_alone (part_of f kind pass) (after_tokens Operand One Two ts []))

-- ---- the truth of what is left

truth_of_left : (f : FactsValue) (kind : AceKind) (pass : Pass) (found : Option Tree) (x : Part)
    → option_map (part_of f kind pass) found ≡ Some x → option_map (truth_of f kind pass) found ≡ Some (part_truth f kind x)
truth_of_left f kind pass None x e = absurd cc
truth_of_left f kind pass (Some tree) x e = let same : part_of f kind pass tree ≡ x = cc in ap (λ part. Some (part_truth f kind part)) same

pub left_is_the_truth : (f : FactsValue) (kind : AceKind) (pass : Pass) (ts : List Token) (x : Part)
    → Some x ≡ left_by Leaf (over_one f kind pass) (over_two f kind) ts → condition_truth f kind pass ts ≡ Some (part_truth f kind x)
left_is_the_truth f kind pass ts x e = truth_of_left f kind pass (tree_of ts) x (sym (e ∙ part_is_of_the_tree f kind pass ts))

some_tree : (f : FactsValue) (kind : AceKind) (pass : Pass) (found : Option Tree) (tree : Tree) → found ≡ Some tree
    → None ≡ option_map (part_of f kind pass) found → ⊥
some_tree f kind pass None tree e n = absurd cc
some_tree f kind pass (Some other) tree e n = absurd cc

pub something_is_left : (f : FactsValue) (kind : AceKind) (pass : Pass) (ts : List Token) → is_condition ts ≡ true
    → None ≡ left_by Leaf (over_one f kind pass) (over_two f kind) ts → ⊥
something_is_left f kind pass ts h e =
    let tree = conditions_have_a_tree ts h in
    some_tree f kind pass (tree_of ts) tree.0 tree.1 (e ∙ part_is_of_the_tree f kind pass ts)
