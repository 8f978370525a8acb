-- The text of a tree is parsed as its tokens, where a parenthesis closes behind it.
use Rattle.std.proofs.Common.{Bool, List, Some, [], ap, append-nil, append_assoc, codes, false, refl, subst, sym, true, ℕ, ◌++◌, ◌∙◌, ◌∷◌, ◌≡◌}
use Rattle.std.specs.Fmt.{◌++?◌}
use Rattle.sd_data.proofs.Found.{passed}
use Rattle.sd_condition.specs.Laws.{AreTokens}
use Rattle.sd_condition.specs.declared.attribute.Attribute.{Attribute}
use Rattle.sd_condition.specs.declared.operator.Operator.{Operator}
use Rattle.sd_condition.specs.declared.operator.Operator.TheVariants as operators
use Rattle.sd_condition.specs.declared.token.Token.{Token}
use Rattle.sd_condition.specs.declared.token.Token.TheVariants as tokens
use Rattle.sd_condition_laws.proofs.Formed.{AttributeToken, Compares, IsOperand, IsTruth, SidsToken}
use Rattle.sd_condition_laws.proofs.Runs.{before_operand, between_operands, between_parentheses, in_parentheses, text_behind}
use Rattle.sd_condition_laws.proofs.States.{Arrives, At, Level, closes, fresh, joins_and, joins_or, negates, opens, opens_behind_space, state, term_arrives}
use Rattle.sd_condition_laws.proofs.Terms.{IsBeforeAttribute, IsBeforeSids, IsBetween, alone_read, before_device_member_of, before_device_member_of_any, before_exists, before_member_of, before_member_of_any, before_not_device_member_of, before_not_device_member_of_any, before_not_exists, before_not_member_of, before_not_member_of_any, between_any_of, between_contains, between_equal, between_greater, between_greater_or_equal, between_less, between_less_or_equal, between_not_any_of, between_not_contains, between_not_equal, compared_read, exists_read, member_read}
use Rattle.sd_condition_parse.specs.Condition.{closed, opened, where_set}
use Rattle.sd_condition_text.specs.Attribute.{attribute_text}
use Rattle.sd_condition_text.specs.Operator.{word}
use Rattle.sd_condition_text.specs.Text.{is_local_attribute, on_the_right, operand_part, operand_text, parenthesized, tree_part, tree_text}
use Rattle.sd_condition_text.specs.Tree.{One, Operand, Tree, Two, postfix}
use Rattle.sd_text.specs.declared.alias.Aliases.{Aliases}

all_parts : (ts us : List Token) → AreTokens (ts ++ us) → AreTokens ts × AreTokens us
all_parts [] us all = (tt, all)
all_parts (t ∷ ts) us all = let others = all_parts ts us all.1 in ((all.0, others.0), others.1)

module _ (known : Aliases) (whole : List ℕ) where
  -- from where a level is fresh, the text of a tree leads to where the level closes, with the tokens of the tree
  abbrev Reads : Tree → Type 0
  Reads tree = (text : List ℕ) → IsTruth tree → AreTokens (postfix tree) → tree_text tree ≡ Some text
      → (ts : List Token) (negated : Bool) (outer : List Level) (rest : List ℕ) → At known whole (fresh ts negated outer) (text ++ 41 ∷ rest) → Arrives known whole tree ts negated outer rest

  -- ---- terms

  alone_reads : (a : Attribute) → Reads (Operand (tokens.Attribute a))
  unfolding operand_text
  alone_reads a text truth are e ts negated outer rest at =
      term_arrives known whole (Operand (tokens.Attribute a)) ts (tokens.Attribute a ∷ []) negated outer (text ++ 41 ∷ rest) rest (alone_read known a text rest are.0 e) refl at

  operand_reads : (token : Token) → Reads (Operand token)
  operand_reads (tokens.Value v) text truth are e ts negated outer rest at = absurd truth
  operand_reads (tokens.List vs) text truth are e ts negated outer rest at = absurd truth
  operand_reads (tokens.Attribute a) text truth are e ts negated outer rest at = alone_reads a text truth are e ts negated outer rest at
  operand_reads (tokens.Operator operator) text truth are e ts negated outer rest at = absurd truth

  abbrev ReadsOne : (Token → Type 0) → Operator → Tree → Type 0
  ReadsOne P operator tree = (text : List ℕ) → IsOperand P tree → AreTokens (postfix (One operator tree)) → (Some (word operator ++ codes " ") ++? tree_text tree) ≡ Some text
      → (ts : List Token) (negated : Bool) (outer : List Level) (rest : List ℕ) → At known whole (fresh ts negated outer) (text ++ 41 ∷ rest) → Arrives known whole (One operator tree) ts negated outer rest

  exists_reads_token : (operator : Operator) → IsBeforeAttribute operator → (token : Token) → ReadsOne AttributeToken operator (Operand token)
  unfolding operand_text
  exists_reads_token operator before (tokens.Value v) text is are e ts negated outer rest at = absurd is
  exists_reads_token operator before (tokens.List vs) text is are e ts negated outer rest at = absurd is
  exists_reads_token operator before (tokens.Operator other) text is are e ts negated outer rest at = absurd is
  exists_reads_token operator before (tokens.Attribute a) text is are e ts negated outer rest at =
      let parts = before_operand (word operator) (attribute_text a) text e in
      term_arrives known whole (One operator (Operand (tokens.Attribute a))) ts (tokens.Attribute a ∷ tokens.Operator operator ∷ []) negated outer (word operator ++ 32 ∷ (parts.0 ++ 41 ∷ rest)) rest
      (exists_read known operator a parts.0 rest before are.0 parts.1) refl
      (subst (λ (t : List ℕ). At known whole (fresh ts negated outer) t) (sym (parts.2 (41 ∷ rest))) at)

  exists_reads : (operator : Operator) → IsBeforeAttribute operator → (tree : Tree) → ReadsOne AttributeToken operator tree
  exists_reads operator before (Operand token) text is are e ts negated outer rest at = exists_reads_token operator before token text is are e ts negated outer rest at
  exists_reads operator before (One other tree) text is are e ts negated outer rest at = absurd is
  exists_reads operator before (Two other left right) text is are e ts negated outer rest at = absurd is

  member_reads : (operator : Operator) → IsBeforeSids operator → (tree : Tree) → ReadsOne SidsToken operator tree
  member_reads operator before (One other tree) text is are e ts negated outer rest at = absurd is
  member_reads operator before (Two other left right) text is are e ts negated outer rest at = absurd is
  member_reads operator before (Operand token) text is are e ts negated outer rest at =
      let parts = before_operand (word operator) (operand_text token) text e in
      term_arrives known whole (One operator (Operand token)) ts (token ∷ tokens.Operator operator ∷ []) negated outer (word operator ++ 32 ∷ (parts.0 ++ 41 ∷ rest)) rest
      (member_read known operator token parts.0 rest before is are.0 parts.1) refl
      (subst (λ (t : List ℕ). At known whole (fresh ts negated outer) t) (sym (parts.2 (41 ∷ rest))) at)

  abbrev ReadsTwo : Operator → Tree → Tree → Type 0
  ReadsTwo operator left right = (text : List ℕ) → Compares left right → AreTokens (postfix (Two operator left right))
      → (tree_text left ++? Some (codes " " ++ word operator ++ codes " ") ++? on_the_right (tree_part right)) ≡ Some text
      → (ts : List Token) (negated : Bool) (outer : List Level) (rest : List ℕ) → At known whole (fresh ts negated outer) (text ++ 41 ∷ rest) → Arrives known whole (Two operator left right) ts negated outer rest

  compared_reads_tokens : (operator : Operator) → IsBetween operator → (left right : Token) → ReadsTwo operator (Operand left) (Operand right)
  unfolding operand_text
  compared_reads_tokens operator between (tokens.Value v) right text is are e ts negated outer rest at = absurd is.0
  compared_reads_tokens operator between (tokens.List vs) right text is are e ts negated outer rest at = absurd is.0
  compared_reads_tokens operator between (tokens.Operator other) right text is are e ts negated outer rest at = absurd is.0
  compared_reads_tokens operator between (tokens.Attribute a) right text is are e ts negated outer rest at =
      let parts = between_operands (word operator) (attribute_text a) (on_the_right (operand_part right)) text e in
      let prefix = passed (is_local_attribute right) (operand_text right) parts.1 parts.3 in
      term_arrives known whole (Two operator (Operand (tokens.Attribute a)) (Operand right)) ts (tokens.Attribute a ∷ right ∷ tokens.Operator operator ∷ []) negated outer
      (parts.0 ++ 32 ∷ (word operator ++ 32 ∷ (parts.1 ++ 41 ∷ rest))) rest
      (compared_read known operator a right parts.0 parts.1 rest between are.0 parts.2 is.1 are.1.0 prefix.0 prefix.1) refl
      (subst (λ (t : List ℕ). At known whole (fresh ts negated outer) t) (sym (parts.4 (41 ∷ rest))) at)

  compared_reads : (operator : Operator) → IsBetween operator → (left right : Tree) → ReadsTwo operator left right
  compared_reads operator between (Operand left) (Operand right) text is are e ts negated outer rest at = compared_reads_tokens operator between left right text is are e ts negated outer rest at
  compared_reads operator between (Operand left) (One other tree) text is are e ts negated outer rest at = absurd is.1
  compared_reads operator between (Operand left) (Two other one two) text is are e ts negated outer rest at = absurd is.1
  compared_reads operator between (One other tree) right text is are e ts negated outer rest at = absurd is.0
  compared_reads operator between (Two other one two) right text is are e ts negated outer rest at = absurd is.0

  -- ---- levels

  negated_reads : (tree : Tree) → Reads tree → Reads (One operators.Not tree)
  negated_reads tree reads text truth are e ts negated outer rest at =
      let mark = text_behind (codes "!") (parenthesized (tree_text tree)) text e in
      let inner = in_parentheses (tree_text tree) mark.0 mark.1 in
      let same : 33 ∷ 40 ∷ (inner.0 ++ 41 ∷ 41 ∷ rest) ≡ text ++ 41 ∷ rest =
      ap (λ (t : List ℕ). 33 ∷ 40 ∷ t) (sym (append_assoc inner.0 (41 ∷ []) (41 ∷ rest))) ∙ ap (λ (t : List ℕ). 33 ∷ (t ++ 41 ∷ rest)) inner.2 ∙ ap (λ (t : List ℕ). t ++ 41 ∷ rest) mark.2 in
      let there = negates known whole ts (opened negated) outer (inner.0 ++ 41 ∷ 41 ∷ rest) (subst (λ (t : List ℕ). At known whole (fresh ts negated outer) t) (sym same) at) in
      let level = reads inner.0 truth (all_parts (postfix tree) (tokens.Operator operators.Not ∷ []) are).0 inner.1 ts true (opened negated ∷ outer) (41 ∷ rest) there in
      record {
        so_far = (ts ++ postfix tree) ++ tokens.Operator operators.Not ∷ [];
        level = opened negated;
        same = ap (λ (us : List Token). us ++ where_set negated operators.Not) (append_assoc ts (postfix tree) (tokens.Operator operators.Not ∷ []));
        at = closes known whole tree ts true (opened negated) outer (41 ∷ rest) level;
      }

  joined : (ts us vs behind : List Token) (t : Token) → (((((ts ++ us) ++ []) ++ []) ++ vs) ++ []) ++ t ∷ behind ≡ (ts ++ ((us ++ vs) ++ t ∷ [])) ++ behind
  joined ts us vs behind t = simp (append-nil, append_assoc)

  -- both operands of an operator that joins: so far its left one, and then the right one, with the level where it waits
  joint_reads : (operator : Operator) (left right : Tree) → Reads left → Reads right → IsTruth left × IsTruth right → (text : List ℕ) → AreTokens (postfix (Two operator left right))
      → (parenthesized (tree_text left) ++? (Some (codes " " ++ word operator ++ codes " ") ++? parenthesized (tree_text right))) ≡ Some text
      → (ts : List Token) (negated : Bool) (outer : List Level) (rest : List ℕ) (waiting : Level) → closed waiting ≡ tokens.Operator operator ∷ where_set negated operators.Not
      → ((us : List Token) (behind : List ℕ) → At known whole (state us (opened negated) outer true) (32 ∷ (word operator ++ behind)) → At known whole (state (us ++ []) waiting outer false) behind)
      → At known whole (fresh ts negated outer) (text ++ 41 ∷ rest) → Arrives known whole (Two operator left right) ts negated outer rest
  joint_reads operator left right one other truths text are e ts negated outer rest waiting due joins at =
      let parts = between_parentheses (word operator) (tree_text left) (tree_text right) text e in
      let operands = all_parts (postfix left) (postfix right) (all_parts (postfix left ++ postfix right) (tokens.Operator operator ∷ []) are).0 in
      let behind = 32 ∷ 40 ∷ (parts.1 ++ 41 ∷ 41 ∷ rest) in
      let begun = opens known whole ts (opened negated) outer (parts.0 ++ 41 ∷ 32 ∷ (word operator ++ behind)) (subst (λ (t : List ℕ). At known whole (fresh ts negated outer) t) (sym (parts.4 (41 ∷ rest))) at) in
      let first = closes known whole left ts false (opened negated) outer (32 ∷ (word operator ++ behind)) (one parts.0 truths.0 operands.0 parts.2 ts false (opened negated ∷ outer) (32 ∷ (word operator ++ behind)) begun) in
      let so_far = ((ts ++ postfix left) ++ []) ++ [] in
      let again = opens_behind_space known whole so_far waiting outer (parts.1 ++ 41 ∷ 41 ∷ rest) (joins ((ts ++ postfix left) ++ []) behind first) in
      record {
        so_far = (so_far ++ postfix right) ++ [];
        level = waiting;
        same = ap (λ (us : List Token). ((so_far ++ postfix right) ++ []) ++ us) due ∙ joined ts (postfix left) (postfix right) (where_set negated operators.Not) (tokens.Operator operator);
        at = closes known whole right so_far false waiting outer (41 ∷ rest) (other parts.1 truths.1 operands.1 parts.3 so_far false (waiting ∷ outer) (41 ∷ rest) again);
      }

  and_reads : (left right : Tree) → Reads left → Reads right → Reads (Two operators.And left right)
  and_reads left right one other text truths are e ts negated outer rest at =
      joint_reads operators.And left right one other truths text are e ts negated outer rest (record { negated = negated; or_waits = false; and_waits = true }) refl
      (λ us behind there. joins_and known whole us negated outer behind there) at

  or_reads : (left right : Tree) → Reads left → Reads right → Reads (Two operators.Or left right)
  or_reads left right one other text truths are e ts negated outer rest at =
      joint_reads operators.Or left right one other truths text are e ts negated outer rest (record { negated = negated; or_waits = true; and_waits = false }) refl
      (λ us behind there. subst (λ (vs : List Token). At known whole (state vs (record { negated = negated; or_waits = true; and_waits = false }) outer false) behind) (append-nil (us ++ [])) (joins_or known whole us negated outer behind there)) at

  -- ---- trees

  one_reads : (operator : Operator) (tree : Tree) → Reads tree → Reads (One operator tree)
  one_reads operators.Equal tree reads text truth = absurd truth
  one_reads operators.NotEqual tree reads text truth = absurd truth
  one_reads operators.Less tree reads text truth = absurd truth
  one_reads operators.LessOrEqual tree reads text truth = absurd truth
  one_reads operators.Greater tree reads text truth = absurd truth
  one_reads operators.GreaterOrEqual tree reads text truth = absurd truth
  one_reads operators.Contains tree reads text truth = absurd truth
  one_reads operators.Exists tree reads text truth = exists_reads operators.Exists before_exists tree text truth
  one_reads operators.AnyOf tree reads text truth = absurd truth
  one_reads operators.MemberOf tree reads text truth = member_reads operators.MemberOf before_member_of tree text truth
  one_reads operators.DeviceMemberOf tree reads text truth = member_reads operators.DeviceMemberOf before_device_member_of tree text truth
  one_reads operators.MemberOfAny tree reads text truth = member_reads operators.MemberOfAny before_member_of_any tree text truth
  one_reads operators.DeviceMemberOfAny tree reads text truth = member_reads operators.DeviceMemberOfAny before_device_member_of_any tree text truth
  one_reads operators.NotExists tree reads text truth = exists_reads operators.NotExists before_not_exists tree text truth
  one_reads operators.NotContains tree reads text truth = absurd truth
  one_reads operators.NotAnyOf tree reads text truth = absurd truth
  one_reads operators.NotMemberOf tree reads text truth = member_reads operators.NotMemberOf before_not_member_of tree text truth
  one_reads operators.NotDeviceMemberOf tree reads text truth = member_reads operators.NotDeviceMemberOf before_not_device_member_of tree text truth
  one_reads operators.NotMemberOfAny tree reads text truth = member_reads operators.NotMemberOfAny before_not_member_of_any tree text truth
  one_reads operators.NotDeviceMemberOfAny tree reads text truth = member_reads operators.NotDeviceMemberOfAny before_not_device_member_of_any tree text truth
  one_reads operators.And tree reads text truth = absurd truth
  one_reads operators.Or tree reads text truth = absurd truth
  one_reads operators.Not tree reads text truth = negated_reads tree reads text truth

  two_reads : (operator : Operator) (left right : Tree) → Reads left → Reads right → Reads (Two operator left right)
  two_reads operators.Equal left right one other text truth = compared_reads operators.Equal between_equal left right text truth
  two_reads operators.NotEqual left right one other text truth = compared_reads operators.NotEqual between_not_equal left right text truth
  two_reads operators.Less left right one other text truth = compared_reads operators.Less between_less left right text truth
  two_reads operators.LessOrEqual left right one other text truth = compared_reads operators.LessOrEqual between_less_or_equal left right text truth
  two_reads operators.Greater left right one other text truth = compared_reads operators.Greater between_greater left right text truth
  two_reads operators.GreaterOrEqual left right one other text truth = compared_reads operators.GreaterOrEqual between_greater_or_equal left right text truth
  two_reads operators.Contains left right one other text truth = compared_reads operators.Contains between_contains left right text truth
  two_reads operators.Exists left right one other text truth = absurd truth
  two_reads operators.AnyOf left right one other text truth = compared_reads operators.AnyOf between_any_of left right text truth
  two_reads operators.MemberOf left right one other text truth = absurd truth
  two_reads operators.DeviceMemberOf left right one other text truth = absurd truth
  two_reads operators.MemberOfAny left right one other text truth = absurd truth
  two_reads operators.DeviceMemberOfAny left right one other text truth = absurd truth
  two_reads operators.NotExists left right one other text truth = absurd truth
  two_reads operators.NotContains left right one other text truth = compared_reads operators.NotContains between_not_contains left right text truth
  two_reads operators.NotAnyOf left right one other text truth = compared_reads operators.NotAnyOf between_not_any_of left right text truth
  two_reads operators.NotMemberOf left right one other text truth = absurd truth
  two_reads operators.NotDeviceMemberOf left right one other text truth = absurd truth
  two_reads operators.NotMemberOfAny left right one other text truth = absurd truth
  two_reads operators.NotDeviceMemberOfAny left right one other text truth = absurd truth
  two_reads operators.And left right one other text truth = and_reads left right one other text truth
  two_reads operators.Or left right one other text truth = or_reads left right one other text truth
  two_reads operators.Not left right one other text truth = absurd truth

  pub trees_read : (tree : Tree) → Reads tree
  trees_read (Operand token) = operand_reads token
  trees_read (One operator tree) = one_reads operator tree (trees_read tree)
  trees_read (Two operator left right) = two_reads operator left right (trees_read left) (trees_read right)
