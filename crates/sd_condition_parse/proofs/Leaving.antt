-- The words of a condition leave one condition.
use Rattle.std.proofs.Common.{Bool, List, None, Ok, Option, Some, [], ap, arith, codes, cond, drop, false, inl, inr, is_some, length, refl, subst, suc, true, zero, ℕ, ◌++◌, ◌∙◌, ◌∷◌, ◌≡◌, ◌⊎◌}
use Rattle.std.proofs.lemmas.Bool.{and_parts}
use Rattle.std.specs.List.{list_all}
use Rattle.sd_data.proofs.Found.{bound, some_is}
use Rattle.sd_condition.specs.Stack.{after_token, after_tokens, is_comparable, is_sid, is_truth, outcome, taken_by, values_operand}
use Rattle.sd_condition.specs.declared.attribute.Attribute.{Attribute}
use Rattle.sd_condition.specs.declared.operator.Operator.{Operator}
use Rattle.sd_condition.specs.declared.operator.Operator.TheVariants.{Equal, Exists, MemberOf}
use Rattle.sd_condition.specs.declared.token.Token.{Token}
use Rattle.sd_condition.specs.declared.token.Token.TheVariants as tokens
use Rattle.sd_condition.specs.declared.value.Value.{Value}
use Rattle.sd_condition.specs.declared.value.Value.TheVariants as values
use Rattle.sd_condition_parse.specs.Attribute.{attribute, prefixed_attribute}
use Rattle.sd_condition_parse.specs.Condition.{StateValue, close, enter, join_and, join_or, operand_step, operator_step, start, step, with_term, words}
use Rattle.sd_condition_parse.specs.Laws.{WordsLeaveACondition}
use Rattle.sd_condition_parse.specs.Operator.{comparing_words, comparison, exists_words, first_of, is_word, member_words, optional, signs, worded}
use Rattle.sd_condition_parse.specs.Outcome.{Parser, ◌>>=◌, choose, found, repeated, steps}
use Rattle.sd_condition_parse.specs.Run.{run_len, space}
use Rattle.sd_condition_parse.specs.declared.run.Class.TheVariants.{Space}
use Rattle.sd_condition_parse.specs.Term.{attribute_term, compared, exists_term, member_term, right_operand, sids, term}
use Rattle.sd_condition_parse.specs.Value.{item, item_end, item_step, list, literal_sid, value}
use Rattle.sd_condition_parse.specs.declared.value.Item.TheVariants.{Any, OnlySid}
use Rattle.sd_condition_parse.proofs.Operands.{Adds, Operand, Takes, a_condition, an_attribute, Goes, Holds, Leaves, and_holds, close_goes, enter_holds, on, or_holds, start_holds, term_holds}
use Rattle.sd_sid.specs.Sid.{SidValue}
use Rattle.sd_text.specs.Finding.{Found, find}
use Rattle.sd_text.specs.Grammar.{Name, begins, named, word}
use Rattle.sd_text.specs.declared.alias.Aliases.{Aliases}
use Rattle.sd_text.proofs.Parts.{chosen, found_is, name_gave, name_is, part_ok}

-- ---- parts one after the other

-- what the second part leaves, after the first
after : {A B : Type 0} (p : Parser A) (next : A → Parser B) (text : List ℕ) (b : B) (rest : List ℕ) → (p >>= next) text ≡ Ok (b, rest)
    → (a : A) × (mid : List ℕ) × (p text ≡ Ok (a, mid)) × (next a mid ≡ Ok (b, rest))
after p next text b rest e = part_ok (p text) (λ a mid. next a mid) b rest e

-- a step again and again
all_steps : {S : Type 0} (one : S → Parser (Bool × S)) (P Q : S → Type 0)
    → ((s : S) (text : List ℕ) (r : Bool × S) (rest : List ℕ) → P s → one s text ≡ Ok (r, rest) → (r.0 ≡ true → P r.1) × (r.0 ≡ false → Q r.1))
    → (n : ℕ) (s : S) (text : List ℕ) (last : S) (rest : List ℕ) → P s → repeated one n s text ≡ Ok (last, rest) → Q last
unfolding repeated
all_steps one P Q each zero s text last rest holds e = absurd cc
all_steps one P Q each (suc n) s text last rest holds e =
    let x = part_ok (one s text) (λ next after. cond next.0 (repeated one n next.1 after) (Ok (next.1, after))) last rest e in
    let goes = each s text x.0 x.1 holds x.2 in
    elim (chosen x.0.0 _ _ _ x.3) [
      | inl h ↦ all_steps one P Q each n x.0.1 x.1 last rest (goes.0 h.0) h.1
      | inr h ↦ subst Q (found_is x.0.1 last x.1 rest h.1).0 (goes.1 h.0)
    ]

-- ---- operators by their words

abbrev AllMean : (Operator → Type 0) → List (Name Operator) → Type 0
AllMean P [] = Unit {0}
AllMean P (name ∷ names) = P name.stands_for × AllMean P names

worded_is : (P : Operator → Type 0) (names : List (Name Operator)) → AllMean P names → (text : List ℕ) (operator : Operator) (mid : List ℕ) → worded names text ≡ Some (operator, mid) → P operator
worded_is P [] all text operator mid e = absurd cc
worded_is P (name ∷ names) all text operator mid e =
    elim (chosen (is_word text name.letters) _ _ _ e) [
      | inl h ↦ subst P (name_is name.stands_for operator _ mid h.1).0 all.0
      | inr h ↦ worded_is P names all.1 text operator mid h.1
    ]

named_is : (P : Operator → Type 0) (names : List (Name Operator)) → AllMean P names → (text : List ℕ) (operator : Operator) (mid : List ℕ) → named names text ≡ Some (operator, mid) → P operator
named_is P [] all text operator mid e = absurd cc
named_is P (name ∷ names) all text operator mid e =
    elim (chosen (begins text name.letters) _ _ _ e) [
      | inl h ↦ subst P (name_is name.stands_for operator _ mid h.1).0 all.0
      | inr h ↦ named_is P names all.1 text operator mid h.1
    ]

abbrev Takes_ : Takes → Operator → Type 0
Takes_ what operator = taken_by operator ≡ what

first_is : (P : Operator → Type 0) (one other : Option (Operator × List ℕ)) → ((operator : Operator) (mid : List ℕ) → one ≡ Some (operator, mid) → P operator) → ((operator : Operator) (mid : List ℕ) → other ≡ Some (operator, mid) → P operator)
    → (operator : Operator) (mid : List ℕ) → first_of one other ≡ Some (operator, mid) → P operator
first_is P None other a b operator mid e = b operator mid e
first_is P (Some x) other a b operator mid e = a operator mid e

optional_is : (P : Operator → Type 0) (there : Option (Operator × List ℕ)) (text : List ℕ) (operator : Operator) (rest : List ℕ) → ((o : Operator) (mid : List ℕ) → there ≡ Some (o, mid) → P o) → optional there text ≡ Ok (Some operator, rest) → P operator
optional_is P None text operator rest each e =
    let same : ◌≡◌ {A = Option Operator} None (Some operator) = (found_is None (Some operator) text rest e).0 in
    absurd cc
optional_is P (Some x) text operator rest each e =
    let same : ◌≡◌ {A = Option Operator} (Some x.0) (Some operator) = (found_is (Some x.0) (Some operator) x.1 rest e).0 in
    subst P (some_is x.0 operator same) (each x.0 x.1 refl)

compares : (text : List ℕ) (operator : Operator) (rest : List ℕ) → comparison text ≡ Ok (Some operator, rest) → taken_by operator ≡ (taken_by Equal)
unfolding comparison
compares text operator rest e =
    let P = Takes_ (taken_by Equal) in
    optional_is P (first_of (named signs text) (worded comparing_words text)) text operator rest
    (first_is P (named signs text) (worded comparing_words text)
    (named_is P signs (refl, (refl, (refl, (refl, (refl, (refl, tt)))))) text)
    (worded_is P comparing_words (refl, (refl, (refl, (refl, tt)))) text)) e

-- ---- SIDs

all_append : (before : List Value) (sid : SidValue) → list_all is_sid before ≡ true → list_all is_sid (before ++ values.Sid sid ∷ []) ≡ true
all_append [] sid all = refl
all_append (v ∷ before) sid all =
    let parts = and_parts (is_sid v) (list_all is_sid before) all in
    rw parts.0 (all_append before sid parts.1)

sid_item : (known : Aliases) (before : List Value) (text : List ℕ) (r : Bool × List Value) (rest : List ℕ) → list_all is_sid before ≡ true → item_step OnlySid known before text ≡ Ok (r, rest) → list_all is_sid r.1 ≡ true
unfolding item_step
sid_item known before text r rest all e =
    let one = after (item OnlySid known) (λ v. space >>= λ u. item_end >>= λ more. found (more, before ++ v ∷ [])) text r rest e in
    let sid = after (literal_sid known) (λ s. found (values.Sid s)) text one.0 one.1 one.2 in
    let is = (found_is (values.Sid sid.0) one.0 sid.1 one.1 sid.3).0 in
    let end = after item_end (λ more. found (more, before ++ one.0 ∷ [])) _ r rest one.3 in
    let made = (found_is (end.0, before ++ one.0 ∷ []) r end.1 rest end.3).0 in
    subst (λ (x : Bool × List Value). list_all is_sid x.1 ≡ true) made
    (subst (λ v. list_all is_sid (before ++ v ∷ []) ≡ true) is (all_append before sid.0 all))

list_of_sids : (known : Aliases) (text : List ℕ) (vs : List Value) (rest : List ℕ) → list OnlySid known text ≡ Ok (vs, rest) → list_all is_sid vs ≡ true
unfolding list
list_of_sids known text vs rest e =
    let opened = after (find (word (codes "{"))) (λ u. space >>= λ v. choose (λ t. begins t (codes "}")) (find (word (codes "}")) >>= λ w. found []) (steps (item_step OnlySid known) [])) text vs rest e in
    let inner = drop (run_len Space opened.1) opened.1 in
    elim (chosen (begins inner (codes "}")) _ _ _ opened.3) [
      | inl h ↦
          let empty = after (find (word (codes "}"))) (λ w. found []) inner vs rest h.1 in
          subst (λ l. list_all is_sid l ≡ true) (found_is [] vs empty.1 rest empty.3).0 refl
      | inr h ↦
          all_steps (item_step OnlySid known) (λ l. list_all is_sid l ≡ true) (λ l. list_all is_sid l ≡ true)
          (λ s t r after_it holds made. (λ more. sid_item known s t r after_it holds made, λ more. sid_item known s t r after_it holds made))
          (suc (length inner)) [] inner vs rest refl h.1
    ]

-- ---- terms

exists_adds : (operator : Operator) (text : List ℕ) (ts : List Token) (rest : List ℕ) → taken_by operator ≡ (taken_by Exists) → exists_term operator text ≡ Ok (ts, rest) → Adds ts
unfolding exists_term
exists_adds operator text ts rest takes e =
    let a = after attribute (λ a. found (tokens.Attribute a ∷ tokens.Operator operator ∷ [])) _ ts rest e in
    let is = (found_is (tokens.Attribute a.0 ∷ tokens.Operator operator ∷ []) ts a.1 rest a.3).0 in
    subst Adds is (λ stack. (a_condition, refl, rw takes refl))

-- SIDs on the stack
abbrev AddsSids : Token → Type 0
AddsSids t = (stack : List Operand) → after_tokens (t ∷ []) stack ≡ Some (values_operand true ∷ stack)

sids_add : (known : Aliases) (text : List ℕ) (t : Token) (rest : List ℕ) → sids known text ≡ Ok (t, rest) → AddsSids t
unfolding sids
sids_add known text t rest e =
    elim (chosen (begins text (codes "{")) _ _ _ e) [
      | inl h ↦
          let vs = after (list OnlySid known) (λ vs. found (tokens.List vs)) text t rest h.1 in
          let all = list_of_sids known text vs.0 vs.1 vs.2 in
          subst AddsSids (found_is (tokens.List vs.0) t vs.1 rest vs.3).0 (λ stack. rw all refl)
      | inr h ↦
          let sid = after (literal_sid known) (λ s. found (tokens.Value (values.Sid s))) text t rest h.1 in
          subst AddsSids (found_is (tokens.Value (values.Sid sid.0)) t sid.1 rest sid.3).0 (λ stack. refl)
    ]

after_sids : (t : Token) (operator : Operator) (stack : List Operand) → taken_by operator ≡ (taken_by MemberOf) → after_tokens (t ∷ []) stack ≡ Some (values_operand true ∷ stack) → after_tokens (t ∷ tokens.Operator operator ∷ []) stack ≡ Some (a_condition ∷ stack)
after_sids t operator stack takes e =
    let step = bound (after_token t stack) (λ next. after_tokens [] next) (values_operand true ∷ stack) e in
    let same = some_is step.0 (values_operand true ∷ stack) step.2 in
    rw (step.1, same, takes) refl

member_adds : (known : Aliases) (operator : Operator) (text : List ℕ) (ts : List Token) (rest : List ℕ) → taken_by operator ≡ (taken_by MemberOf) → member_term known operator text ≡ Ok (ts, rest) → Adds ts
unfolding member_term
member_adds known operator text ts rest takes e =
    let t = after (sids known) (λ operand. found (operand ∷ tokens.Operator operator ∷ [])) _ ts rest e in
    let is = (found_is (t.0 ∷ tokens.Operator operator ∷ []) ts t.1 rest t.3).0 in
    let adds = sids_add known _ t.0 t.1 t.2 in
    subst Adds is (λ stack. (a_condition, refl, after_sids t.0 operator stack takes (adds stack)))

-- what may stand on the right of a comparison
abbrev AddsComparable : Token → Type 0
AddsComparable t = (stack : List Operand) → (x : Operand) × (is_comparable x ≡ true) × (after_token t stack ≡ Some (x ∷ stack))

values_comparable : (b : Bool) → is_comparable (values_operand b) ≡ true
values_comparable true = refl
values_comparable false = refl

right_adds : (known : Aliases) (text : List ℕ) (t : Token) (rest : List ℕ) → right_operand known text ≡ Ok (t, rest) → AddsComparable t
unfolding right_operand
right_adds known text t rest e =
    elim (chosen (begins text (codes "{")) _ _ _ e) [
      | inl h ↦
          let vs = after (list Any known) (λ vs. found (tokens.List vs)) text t rest h.1 in
          subst AddsComparable (found_is (tokens.List vs.0) t vs.1 rest vs.3).0 (λ stack. (values_operand (list_all is_sid vs.0), values_comparable (list_all is_sid vs.0), refl))
      | inr h ↦ elim (chosen (begins text (codes "@")) _ _ _ h.1) [
        | inl g ↦
            let a = after prefixed_attribute (λ a. found (tokens.Attribute a)) text t rest g.1 in
            subst AddsComparable (found_is (tokens.Attribute a.0) t a.1 rest a.3).0 (λ stack. (an_attribute a.0, refl, refl))
        | inr g ↦
            let v = after (value known) (λ v. found (tokens.Value v)) text t rest g.1 in
            subst AddsComparable (found_is (tokens.Value v.0) t v.1 rest v.3).0 (λ stack. (values_operand (is_sid v.0), values_comparable (is_sid v.0), refl))
      ]
    ]

compared_adds : (known : Aliases) (left : Attribute) (operator : Option Operator) (text : List ℕ) (ts : List Token) (rest : List ℕ) → ((o : Operator) → operator ≡ Some o → taken_by o ≡ (taken_by Equal)) → compared known left operator text ≡ Ok (ts, rest) → Adds ts
compared_adds known left None text ts rest takes e =
    subst Adds (found_is (tokens.Attribute left ∷ []) ts text rest e).0 (λ stack. (an_attribute left, refl, refl))
compared_adds known left (Some o) text ts rest takes e =
    let t = after (right_operand known) (λ right. found (tokens.Attribute left ∷ right ∷ tokens.Operator o ∷ [])) _ ts rest e in
    let is = (found_is (tokens.Attribute left ∷ t.0 ∷ tokens.Operator o ∷ []) ts t.1 rest t.3).0 in
    let adds = right_adds known _ t.0 t.1 t.2 in
    subst Adds is (λ stack. let x = adds (an_attribute left ∷ stack) in (a_condition, refl, rw (x.2, takes o refl, x.1) refl))

attribute_adds : (known : Aliases) (left : Attribute) (text : List ℕ) (ts : List Token) (rest : List ℕ) → attribute_term known left text ≡ Ok (ts, rest) → Adds ts
unfolding attribute_term
attribute_adds known left text ts rest e =
    let o = after comparison (λ operator. compared known left operator) _ ts rest e in
    compared_adds known left o.0 o.1 ts rest (λ operator is. compares _ operator o.1 (o.2 ∙ ap (λ (x : Option Operator). found x o.1) is)) o.3

term_adds : (known : Aliases) (text : List ℕ) (ts : List Token) (rest : List ℕ) → term known text ≡ Ok (ts, rest) → Adds ts
unfolding term
term_adds known text ts rest e =
    elim (name_gave (worded exists_words text) exists_term _ _ e) [
      | inr h ↦ exists_adds h.0 h.1 ts rest (worded_is (Takes_ (taken_by Exists)) exists_words (refl, (refl, tt)) text h.0 h.1 h.2) h.3
      | inl h ↦ elim (name_gave (worded member_words text) (member_term known) _ _ h.1) [
        | inr g ↦ member_adds known g.0 g.1 ts rest (worded_is (Takes_ (taken_by MemberOf)) member_words (refl, (refl, (refl, (refl, (refl, (refl, (refl, (refl, tt)))))))) text g.0 g.1 g.2) g.3
        | inl g ↦ let a = after attribute (attribute_term known) text ts rest g.1 in attribute_adds known a.0 a.1 ts rest a.3
      ]
    ]

-- ---- steps

goes_from : (r next : Bool × StateValue) (mid rest : List ℕ) → Goes next → found next mid ≡ Ok (r, rest) → Goes r
goes_from r next mid rest goes e = subst Goes (found_is next r mid rest e).0 goes

operand_goes : (known : Aliases) (s : StateValue) (text : List ℕ) (r : Bool × StateValue) (rest : List ℕ) → s.has_operand ≡ false → Holds s → operand_step known s text ≡ Ok (r, rest) → Goes r
unfolding operand_step
operand_goes known s text r rest none holds e =
    elim (chosen (begins text (codes "(")) _ _ _ e) [
      | inl h ↦
          let a = after (find (word (codes "("))) (λ u. found (true, enter false s)) text r rest h.1 in
          goes_from r (true, enter false s) a.1 rest (on (enter false s) (enter_holds false s holds)) a.3
      | inr h ↦ elim (chosen (begins text (codes "!")) _ _ _ h.1) [
        | inl g ↦
            let a = after (find (word (codes "!"))) (λ u. space >>= λ v. find (word (codes "(")) >>= λ w. found (true, enter true s)) text r rest g.1 in
            let b = after (find (word (codes "("))) (λ w. found (true, enter true s)) (drop (run_len Space a.1) a.1) r rest a.3 in
            goes_from r (true, enter true s) b.1 rest (on (enter true s) (enter_holds true s holds)) b.3
        | inr g ↦
            let ts = after (term known) (λ ts. found (true, with_term ts s)) text r rest g.1 in
            goes_from r (true, with_term ts.0 s) ts.1 rest (on (with_term ts.0 s) (term_holds ts.0 s none (term_adds known text ts.0 ts.1 ts.2) holds)) ts.3
      ]
    ]

operator_goes : (s : StateValue) (text : List ℕ) (r : Bool × StateValue) (rest : List ℕ) → s.has_operand ≡ true → Holds s → operator_step s text ≡ Ok (r, rest) → Goes r
unfolding operator_step
operator_goes s text r rest some holds e =
    elim (chosen (begins text (codes "&&")) _ _ _ e) [
      | inl h ↦
          let a = after (find (word (codes "&&"))) (λ u. found (true, join_and s)) text r rest h.1 in
          goes_from r (true, join_and s) a.1 rest (on (join_and s) (and_holds s some holds)) a.3
      | inr h ↦ elim (chosen (begins text (codes "||")) _ _ _ h.1) [
        | inl g ↦
            let a = after (find (word (codes "||"))) (λ u. found (true, join_or s)) text r rest g.1 in
            goes_from r (true, join_or s) a.1 rest (on (join_or s) (or_holds s some holds)) a.3
        | inr g ↦
            let a = after (find (word (codes ")"))) (λ u. found (close s)) text r rest g.1 in
            goes_from r (close s) a.1 rest (close_goes s some holds) a.3
      ]
    ]

by_operand : {A : Type 0} (b : Bool) (p q : Parser A) (text : List ℕ) (r : Found A) → (cond b p q) text ≡ r → ((b ≡ true) × (p text ≡ r)) ⊎ ((b ≡ false) × (q text ≡ r))
by_operand true p q text r e = inl (refl, e)
by_operand false p q text r e = inr (refl, e)

step_goes : (known : Aliases) (s : StateValue) (text : List ℕ) (r : Bool × StateValue) (rest : List ℕ) → Holds s → step known s text ≡ Ok (r, rest) → Goes r
unfolding step
step_goes known s text r rest holds e =
    let inner = drop (run_len Space text) text in
    elim (by_operand s.has_operand (operator_step s) (operand_step known s) inner (Ok (r, rest)) e) [
      | inl h ↦ operator_goes s inner r rest h.0 holds h.1
      | inr h ↦ operand_goes known s inner r rest h.0 holds h.1
    ]

-- ---- the whole

alone_left : (ts : List Token) (stack : List Operand) → after_tokens ts [] ≡ Some stack → list_all is_truth stack ≡ true → length stack ≡ 1 → is_some (outcome ts) ≡ true
unfolding outcome
alone_left ts [] run truths count = absurd (omega arith)
alone_left ts (x ∷ []) run truths count =
    let truth = and_parts (is_truth x) true truths in
    rw (run, truth.0) refl
alone_left ts (x ∷ y ∷ stack) run truths count = absurd (omega arith)

one_is_left : (ts : List Token) → Leaves ts 1 → is_some (outcome ts) ≡ true
one_is_left ts leaves = alone_left ts leaves.stack leaves.run leaves.truths leaves.count

pub words_leave_a_condition : WordsLeaveACondition
unfolding words
words_leave_a_condition known text rest s e =
    let opened = after (find (word (codes "("))) (λ u. steps (step known) start) text s rest e in
    one_is_left s.tokens
    (all_steps (step known) Holds (λ t. Leaves t.tokens 1) (λ t mid r after_it holds made. step_goes known t mid r after_it holds made)
    (suc (length opened.1)) start opened.1 s rest start_holds opened.3)
