-- What the tokens of terms and of levels leave on the stack of operands.
use Rattle.std.proofs.Common.{Bool, List, None, Option, Some, [], ap, append-nil, append_assoc, arith, false, length, refl, subst, suc, sym, true, ℕ, ◌++◌, ◌+◌, ◌∙◌, ◌∷◌, ◌≡◌}
use Rattle.std.proofs.lemmas.Bool.{and_parts}
use Rattle.std.specs.List.{list_all}
use Rattle.sd_data.proofs.Found.{bound, some_is}
use Rattle.sd_condition.specs.Stack.{after_one, after_operator, after_token, after_tokens, is_truth, taken_by, values_operand}
use Rattle.sd_condition.specs.declared.operator.Operator.{Operator}
use Rattle.sd_condition.specs.declared.operator.Operator.TheVariants.{And, Or, Not}
use Rattle.sd_condition.specs.declared.attribute.Attribute.{Attribute}
use Rattle.sd_condition.specs.declared.token.Token.{Token}
use Rattle.sd_condition.specs.declared.token.Token.TheVariants as tokens
use Rattle.sd_condition_parse.specs.Condition.{StateValue, close, closed, enter, join_and, join_or, leave, start, where_set, with_term}
use Rattle.sd_condition_parse.specs.declared.state.Level.{Level}

-- ---- types and values that sd_condition doesn't export, by functions that it exports

abbrev argument : {A B : Type 0} → (A → B) → Type 0
argument {A = A} f = A

abbrev pub Operand : Type 0
Operand = argument is_truth

abbrev pub Takes : Type 0
Takes = argument after_operator

abbrev top : Option (List Operand) → Operand
top None = values_operand true
top (Some []) = values_operand true
top (Some (x ∷ stack)) = x

abbrev pub a_condition : Operand
a_condition = top (after_one (λ operand. true) (values_operand true ∷ []))

abbrev pub an_attribute : Attribute → Operand
an_attribute attribute = top (after_token (tokens.Attribute attribute) [])

-- ---- stacks of operands

-- the tokens leave so many operands, each of them a condition or an attribute
pub record Leaves (ts : List Token) (n : ℕ) : Type 0 where
  pub stack : List Operand
  pub run : after_tokens ts [] ≡ Some stack
  pub truths : list_all is_truth stack ≡ true
  pub count : length stack ≡ n

-- the tokens put one such operand on any stack
abbrev pub Adds : List Token → Type 0
Adds ts = (stack : List Operand) → (x : Operand) × (is_truth x ≡ true) × (after_tokens ts stack ≡ Some (x ∷ stack))

after_append : (ts us : List Token) (stack mid : List Operand) → after_tokens ts stack ≡ Some mid → after_tokens (ts ++ us) stack ≡ after_tokens us mid
after_append [] us stack mid e = ap (λ (s : List Operand). after_tokens us s) (some_is stack mid e)
after_append (t ∷ ts) us stack mid e =
    let step = bound (after_token t stack) (λ next. after_tokens ts next) mid e in
    rw step.1 (after_append ts us step.0 mid step.2)

counted : (ts : List Token) (n m : ℕ) → n ≡ m → Leaves ts n → Leaves ts m
counted ts n m e leaves = subst (λ k. Leaves ts k) e leaves

said : (ts us : List Token) (n : ℕ) → ts ≡ us → Leaves ts n → Leaves us n
said ts us n e leaves = subst (λ l. Leaves l n) e leaves

pub none_left : Leaves [] 0
none_left = record { stack = []; run = refl; truths = refl; count = refl }

pub one_more : (ts us : List Token) (n : ℕ) → Adds us → Leaves ts n → Leaves (ts ++ us) (suc n)
one_more ts us n adds leaves =
    let added = adds leaves.stack in
    let count = leaves.count in
    record {
      stack = added.0 ∷ leaves.stack;
      run = after_append ts us [] leaves.stack leaves.run ∙ added.2;
      truths = rw added.1 leaves.truths;
      count = omega arith;
    }

-- ---- operators

by_two : (operator : Operator) → taken_by operator ≡ taken_by And → (stack : List Operand) (n : ℕ) → list_all is_truth stack ≡ true → length stack ≡ suc (suc n)
    → (next : List Operand) × (after_tokens (tokens.Operator operator ∷ []) stack ≡ Some next) × (list_all is_truth next ≡ true) × (length next ≡ suc n)
by_two operator takes [] n truths count = absurd (omega arith)
by_two operator takes (right ∷ []) n truths count = absurd (omega arith)
by_two operator takes (right ∷ left ∷ stack) n truths count =
    let upper = and_parts (is_truth right) (list_all is_truth (left ∷ stack)) truths in
    let lower = and_parts (is_truth left) (list_all is_truth stack) upper.1 in
    (a_condition ∷ stack, rw (takes, upper.0, lower.0) refl, lower.1, omega arith)

by_one : (operator : Operator) → taken_by operator ≡ taken_by Not → (stack : List Operand) (n : ℕ) → list_all is_truth stack ≡ true → length stack ≡ suc n
    → (next : List Operand) × (after_tokens (tokens.Operator operator ∷ []) stack ≡ Some next) × (list_all is_truth next ≡ true) × (length next ≡ suc n)
by_one operator takes [] n truths count = absurd (omega arith)
by_one operator takes (operand ∷ stack) n truths count =
    let parts = and_parts (is_truth operand) (list_all is_truth stack) truths in
    (a_condition ∷ stack, rw (takes, parts.0) refl, parts.1, omega arith)

-- ---- levels

abbrev pub bit : Bool → ℕ
bit true = 1
bit false = 0

-- how many operators of a level wait
abbrev pub waits : Level → ℕ
waits level = bit level.and_waits + bit level.or_waits

abbrev pub all_waits : List Level → ℕ
all_waits [] = 0
all_waits (level ∷ levels) = waits level + all_waits levels

joined : (there : Bool) (operator : Operator) → taken_by operator ≡ taken_by And → (ts : List Token) (n : ℕ) → Leaves ts (bit there + suc n) → Leaves (ts ++ where_set there operator) (suc n)
joined true operator takes ts n leaves =
    let count = leaves.count in
    let next = by_two operator takes leaves.stack n leaves.truths (omega arith) in
    record { stack = next.0; run = after_append ts (tokens.Operator operator ∷ []) [] leaves.stack leaves.run ∙ next.1; truths = next.2; count = next.3 }
joined false operator takes ts n leaves = said ts (ts ++ []) (suc n) (sym (append-nil ts)) (counted ts (0 + suc n) (suc n) (omega arith) leaves)

negated : (there : Bool) (operator : Operator) → taken_by operator ≡ taken_by Not → (ts : List Token) (n : ℕ) → Leaves ts (suc n) → Leaves (ts ++ where_set there operator) (suc n)
negated true operator takes ts n leaves =
    let next = by_one operator takes leaves.stack n leaves.truths leaves.count in
    record { stack = next.0; run = after_append ts (tokens.Operator operator ∷ []) [] leaves.stack leaves.run ∙ next.1; truths = next.2; count = next.3 }
negated false operator takes ts n leaves = said ts (ts ++ []) (suc n) (sym (append-nil ts)) leaves

-- both that wait have their operands
both : (ts : List Token) (level : Level) (n : ℕ) → Leaves ts (waits level + suc n) → Leaves ((ts ++ where_set level.and_waits And) ++ where_set level.or_waits Or) (suc n)
both ts level n leaves =
    let first = joined level.and_waits And refl ts (bit level.or_waits + n) (counted ts (waits level + suc n) (bit level.and_waits + suc (bit level.or_waits + n)) (omega arith) leaves) in
    joined level.or_waits Or refl (ts ++ where_set level.and_waits And) n (counted (ts ++ where_set level.and_waits And) (suc (bit level.or_waits + n)) (bit level.or_waits + suc n) (omega arith) first)

whole : (ts : List Token) (level : Level) (n : ℕ) → Leaves ts (waits level + suc n) → Leaves (ts ++ closed level) (suc n)
whole ts level n leaves =
    let left = where_set level.and_waits And in
    let middle = where_set level.or_waits Or in
    let right = where_set level.negated Not in
    let all = negated level.negated Not refl ((ts ++ left) ++ middle) n (both ts level n leaves) in
    said (((ts ++ left) ++ middle) ++ right) (ts ++ ((left ++ middle) ++ right)) (suc n) (ap (λ (l : List Token). l ++ right) (append_assoc ts left middle) ∙ append_assoc ts (left ++ middle) right) all

-- ---- states

-- the tokens so far leave an operand where one precedes, and one for each operator that waits
abbrev pub due : StateValue → ℕ
due s = bit s.has_operand + waits s.level + all_waits s.outer

abbrev pub Holds : StateValue → Type 0
Holds s = Leaves s.tokens (due s)

-- after a step: so it goes on, or one operand is left
abbrev pub Goes : Bool × StateValue → Type 0
Goes r = (r.0 ≡ true → Holds r.1) × (r.0 ≡ false → Leaves r.1.tokens 1)

pub on : (s : StateValue) → Holds s → Goes (true, s)
on s holds = (λ e. holds, λ e. absurd cc)

pub start_holds : Holds start
start_holds = none_left

pub enter_holds : (negated : Bool) (s : StateValue) → Holds s → Holds (enter negated s)
enter_holds negated s holds = counted s.tokens (due s) (due (enter negated s)) (omega arith) holds

pub term_holds : (ts : List Token) (s : StateValue) → s.has_operand ≡ false → Adds ts → Holds s → Holds (with_term ts s)
term_holds ts s none adds holds =
    let before = ap bit none in
    counted (s.tokens ++ ts) (suc (due s)) (due (with_term ts s)) (omega arith) (one_more s.tokens ts (due s) adds holds)

pub and_holds : (s : StateValue) → s.has_operand ≡ true → Holds s → Holds (join_and s)
and_holds s some holds =
    let before = ap bit some in
    let n = bit s.level.or_waits + all_waits s.outer in
    counted (s.tokens ++ where_set s.level.and_waits And) (suc n) (due (join_and s)) (omega arith)
    (joined s.level.and_waits And refl s.tokens n (counted s.tokens (due s) (bit s.level.and_waits + suc n) (omega arith) holds))

pub or_holds : (s : StateValue) → s.has_operand ≡ true → Holds s → Holds (join_or s)
or_holds s some holds =
    let before = ap bit some in
    let left = where_set s.level.and_waits And in
    let right = where_set s.level.or_waits Or in
    let n = all_waits s.outer in
    let made = both s.tokens s.level n (counted s.tokens (due s) (waits s.level + suc n) (omega arith) holds) in
    counted ((s.tokens ++ left) ++ right) (suc n) (due (join_or s)) (omega arith) made

leave_goes : (s : StateValue) (outer : List Level) → s.has_operand ≡ true → Leaves s.tokens (suc (all_waits outer)) → Goes (leave s outer)
leave_goes s [] some leaves = (λ e. absurd cc, λ e. leaves)
leave_goes s (level ∷ outer) some leaves =
    let before = ap bit some in (λ e. counted s.tokens (suc (all_waits (level ∷ outer))) (bit s.has_operand + waits level + all_waits outer) (omega arith) leaves, λ e. absurd cc)

pub close_goes : (s : StateValue) → s.has_operand ≡ true → Holds s → Goes (close s)
close_goes s some holds =
    let before = ap bit some in
    let n = all_waits s.outer in
    leave_goes (record s { tokens = s.tokens ++ closed s.level }) s.outer some
    (whole s.tokens s.level n (counted s.tokens (due s) (waits s.level + suc n) (omega arith) holds))
