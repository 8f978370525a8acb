-- Workers whose answers are put together.
use Rattle.sd_store.proofs.Cited.{Answer, AreAnswers, AreDone, AreInformed, Edit, Err, HasGrown, HaveGrown, IfOk, IsAnswer, IsDealt, IsDone, IsDrawn, IsDrawnAt, IsFurther, IsInformed, IsLawful, IsPrefix, IsWorked, KnownJournal, List, None, Ok, Opening, Query, Result, Sight, Some, [], ap, arith, div-eq-sub-div, get_or-set_at, get_or-set_other, get_or_append_left, get_or_push, inl, inr, length, length_push, lt_of_mul-lt-mul_left, mod-add-div, mod-eq-sub-mod, mod-lt, newcomer, refl, slice_index_or, slice_set, subst, suc, sym, zero, ℕ, ◌%◌, ◌*◌, ◌++◌, ◌+◌, ◌-◌, ◌/◌, ◌<◌, ◌∙◌, ◌∷◌, ◌≡◌, ◌≢◌, ◌≤◌, ◌⊎◌}
use Rattle.sd_store.specs.declared.error.AuditError.TheVariants as failed
use Rattle.sd_store.proofs.Answering.{answer_stays}
use Rattle.sd_store.proofs.Prefixes.{prefix_self, prefix_trans}

-- an element that is there is the same whatever stands for those that aren't
pub any_default : {A : Type 0} (xs : List A) (i : ℕ) (d e : A) → i < length xs → slice_index_or xs i d ≡ slice_index_or xs i e
any_default [] i d e within = absurd (omega arith)
any_default (x ∷ xs) zero d e within = refl
any_default (x ∷ xs) (suc i) d e within = any_default xs i d e (omega arith)

-- ---- the answers, one by one

-- a query that has an answer of its worker has it there
pub drawn_within : (place n count asked : ℕ) → place < asked → asked ≤ place % n + count * n → place / n < count
drawn_within place n count asked less enough =
    let split : place % n + n * (place / n) ≡ place = mod-add-div place n in
    let more : n * (place / n) < n * count = omega (arith, split, less, enough) in
    lt_of_mul-lt-mul_left n more

pub dealt_push : (checkers : List Sight) (answers : List Answer) (place : ℕ) (worker : Sight) (a : Answer) → length answers ≡ place
    → ((e : Sight) → slice_index_or checkers (place % length checkers) e ≡ worker)
    → place / length checkers < length worker.drawn
    → a ≡ slice_index_or worker.drawn (place / length checkers) a
    → IsDealt checkers answers → IsDealt checkers (answers ++ a ∷ [])
dealt_push checkers answers place worker a is there within given dealt j d e inside =
    let some : j < length answers + 1 = subst (λ n. j < n) (length_push answers a) inside in
    let either : (j < length answers) ⊎ (j ≡ place) = grind (arith, some, is) in
    elim either [
      | inl less ↦ (let was = dealt j d e less in (was.0, get_or_append_left answers (a ∷ []) d j less ∙ was.1))
      | inr last ↦ rw (last, there e) (within, get_or_push answers a d place is ∙ given ∙ any_default worker.drawn (place / length checkers) a d within)
    ]

-- ---- each checker told

pub informed_set : (journal : List Edit) (olds news : List Sight) (at : ℕ) (x : Sight) → at < length news
    → ((i : ℕ) (d : Sight) → i < at → IsInformed journal (slice_index_or olds i d) (slice_index_or news i d))
    → ((d : Sight) → IsInformed journal (slice_index_or olds at d) x)
    → (i : ℕ) (d : Sight) → i < at + 1 → IsInformed journal (slice_index_or olds i d) (slice_index_or (slice_set news at x) i d)
informed_set journal olds news at x within before here i d inside =
    let either : (i < at) ⊎ (at ≡ i) = grind (arith, inside) in
    elim either [
      | inl less ↦
          let other : i ≢ at = λ e. absurd (omega (arith, e, less)) in
          subst (IsInformed journal (slice_index_or olds i d)) (sym (get_or-set_other news at i x d other)) (before i d less)
      | inr last ↦ subst (λ k. IsInformed journal (slice_index_or olds k d) (slice_index_or (slice_set news at x) k d)) last
          (subst (IsInformed journal (slice_index_or olds at d)) (sym (get_or-set_at news at at x d refl within)) (here d))
    ]

pub rest_stays : (olds news : List Sight) (at : ℕ) (x : Sight) → ((i : ℕ) (d : Sight) → at ≤ i → slice_index_or news i d ≡ slice_index_or olds i d)
    → (i : ℕ) (d : Sight) → at + 1 ≤ i → slice_index_or (slice_set news at x) i d ≡ slice_index_or olds i d
rest_stays olds news at x rest i d far =
    let other : i ≢ at = λ e. absurd (omega (arith, e, far)) in
    get_or-set_other news at i x d other ∙ rest i d (omega (arith, far))

-- ---- what each worker left

-- a checker, whichever
abbrev pub nobody : Sight
nobody = record { view = newcomer; floor = []; drawn = []; failed = None }

-- where none has failed, each has its answers
pub has_worked : (o : Opening) (always : Type 0) (queries : List Query) (step worker : ℕ) (old new : Sight) → new.failed ≡ None → IsDone o always queries step worker old new
    → IsDrawn o new (length old.floor) worker step queries new.drawn × (length queries ≤ worker + length new.drawn * step)
has_worked o always queries step worker old new none done = subst (IsWorked o always queries step worker old new) none done.worked

-- where one has failed by the gate, the gate can't be one that is always open
pub gate_failed : (o : Opening) (always : Type 0) (queries : List Query) (step worker : ℕ) (old new : Sight) → new.failed ≡ Some failed.Gate → IsDone o always queries step worker old new → ¬ always
gate_failed o always queries step worker old new is done = subst (IsWorked o always queries step worker old new) is done.worked

-- a worker that keeps its answers has done its part
kept_answer : (o : Opening) (now new : Sight) (q : Query) (a : Answer) → new.view ≡ now.view → new.floor ≡ now.floor → IsAnswer o now q a → IsAnswer o new q a
kept_answer o now new q a view floor is = answer_stays o now new q a
    (subst (IsPrefix now.floor) (sym floor) (prefix_self now.floor))
    (subst (IsPrefix now.view.marks) (sym (ap (λ (v : KnownJournal). v.marks) view)) (prefix_self now.view.marks))
    is

kept_drawn : (o : Opening) (now new : Sight) (least worker step : ℕ) (queries : List Query) (answers : List Answer) → new.view ≡ now.view → new.floor ≡ now.floor
    → IsDrawn o now least worker step queries answers → IsDrawn o new least worker step queries answers
kept_drawn o now new least worker step queries answers view floor drawn k d q within =
    let is = drawn k d q within in
    record { given = kept_answer o now new _ _ view floor is.given; low = is.low; rising = is.rising }

kept_further : (o : Opening) (asked worker : ℕ) (old now new : Sight) → new.floor ≡ now.floor → IsFurther o asked worker old now → IsFurther o asked worker old new
kept_further o asked worker old now new floor is = record {
  floor = subst (IsPrefix old.floor) (sym floor) is.floor;
  lawful = subst (IsLawful o) (sym floor) is.lawful;
  idle = λ none. floor ∙ is.idle none;
}

pub has_done : (o : Opening) (always : Type 0) (queries : List Query) (step worker : ℕ) (old now new : Sight) (answers : List Answer)
    → new.view ≡ now.view → new.floor ≡ now.floor → new.drawn ≡ answers → new.failed ≡ None
    → IsFurther o (length queries) worker old now → IsDrawn o now (length old.floor) worker step queries answers → length queries ≤ worker + length answers * step
    → IsDone o always queries step worker old new
has_done o always queries step worker old now new answers view floor kept none further drawn all = record {
  further = kept_further o (length queries) worker old now new floor further;
  worked = subst (IsWorked o always queries step worker old new) (sym none) (
    subst (IsDrawn o new (length old.floor) worker step queries) (sym kept) (kept_drawn o now new (length old.floor) worker step queries answers view floor drawn),
    subst (λ (xs : List Answer). length queries ≤ worker + length xs * step) (sym kept) all,
  );
}

-- ---- floors

has_grown : (o : Opening) (queries : List Query) (journal : List Edit) (i : ℕ) (old told new : Sight) → IsInformed journal old told → IsFurther o (length queries) i told new → HasGrown o (length queries) journal i old new
has_grown o queries journal i old told new informed further = record {
  floor = subst (λ (x : List Edit). IsPrefix x new.floor) informed.floor further.floor;
  own = prefix_trans old.floor told.floor new.floor informed.own further.floor;
  told = prefix_trans journal told.floor new.floor informed.told further.floor;
  lawful = further.lawful;
  idle = λ none. further.idle none ∙ informed.floor;
}

pub have_grown : (o : Opening) (always : Type 0) (queries : List Query) (journal : List Edit) (step : ℕ) (olds tolds news : List Sight) → length tolds ≡ length olds
    → AreInformed journal olds tolds → AreDone o always queries step tolds news → HaveGrown o (length queries) journal olds news
have_grown o always queries journal step olds tolds news same informed done i d within =
    has_grown o queries journal i _ _ _ (informed i d within) (done i d (omega (arith, same, within))).further

-- ---- the answers of all

-- the place of a query, by the worker that it is dealt to and its place there
dealt_place : (j n : ℕ) → j % n + (j / n) * n ≡ j
dealt_place j n = omega (arith, mod-add-div j n)

module _ (o : Opening) (always : Type 0) (queries : List Query) (journal : List Edit) (n : ℕ) (olds tolds news : List Sight) (answers : List Answer)
    (some : 0 < n) (many : length olds ≡ n) (told_many : length tolds ≡ n) (new_many : length news ≡ n)
    (informed : AreInformed journal olds tolds) (done : AreDone o always queries n tolds news)
    (none : (i : ℕ) (d : Sight) → i < n → (slice_index_or news i d).failed ≡ None)
    (dealt : IsDealt news answers) where
  -- the j-th answer, as its worker drew it
  drawn_at : (j : ℕ) (d : Answer) (e : Sight) (q : Query) → j < length answers
      → IsDrawnAt o (slice_index_or news (j % n) e) (length (slice_index_or tolds (j % n) e).floor) (slice_index_or queries j q) (slice_index_or news (j % n) e).drawn (j / n) d
  drawn_at j d e q within =
      let i : j % n < n = mod-lt j some in
      let worked = has_worked o always queries n (j % n) _ _ (none (j % n) e i) (done (j % n) e (omega (arith, i, told_many))) in
      let there = subst (λ m. j / m < length (slice_index_or news (j % m) e).drawn) new_many (dealt j d e within).0 in
      subst (λ p. IsDrawnAt o (slice_index_or news (j % n) e) (length (slice_index_or tolds (j % n) e).floor) (slice_index_or queries p q) (slice_index_or news (j % n) e).drawn (j / n) d)
      (dealt_place j n) (worked.0 (j / n) d q there)

  answer_at : (j : ℕ) (d : Answer) (e : Sight) → j < length answers → slice_index_or answers j d ≡ slice_index_or (slice_index_or news (j % n) e).drawn (j / n) d
  answer_at j d e within = subst (λ m. slice_index_or answers j d ≡ slice_index_or (slice_index_or news (j % m) e).drawn (j / m) d) new_many (dealt j d e within).1

  -- an answer of the same worker before it was by no more
  rising_at : (j : ℕ) (d : Answer) (e : Sight) (q : Query) → j < length answers → n ≤ j → (slice_index_or answers (j - n) d).seen ≤ (slice_index_or answers j d).seen
  rising_at j d e q within far =
      let same : j % n ≡ (j - n) % n = mod-eq-sub-mod far in
      let next : j / n ≡ (j - n) / n + 1 = div-eq-sub-div some far in
      let before : slice_index_or answers (j - n) d ≡ slice_index_or (slice_index_or news (j % n) e).drawn ((j - n) / n) d =
      answer_at (j - n) d e (omega (arith, within)) ∙ ap (λ i. slice_index_or (slice_index_or news i e).drawn ((j - n) / n) d) (sym same) in
      let up = (drawn_at j d e q within).rising ((j - n) / n) (omega (arith, next)) in
      rw (before, answer_at j d e within) up

  pub are_answers : AreAnswers o queries journal olds news answers
  are_answers j d e q within =
      let drawn = drawn_at j d e q within in
      let is = answer_at j d e within in
      let told = informed (j % n) e (omega (arith, mod-lt j some, many)) in
      rw many (
        subst (IsAnswer o (slice_index_or news (j % n) e) (slice_index_or queries j q)) (sym is) drawn.given,
        rw (← told.floor, is) drawn.low,
        λ far. rising_at j d e q within far,
      )

pub lift_ok : {X E : Type 0} {P Q : X → Type 0} (r : Result X E) → ((x : X) → P x → Q x) → IfOk r P → IfOk r Q
lift_ok (Ok x) f p = f x p
lift_ok (Err e) f p = tt
