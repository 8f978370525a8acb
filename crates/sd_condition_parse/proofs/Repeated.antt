-- A step that is repeated, as a loop does it.
use Rattle.sd_condition_parse.proofs.Cited.{Bool, ConditionError, Err, Fault, List, Memory, Ok, Parser, Refuses, TextFault, arith, behind_part, cond, false, length, refl, steps, suc, sym, true, zero, ℕ, ◌<◌, ◌∙◌, ◌≡◌, ◌≤◌}
use Rattle.sd_condition_parse.specs.Outcome.{repeated}

module _ {S : Type 0} (step : S → Parser (Bool × S)) (initial : S) (text : List ℕ) where
  -- the steps from this state on leave what all steps leave
  pub record Left (state : S) (rest : List ℕ) : Type 0 where
    pub most : ℕ
    pub enough : length rest < most
    pub within : length rest ≤ length text
    pub same : repeated step most state rest ≡ steps step initial text

  pub left_start : Left initial text
  left_start = record { most = suc (length text); enough = omega arith; within = omega arith; same = refl }

  one_step : (n : ℕ) (state : S) (rest : List ℕ) → length rest < n → (m : ℕ) × (n ≡ suc m) × (repeated step n state rest ≡ behind_part (step state rest) (λ next after. cond next.0 (repeated step m next.1 after) (Ok (next.1, after))))
  unfolding repeated
  one_step zero state rest enough = absurd (omega arith)
  one_step (suc m) state rest enough = (m, refl, refl)

  pub left_more : (state : S) (rest : List ℕ) (next : S) (after : List ℕ) → Left state rest → step state rest ≡ Ok ((true, next), after) → length after < length rest → Left next after
  left_more state rest next after left made shorter =
      let s = one_step left.most state rest left.enough in
      let enough = left.enough in
      let within = left.within in
      let most = s.1 in
      let same = rw made at s.2 in
      record { most = s.0; enough = omega arith; within = omega arith; same = sym same ∙ left.same }

  pub left_done : (state : S) (rest : List ℕ) (next : S) (after : List ℕ) → Left state rest → step state rest ≡ Ok ((false, next), after) → steps step initial text ≡ Ok (next, after)
  left_done state rest next after left made =
      let s = one_step left.most state rest left.enough in
      let same = rw made at s.2 in
      sym left.same ∙ same

  pub left_fault : (state : S) (rest : List ℕ) (fault : TextFault × List ℕ) → Left state rest → step state rest ≡ Err fault → steps step initial text ≡ Err fault
  left_fault state rest fault left made =
      let s = one_step left.most state rest left.enough in
      let same = rw made at s.2 in
      sym left.same ∙ same

  -- a step that stops, and so do they all
  pub left_refused : (e : ConditionError) (state : S) (rest after : List ℕ) → Left state rest → Refuses e after (step state rest) → Refuses e after (steps step initial text)
  left_refused (Fault fault) state rest after left made = left_fault state rest (fault, after) left made
  left_refused Memory state rest after left made = tt
