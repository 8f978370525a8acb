-- Steps over the levels of parentheses.
use Rattle.std.proofs.Common.{Bool, List, Ok, arith, false, refl, subst, true, ℕ, ◌++◌, ◌∷◌, ◌≡◌}
use Rattle.sd_condition.specs.declared.operator.Operator.TheVariants.{Not}
use Rattle.sd_condition.specs.declared.token.Token.{Token}
use Rattle.sd_condition_laws.proofs.Terms.{TermRead}
use Rattle.sd_condition_parse.proofs.Repeated.{Left, left_more}
use Rattle.sd_condition_parse.specs.Condition.{StateValue, closed, join_and, join_or, opened, operand_step, operator_step, start, step, where_set, with_term}
use Rattle.sd_condition_text.specs.Tree.{Tree, postfix}
use Rattle.sd_text.specs.declared.alias.Aliases.{Aliases}

abbrev value_of : {A B : Type 0} → (A → B) → Type 0
value_of {B = B} f = B

-- a level of parentheses, whose type sd_condition_parse doesn't export
abbrev pub Level : Type 0
Level = value_of opened

abbrev pub state : List Token → Level → List Level → Bool → StateValue
state ts level outer has_operand = record { tokens = ts; level = level; outer = outer; has_operand = has_operand }

-- a level where nothing precedes
abbrev pub fresh : List Token → Bool → List Level → StateValue
fresh ts negated outer = state ts (opened negated) outer false

-- ---- where a part of a condition has been parsed

module _ (known : Aliases) (whole : List ℕ) where
  -- the steps from here on leave what all steps leave
  abbrev pub At : StateValue → List ℕ → Type 0
  At s rest = Left (step known) start whole s rest

  -- where its parenthesis closes, the part's tokens have been added, and those of what waits are due
  pub record Arrives (tree : Tree) (ts : List Token) (negated : Bool) (outer : List Level) (rest : List ℕ) : Type 0 where
    pub so_far : List Token
    pub level : Level
    pub same : so_far ++ closed level ≡ (ts ++ postfix tree) ++ where_set negated Not
    pub at : At (state so_far level outer true) (41 ∷ rest)

  pub term_arrives : (tree : Tree) (ts us : List Token) (negated : Bool) (outer : List Level) (text rest : List ℕ) → TermRead known us text rest → us ≡ postfix tree → At (fresh ts negated outer) text → Arrives tree ts negated outer rest
  unfolding step operand_step
  term_arrives tree ts us negated outer text rest read same at =
      let made : step known (fresh ts negated outer) text ≡ Ok ((true, with_term us (fresh ts negated outer)), 41 ∷ rest) = rw (read.no_space, read.no_level, read.no_negation, read.read) refl in
      let longer = read.longer in
      record {
        so_far = ts ++ us;
        level = opened negated;
        same = subst (λ (vs : List Token). (ts ++ us) ++ where_set negated Not ≡ (ts ++ vs) ++ where_set negated Not) same refl;
        at = left_more (step known) start whole (fresh ts negated outer) text (with_term us (fresh ts negated outer)) (41 ∷ rest) at made (omega arith);
      }

  pub opens : (ts : List Token) (level : Level) (outer : List Level) (text : List ℕ) → At (state ts level outer false) (40 ∷ text) → At (fresh ts false (level ∷ outer)) text
  unfolding step operand_step
  opens ts level outer text at = left_more (step known) start whole (state ts level outer false) (40 ∷ text) (fresh ts false (level ∷ outer)) text at refl (omega arith)

  pub opens_behind_space : (ts : List Token) (level : Level) (outer : List Level) (text : List ℕ) → At (state ts level outer false) (32 ∷ 40 ∷ text) → At (fresh ts false (level ∷ outer)) text
  unfolding step operand_step
  opens_behind_space ts level outer text at = left_more (step known) start whole (state ts level outer false) (32 ∷ 40 ∷ text) (fresh ts false (level ∷ outer)) text at refl (omega arith)

  pub negates : (ts : List Token) (level : Level) (outer : List Level) (text : List ℕ) → At (state ts level outer false) (33 ∷ 40 ∷ text) → At (fresh ts true (level ∷ outer)) text
  unfolding step operand_step
  negates ts level outer text at = left_more (step known) start whole (state ts level outer false) (33 ∷ 40 ∷ text) (fresh ts true (level ∷ outer)) text at refl (omega arith)

  pub closes : (tree : Tree) (ts : List Token) (negated : Bool) (level : Level) (outer : List Level) (rest : List ℕ) → Arrives tree ts negated (level ∷ outer) rest → At (state ((ts ++ postfix tree) ++ where_set negated Not) level outer true) rest
  unfolding step operator_step
  closes tree ts negated level outer rest there =
      subst (λ (us : List Token). At (state us level outer true) rest) there.same
      (left_more (step known) start whole (state there.so_far there.level (level ∷ outer) true) (41 ∷ rest) (state (there.so_far ++ closed there.level) level outer true) rest there.at refl (omega arith))

  pub joins_and : (ts : List Token) (negated : Bool) (outer : List Level) (text : List ℕ) → At (state ts (opened negated) outer true) (32 ∷ 38 ∷ 38 ∷ text) → At (join_and (state ts (opened negated) outer true)) text
  unfolding step operator_step
  joins_and ts negated outer text at = left_more (step known) start whole (state ts (opened negated) outer true) (32 ∷ 38 ∷ 38 ∷ text) (join_and (state ts (opened negated) outer true)) text at refl (omega arith)

  pub joins_or : (ts : List Token) (negated : Bool) (outer : List Level) (text : List ℕ) → At (state ts (opened negated) outer true) (32 ∷ 124 ∷ 124 ∷ text) → At (join_or (state ts (opened negated) outer true)) text
  unfolding step operator_step
  joins_or ts negated outer text at = left_more (step known) start whole (state ts (opened negated) outer true) (32 ∷ 124 ∷ 124 ∷ text) (join_or (state ts (opened negated) outer true)) text at refl (omega arith)
