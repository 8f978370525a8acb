-- What stands in a text of a table of names of two letters: the row at the place that the letters tell of, or none.
use Rattle.sd_text.proofs.Cited.{List, Name, None, Row, SidValue, Some, WellKnown, [], aliases, and-false, and_parts, ap, are_placed, arith, begins, cond, drop, eq_ignore_ascii_case, eqb-true, false, get_or, get_or_default, inl, inr, is_placed, length, named, refl, renamed, rows, same_sid, same_sid-true, sid_slot, sids_are_placed, slice_index, slot, subst, suc, sym, to_ascii_lowercase, true, well_known, zero, ℕ, ◌&&◌, ◌+◌, ◌<◌, ◌==◌, ◌∙◌, ◌∷◌, ◌≡◌, ◌≤◌, ◌⊎◌}
use Rattle.sd_text.specs.Alias.{alias_in}
use Rattle.sd_text.proofs.Letters.{begins_short}
use Rattle.sd_text.proofs.Parts.{went}

-- the row of the number of the text's first two letters
abbrev place_of : List ℕ → List ℕ → ℕ
place_of places text = slice_index places (slot (slice_index text 0) (slice_index text 1))

-- letters that stand in the text have its letters' number
not_here : (places : List ℕ) (k : ℕ) (letters text : List ℕ) → is_placed places k letters ≡ true → (place_of places text ≡ k → ⊥) → begins text letters ≡ false
not_here places k [] text placed other = absurd cc
not_here places k (l ∷ []) text placed other = absurd cc
not_here places k (l ∷ m ∷ n ∷ letters) text placed other = absurd cc
not_here places k (l ∷ m ∷ []) [] placed other = refl
not_here places k (l ∷ m ∷ []) (c ∷ []) placed other = and-false (eq_ignore_ascii_case c l)
not_here places k (l ∷ m ∷ []) (c ∷ d ∷ text) placed other =
    elim (went (eq_ignore_ascii_case c l)) [
      | inr h ↦ rw h refl
      | inl h ↦
          elim (went (eq_ignore_ascii_case d m)) [
            | inr g ↦ rw (h, g) refl
            | inl g ↦
                let first : to_ascii_lowercase c ≡ to_ascii_lowercase l = eqb-true _ _ h in
                let second : to_ascii_lowercase d ≡ to_ascii_lowercase m = eqb-true _ _ g in
                let there : slice_index places (slot l m) ≡ k = eqb-true _ _ placed in
                absurd (other (rw (first, second) there))
          ]
    ]

-- none of these rows stands there, where the place is none of theirs
none_of_them : {T : Type 0} (places : List ℕ) (k : ℕ) (rs : List (Row T)) (text : List ℕ) → are_placed places k (rows rs) ≡ true → (place_of places text < k) ⊎ (k + length rs ≤ place_of places text) → named (rows rs) text ≡ None
none_of_them places k [] text placed out = refl
none_of_them places k (r ∷ rs) text placed out =
    let both = and_parts (is_placed places k r.0.now) (are_placed places (suc k) (rows rs)) placed in
    rw (not_here places k r.0.now text both.0 (λ same. elim out [ inl h ↦ omega arith | inr h ↦ omega arith ]))
    (none_of_them places (suc k) rs text both.1 (elim out [ inl h ↦ inl (omega arith) | inr h ↦ inr (omega arith) ]))

-- of these rows the one at the place stands there, or none
one_of_them : {T : Type 0} (places : List ℕ) (k : ℕ) (rs : List (Row T)) (text : List ℕ) (i : ℕ) (r : Row T) → are_placed places k (rows rs) ≡ true → place_of places text ≡ k + i → i < length rs → r ≡ get_or rs i r → named (rows rs) text ≡ cond (begins text r.0.now) (Some (r.1, drop (length r.0.now) text)) None
one_of_them places k [] text i r placed at lt is = absurd (omega arith)
one_of_them places k (q ∷ rs) text zero r placed at lt is =
    let both = and_parts (is_placed places k q.0.now) (are_placed places (suc k) (rows rs)) placed in
    let before : place_of places text < suc k = omega arith in
    rw (is, none_of_them places (suc k) rs text both.1 (inl before)) refl
one_of_them places k (q ∷ rs) text (suc i) r placed at lt is =
    let both = and_parts (is_placed places k q.0.now) (are_placed places (suc k) (rows rs)) placed in
    rw (not_here places k q.0.now text both.0 (λ same. omega arith)) (one_of_them places (suc k) rs text i r both.1 (omega arith) (omega arith) is)

module _ {T : Type 0} (places : List ℕ) (rs : List (Row T)) (text : List ℕ) (placed : are_placed places 0 (rows rs) ≡ true) where
  -- the row that can stand there
  pub at_its_place : (place : ℕ) (r : Row T) → place ≡ place_of places text → place < length rs → r ≡ get_or rs place r → named (rows rs) text ≡ cond (begins text r.0.now) (Some (r.1, drop (length r.0.now) text)) None
  at_its_place place r is lt there = one_of_them places 0 rs text place r placed (omega arith) lt there

  -- no row can
  pub no_place : (place : ℕ) → place ≡ place_of places text → length rs ≤ place → named (rows rs) text ≡ None
  no_place place is past = none_of_them places 0 rs text placed (inr (omega arith))

-- a text of one letter begins with no two
pub too_short : {A : Type 0} (places : List ℕ) (k : ℕ) (names : List (Name A)) (text : List ℕ) → are_placed places k names ≡ true → length text < 2 → named names text ≡ None
too_short places k [] text placed short = refl
too_short places k (name ∷ names) text placed short =
    let both = and_parts (is_placed places k name.letters) (are_placed places (suc k) names) placed in
    rw (begins_short text name.letters (two name.letters both.0)) (too_short places (suc k) names text both.1 short)
  where
    two : (letters : List ℕ) → is_placed places k letters ≡ true → length text < length letters
    two [] e = absurd cc
    two (l ∷ []) e = absurd cc
    two (l ∷ m ∷ []) e = omega arith
    two (l ∷ m ∷ n ∷ letters) e = absurd cc

-- what a table's names stand for doesn't count
pub placed_renamed : {A B : Type 0} (f : A → B) (places : List ℕ) (k : ℕ) (names : List (Name A)) → are_placed places k (renamed f names) ≡ are_placed places k names
placed_renamed f places k [] = refl
placed_renamed f places k (name ∷ names) = ap (λ b. is_placed places k name.letters && b) (placed_renamed f places (suc k) names)

-- ---- the alias of a SID

alias_not_here : (places : List ℕ) (k : ℕ) (a s : SidValue) → (slice_index places (sid_slot a) == k) ≡ true → (slice_index places (sid_slot s) ≡ k → ⊥) → same_sid a s ≡ false
alias_not_here places k a s placed other =
    elim (went (same_sid a s)) [
      | inr h ↦ h
      | inl h ↦ let there : slice_index places (sid_slot a) ≡ k = eqb-true _ _ placed in absurd (other (subst (λ b. slice_index places (sid_slot b) ≡ k) (same_sid-true a s h) there))
    ]

none_of_the_aliases : (places : List ℕ) (k : ℕ) (rs : List (Row WellKnown)) (s : SidValue) → sids_are_placed places k (renamed well_known (rows rs)) ≡ true → (slice_index places (sid_slot s) < k) ⊎ (k + length rs ≤ slice_index places (sid_slot s)) → alias_in (renamed well_known (rows rs)) s ≡ None
unfolding alias_in
none_of_the_aliases places k [] s placed out = refl
none_of_the_aliases places k (r ∷ rs) s placed out =
    let both = and_parts (slice_index places (sid_slot (well_known r.1)) == k) (sids_are_placed places (suc k) (renamed well_known (rows rs))) placed in
    rw (alias_not_here places k (well_known r.1) s both.0 (λ same. elim out [ inl h ↦ omega arith | inr h ↦ omega arith ]))
    (none_of_the_aliases places (suc k) rs s both.1 (elim out [ inl h ↦ inl (omega arith) | inr h ↦ inr (omega arith) ]))

one_of_the_aliases : (places : List ℕ) (k : ℕ) (rs : List (Row WellKnown)) (s : SidValue) (i : ℕ) (r : Row WellKnown) → sids_are_placed places k (renamed well_known (rows rs)) ≡ true → slice_index places (sid_slot s) ≡ k + i → i < length rs → r ≡ get_or rs i r → alias_in (renamed well_known (rows rs)) s ≡ cond (same_sid (well_known r.1) s) (Some r.0.now) None
unfolding alias_in
one_of_the_aliases places k [] s i r placed at lt is = absurd (omega arith)
one_of_the_aliases places k (q ∷ rs) s zero r placed at lt is =
    let both = and_parts (slice_index places (sid_slot (well_known q.1)) == k) (sids_are_placed places (suc k) (renamed well_known (rows rs))) placed in
    let before : slice_index places (sid_slot s) < suc k = omega arith in
    rw (is, none_of_the_aliases places (suc k) rs s both.1 (inl before)) refl
one_of_the_aliases places k (q ∷ rs) s (suc i) r placed at lt is =
    let both = and_parts (slice_index places (sid_slot (well_known q.1)) == k) (sids_are_placed places (suc k) (renamed well_known (rows rs))) placed in
    rw (alias_not_here places k (well_known q.1) s both.0 (λ same. omega arith)) (one_of_the_aliases places (suc k) rs s i r both.1 (omega arith) (omega arith) is)

module _ (places : List ℕ) (rs : List (Row WellKnown)) (s : SidValue) (same : renamed well_known (rows rs) ≡ aliases) (placed : sids_are_placed places 0 aliases ≡ true) where
  their : sids_are_placed places 0 (renamed well_known (rows rs)) ≡ true
  their = ap (sids_are_placed places 0) same ∙ placed

  -- the alias of a SID is that of the row at its place
  pub alias_at_its_place : (place : ℕ) (d : Row WellKnown) → place ≡ slice_index places (sid_slot s) → place < length rs → alias_in aliases s ≡ cond (same_sid (well_known (get_or rs place d).1) s) (Some (get_or rs place d).0.now) None
  alias_at_its_place place d is lt = ap (λ names. alias_in names s) (sym same) ∙ one_of_the_aliases places 0 rs s place (get_or rs place d) their (omega arith) lt (get_or_default rs place d (get_or rs place d) lt)

  -- and where no row is, it has none
  pub no_alias_at : (place : ℕ) → place ≡ slice_index places (sid_slot s) → length rs ≤ place → alias_in aliases s ≡ None
  no_alias_at place is past = ap (λ names. alias_in names s) (sym same) ∙ none_of_the_aliases places 0 rs s their (inr (omega arith))
