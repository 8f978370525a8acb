-- The lines that make a tree, and whether they are read as what makes it.
use Rattle.sd_script.proofs.Cited.{AreAskedBy, Asking, Bool, Decides, IsAskedBy, LineRequest, List, Names, NodeRow, None, Notation, Option, PlainTree, Publish, Some, [], add-one, ap, append-nil, append_assoc, arith, drop-cons, drop_of_length-le, entries, entry_there, eq_by_cmp, false, false≢true, flat_map, get_or_from_slice_get, inl, inr, join_with_byte, join_with_byte-slice_split, len, len-entries, length, length-append, length-map, lines, lines_of_parts, lt-ltb, making, makings, names_cmp, nat_lt, nat_tests, nil_from_length, one_path, path_itself, refl, row_at, slice_get, slice_get_cases, slice_get_within, slice_split, subst, suc, sym, true, wanted, zero, ℕ, ◌++◌, ◌+◌, ◌<◌, ◌==◌, ◌∙◌, ◌∷◌, ◌≡◌, ◌≤◌}
use Rattle.std.specs.Prelude.{drop}

-- the order of paths tells whether they are one
pub path_decides : (p q : Names) (r : Bool) → r ≡ eq_by_cmp names_cmp p q → Decides r (p ≡ q)
path_decides p q r is = (λ e. one_path p q (sym is ∙ e), λ e. is ∙ ap (eq_by_cmp names_cmp p) (sym e) ∙ path_itself p)

-- ---- the nodes one after the other

-- one that is there, and those behind it
pub next_left : {A : Type 0} (xs : List A) (k : ℕ) (x : A) → Some x ≡ slice_get xs k → drop k xs ≡ x ∷ drop (k + 1) xs
next_left xs k x at =
    rw (add-one, drop-cons xs k x (slice_get_within xs k x (sym at)), get_or_from_slice_get xs k x x (sym at)) refl

-- below a tree's number of nodes there is one
pub none_past : (t : PlainTree) (k n : ℕ) → n ≡ len t → k < n → None ≡ slice_get (entries t) k → ⊥
none_past t k n count low none = elim (slice_get_cases (entries t) k).1 [
  | inl (x, within, is, at) ↦ cc (none, is)
  | inr (past, is) ↦ let size = len-entries t in omega (arith, size, count, low, past)
]

pub nothing_left : (t : PlainTree) (k n : ℕ) → n ≡ len t → n ≤ k → drop k (entries t) ≡ []
nothing_left t k n count past =
    let size = len-entries t in drop_of_length-le (entries t) (omega (arith, size, count, past))

-- the node of an entry stands at its path
pub stands_there : (t : PlainTree) (k : ℕ) (node : Names × NodeRow) → Some node ≡ slice_get (entries t) k → row_at t node.0 ≡ Some node.1
stands_there t k node is =
    let low = slice_get_within (entries t) k node (sym is) in
    subst (λ (e : Names × NodeRow). row_at t e.0 ≡ Some e.1) (get_or_from_slice_get (entries t) k node node (sym is)) (entry_there t k node low)

-- the piece of one more node
pub piece_more : {A B : Type 0} (f : A → List B) (es : List A) (k : ℕ) (x : A) (text piece grown whole : List B) → Some x ≡ slice_get es k
    → piece ≡ f x → grown ≡ text ++ piece → text ++ flat_map f (drop k es) ≡ whole → grown ++ flat_map f (drop (k + 1) es) ≡ whole
piece_more f es k x text piece grown whole at is more so_far =
    rw (more, is) (append_assoc text (f x) (flat_map f (drop (k + 1) es)) ∙ ap (λ xs. text ++ flat_map f xs) (sym (next_left es k x at)) ∙ so_far)

pub none_left : {B : Type 0} (f : Names × NodeRow → List B) (t : PlainTree) (k n : ℕ) (text whole : List B) → n ≡ len t → n ≤ k
    → text ++ flat_map f (drop k (entries t)) ≡ whole → text ≡ whole
none_left f t k n text whole count past so_far =
    sym (append-nil text) ∙ ap (λ es. text ++ flat_map f es) (sym (nothing_left t k n count past)) ∙ so_far

-- ---- the lines that are left

no_parts : (parts : List (List ℕ)) → lines_of_parts parts ≡ [] → join_with_byte 10 parts ≡ []
no_parts [] none = refl
no_parts ([] ∷ []) none = refl
no_parts ((b ∷ bs) ∷ []) none = grind (arith, nat_tests)
no_parts (x ∷ y ∷ parts) none = cc

no_lines : (text : List ℕ) → lines text ≡ [] → text ≡ []
no_lines text none = sym (join_with_byte-slice_split 10 text) ∙ no_parts (slice_split (λ b. b == 10) text) none

-- what is left to be asked for after so many lines: the nodes that are left, and the publish
abbrev pub left : ℕ → List (Names × NodeRow) → ℕ → List LineRequest
left readers es k = drop k (makings readers es ++ Asking Publish ∷ [])

next_wanted : (readers : ℕ) (es : List (Names × NodeRow)) (k : ℕ) → k ≤ length es → left readers es k ≡ wanted readers (slice_get es k) ∷ left readers es (k + 1)
next_wanted readers [] zero low = refl
next_wanted readers [] (suc k) low = absurd (omega (arith, low))
next_wanted readers (e ∷ es) zero low = refl
next_wanted readers (e ∷ es) (suc k) low = let next = next_wanted readers es k (omega (arith, low)) in simp add-one (simp add-one at next)

none_wanted : (readers : ℕ) (es : List (Names × NodeRow)) (k : ℕ) → k ≡ length es + 1 → left readers es k ≡ []
none_wanted readers es k is =
    drop_of_length-le (makings readers es ++ Asking Publish ∷ []) (omega (arith, is, length-append (makings readers es) (Asking Publish ∷ []), length-map es (λ (node : Names × NodeRow). making readers node.0 node.1)))

module _ (notation : Notation) (readers : ℕ) (t : PlainTree) where
  abbrev pub AreLeft : List (List ℕ) → ℕ → Type 0
  AreLeft texts k = AreAskedBy notation (nat_lt 0 k) texts (left readers (entries t) k)

  next : (k : ℕ) → k ≤ len t → left readers (entries t) k ≡ wanted readers (slice_get (entries t) k) ∷ left readers (entries t) (k + 1)
  next k low = next_wanted readers (entries t) k (rw (len-entries t) at low)

  -- no line is left, but something is wanted
  pub nothing_asks : (k : ℕ) → k ≤ len t → Decides false (AreLeft [] k)
  nothing_asks k low = rw (next k low) (λ e. absurd (false≢true e), λ are. absurd are)

  -- the first line asks for something else
  pub asks_otherwise : (texts : List (List ℕ)) (text rest : List ℕ) (k : ℕ) (node : Option (Names × NodeRow)) → k ≤ len t → node ≡ slice_get (entries t) k
      → texts ≡ text ∷ lines rest → Decides false (IsAskedBy notation (nat_lt 0 k) text (wanted readers node)) → Decides false (AreLeft texts k)
  asks_otherwise texts text rest k found low is cut other =
      rw (cut, next k low, ← is) (λ e. absurd (false≢true e), λ are. other.1 are.0)

  -- it asks for what is wanted
  pub asks_this : (texts : List (List ℕ)) (text rest : List ℕ) (k : ℕ) (node : Option (Names × NodeRow)) (r : Bool) → k ≤ len t → node ≡ slice_get (entries t) k
      → texts ≡ text ∷ lines rest → Decides true (IsAskedBy notation (nat_lt 0 k) text (wanted readers node)) → Decides r (AreLeft (lines rest) (k + 1))
      → Decides r (AreLeft texts k)
  asks_this texts text rest k found r low is cut this more =
      let others = rw (lt-ltb 0 (k + 1) (omega arith)) at more in
      rw (cut, next k low, ← is) (λ e. (this.0 refl, others.0 e), λ are. others.1 are.1)

  -- nothing is wanted any more
  pub all_asked : (text : List ℕ) (k : ℕ) (r : Bool) → k ≡ len t + 1 → Decides r (length text ≡ 0) → Decides r (AreLeft (lines text) k)
  all_asked text k r is empty = rw (none_wanted readers (entries t) k (rw (len-entries t) at is)) (by_lines (lines text) refl) where
    by_lines : (texts : List (List ℕ)) → lines text ≡ texts → Decides r (AreAskedBy notation (nat_lt 0 k) texts [])
    by_lines [] none = (λ e. tt, λ are. empty.1 (ap length (no_lines text none)))
    by_lines (x ∷ more) some =
        (λ e. let no = sym (ap lines (nil_from_length text (empty.0 e))) ∙ some in absurd (cc (no)), λ are. absurd are)
