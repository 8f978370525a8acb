-- Journals with one more edit, and what holds of the tree of each lawful one.
use Rattle.sd_edit.proofs.Cited.{AclTooLarge, Bool, Edit, EditRefusal, IsLawful, JournalFull, List, MappingValue, None, Opening, PlainTree, Some, [], ap, arith, cases_order, cond, edited, edited_by, false, first_fit, get_or-append, get_or-append_seam, has_large_dacl, inl, inr, length, length-append, nat_le, nat_tests, opened, refl, refusal, refusal_in, room_tests, slice_get, slice_get-get_or, slice_get_within, sym, take, take-append-le, take-append_seam, true, ℕ, ◌++◌, ◌<◌, ◌∙◌, ◌∷◌, ◌≡◌, ◌≤◌}
use Rattle.sd_edit.specs.Journal.{replay}
use Rattle.sd_edit.proofs.Lists.{by_last}
use Rattle.sd_edit.proofs.Refused.{not_refused}

pub edited_by-push : (g : MappingValue) (t : PlainTree) (es : List Edit) (e : Edit) → edited_by g t (es ++ e ∷ []) ≡ edited g (edited_by g t es) e
edited_by-push g t [] e = refl
edited_by-push g t (first ∷ es) e = edited_by-push g (edited g t first) es e

pub replay-none : (o : Opening) → replay o [] ≡ opened o
unfolding replay
replay-none o = refl

pub replay-push : (o : Opening) (journal : List Edit) (e : Edit) → replay o (journal ++ e ∷ []) ≡ edited o.mapping (replay o journal) e
unfolding replay
replay-push o journal e = edited_by-push o.mapping (opened o) journal e

-- ---- the edits of a journal with one more

get_before : {X : Type 0} (xs : List X) (x d : X) (k : ℕ) → k < length xs → slice_get (xs ++ x ∷ []) k ≡ slice_get xs k
get_before xs x d k low =
    let longer = length-append xs (x ∷ []) in
    slice_get-get_or (xs ++ x ∷ []) k d (omega (arith, longer)) ∙ ap Some (get_or-append xs (x ∷ []) d k low) ∙ sym (slice_get-get_or xs k d low)

get_last : {X : Type 0} (xs : List X) (x : X) → slice_get (xs ++ x ∷ []) (length xs) ≡ Some x
get_last xs x =
    let longer = length-append xs (x ∷ []) in
    slice_get-get_or (xs ++ x ∷ []) (length xs) x (omega (arith, longer)) ∙ ap Some (get_or-append_seam xs x [] x)

take_whole : {X : Type 0} (xs : List X) (x : X) → take (length xs) (xs ++ x ∷ []) ≡ xs
take_whole xs x = take-append_seam xs (x ∷ [])

-- ---- lawful journals

pub lawful_none : (o : Opening) → IsLawful o []
lawful_none o k edit h = let low = slice_get_within [] k edit h in absurd (omega arith)

pub lawful_push : (o : Opening) (journal : List Edit) (e : Edit) → IsLawful o journal → refusal o journal e ≡ None → IsLawful o (journal ++ e ∷ [])
lawful_push o journal e lawful fits k edit h =
    let low = slice_get_within (journal ++ e ∷ []) k edit h in
    let longer = length-append journal (e ∷ []) in
    elim (cases_order k (length journal)) [
      | inl last ↦
          let is : Some edit ≡ Some e = sym h ∙ ap (slice_get (journal ++ e ∷ [])) last ∙ get_last journal e in
          let same : edit ≡ e = cc in
          ap (λ n. refusal o (take n (journal ++ e ∷ [])) edit) last
          ∙ ap (λ es. refusal o es edit) (take_whole journal e)
          ∙ ap (refusal o journal) same ∙ fits
      | inr other ↦ elim other [
        | inl before ↦
            ap (λ es. refusal o es edit) (take-append-le k journal (e ∷ []) (omega arith))
            ∙ lawful k edit (sym (get_before journal e edit k before) ∙ h)
        | inr behind ↦ absurd (omega (arith, longer))
      ]
    ]

pub lawful_before : (o : Opening) (journal : List Edit) (e : Edit) → IsLawful o (journal ++ e ∷ []) → IsLawful o journal
lawful_before o journal e lawful k edit h =
    let low = slice_get_within journal k edit h in
    ap (λ es. refusal o es edit) (sym (take-append-le k journal (e ∷ []) (omega arith)))
    ∙ lawful k edit (get_before journal e edit k low ∙ h)

pub lawful_last : (o : Opening) (journal : List Edit) (e : Edit) → IsLawful o (journal ++ e ∷ []) → refusal o journal e ≡ None
lawful_last o journal e lawful =
    ap (λ es. refusal o es e) (sym (take_whole journal e)) ∙ lawful (length journal) e (get_last journal e)

-- what holds of the opening, and stays so under each edit that isn't refused, holds of the tree of each lawful journal
pub holds_of_lawful : (o : Opening) (P : PlainTree → Type 0) → P (opened o)
    → ((t : PlainTree) (count : ℕ) (e : Edit) → P t → refusal_in o.limits o.mapping t count e ≡ None → P (edited o.mapping t e))
    → (journal : List Edit) → IsLawful o journal → P (replay o journal)
holds_of_lawful o P start step =
    by_last (λ journal. IsLawful o journal → P (replay o journal)) (λ _. rw (replay-none o) start)
    (λ journal e before lawful. rw (replay-push o journal e) (step (replay o journal) (length journal) e (before (lawful_before o journal e lawful)) (lawful_last o journal e lawful)))

-- ---- how long a lawful journal is

last_test : (tests : List (Bool × EditRefusal)) (b : Bool) (x : EditRefusal) → first_fit (tests ++ (b, x) ∷ []) ≡ None → b ≡ false
last_test [] true x h = absurd cc
last_test [] false x h = refl
last_test (test ∷ tests) b x h = last_test tests b x (passed test.0 h)
  where
    passed : (first : Bool) → cond first (Some test.1) (first_fit (tests ++ (b, x) ∷ [])) ≡ None → first_fit (tests ++ (b, x) ∷ []) ≡ None
    passed true h = absurd cc
    passed false h = h

below_limit : (most n : ℕ) → nat_le most n ≡ false → n < most
below_limit most n h = grind (arith, nat_tests)

pub lawful_short : (o : Opening) (journal : List Edit) → IsLawful o journal → length journal ≤ o.limits.edits
lawful_short o = by_last (λ journal. IsLawful o journal → length journal ≤ o.limits.edits) (λ _. omega arith) (λ journal e before lawful.
    let t = replay o journal in
    let late = (not_refused o.limits o.mapping t (length journal) e (lawful_last o journal e lawful)).1 in
    let full = last_test ((has_large_dacl o.mapping (edited o.mapping t e), AclTooLarge) ∷ room_tests o.limits t e) (nat_le o.limits.edits (length journal)) JournalFull late in
    omega (arith, below_limit o.limits.edits (length journal) full, length-append journal (e ∷ [])))
