-- Answers of a worker, as its checker sees more and one answer more is given.
use Rattle.sd_store.proofs.Cited.{Answer, Edit, IsAnswer, IsAnswered, IsDrawn, IsDrawnAt, IsFresh, IsLawful, IsPrefix, IsUnderWay, List, Opening, Query, Sight, [], ap, arith, get_or_append_left, get_or_push, inl, inr, le_trans, length, length_push, reply_by, slice_index_or, subst, sym, take, take-append-le, take_all, ℕ, ◌*◌, ◌++◌, ◌+◌, ◌<◌, ◌∙◌, ◌∷◌, ◌≡◌, ◌≤◌, ◌⊎◌}
use Rattle.sd_store.proofs.Prefixes.{prefix_self, prefix_trans, prefix_length}

take_prefix : {A : Type 0} (n : ℕ) (xs ys : List A) → IsPrefix xs ys → n ≤ length xs → take n ys ≡ take n xs
take_prefix n xs ys p le = ap (take n) (sym p.1) ∙ take-append-le n xs p.0 le

-- an answer stays one as the checker sees more
pub answer_stays : (o : Opening) (now next : Sight) (q : Query) (a : Answer) → IsPrefix now.floor next.floor → IsPrefix now.view.marks next.view.marks
    → IsAnswer o now q a → IsAnswer o next q a
answer_stays o now next q a floor marks is = record {
  within = le_trans is.within (prefix_length now.floor next.floor floor);
  mark = (is.mark.0, prefix_trans is.mark.0 now.view.marks next.view.marks is.mark.1 marks, is.mark.2);
  reply = is.reply ∙ ap (λ (j : List Edit). reply_by o j q) (sym (take_prefix a.seen now.floor next.floor floor is.within));
}

pub fresh_is_answer : (o : Opening) (w : Sight) (q : Query) (a : Answer) → IsFresh o w q a → IsAnswer o w q a
fresh_is_answer o w q a is = record {
  within = omega (arith, is.whole);
  mark = (w.view.marks, prefix_self w.view.marks, sym is.mark);
  reply = is.reply ∙ ap (λ (j : List Edit). reply_by o j q) (sym (take_all a.seen w.floor (omega (arith, is.whole))));
}

-- ---- one answer more

module _ (o : Opening) (least worker step : ℕ) (queries : List Query) (now next : Sight) (answers : List Answer) (a : Answer)
    (drawn : IsDrawn o now least worker step queries answers)
    (floor : IsPrefix now.floor next.floor) (marks : IsPrefix now.view.marks next.view.marks)
    (least_seen : least ≤ length now.floor) (whole : a.seen ≡ length next.floor) where
  -- an answer that was there
  old_at : (k : ℕ) (d : Answer) (q : Query) → k < length answers → IsDrawnAt o next least (slice_index_or queries (worker + k * step) q) (answers ++ a ∷ []) k d
  old_at k d q within =
      let is = drawn k d q within in
      let here : slice_index_or (answers ++ a ∷ []) k d ≡ slice_index_or answers k d = get_or_append_left answers (a ∷ []) d k within in
      record {
        given = subst (IsAnswer o next (slice_index_or queries (worker + k * step) q)) (sym here) (answer_stays o now next _ _ floor marks is.given);
        low = subst (λ (x : Answer). least ≤ x.seen) (sym here) is.low;
        rising = λ j less.
            let there : slice_index_or (answers ++ a ∷ []) j d ≡ slice_index_or answers j d = get_or_append_left answers (a ∷ []) d j (omega (arith, less, within)) in
            subst (λ (x : Answer). (slice_index_or (answers ++ a ∷ []) j d).seen ≤ x.seen) (sym here) (subst (λ (x : Answer). x.seen ≤ (slice_index_or answers k d).seen) (sym there) (is.rising j less));
      }

  -- the new one
  new_at : (k : ℕ) (d : Answer) (q : Query) → length answers ≡ k → IsAnswer o next (slice_index_or queries (worker + k * step) q) a
      → IsDrawnAt o next least (slice_index_or queries (worker + k * step) q) (answers ++ a ∷ []) k d
  new_at k d q is given =
      let here : slice_index_or (answers ++ a ∷ []) k d ≡ a = get_or_push answers a d k is in
      let grown : length now.floor ≤ length next.floor = prefix_length now.floor next.floor floor in
      record {
        given = subst (IsAnswer o next (slice_index_or queries (worker + k * step) q)) (sym here) given;
        low = subst (λ (x : Answer). least ≤ x.seen) (sym here) (omega (arith, least_seen, grown, whole));
        rising = λ j less.
            let there : slice_index_or (answers ++ a ∷ []) j d ≡ slice_index_or answers j d = get_or_append_left answers (a ∷ []) d j (omega (arith, less, is)) in
            let before = (drawn j d q (omega (arith, less, is))).given.within in
            subst (λ (x : Answer). (slice_index_or (answers ++ a ∷ []) j d).seen ≤ x.seen) (sym here) (subst (λ (x : Answer). x.seen ≤ a.seen) (sym there) (omega (arith, before, grown, whole)));
      }

  pub drawn_push : ((q : Query) → IsAnswer o next (slice_index_or queries (worker + length answers * step) q) a) → IsDrawn o next least worker step queries (answers ++ a ∷ [])
  drawn_push given k d q within =
      let some : k < length answers + 1 = subst (λ n. k < n) (length_push answers a) within in
      let either : (k < length answers) ⊎ (length answers ≡ k) = grind (arith, some) in
      elim either [
        | inl less ↦ old_at k d q less
        | inr is ↦ new_at k d q is (subst (λ n. IsAnswer o next (slice_index_or queries (worker + n * step) q) a) is (given q))
      ]

one_further : (worker step at count next : ℕ) → at ≡ worker + count * step → next ≡ count + 1 → at + step ≡ worker + next * step
one_further worker step at count next is more = rw (is, more) (omega arith)

-- a worker goes on by one query
pub goes_under_way : (o : Opening) (queries : List Query) (worker step at : ℕ) (old now next : Sight) (answers news : List Answer) (query : Query)
    → at < length queries → ((q : Query) → slice_index_or queries at q ≡ query)
    → IsPrefix now.floor next.floor → IsPrefix now.view.marks next.view.marks → IsLawful o next.floor → IsAnswered o next query answers news
    → IsUnderWay o queries worker step at old now answers → IsUnderWay o queries worker step (at + step) old next news
goes_under_way o queries worker step at old now next answers news query within there floor marks lawful answered way =
    let a = answered.0 in
    let grown = answered.1 in
    let fresh = answered.2 in
    let longer : length news ≡ length answers + 1 = ap length grown ∙ length_push answers a in
    let given : (q : Query) → IsAnswer o next (slice_index_or queries (worker + length answers * step) q) a =
    λ q. subst (λ x. IsAnswer o next x a) (sym (there q) ∙ ap (λ n. slice_index_or queries n q) way.place) (fresh_is_answer o next query a fresh) in
    record {
      place = one_further worker step at (length answers) (length news) way.place longer;
      drawn = subst (IsDrawn o next (length old.floor) worker step queries) (sym grown)
          (drawn_push o (length old.floor) worker step queries now next answers a way.drawn floor marks (prefix_length old.floor now.floor way.floor) fresh.whole given);
      floor = prefix_trans old.floor now.floor next.floor way.floor floor;
      lawful = lawful;
      idle = λ none. absurd (omega (arith, none, within, way.place));
    }
