-- That a request which a check grants after a node was protected was granted before.
use Rattle.sd_tree_laws.proofs.Cited.{Ace, Bool, Denied, EmptyRequest, Granted, KeepingGrantsNoNewRequest, List, MappingValue, Names, NodeRow, None, Option, PlainTree, ProtectKeeping, Reserved, Some, TokenValue, Verdict, ap, cond, dacl_at, edited, false, granted_by_row, holds, is_granted, judged, keeping, kept_when_keeping, kind_at-changed, known_kind, most, nothing_missing, refl, reply_for, row_at, true, ℕ, ◌≡◌}
use Rattle.sd_edit.specs.declared.reply.CheckReply.TheVariants as reply
use Rattle.sd_tree_laws.proofs.Keeping.{keeping_lets_nobody_in}

-- the cases of a verdict on a request without MAXIMUM_ALLOWED
granted_still : (empty fine maximum nothing now before : Bool) (q n k x m : ℕ) (other more : Verdict) → maximum ≡ false → (now ≡ true → before ≡ true)
    → cond empty EmptyRequest (cond fine (cond maximum other (cond nothing EmptyRequest (cond now (Granted q) (Denied n)))) (Reserved x)) ≡ Granted m
    → cond empty EmptyRequest (cond fine (cond maximum more (cond nothing EmptyRequest (cond before (Granted q) (Denied k)))) (Reserved x)) ≡ Granted m
granted_still true fine maximum nothing now before q n k x m other more plain still e = e
granted_still false false maximum nothing now before q n k x m other more plain still e = e
granted_still false true true nothing now before q n k x m other more plain still e = absurd cc
granted_still false true false true now before q n k x m other more plain still e = e
granted_still false true false false false before q n k x m other more plain still e = absurd cc
granted_still false true false false true before q n k x m other more plain still e = rw (still refl) e

judged_more : (g : MappingValue) (now before : ℕ → Bool) (most_now most_before r m : ℕ) → ((b : ℕ) → now b ≡ true → before b ≡ true)
    → holds r 25 ≡ false → judged g now most_now r ≡ Granted m → judged g before most_before r ≡ Granted m
judged_more g now before most_now most_before r m more plain e =
    granted_still _ _ _ _ _ _ _ _ _ _ m _ _ plain (nothing_missing now before _ more) e

-- ---- the replies

inside : (v w : Verdict) → reply.Verdict v ≡ reply.Verdict w → v ≡ w
inside v w e = cc

reply_more : (g : MappingValue) (token : TokenValue) (asked m : ℕ) (now before : Option (List Ace)) (o p : Option NodeRow) → (p ≡ None → o ≡ None)
    → ((b : ℕ) → granted_by_row g now token b o ≡ true → granted_by_row g before token b p ≡ true)
    → holds asked 25 ≡ false → reply_for g now token asked o ≡ reply.Verdict (Granted m) → reply_for g before token asked p ≡ reply.Verdict (Granted m)
reply_more g token asked m now before None p there more plain e = absurd cc
reply_more g token asked m now before (Some row) None there more plain e = absurd (let gone = there refl in cc)
reply_more g token asked m now before (Some row) (Some old) there more plain e =
    ap reply.Verdict (judged_more g (is_granted (Some row.owner) now g token) (is_granted (Some old.owner) before g token)
    (most (Some row.owner) now g token) (most (Some old.owner) before g token) asked m more plain (inside _ _ e))

unknown : (o : Option NodeRow) → ((row : NodeRow) → o ≡ Some row → ⊥) → o ≡ None
unknown None h = refl
unknown (Some row) h = absurd (h row refl)

-- no node comes by the edit
none_comes : (g : MappingValue) (t : PlainTree) (top path : Names) → row_at t path ≡ None → row_at (edited g t (ProtectKeeping top)) path ≡ None
none_comes g t top path none =
    unknown (row_at (edited g t (ProtectKeeping top)) path) (λ row there.
    let kinds = kind_at-changed t top path (keeping (dacl_at g t top)) (kept_when_keeping (dacl_at g t top)) in
    let known = known_kind (edited g t (ProtectKeeping top)) path row there in
    absurd cc)

pub keeping_grants_no_new_request : KeepingGrantsNoNewRequest
keeping_grants_no_new_request g t top path token asked m plain e =
    reply_more g token asked m (dacl_at g (edited g t (ProtectKeeping top)) path) (dacl_at g t path)
    (row_at (edited g t (ProtectKeeping top)) path) (row_at t path) (none_comes g t top path)
    (λ b. keeping_lets_nobody_in g t top path token b) plain e
