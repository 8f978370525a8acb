-- What is planned fits: no node's DACL takes too many bytes.
use Rattle.sd_tree.proofs.Cited.{AreNodes, Bool, Edit, EditRefusal, IsError, IsLateError, IsPlan, LimitsValue, List, MappingValue, Memory, Node, None, Option, PlainTree, Plan, Refused, TreeError, [], ap, are_late, arith, carried, cond, dacl_at, dacl_size, early_refusal, entry_of, false, get_or, has_large_dacl, is_early, late_refusal, late_refused, late_tests, leb, len-entries, length, length-map, list_any, ltb, nat_lt, nat_tests, option_or, refl, refusal_in, suc, sym, tree_of, zero, ℕ, ◌<◌, ◌||◌, ◌∙◌, ◌∷◌, ◌≡◌, ◌≤◌}
use Rattle.std.specs.FinMap as finite
use Rattle.sd_tree.proofs.Kept.{entries_kept, a_node}
use Rattle.sd_tree.proofs.CarriedOut.{key_at, keys_count, plan_carried}

pub none_found : {X : Type 0} (p : X → Bool) (xs : List X) → ((k : ℕ) (d : X) → k < length xs → p (get_or xs k d) ≡ false) → list_any p xs ≡ false
none_found p [] h = refl
none_found p (x ∷ xs) h = ap (λ b. b || list_any p xs) (h zero x (omega arith)) ∙ none_found p xs (λ k d lt. h (suc k) d (omega arith))

pub small_size : (n : ℕ) → n ≤ 65535 → nat_lt 65535 n ≡ false
small_size n le = grind (arith, nat_tests)

-- nodes that keep their whole DACLs have none that is too large
pub no_large : (g : MappingValue) (bs : List Node) → AreNodes g bs → has_large_dacl g (tree_of bs) ≡ false
no_large g bs kept = none_found (λ path. nat_lt 65535 (dacl_size (dacl_at g (tree_of bs) path))) (finite.keys (tree_of bs)) (λ k d lt.
    let in' : k < length bs = omega (arith, keys_count bs kept.order) in
    let b = a_node bs k in' in
    let w = kept.whole k b in' in
    let same : dacl_at g (tree_of bs) (get_or (finite.keys (tree_of bs)) k d) ≡ (get_or bs k b).whole = ap (dacl_at g (tree_of bs)) (key_at bs kept.order k d b in') ∙ sym w.is in
    small_size _ (rw same w.fits))

pub no_large_planned : (g : MappingValue) (bs : List Node) → AreNodes g bs → (after : PlainTree) (plan : Plan) → IsPlan g (tree_of bs) after plan → has_large_dacl g after ≡ false
no_large_planned g bs kept after plan h =
    let done = plan_carried g bs kept after plan h in
    ap (has_large_dacl g) (sym done.0) ∙ no_large g (carried plan bs) done.1

-- how many nodes there are
pub nodes_count : (bs : List Node) (g : MappingValue) → AreNodes g bs → finite.len (tree_of bs) ≡ length bs
nodes_count bs g kept = len-entries (tree_of bs) ∙ ap length (entries_kept bs kept.order) ∙ length-map bs entry_of

pub room_full : (most a n : ℕ) (x y : Option EditRefusal) → a ≤ 64 → most ≤ n → y ≡ cond (ltb 64 a) x (cond (leb most n) y None)
room_full most a n x y deep full = grind (arith, nat_tests)

pub room_left : (most a n : ℕ) (x y : Option EditRefusal) → a ≤ 64 → n < most → None ≡ cond (ltb 64 a) x (cond (leb most n) y None)
room_left most a n x y deep few = grind (arith, nat_tests)

-- the error of a plan, where no test without memory refuses
pub late_error : (l : LimitsValue) (g : MappingValue) (t : PlainTree) (n : ℕ) (e : Edit) (x : TreeError)
    → early_refusal t e ≡ None → IsLateError g t e x → IsError x (refusal_in l g t n e)
late_error l g t n e (Refused r) early h = ap (λ o. option_or o (late_refusal l g t n e)) early ∙ h l n
late_error l g t n e Memory early h =
    ap (λ o. is_early (option_or o (late_refusal l g t n e))) early
    ∙ late_refused (late_tests l g t n e) (are_late l g t n e)
