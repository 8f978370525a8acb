use Rattle.sd_script.proofs.Cited.{Bool, List, Some, ap, drop, false, is_split_below, list_any, refl, replay, slice_get, sym, true, ℕ, ◌+◌, ◌||◌, ◌∙◌, ◌≡◌}
use Rattle.sd_script.proofs.Dumping.{next_left, none_past, nothing_left}
use Rattle.sd_script.proofs.listing.lacks_words.Goals as goal

any_next : {A : Type 0} (f : A → Bool) (es : List A) (k : ℕ) (x : A) → Some x ≡ slice_get es k
    → list_any f (drop k es) ≡ (f x || list_any f (drop (k + 1) es))
any_next f es k x at = rw (next_left es k x at) refl

pub unreachable-requires : goal.unreachable-requires
unreachable-requires c = none_past _ _ _ c.node_count-index-end.ensures c.loop-index-test.true c.in_default.ensures

pub loop-index-preserved : goal.loop-index-preserved
loop-index-preserved c =
    let no : c.in_ok-is_split_below-in-Plain.field-0 ≡ false = c.if-branch.false in
    let next = any_next (is_split_below c.args.top.now) _ c.loop-index.index _ c.in-Some.ensures in
    sym (rw (sym c.in_ok-is_split_below-in-Plain.ensures, no) at next) ∙ c.loop-index.invariant

pub returns-then-branch : goal.returns-then-branch
returns-then-branch c =
    let yes : c.in_ok-is_split_below-in-Plain.field-0 ≡ true = c.if-branch.true in
    let next = any_next (is_split_below c.args.top.now) _ c.loop-index.index _ c.in-Some.ensures in
    rw (c.in-Plain.is) (sym (rw (sym c.in_ok-is_split_below-in-Plain.ensures, yes) at next) ∙ c.loop-index.invariant)

pub returns-after-loop-index : goal.returns-after-loop-index
returns-after-loop-index c =
    let t = replay c.args.tree.now.opening c.args.tree.now.journal in
    rw (c.in-Plain.is)
    (sym (ap (list_any (is_split_below c.args.top.now)) (nothing_left t _ _ c.node_count-index-end.ensures c.loop-index-test.false)) ∙ c.loop-index.invariant)
