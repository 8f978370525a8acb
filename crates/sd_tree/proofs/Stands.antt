-- What a tree keeps, from its opening through each edit.
use Rattle.sd_tree.proofs.Cited.{AclTooLarge, AreNodes, AreStanding, Bool, CanCarryOut, Edit, EditRefusal, Err, Exchange, IfErr, IfOk, InheritedEntry, Insert, IsClosed, IsError, IsPlan, IsPlanned, IsSizeError, IsStored, IsWhole, LimitsValue, List, MappingValue, Memory, Node, NodeRow, None, NotCanonical, Ok, Opening, Option, PlainTree, Plan, Refused, Remove, Result, Set, Some, TreeError, [], ap, arith, carried, closed_replay, cond, dacl_at, dacl_at_root, dacl_here, dacl_of_row, dacl_size, deny_behind_allow, edited, entries-insert, entry_of, false, first_fit, get_or, has_large_dacl, is_early, is_inherited, lawful_none, lawful_push, len-empty, len-entries, length, list_any, list_tests, map, names_cmp, names_cmp_total, opened, own_entries, put, refl, refusal, refusal_in, replay, replay-none, replay-push, root_refusal, root_row, row_at, row_at-insert_same, subst, sym, tree_of, true, ℕ, ◌++◌, ◌<◌, ◌∙◌, ◌∷◌, ◌≡◌, ◌≤◌}
use Rattle.std.specs.FinMap as finite
use Rattle.sd_tree.proofs.CarriedOut.{tree_from_entries, order_from_entries, keys_count, plan_carried}
use Rattle.sd_tree.proofs.Rebuilding.{large_found}
use Rattle.sd_tree.proofs.Fitting.{no_large}

-- the nodes of a tree may be edited
pub standing_from_stored : (o : Opening) (journal : List Edit) (bs : List Node) → IsStored o journal bs → AreStanding o.mapping bs
standing_from_stored o journal bs s = record {
  kept = s.nodes;
  closed = let P : PlainTree → Type 0 = IsClosed in subst P (sym s.tree) (closed_replay o journal s.lawful);
}

-- ---- what is planned of the nodes is planned of the tree

same_refusal : (o : Opening) (journal : List Edit) (l : LimitsValue) (g : MappingValue) (t : PlainTree) (n : ℕ) (e : Edit) → l ≡ o.limits → g ≡ o.mapping → t ≡ replay o journal → n ≡ length journal → refusal_in l g t n e ≡ refusal o journal e
same_refusal o journal l g t n e same-l same-g same-t same-n = λ i. refusal_in (same-l i) (same-g i) (same-t i) (same-n i) e

pub planned_of_tree : (o : Opening) (journal : List Edit) (l : LimitsValue) (g : MappingValue) (t : PlainTree) (n : ℕ) (e : Edit) (r : Result (Edit × Plan) TreeError)
    → l ≡ o.limits → g ≡ o.mapping → t ≡ replay o journal → n ≡ length journal
    → IfOk r (λ p. IsPlan g t (edited g t e) p.1) → IfOk r (λ _. refusal_in l g t n e ≡ None) → IfOk r (λ p. IsPlanned o journal e p.1)
planned_of_tree o journal l g t n e (Err x) same-l same-g same-t same-n plan accepted = tt
planned_of_tree o journal l g t n e (Ok p) same-l same-g same-t same-n plan accepted = record {
  accepted = sym (same_refusal o journal l g t n e same-l same-g same-t same-n) ∙ accepted;
  planned =
      let P : MappingValue → Type 0 = λ h. IsPlan h t (edited h t e) p.1 in
      let Q : PlainTree → Type 0 = λ u. IsPlan o.mapping u (edited o.mapping u e) p.1 in
      subst Q same-t (subst P same-g plan);
}

pub refused_of_tree : (o : Opening) (journal : List Edit) (l : LimitsValue) (g : MappingValue) (t : PlainTree) (n : ℕ) (e : Edit) (r : Result (Edit × Plan) TreeError)
    → l ≡ o.limits → g ≡ o.mapping → t ≡ replay o journal → n ≡ length journal
    → IfErr r (λ x. IsError x (refusal_in l g t n e)) → IfErr r (λ x. IsError x (refusal o journal e))
refused_of_tree o journal l g t n e r same-l same-g same-t same-n h =
    let P : Option EditRefusal → Type 0 = λ due. IfErr r (λ x. IsError x due) in subst P (same_refusal o journal l g t n e same-l same-g same-t same-n) h

-- ---- a plan is carried out

plan_of_nodes : (o : Opening) (journal : List Edit) (e : Edit) (plan : Plan) (bs : List Node) → IsStored o journal bs → IsPlanned o journal e plan
    → IsPlan o.mapping (tree_of bs) (edited o.mapping (replay o journal) e) plan
plan_of_nodes o journal e plan bs s h = let P : PlainTree → Type 0 = λ t. IsPlan o.mapping t (edited o.mapping (replay o journal) e) plan in subst P (sym s.tree) h.planned

can_carry : (g : MappingValue) (bs : List Node) → AreNodes g bs → (after : PlainTree) (plan : Plan) → IsPlan g (tree_of bs) after plan → CanCarryOut (length bs) plan
can_carry g bs kept after (Insert at b) h = let count = keys_count bs kept.order in omega (arith, h.place)
can_carry g bs kept after (Set at b) h = let count = keys_count bs kept.order in omega (arith, h.place)
can_carry g bs kept after (Remove at) h = let count = keys_count bs kept.order in omega (arith, h.place)
can_carry g bs kept after (Exchange from to run) h = let count = keys_count bs kept.order in (omega (arith, h.fits), omega (arith, h.place))

pub can_carry_out : (o : Opening) (journal : List Edit) (e : Edit) (plan : Plan) (bs : List Node) → IsStored o journal bs → IsPlanned o journal e plan
    → CanCarryOut (length bs) plan
can_carry_out o journal e plan bs s h =
    can_carry o.mapping bs s.nodes (edited o.mapping (replay o journal) e) plan (plan_of_nodes o journal e plan bs s h)

-- a tree that an edit joined
pub stored_more : (o : Opening) (journal : List Edit) (e : Edit) (plan : Plan) (bs : List Node) → IsStored o journal bs → IsPlanned o journal e plan → IsStored o (journal ++ e ∷ []) (carried plan bs)
stored_more o journal e plan bs s h =
    let done = plan_carried o.mapping bs s.nodes (edited o.mapping (replay o journal) e) plan (plan_of_nodes o journal e plan bs s h) in
    record {
      accepted = s.accepted;
      lawful = lawful_push o journal e s.lawful h.accepted;
      tree = done.0 ∙ sym (replay-push o journal e);
      nodes = done.1;
    }

-- ---- the opening

no_length : {X : Type 0} (xs : List X) → length xs ≡ 0 → xs ≡ []
no_length [] e = refl
no_length (x ∷ xs) e = absurd (omega arith)

none_of_empty : finite.entries (finite.empty {X = NodeRow} {R = names_cmp}) ≡ []
none_of_empty = no_length _ (sym (len-entries (finite.empty {X = NodeRow} {R = names_cmp})) ∙ len-empty names_cmp NodeRow)

opened_entries : (o : Opening) → finite.entries (opened o) ≡ ([], root_row o.root) ∷ []
opened_entries o = entries-insert names_cmp_total finite.empty [] (root_row o.root) ∙ ap (put names_cmp [] (root_row o.root)) none_of_empty

opened_root : (o : Opening) → row_at (opened o) [] ≡ Some (root_row o.root)
opened_root o = row_at-insert_same finite.empty [] (root_row o.root)

opened_dacl : (o : Opening) → dacl_at o.mapping (opened o) [] ≡ dacl_of_row o.mapping (root_row o.root) None
opened_dacl o = dacl_at_root o.mapping (opened o) ∙ ap (λ r. dacl_here o.mapping r None) (opened_root o)

root_by_parts : (o : Opening) (large : Bool) → first_fit (list_tests o.root.dacl) ≡ None → has_large_dacl o.mapping (opened o) ≡ large → root_refusal o ≡ cond large (Some AclTooLarge) None
root_by_parts o large list is = passed (list_any is_inherited (own_entries o.root.dacl)) (deny_behind_allow (own_entries o.root.dacl)) InheritedEntry NotCanonical list ∙ ap (λ b. cond b (Some AclTooLarge) None) is
  where
    passed : (a b : Bool) (x y : EditRefusal) {rest : Option EditRefusal} → cond a (Some x) (cond b (Some y) None) ≡ None → cond a (Some x) (cond b (Some y) rest) ≡ rest
    passed true b x y h = absurd cc
    passed false true x y h = absurd cc
    passed false false x y h = refl

pub stored_first : (o : Opening) (b : Node) → b.path ≡ [] → b.row ≡ root_row o.root → b.whole ≡ dacl_of_row o.mapping (root_row o.root) None → dacl_size b.whole ≤ 65535
    → first_fit (list_tests o.root.dacl) ≡ None → IsStored o [] (b ∷ [])
stored_first o b path-is row-is whole-is fits list =
    let e : map entry_of (b ∷ []) ≡ finite.entries (opened o) = (λ i. (path-is i, row-is i) ∷ []) ∙ sym (opened_entries o) in
    let same = tree_from_entries (b ∷ []) (opened o) e in
    let whole : b.whole ≡ dacl_at o.mapping (tree_of (b ∷ [])) b.path =
    whole-is ∙ sym (opened_dacl o) ∙ (λ i. dacl_at o.mapping (sym same i) (sym path-is i)) in
    let nodes : AreNodes o.mapping (b ∷ []) = record {
      order = order_from_entries (b ∷ []) (opened o) e;
      whole = λ k d lt.
          let first : 0 ≡ k = omega arith in
          let P : ℕ → Type 0 = λ j. IsWhole o.mapping (tree_of (b ∷ [])) (get_or (b ∷ []) j d) in
          subst P first (record { is = whole; fits = fits });
    } in
    record {
      accepted = root_by_parts o false list (ap (has_large_dacl o.mapping) (sym same) ∙ no_large o.mapping (b ∷ []) nodes);
      lawful = lawful_none o;
      tree = same ∙ sym (replay-none o);
      nodes = nodes;
    }

late_root : (large : Bool) → is_early (cond large (Some AclTooLarge) None) ≡ false
late_root true = refl
late_root false = refl

pub root_error : (o : Opening) (e : TreeError) → first_fit (list_tests o.root.dacl) ≡ None → IsSizeError e (dacl_of_row o.mapping (root_row o.root) None) → IsError e (root_refusal o)
root_error o (Refused r) list h =
    let big : 65535 < dacl_size (dacl_at o.mapping (opened o) []) = rw (opened_dacl o) h.1 in
    root_by_parts o true list (large_found o.mapping (opened o) [] (root_row o.root) (opened_root o) big) ∙ ap Some (sym h.0)
root_error o Memory list h = ap is_early (root_by_parts o (has_large_dacl o.mapping (opened o)) list refl) ∙ late_root (has_large_dacl o.mapping (opened o))
