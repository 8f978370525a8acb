-- `empty` makes a seal of nothing, which owns its handle on memory alone.
use Rattle.sd_c.proofs.Cited.{ !, Fun, Goes-dropped, Item, List, Logic, Memory, RawPtr, Routine, SProp, Slot, Stays, T, Tables, Ura, Val, WT, WpFn, WpFn-mono, agg, alloc_all, and_then, box_ty, by, done, drop, emp, ends_at, ent, enter, entered, feq_l, free_all, fsep, fsplit, ftrue, get, handle_tells, has_ty, join, look_at, move, no_more, nothing, of_list, pass_all, plain, ptr_val, qed, raw, returns, says, sets, split, stay_dropped, suffices, tables, triple_of, ty_ptr, vstruct, walk_Meets, walk_of, yes, α, ‵, ◌$◌, ◌++◌, ◌∵◌, ◌∷◌, ◌⊛◌}
use mathlib.Core.Path.{refl, sym, subst}
use mathlib.Core.List.{[]}
use contract.Running.{tables_of}
use Rattle.std_heap.specs.contracts.Global as Heap
use Rattle.sd_c.proofs.SealSteps.{E, Sd, seal_empty, ptr_typed, both_tt, some_kept}
use Rattle.sd_c.specs.contracts.handle.seal.Seal as Seal
use Rattle.sd_c.specs.contracts.handle.seal.Seal.empty as F
use Rattle.sd_c.specs.contracts.handle.seal.Seal.empty.Key.{name as #self}
use Rattle.sd_c.proofs.handle.seal.Seal.empty.Statement as stated
use Rattle.sd_c.proofs.handle.seal.Seal.empty.Code as code

abbrev Pointer : Slot 0
Pointer = plain (λ _. RawPtr)

abbrev Memory' : Slot 0
Memory' = plain (λ _. Heap.the_row)

abbrev stayed : Stays (F.ended).signature.params (F.ended).kept
stayed = (stay_dropped Pointer yes, (stay_dropped Memory' yes, tt))

module _ {M : Type 1} {𝓤 : Ura M} (𝓛 : Logic 𝓤) (at_mem : Memory → SProp 𝓤) (run : Routine → Fun 𝓤) (𝓣 : Tables 𝓤 𝓛.H) where
  open 𝓛 use {H}

  walk : (z : (walk_of 𝓛 F.ended stayed (F.clauses 𝓛 at_mem run)).Ghost)
      → ent 𝓤 ((walk_of 𝓛 F.ended stayed (F.clauses 𝓛 at_mem run)).pre z) (WpFn 𝓤 H 𝓣.C 𝓣.Λ code.function (z.0.4.0 ++ (z.0.4.1.0 ++ [])) ((walk_of 𝓛 F.ended stayed (F.clauses 𝓛 at_mem run)).post z))
  walk z =
      let Post = (walk_of 𝓛 F.ended stayed (F.clauses 𝓛 at_mem run)).post z in
      let at = z.0.3.0 in let a = z.0.3.1.0 in
      let made : Sd = record { at = at; alloc = a; there = 0; kept = some_kept } in
      qed 𝓛 ((‵ ftrue ⊛ ‵ (fsep (RawPtr.own_val at z.0.4.0) (fsep (Heap.the_row.own_val a z.0.4.1.0) ftrue))) ∷ raw (emp 𝓤) ∷ []) ∵ split ! $ drop ! $ fsplit ! $ feq_l ! (λ ep. fsplit ! $
      handle_tells E.al ! a z.0.4.1.0 (λ hv ea fa. seal_empty ! made refl $ move ! (1 ∷ 2 ∷ []) $ drop ! $ drop ! $
      let w = vstruct (of_list (ptr_val at ∷ hv ∷ [])) in
      let typed : T (has_ty (box_ty E) w) × WT w = (both_tt (has_ty ty_ptr (ptr_val at)) (has_ty (α E.al) hv) (ptr_typed at).0 fa.0, ((ptr_typed at).1, (fa.1, tt))) in
      let Γ : List (Item 𝓤) = ‵ (Seal.the_row.own_val made (w ∷ [])) ∷ [] in
      by ! (subst (λ (us : List Val). ent 𝓤 (types.Kit.⋆ 𝓛 Γ) (WpFn 𝓤 H 𝓣.C 𝓣.Λ code.function us Post)) (sym (λ i. ep i ++ (ea i ++ [])))
      (qed 𝓛 Γ ∵ enter ! 𝓣.C 𝓣.Λ code.function (ptr_val at ∷ hv ∷ []) _ $ alloc_all ! (λ ls. pass_all ! refl (ptr_typed at, (fa, tt)) $
      sets ! (agg ! (and_then ! (get ! refl) (and_then ! (get ! refl) (no_more !)))) refl typed $ returns ! (look_at ! 0 refl) $ free_all ! refl $
      suffices ! _ (ends_at 𝓛 F.ended stayed (F.clauses 𝓛 at_mem run) z w made (tt, (tt, tt)) (tt, (tt, tt))) $ says ! refl $
      nothing ! $ nothing ! $ join ! $ nothing ! $ join ! $ nothing ! $ done !)))))

pub empty_spec : {M : Type 1} → stated.statement M
unfolding tables_of
empty_spec 𝓤 𝓛 𝓜 𝓡 wired =
    let 𝓣 : Tables 𝓤 𝓛.H = tables_of 𝓤 𝓛.H 𝓜 (tables 𝓤 𝓛.H 𝓜 𝓡 𝓡.env) in
    entered 𝓤 𝓛.H (triple_of 𝓛 F.signature (F.spec 𝓛 𝓜.mem 𝓡.returns)) 𝓣.C 𝓣.Λ #self code.function (code.unfolded 𝓤 𝓛.H 𝓜 𝓡 wired)
    (walk_Meets 𝓛 F.ended stayed (Goes-dropped 𝓛 0 Pointer yes (λ κs x f. refl), (Goes-dropped 𝓛 0 Memory' yes (λ κs x f. refl), tt)) (F.clauses 𝓛 𝓜.mem 𝓡.returns) (WpFn 𝓤 𝓛.H 𝓣.C 𝓣.Λ code.function) (WpFn-mono 𝓤 𝓛.H 𝓛.laws 𝓣 code.function)
    (walk 𝓛 𝓜.mem 𝓡.returns 𝓣))
