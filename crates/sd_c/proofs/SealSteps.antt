-- A seal of what is there, taken apart into a box's parts and made of them. Assumes `Logic`.
use Rattle.sd_c.proofs.Cited.{Absent, B, Bx, D, Fits, Goal, Item, List, Logic, P, Ptr, R, RawPtr, Seq, Slot, Step, T, Ura, Val, Valss, WT, block_ptr, box_in, box_owns, dict, dnil, drop, feq_i, feq_l, fjoin, fpack, fpick, fsplit, fst∗, full_share, ghosts, handle, handle_tells, has_ty, impl, in_a_block, lit<, move, nat_tests, never, nothing, null_ptr, of_list, plain, ptr_val, rewrite, rules, sem, shape, step, tnil, to, token, ty_ptr, unless, vptr, vstruct, within, word, τ, ‵, ◌$◌, ◌&&◌, ◌++◌, ◌==◌, ◌∷◌}
use mathlib.Core.Path.{◌≡◌, refl, sym, ap, subst}
use Prim.Native.Nat.{ℕ, ◌<◌}
use mathlib.Core.Bool.{Bool, true, false}
use mathlib.Core.List.{[]}
use mir.Raw.{raw as bare}
use denote.Memory.{part_at}
use Rattle.std_heap.specs.contracts.Global as Heap
use Rattle.std_heap.proofs.Global.TheLaws as heap
use Rattle.std.specs.Prelude.{None}
use Rattle.sd_c.specs.declared.handle.kept.Kept.TheVariants as Kinds
use Rattle.sd_c.specs.contracts.handle.kept.Kept as Kept
use Rattle.sd_c.proofs.handle.kept.Kept.TheLaws as kept
use Rattle.sd_c.specs.contracts.handle.parts.Parts as Parts
use Rattle.sd_c.specs.contracts.handle.seal.Seal as Seal

abbrev pub E : Bx
E = record { row = Kept.the_row; laws = kept.the_row_laws; al = record { row = Heap.the_row; laws = heap.the_row_laws; g = ghosts; d = dict; drops = impl [] tnil dnil } }

abbrev pub FromParts : Slot 0
FromParts = plain (λ _. Parts.the_row Kept.the_row Heap.the_row ghosts)

abbrev pub FromSeal : Slot 0
FromSeal = plain (λ _. Seal.the_row)

abbrev pub Sd : Type 0
Sd = Seal.the_row.Denot

-- the box that a handle keeps
abbrev pub box_of : Sd → D E
box_of h = record { ptr = h.at; alloc = h.alloc; value = h.kept }

pub ptr_typed : (p : Ptr) → T (has_ty ty_ptr (ptr_val p)) × WT (ptr_val p)
ptr_typed (block_ptr b o) = (tt, tt)
ptr_typed null_ptr = (tt, record { fits = lit< tt })

pub both_tt : (x y : Bool) → T x → T y → T (x && (y && true))
both_tt true true s t = tt
both_tt true false s t = absurd t
both_tt false y s t = absurd s

-- an empty seal says nothing of what it keeps
pub some_kept : Kept.the_row.Denot
some_kept = Kinds.Descriptor (record { ptr = null_ptr; value = record { owner = None; group = None; dacl = Absent; protected = false; auto_req = false; auto_inherited = false; without_a_dacl = λ _. refl } })

not_zero : (n : ℕ) → 0 < n → (n == 0) ≡ false
not_zero n h = search (rules, nat_tests)

module _ {M : Type 1} {𝓤 : Ura M} {𝓛 : Logic 𝓤} {K : Type 0} {Γ : List (Item 𝓤)} {G : Goal 𝓤 𝓛.H} where
  pub seal_out : K → (h : Sd) (vs : List Val) → 0 < h.there
      → ((b o : ℕ) (hv : Val) → vs ≡ word E hv b o ∷ [] → Fits E.al hv → Seq K 𝓛 (‵ ((B E).own_val (box_of h) (word E hv b o ∷ [])) ∷ Γ) G)
      → Seq K 𝓛 (‵ (Seal.the_row.own_val h vs) ∷ Γ) G
  seal_out t h vs there k =
      fsplit t $ fpick t (λ vss. fsplit t $ feq_l t (λ ev. fsplit t $ feq_l t (λ ep. fsplit t $ handle_tells E.al t h.alloc vss.1.0 (λ hv ea fa. move t (1 ∷ []) $ drop t $ move t (1 ∷ []) $
      rewrite t 0 (λ (c : Bool). ‵ (unless c (box_owns (ghosts.dealloc_token h.alloc) Kept.the_row h.at h.kept))) (not_zero h.there there) refl $
      in_a_block t h.at (λ p. box_owns (token E.al h.alloc) (R E) p h.kept) (fst∗ 𝓤 (never 𝓤) (sem 𝓛 (token E.al h.alloc (bare (τ E)) null_ptr))) (λ b o e. fsplit t $
      box_in E t (box_of h) b o h.kept e refl $ k b o hv
      (subst (λ (p : Ptr). vs ≡ vstruct (of_list (ptr_val p ∷ hv ∷ [])) ∷ []) e
      (subst (λ (ws : List Val). vs ≡ vstruct (of_list (ptr_val h.at ∷ (ws ++ []))) ∷ []) ea (subst (λ (ps : List Val). vs ≡ vstruct (of_list (ps ++ (vss.1.0 ++ []))) ∷ []) ep ev))) fa)))))

  -- a seal that is made of a box is there
  pub seal_in : K → {hv : Val} (h : Sd) (b o : ℕ) → h.at ≡ block_ptr b o → h.there ≡ 1
      → Step K 𝓛 (‵ (Seal.the_row.own_val h (word E hv b o ∷ [])) ∷ Γ) G (‵ (part_at (R E) full_share h.kept b o) ∷ ‵ (token E.al h.alloc (bare (τ E)) (block_ptr b o)) ∷ ‵ (handle E h.alloc hv) ∷ Γ) G
  seal_in t {hv} h b o e one = step (λ s.
      fjoin t $ rewrite t 0 (λ (p : Ptr). ‵ (box_owns (token E.al h.alloc) (R E) p h.kept)) (sym e) refl $
      rewrite t 0 (λ (c : Bool). ‵ (unless c (box_owns (ghosts.dealloc_token h.alloc) Kept.the_row h.at h.kept))) (sym (ap (λ (n : ℕ). n == 0) one)) refl $
      nothing t $ move t (2 ∷ 0 ∷ []) $ fjoin t $
      feq_i t (List Val) (vptr b o ∷ []) (ptr_val h.at ∷ []) (ap (λ (p : Ptr). ptr_val p ∷ []) (sym e)) $ fjoin t $
      feq_i t (List Val) (word E hv b o ∷ []) (word E hv b o ∷ []) refl $ fjoin t $
      fpack t (Valss (RawPtr ∷ P E ∷ [])) (within (shape Seal.the_type) (to Seal.the_type h) (word E hv b o ∷ [])) (vptr b o ∷ [], (hv ∷ [], tt)) $ fjoin t $ s)

  -- an empty one owns its handle on memory alone
  pub seal_empty : K → {hv : Val} (h : Sd) → h.there ≡ 0
      → Step K 𝓛 (‵ (Seal.the_row.own_val h (vstruct (of_list (ptr_val h.at ∷ hv ∷ [])) ∷ [])) ∷ Γ) G (‵ (handle E h.alloc hv) ∷ Γ) G
  seal_empty t {hv} h none = step (λ s.
      nothing t $ rewrite t 0 (λ (c : Bool). ‵ (unless c (box_owns (ghosts.dealloc_token h.alloc) Kept.the_row h.at h.kept))) (sym (ap (λ (n : ℕ). n == 0) none)) refl $
      nothing t $ move t (2 ∷ 0 ∷ []) $ fjoin t $
      feq_i t (List Val) (ptr_val h.at ∷ []) (ptr_val h.at ∷ []) refl $ fjoin t $
      feq_i t (List Val) (vstruct (of_list (ptr_val h.at ∷ hv ∷ [])) ∷ []) (vstruct (of_list (ptr_val h.at ∷ hv ∷ [])) ∷ []) refl $ fjoin t $
      fpack t (Valss (RawPtr ∷ P E ∷ [])) (within (shape Seal.the_type) (to Seal.the_type h) (vstruct (of_list (ptr_val h.at ∷ hv ∷ [])) ∷ [])) (ptr_val h.at ∷ [], (hv ∷ [], tt)) $ fjoin t $ s)
