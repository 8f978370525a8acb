-- One step of each loop.
use Rattle.std.proofs.Common.{◌≡◌, ◌∙◌, ℕ, ◌+◌, ◌<◌, Bool, true, false, cond, ◌&&◌, List, [], ◌∷◌, ◌++◌, Result, Ok, Err, length, take, drop, get_or, map, refl, sym, ap, arith}
use Rattle.std.proofs.lemmas.List.{append_assoc, drop_more, length-take-le, take_more}
use Rattle.std.specs.List.{filter}
use Rattle.sd_check.specs.declared.verdict.Verdict.{Verdict}
use Rattle.sd_specialize.specs.Specialize.{Fails, ◌>>=◌}
use Rattle.sd_specialize.specs.declared.fault.SpecializeError.{SpecializeError}
use Rattle.sd_specialize.specs.declared.fault.SpecializeError.TheVariants as errors
use Rattle.sd_specialize.specs.declared.fault.SpecializeFault.{SpecializeFault}
use Rattle.sd_types.specs.Tree.{Chain, chains_after, fault_after, node_fault, placed_or}
use Rattle.sd_types.specs.Verdicts.{both, each_verdict, with_parts}
use Rattle.sd_types.specs.declared.tree.TypeNode.{TypeNode}

-- ---- the chains of nodes

module _ (nodes : List TypeNode) (i : ℕ) (node : TypeNode) (low : i < length nodes) (is : get_or nodes i node ≡ node) where
  these : drop i nodes ≡ node ∷ drop (i + 1) nodes
  these = drop_more nodes i node low ∙ ap (λ (x : TypeNode). x ∷ drop (i + 1) nodes) is

  pub one_chain : (all before : List Chain) (chain next : Chain) → all ≡ before ++ chains_after chain (drop i nodes)
      → next ≡ take node.level chain ++ node.guid ∷ []
      → all ≡ (before ++ next ∷ []) ++ chains_after next (drop (i + 1) nodes)
  one_chain all before chain next h same =
      h ∙ (ap (λ l. before ++ chains_after chain l) these
      ∙ (ap (λ (n : Chain). before ++ n ∷ chains_after n (drop (i + 1) nodes)) (sym same)
      ∙ sym (append_assoc before (next ∷ []) (chains_after next (drop (i + 1) nodes)))))

  -- ---- faults

  pub one_fault : fault_after (take i nodes) (drop i nodes)
      ≡ placed_or i (node_fault (take i nodes) node) (fault_after (take (i + 1) nodes) (drop (i + 1) nodes))
  one_fault =
      ap (fault_after (take i nodes)) these
      ∙ (ap (λ n. placed_or n (node_fault (take i nodes) node) (fault_after (take i nodes ++ node ∷ []) (drop (i + 1) nodes)))
      (length-take-le i nodes (omega (arith, low)))
      ∙ ap (λ l. placed_or i (node_fault (take i nodes) node) (fault_after l (drop (i + 1) nodes)))
      (sym (take_more nodes i node low ∙ ap (λ (x : TypeNode). take i nodes ++ x ∷ []) is)))

-- ---- verdicts, on parts that chains of items are

module _ {V : Type 0} (view : V → Chain) (part : Chain → Result Verdict SpecializeFault) (xs : List V) (i : ℕ) (x : V)
    (low : i < length xs) (is : get_or xs i x ≡ x) where
  parts : map view (drop i xs) ≡ view x ∷ map view (drop (i + 1) xs)
  parts = ap (map view) (drop_more xs i x low ∙ ap (λ y. y ∷ drop (i + 1) xs) is)

  abbrev each_here : Result Verdict SpecializeFault → Result (List Verdict) SpecializeFault → Result (List Verdict) SpecializeFault
  each_here here rest = here >>= λ verdict. (rest >>= λ verdicts. Ok (verdict ∷ verdicts))

  push_verdict : (told : List Verdict) (v : Verdict) (rest : Result (List Verdict) SpecializeFault)
      → (each_here (Ok v) rest >>= λ others. Ok (told ++ others)) ≡ (rest >>= λ others. Ok ((told ++ v ∷ []) ++ others))
  push_verdict told v (Ok others) = ap Ok (sym (append_assoc told (v ∷ []) others))
  push_verdict told v (Err fault) = refl

  module _ (all : Result (List Verdict) SpecializeFault) (told : List Verdict)
      (h : all ≡ (each_verdict part (map view (drop i xs)) >>= λ others. Ok (told ++ others)))
      (chain : Chain) (same : chain ≡ view x) where
    after_this : all ≡ (each_here (part chain) (each_verdict part (map view (drop (i + 1) xs))) >>= λ others. Ok (told ++ others))
    after_this =
        h ∙ (ap (λ l. each_verdict part l >>= λ others. Ok (told ++ others)) parts
        ∙ ap (λ c. each_here (part c) (each_verdict part (map view (drop (i + 1) xs))) >>= λ others. Ok (told ++ others)) (sym same))

    pub one_verdict : (next : List Verdict) (v : Verdict) → part chain ≡ Ok v → next ≡ told ++ v ∷ []
        → all ≡ (each_verdict part (map view (drop (i + 1) xs)) >>= λ others. Ok (next ++ others))
    one_verdict next v here pushed =
        after_this
        ∙ (ap (λ r. each_here r (each_verdict part (map view (drop (i + 1) xs))) >>= λ others. Ok (told ++ others)) here
        ∙ (push_verdict told v (each_verdict part (map view (drop (i + 1) xs)))
        ∙ ap (λ (l : List Verdict). each_verdict part (map view (drop (i + 1) xs)) >>= λ others. Ok (l ++ others)) (sym pushed)))

    pub verdict_error : (e : SpecializeError) → Fails e (part chain) → Fails e all
    verdict_error errors.Memory here = tt
    verdict_error (errors.Fault fault) here =
        after_this ∙ ap (λ r. each_here r (each_verdict part (map view (drop (i + 1) xs))) >>= λ others. Ok (told ++ others)) here

  module _ (p : Chain → Bool) where
    abbrev left_over : List Chain
    left_over = filter p (map view (drop (i + 1) xs))

    chosen : (b : Bool) → p (view x) ≡ b → filter p (map view (drop i xs)) ≡ cond b (view x ∷ left_over) left_over
    chosen b h = ap (filter p) parts ∙ ap (λ t. cond t (view x ∷ left_over) left_over) h

    module _ (all : Result Verdict SpecializeFault) (v : Verdict)
        (h : all ≡ with_parts part v (filter p (map view (drop i xs)))) where
      -- a leaf: its part has a verdict, or none
      module _ (chain : Chain) (same : chain ≡ view x) (leaf : p (view x) ≡ true) where
        with_this : all ≡ (part chain >>= λ verdict. with_parts part (both v verdict) left_over)
        with_this =
            h ∙ (ap (with_parts part v) (chosen true leaf)
            ∙ ap (λ c. part c >>= λ verdict. with_parts part (both v verdict) left_over) (sym same))

        pub one_leaf : (w next : Verdict) → part chain ≡ Ok w → next ≡ both v w → all ≡ with_parts part next left_over
        one_leaf w next here is_next =
            with_this ∙ (ap (λ r. r >>= λ verdict. with_parts part (both v verdict) left_over) here
            ∙ ap (λ (k : Verdict). with_parts part k left_over) (sym is_next))

        pub leaf_error : (e : SpecializeError) → Fails e (part chain) → Fails e all
        leaf_error errors.Memory here = tt
        leaf_error (errors.Fault fault) here =
            with_this ∙ ap (λ r. r >>= λ verdict. with_parts part (both v verdict) left_over) here

      -- any other node
      pub other_node : (next : Verdict) → p (view x) ≡ false → next ≡ v → all ≡ with_parts part next left_over
      other_node next no_leaf is_next =
          h ∙ (ap (with_parts part v) (chosen false no_leaf) ∙ ap (λ (k : Verdict). with_parts part k left_over) (sym is_next))

pub and_right_false : (a b : Bool) → b ≡ false → (a && b) ≡ false
and_right_false true b h = h
and_right_false false b h = refl
