-- The verdict on a node is that of a check that grants what is granted on each of its leaves.
use Rattle.std.proofs.Common.{◌≡◌, ◌∙◌, inl, inr, ℕ, ◌<◌, ◌^◌, Bool, true, false, ◌&&◌, List, [], ◌∷◌, Result, Ok, refl, ap, arith}
use Rattle.std.specs.List.{list_all}
use Rattle.sd_access.specs.Access.{plain_verdict}
use Rattle.sd_acl.specs.Descriptor.{DescriptorValue}
use Rattle.sd_check.proofs.LawProofs.{one_test}
use Rattle.sd_check.specs.Check.{judged}
use Rattle.sd_check.specs.declared.verdict.Verdict.{Verdict}
use Rattle.sd_check.specs.declared.verdict.Verdict.TheVariants.{EmptyRequest}
use Rattle.sd_explain.proofs.Bits.{own_places}
use Rattle.sd_sid.proofs.Masks.{holds_place, mask_of-alike, mask_of-lt}
use Rattle.sd_sid.specs.Mapping.{MappingValue}
use Rattle.sd_sid.specs.Mask.{holds, mask_of}
use Rattle.sd_specialize.specs.Specialize.{◌>>=◌}
use Rattle.sd_specialize.specs.declared.fault.SpecializeFault.{SpecializeFault}
use Rattle.sd_types.proofs.Judged.{judged_both}
use Rattle.sd_types.proofs.Leaves.{has_leaf, leaf_from, longest}
use Rattle.sd_types.specs.Laws.{NodeIsGrantedWhatItsLeavesAre, granted_on, most_on}
use Rattle.sd_types.specs.Tree.{Chain, IsNode, leaves_under}
use Rattle.sd_types.specs.Verdicts.{about, both, common, part_verdict, with_parts}

pub and_assoc : (a b c : Bool) → ((a && b) && c) ≡ (a && (b && c))
and_assoc true b c = refl
and_assoc false b c = refl

and_true : (a : Bool) → a ≡ (a && true)
and_true true = refl
and_true false = refl

module _ (g : MappingValue) (r : ℕ) (part : Chain → Result Verdict SpecializeFault) (granted : Chain → ℕ → Bool) (most : Chain → ℕ) where
  abbrev Judges : List Chain → Type 0
  Judges ns = (n : Chain) → IsNode ns n → part n ≡ Ok (judged g (granted n) (most n) r)

  abbrev all_granted : List Chain → ℕ → Bool
  all_granted ns b = list_all (λ n. granted n b) ns

  abbrev all_most : List Chain → ℕ → Bool
  all_most ns b = list_all (λ n. holds (most n) b) ns

  alike : (p q : ℕ → Bool) (m n : ℕ) → ((b : ℕ) → p b ≡ q b) → m ≡ n → judged g p m r ≡ judged g q n r
  alike p q m n tests masks = ap (λ t. judged g t m r) (one_test p q tests) ∙ ap (λ k. judged g q k r) masks

  -- with the verdict on other parts
  folded : (ns : List Chain) → Judges ns → (p : ℕ → Bool) (m : ℕ) → m < 2 ^ 32
      → with_parts part (judged g p m r) ns
      ≡ Ok (judged g (λ b. p b && all_granted ns b) (mask_of (λ b. holds m b && all_most ns b) 32) r)
  folded [] are p m small =
      ap Ok (alike p (λ b. p b && true) m (mask_of (λ b. holds m b && true) 32) (λ b. and_true (p b))
      (own_places m small ∙ mask_of-alike (holds m) (λ b. holds m b && true) 32 (λ b h. and_true (holds m b))))
  folded (n ∷ ns) are p m small =
      ap (λ (found : Result Verdict SpecializeFault). found >>= λ verdict. with_parts part (both (judged g p m r) verdict) ns) (are n (inl refl))
      ∙ (ap (λ (verdict : Verdict). with_parts part verdict ns) (judged_both g p (granted n) m (most n) r)
      ∙ (folded ns (λ k at. are k (inr at)) (λ b. p b && granted n b) (common m (most n)) (mask_of-lt (λ b. holds m b && holds (most n) b) 32)
      ∙ ap Ok (alike (λ b. (p b && granted n b) && all_granted ns b) (λ b. p b && (granted n b && all_granted ns b))
      (mask_of (λ b. holds (common m (most n)) b && all_most ns b) 32)
      (mask_of (λ b. holds m b && (holds (most n) b && all_most ns b)) 32)
      (λ b. and_assoc (p b) (granted n b) (all_granted ns b))
      (mask_of-alike (λ b. holds (common m (most n)) b && all_most ns b) (λ b. holds m b && (holds (most n) b && all_most ns b)) 32 (λ b h.
      ap (λ x. x && all_most ns b) (holds_place (λ k. holds m k && holds (most n) k) b h)
      ∙ and_assoc (holds m b) (holds (most n) b) (all_most ns b))))))

  pub all_judged : (ns : List Chain) → Judges ns → (first : Chain) × IsNode ns first → ((n : Chain) → most n < 2 ^ 32)
      → with_parts part EmptyRequest ns ≡ Ok (judged g (all_granted ns) (mask_of (all_most ns) 32) r)
  all_judged [] are (first, at) small = absurd at
  all_judged (n ∷ ns) are first small =
      ap (λ (found : Result Verdict SpecializeFault). found >>= λ verdict. with_parts part (both EmptyRequest verdict) ns) (are n (inl refl))
      ∙ folded ns (λ k at. are k (inr at)) (granted n) (most n) (small n)

pub node_is_granted_what_its_leaves_are : NodeIsGrantedWhatItsLeavesAre
node_is_granted_what_its_leaves_are nodes q d plain is are m at =
    let bound = longest q.tree in
    let leaf = has_leaf q.tree bound.0 bound.1 bound.0 m at (omega arith) in
    all_judged q.mapping q.asked (part_verdict q d) (λ n. granted_on q d (plain n)) (λ n. most_on q d (plain n)) (leaves_under q.tree m)
    (λ n under.
    let l = leaf_from q.tree m n under in
    ap (λ found. found >>= λ (p : DescriptorValue). Ok (plain_verdict (about q n) d p)) (are n l.0))
    leaf
    (λ n. mask_of-lt _ 32)
