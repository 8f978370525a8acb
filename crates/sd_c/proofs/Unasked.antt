-- An analysis without its descriptors, and one whose base is borrowed.
use Rattle.sd_c.proofs.Cited.{AnswersCompare, AnswersLines, AreCompareLines, AreKept, BaseValue, CheckAnswer, CompareAnswer, DescriptorHandle, DescriptorValue, Err, GroupState, Handle, Kept, LineOf, Mapping, MappingValue, NewHandle, NotRead, Ok, Result, SidValue, Stops, ap, descriptor_in, descriptors_in, if◌then◌else◌, inl, inr, is_kept, no_comparison, not_read, refl, subst, ℕ, ◌==◌, ◌>>=◌, ◌∙◌, ◌≡◌}
use Rattle.std.proofs.Common.{List}
use Rattle.sd_c.specs.Analysis.{asked_over, both_kept, kept_in}
use Rattle.sd_c.specs.declared.stop.Stop.TheVariants as stops

-- ---- handles that keep nothing

pub nothing_kept : (handle : Handle) → handle.is_there ≡ 0 → kept_in handle ≡ Err DescriptorHandle
unfolding kept_in
nothing_kept handle none = ap (λ (n : ℕ). is_kept n DescriptorHandle >>= λ u. descriptor_in handle.seal.kept) none

pub no_old : (old new : Handle) → old.is_there ≡ 0 → both_kept old new ≡ Err DescriptorHandle
unfolding both_kept
no_old old new none =
    ap (λ (n : ℕ). is_kept n DescriptorHandle >>= λ u. (is_kept new.is_there NewHandle >>= λ v. descriptors_in old.seal.kept new.seal.kept)) none

pub no_new : (old new : Handle) → old.is_there ≡ 1 → new.is_there ≡ 0 → both_kept old new ≡ Err NewHandle
unfolding both_kept
no_new old new one none =
    ap (λ (n : ℕ). is_kept n DescriptorHandle >>= λ u. (is_kept new.is_there NewHandle >>= λ v. descriptors_in old.seal.kept new.seal.kept)) one
    ∙ ap (λ (n : ℕ). is_kept n NewHandle >>= λ v. descriptors_in old.seal.kept new.seal.kept) none

stops_there : {D : Type 0} (kept : Result D NotRead) (groups states : List ℕ) (mapping : Mapping) (why : NotRead)
    → kept ≡ Err why → Stops kept groups states mapping (stops.NotRead why)
unfolding asked_over
stops_there kept groups states mapping why is = (ap (λ k. asked_over k groups states mapping) is, λ memory. absurd (cc (memory)))

pub no_lines : {D : Type 0} (AreLines : D → BaseValue → List LineOf → Type 0) (kept : Result D NotRead) (groups states : List ℕ)
    (mapping : Mapping) (lines : Handle) (answer : CheckAnswer) (why : NotRead) → lines.is_there ≡ 0 → kept ≡ Err why
    → answer ≡ not_read why → AnswersLines AreLines kept groups states mapping lines lines answer
no_lines AreLines kept groups states mapping lines answer why free is said =
    inr (inl (stops.NotRead why, free, stops_there kept groups states mapping why is, refl, said))

pub no_compare : (kept : Result (DescriptorValue × DescriptorValue) NotRead) (groups states : List ℕ) (mapping : Mapping) (lines : Handle)
    (answer : CompareAnswer) (why : NotRead) → lines.is_there ≡ 0 → kept ≡ Err why → answer ≡ no_comparison (not_read why)
    → AnswersCompare kept groups states mapping lines lines answer
no_compare kept groups states mapping lines answer why free is said =
    inr (inl (stops.NotRead why, free, stops_there kept groups states mapping why is, refl, said))

-- ---- a base that is borrowed

pub of_base : (AreLines : BaseValue → List LineOf → Type 0) (g : MappingValue) (borrowed base : List (SidValue × GroupState)) (kept : Kept)
    → borrowed ≡ base → AreKept (AreLines (record { groups = borrowed; mapping = g })) kept
    → AreKept (AreLines (record { groups = base; mapping = g })) kept
of_base AreLines g borrowed base kept same is =
    subst (λ (groups : List (SidValue × GroupState)). AreKept (AreLines (record { groups = groups; mapping = g })) kept) same is
