-- Each union takes in what the mapping gives for one generic place.
use Rattle.sd_sid.proofs.Cited.{Bool, MappingValue, ap, cond, holds, mapped, mask_of, ℕ, ◌||◌, ◌∙◌, ◌≡◌}
use Rattle.sd_sid.proofs.Mapped.{mapped_by_steps}
use Rattle.sd_sid.proofs.mapping.GenericMapping.map.Goals as goal

taken : (before mask result other : ℕ) (test held : Bool)
    → result ≡ mask_of (λ b. holds before b || holds other b) 32 → other ≡ cond test mask 0 → test ≡ held
    → result ≡ mask_of (λ b. holds before b || holds (cond held mask 0) b) 32
taken before mask result other test held union when holds_is =
    union ∙ ap (λ taken_in. mask_of (λ b. holds before b || holds taken_in b) 32) (when ∙ ap (λ t. cond t mask 0) holds_is)

pub returns : goal.returns
returns c =
    let inside = c.self.inside in
    let g : MappingValue = record { read = inside.read; write = inside.write; execute = inside.execute; all = inside.all } in
    mapped_by_steps g c.args.mask c.common.result c.union.result c.union-2.result c.union-3.result c.union-4.result
    c.common.ensures
    (taken _ inside.read _ _ _ _ c.union.ensures c.only_if.ensures c.holds.ensures)
    (taken _ inside.write _ _ _ _ c.union-2.ensures c.only_if-2.ensures c.holds-2.ensures)
    (taken _ inside.execute _ _ _ _ c.union-3.ensures c.only_if-3.ensures c.holds-3.ensures)
    (taken _ inside.all _ _ _ _ c.union-4.ensures c.only_if-4.ensures c.holds-4.ensures)
    ∙ ap (λ v. mapped v c.args.mask) c.self.view_is
