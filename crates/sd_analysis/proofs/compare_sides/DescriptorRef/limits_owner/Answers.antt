use Rattle.sd_analysis.proofs.Cited.{Ace, List, None, Option, Some, ap, entries_of, entries_or_none, limits_owner, refl, ◌∙◌, ◌≡◌}
use Rattle.sd_analysis.proofs.compare_sides.DescriptorRef.limits_owner.Goals as goal

-- a missing list limits nobody, nor does an empty one
same_limits : (dacl : Option (List Ace)) → limits_owner (Some (entries_or_none dacl)) ≡ limits_owner dacl
same_limits None = refl
same_limits (Some es) = refl

pub returns : goal.returns
returns c = c.limits_owner.ensures ∙ ap (λ es. limits_owner (Some es)) c.entries.ensures ∙ same_limits (entries_of c.args.self.now.dacl)
