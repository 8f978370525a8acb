-- What holds of changes, over all descriptors.
use Rattle.std.specs.Prelude.{◌≡◌, false}
use Rattle.sd_sid.specs.Sid.{SidValue, same_sid}
use Rattle.sd_whole.specs.declared.descriptor.WholeDescriptor.{WholeDescriptor}
use Rattle.sd_change.specs.declared.change.Change.{Change}
use Rattle.sd_change.specs.declared.change.Change.TheVariants.{Replace, Remove}
use Rattle.sd_change.specs.Change.{concerns, descriptor_after}
use Rattle.sd_change.specs.Occurrence.{has_entry_for, occurs}

-- a descriptor that a change doesn't concern stays as it is
abbrev pub Stays : Type 0
Stays = (change : Change) (d : WholeDescriptor) → concerns change d ≡ false
    → descriptor_after change d ≡ d

-- what was replaced by another SID is nowhere
abbrev pub NothingIsLeft : Type 0
NothingIsLeft = (old new : SidValue) (d : WholeDescriptor) → same_sid old new ≡ false
    → occurs old (descriptor_after (Replace old new) d) ≡ false

-- no entry is for what was removed
abbrev pub NoEntryIsLeft : Type 0
NoEntryIsLeft = (sid : SidValue) (d : WholeDescriptor) → has_entry_for sid (descriptor_after (Remove sid) d) ≡ false

-- replacing back undoes it, where the new SID was nowhere
abbrev pub BackUndoesIt : Type 0
BackUndoesIt = (old new : SidValue) (d : WholeDescriptor) → occurs new d ≡ false
    → descriptor_after (Replace new old) (descriptor_after (Replace old new) d) ≡ d
