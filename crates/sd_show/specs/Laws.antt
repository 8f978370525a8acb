-- What holds of the lines of `diff`.
use Rattle.std.specs.Prelude.{◌≡◌, ℕ, Bool, List, [], map}
use Rattle.sd_whole.specs.declared.descriptor.WholeDescriptor.{WholeDescriptor}
use Rattle.sd_wire.specs.Reading.{is_set}
use Rattle.sd_show.specs.Control.{BitWord, bits_of}
use Rattle.sd_show.specs.Diff.{changes}
use Rattle.sd_show.specs.declared.control.Field.{Field}

-- which of the control bits of a part are set
abbrev pub bits_set : Field → ℕ → List Bool
bits_set field control = map (λ (one : BitWord). is_set one.0 control) (bits_of field)

-- both have the same owner, group, resource manager's byte, lists with revision and entries, and control bits, but for
-- those that follow from what is there
pub record AreAlike (a b : WholeDescriptor) : Type 0 where
  pub owner : a.owner ≡ b.owner
  pub group : a.group ≡ b.group
  pub resource_manager : a.resource_manager ≡ b.resource_manager
  pub control : (field : Field) → bits_set field a.control ≡ bits_set field b.control
  pub dacl : a.dacl ≡ b.dacl
  pub sacl : a.sacl ≡ b.sacl

-- where `diff` has no line, nothing differs
abbrev pub NoLineMeansAlike : Type 0
NoLineMeansAlike = (old new : WholeDescriptor) → changes old new ≡ [] → AreAlike old new

-- and only there
abbrev pub AlikeHasNoLine : Type 0
AlikeHasNoLine = (old new : WholeDescriptor) → AreAlike old new → changes old new ≡ []
