-- What `who` finds: whom rights are granted to, of the tokens that have the base.
use Rattle.std.specs.Prelude.{◌≡◌, ◌==◌, ℕ, MatchBool, List, [], ◌++◌, if◌then◌else◌, length}
use Rattle.sd_sid.specs.Mapping.{MappingValue}
use Rattle.sd_sid.specs.Sid.{SidValue}
use Rattle.sd_acl.specs.Descriptor.{DescriptorValue}
use Rattle.sd_check.specs.Check.{dacl_entries}
use Rattle.sd_check.specs.declared.token.GroupState.{GroupState}
use Rattle.sd_analysis.specs.Descendants.{AreDescendantAccesses}
use Rattle.sd_analysis.specs.Who.{AllBeyond, HasEachOnce, IsMost, IsWho}
use Rattle.sd_analysis.specs.declared.descendants_who.DescendantAccess.{DescendantAccess}
use Rattle.sd_analysis.specs.declared.who_has.Access.{Access}
use Rattle.sd_answer.specs.Descendants.{descendants_who_lines}
use Rattle.sd_answer.specs.Parts.{entries_in}
use Rattle.sd_answer.specs.Who.{rights_asked, who_lines}
use Rattle.sd_line.specs.Line.{LineOf}
use Rattle.sd_commands.specs.declared.settings.Settings.{Settings}

-- these are whom the rights are granted to
pub record AreAccesses (g : MappingValue) (d : DescriptorValue) (base : List (SidValue × GroupState)) (rights : ℕ)
    (accesses : List Access) : Type 0 where
  pub exact : IsWho d.owner (dacl_entries d.dacl) g base rights accesses
  pub most : IsMost d.owner (dacl_entries d.dacl) g base rights accesses
  pub each : HasEachOnce rights accesses
  pub beyond : AllBeyond base accesses

-- the lines about what is made in the object, if it is a container, where they are asked for
abbrev pub AreBelowLines : Settings → DescriptorValue → List (SidValue × GroupState) → ℕ → List LineOf → Type 0
AreBelowLines settings d base rights lines = MatchBool settings.below
    ((all : List DescendantAccess) × AreDescendantAccesses settings.mapping base (entries_in d.dacl) rights all
    × (lines ≡ descendants_who_lines all))
    (lines ≡ [])

-- the object's own lines, and then those; none where no right is asked about
abbrev pub with_below : List LineOf → List LineOf → List LineOf
with_below own below = if length own == 0 then [] else own ++ below

-- the lines of whom the rights are granted to
abbrev pub AreWhoLines : Settings → ℕ → DescriptorValue → List (SidValue × GroupState) → List LineOf → Type 0
AreWhoLines settings asked d base lines = (accesses : List Access) × (below : List LineOf)
    × AreAccesses settings.mapping d base (rights_asked settings.mapping asked) accesses
    × AreBelowLines settings d base (rights_asked settings.mapping asked) below
    × (lines ≡ with_below (who_lines accesses) below)
