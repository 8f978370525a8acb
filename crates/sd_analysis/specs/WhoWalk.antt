-- How the alternatives of one right come from the entries of a list.
use Rattle.std.specs.Prelude.{◌≡◌, ℕ, Bool, true, false, not, ◌&&◌, ◌||◌, ◌==◌, nat_le, if◌then◌else◌}
use Rattle.std.specs.Prelude.{List, length, Option, Some, None}
use Rattle.std.specs.Bool.{beq}
use Rattle.std.specs.List.{list_all, list_any}
use Rattle.std.specs.Option.{is_none}
use Rattle.sd_sid.specs.Mask.{holds}
use Rattle.sd_sid.specs.Mapping.{MappingValue, mapped}
use Rattle.sd_sid.specs.Sid.{SidValue, same_sid}
use Rattle.sd_acl.specs.Ace.{is_inherit_only}
use Rattle.sd_acl.specs.declared.ace.Ace.{Ace}
use Rattle.sd_acl.specs.declared.ace.AceKind.TheVariants.{Allow, Deny}
use Rattle.sd_check.specs.Check.{applies, first, is_allowed_by, limits_owner, stands_for_subject}
use Rattle.sd_check.specs.Token.{TokenValue, stands_for}
use Rattle.sd_check.specs.declared.token.GroupState.{GroupState}
use Rattle.sd_analysis.specs.Base.{HasBase}
use Rattle.sd_analysis.specs.Who.{IsBeyond, holds_for}
use Rattle.sd_analysis.specs.declared.who_case.Case.{Case}
use Rattle.sd_analysis.specs.declared.who_has.Holder.{Holder}
use Rattle.sd_analysis.specs.declared.who_has.Holder.TheVariants.{Everyone, Sid, Owner}
use Rattle.sd_analysis.specs.declared.who_walk.Walk.{Walk}

-- the entry is effective, and its mask, with the generic rights mapped, holds the bit
abbrev pub names : MappingValue → ℕ → Ace → Bool
names g b e = not (is_inherit_only e) && holds (mapped g e.mask) b

-- who has the right without an entry: READ_CONTROL and WRITE_DAC, places 17 and 18, are the owner's unless the list
-- limits the owner
abbrev pub implied_holder : Option SidValue → List Ace → ℕ → Option SidValue
implied_holder owner es b = if (b == 17 || b == 18) && not (limits_owner (Some es)) then owner else None

-- the token has the right without an entry, or by these in the first pass
abbrev pub granted_by : Option SidValue → Option SidValue → MappingValue → List Ace → ℕ → TokenValue → Bool
granted_by implied owner g es b t = stands_for_subject t Allow implied || is_allowed_by (first g (applies t owner) es b)

-- none of these entries decides the right in the first pass
abbrev pub undecided_by : Option SidValue → MappingValue → List Ace → ℕ → TokenValue → Bool
undecided_by owner g es b t = is_none (first g (applies t owner) es b)

-- the holder that a SID is, the owner's or not: everyone, where all have it
abbrev pub holder_of : Bool → Bool → SidValue → Holder
holder_of true is_owner s = Everyone
holder_of false true s = Owner s
holder_of false false s = Sid s

-- the holder is the SID
abbrev pub is_of : SidValue → Holder → Bool
is_of s Everyone = false
is_of s (Sid one) = same_sid one s
is_of s (Owner one) = same_sid one s

-- what a walk over entries has come to, where the right is granted to these tokens so far and undecided for those
pub record IsWalk (base : List (SidValue × GroupState)) (granted undecided : TokenValue → Bool) (walk : Walk)
    : Type 0 where
  -- an alternative holds just for those to whom the right is granted
  pub exact : (t : TokenValue) → HasBase base t
      → list_any (holds_for t walk.denied.items) walk.alternatives.items ≡ granted t
  -- while later entries count, the right is undecided for the others that have none of the denied SIDs
  pub while_open : (t : TokenValue) → HasBase base t → walk.is_closed ≡ false → granted t ≡ false
      → undecided t ≡ not (list_any (stands_for t Deny) walk.denied.items)
  -- once no later entry counts, it is decided for everybody else
  pub once_closed : (t : TokenValue) → HasBase base t → walk.is_closed ≡ true → granted t ≡ false
      → undecided t ≡ false
  pub beyond : IsBeyond base walk.denied.items walk.alternatives.items
  -- no alternative asks for more denied SIDs than there are
  pub within : list_all (λ a. nat_le a.unless (length walk.denied.items)) walk.alternatives.items ≡ true

-- ---- of a case

-- the right is granted in the first pass, by the whole list or without an entry
abbrev pub granted_to : Case → ℕ → TokenValue → Bool
granted_to case b =
    granted_by (implied_holder case.owner.now case.entries.now b) case.owner.now case.mapping.now case.entries.now b

-- both rights are the owner's or neither is, and each entry names both or neither: they are granted together
abbrev pub is_alike : Case → ℕ → ℕ → Bool
is_alike case b place =
    beq (b == 17 || b == 18) (place == 17 || place == 18)
    && list_all (λ e. beq (names case.mapping.now b e) (names case.mapping.now place e)) case.entries.now

-- the walk is over these entries
abbrev pub IsWalkOver : Case → Option SidValue → List Ace → ℕ → Walk → Type 0
IsWalkOver case implied seen b =
    IsWalk case.base.now (granted_by implied case.owner.now case.mapping.now seen b)
    (undecided_by case.owner.now case.mapping.now seen b)
