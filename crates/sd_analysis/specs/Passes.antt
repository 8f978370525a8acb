-- One pass of the check by itself: which SIDs a token has for it, and what these show of two descriptors.
use Rattle.std.specs.Prelude.{ℕ, ◌/◌, ◌%◌, [], ◌∷◌, Bool, false, not, ◌&&◌, ◌||◌, ◌==◌, List, Option, Some, None}
use Rattle.std.specs.Prelude.{if◌then◌else◌}
use Rattle.sd_sid.specs.Mapping.{MappingValue}
use Rattle.sd_sid.specs.Sid.{SidValue, same_sid}
use Rattle.sd_acl.specs.declared.ace.AceKind.{AceKind}
use Rattle.sd_acl.specs.declared.ace.AceKind.TheVariants.{Allow}
use Rattle.sd_check.specs.Check.{acl_grants, limits_owner, subject}
use Rattle.sd_check.specs.Token.{TokenValue, a_group_stands_for, is_restricting, stands_for}
use Rattle.sd_check.specs.declared.grounds.Pass.{Pass}
use Rattle.sd_check.specs.declared.grounds.Pass.TheVariants.{First, Second}
use Rattle.sd_check.specs.declared.token.GroupState.{GroupState}
use Rattle.sd_analysis.specs.Sufficient.{Parts, has_sid, with_denied}
use Rattle.sd_analysis.specs.declared.witness.Demand.{Demand}
use Rattle.sd_analysis.specs.declared.witness.PassSids.{PassSids}

-- whom a token stands for in the pass, in entries of a kind
abbrev pub stands_in : Pass → TokenValue → AceKind → SidValue → Bool
stands_in First t = stands_for t
stands_in Second t = λ kind. is_restricting t

-- whom a base with the SIDs stands for, in entries of a kind: in the second pass the base has no part
abbrev pub sids_stand : Pass → List (SidValue × GroupState) → PassSids → AceKind → SidValue → Bool
sids_stand First base sids = λ kind s. same_sid sids.allowed s
    || a_group_stands_for (with_denied base sids.denied) kind s
sids_stand Second base sids = λ kind s. same_sid sids.allowed s || has_sid sids.denied s

-- an entry of the kind for somebody applies
abbrev pub about : (AceKind → SidValue → Bool) → AceKind → Option SidValue → Bool
about stands kind None = false
about stands kind (Some s) = stands kind s

-- the descriptor grants the bit by its DACL, in a pass for which somebody stands for these
abbrev pub lists : MappingValue → Parts → (AceKind → SidValue → Bool) → ℕ → Bool
lists g parts stands = acl_grants g (λ kind s. about stands kind (subject parts.owner s)) parts.dacl

-- the descriptor grants the bit as the owner's, in a pass for which somebody stands for these
abbrev pub owns : Parts → (AceKind → SidValue → Bool) → ℕ → Bool
owns parts stands b = (about stands Allow parts.owner && not (limits_owner parts.dacl)) && (b == 17 || b == 18)

-- what is demanded holds in the pass
abbrev pub meets : MappingValue → Parts → Parts → Demand → (AceKind → SidValue → Bool) → ℕ → Bool
meets g old new demand stands b =
    (if demand.by_owner then owns new stands b else lists g new stands b)
    && (not (demand.unlisted && lists g old stands b) && not (demand.unowned && owns old stands b))

-- S-1-0-H-L, where the number is H * 2^32 + L
abbrev pub numbered : ℕ → SidValue
numbered n = record { authority = 0; subs = n / 4294967296 ∷ n % 4294967296 ∷ [] }
