-- Two SIDs per pass are enough to tell two descriptors apart. What a token is granted depends on the first entry that
-- decides, in each descriptor and in each pass. Keep of the token the base, the SID through which the new descriptor
-- grants, and the SID through which the old one denies: both still decide, since no entry came to apply. All other SIDs
-- can go.
use Rattle.std.specs.Prelude.{◌≡◌, ℕ, Bool, true, false, not, ◌&&◌, ◌||◌, List, [], ◌∷◌, ◌++◌, Option, Some, None}
use Rattle.std.specs.Prelude.{if◌then◌else◌}
use Rattle.std.specs.List.{list_any, filter_map}
use Rattle.std.specs.Option.{option_to_list}
use Rattle.sd_sid.specs.Mapping.{MappingValue}
use Rattle.sd_sid.specs.Sid.{SidValue, same_sid}
use Rattle.sd_acl.specs.Ace.{is_allow, is_inherit_only}
use Rattle.sd_acl.specs.declared.ace.Ace.{Ace}
use Rattle.sd_acl.specs.declared.ace.AceKind.{AceKind}
use Rattle.sd_check.specs.Check.{entries_of, is_granted, subject}
use Rattle.sd_check.specs.Token.{TokenValue, no_privileges}
use Rattle.sd_check.specs.declared.token.GroupState.{GroupState}
use Rattle.sd_check.specs.declared.token.GroupState.TheVariants.{Enabled, DenyOnly}
use Rattle.sd_analysis.specs.Base.{HasBase}
use Rattle.sd_analysis.specs.declared.compare_sides.DescriptorRef.{DescriptorRef}
use Rattle.sd_analysis.specs.declared.witness.PassSids.{PassSids}
use Rattle.sd_analysis.specs.declared.witness.Witness.{Witness}

-- a descriptor, as far as a check looks at it
pub record Parts : Type 0 where
  pub owner : Option SidValue
  pub dacl : Option (List Ace)

abbrev pub parts_of : DescriptorRef → Parts
parts_of d = record { owner = d.owner; dacl = entries_of d.dacl }

-- one with this owner and this list
abbrev pub parts_with : Option SidValue → List Ace → Parts
parts_with owner es = record { owner = owner; dacl = Some es }

-- the token is granted the bit by the new descriptor, and not by the old one
abbrev pub gains : MappingValue → Parts → Parts → TokenValue → ℕ → Bool
gains g old new t b = is_granted new.owner new.dacl g t b && not (is_granted old.owner old.dacl g t b)

-- the base, and one more group for denies alone
abbrev pub with_denied : List (SidValue × GroupState) → Option SidValue → List (SidValue × GroupState)
with_denied base None = base
with_denied base (Some s) = (s, DenyOnly) ∷ base

abbrev pub restricting_of : Option PassSids → List SidValue
restricting_of None = []
restricting_of (Some sids) = sids.allowed ∷ option_to_list sids.denied

-- the token that a witness is
abbrev pub token_of : List (SidValue × GroupState) → Witness → TokenValue
token_of base w = record {
  user = w.first.allowed;
  user_state = Enabled;
  groups = with_denied base w.first.denied;
  restricting = restricting_of w.second;
  privileges = no_privileges;
}

-- ---- the SIDs that may decide

abbrev pub entries_or_none : Option (List Ace) → List Ace
entries_or_none None = []
entries_or_none (Some es) = es

abbrev pub is_of_kind : Bool → AceKind → Bool
is_of_kind true kind = is_allow kind
is_of_kind false kind = not (is_allow kind)

-- whom the entry speaks of, where it is effective, and allows (true) or denies (false)
abbrev pub subject_if : Bool → Option SidValue → Ace → Option SidValue
subject_if allows owner e = if (not (is_inherit_only e) && is_of_kind allows e.kind) then subject owner e.sid else None

abbrev pub subjects_in : Bool → Parts → List SidValue
subjects_in allows parts = filter_map (subject_if allows parts.owner) (entries_or_none parts.dacl)

abbrev pub has_sid : Option SidValue → SidValue → Bool
has_sid None s = false
has_sid (Some one) s = same_sid one s

-- the descriptor names the SID, as the owner or in an entry
abbrev pub is_named : Parts → SidValue → Bool
is_named parts s = has_sid parts.owner s || list_any (λ (e : Ace). same_sid e.sid s) (entries_or_none parts.dacl)

-- whom the new descriptor may grant a bit through, where `other` is a SID that neither descriptor names
abbrev pub allowed_sids : SidValue → Parts → List SidValue
allowed_sids other new = other ∷ (option_to_list new.owner ++ subjects_in true new)

-- whom the old descriptor may deny a bit through
abbrev pub denied_sids : Parts → List SidValue
denied_sids old = subjects_in false old

abbrev pub is_among : List SidValue → SidValue → Bool
is_among sids s = list_any (λ one. same_sid one s) sids

-- SIDs that may decide
pub record MayDecide (other : SidValue) (old new : Parts) (sids : PassSids) : Type 0 where
  pub allowed : is_among (allowed_sids other new) sids.allowed ≡ true
  pub denied : (s : SidValue) → sids.denied ≡ Some s → is_among (denied_sids old) s ≡ true

-- the witness's SIDs may decide, in the pass of the user and the groups and in that of the restricting SIDs
pub record WitnessMayDecide (other : SidValue) (old new : Parts) (w : Witness) : Type 0 where
  pub first : MayDecide other old new w.first
  pub second : (sids : PassSids) → w.second ≡ Some sids → MayDecide other old new sids

-- ---- the law

-- if some token with the base gains the bit, so does one with two SIDs per pass, each of which may decide
abbrev pub TwoSidsPerPassSuffice : Type 0
TwoSidsPerPassSuffice =
    (g : MappingValue) (old new : Parts) (base : List (SidValue × GroupState)) (t : TokenValue) (b : ℕ)
    (other : SidValue)
    → is_named old other ≡ false → is_named new other ≡ false
    → HasBase base t → gains g old new t b ≡ true
    → (w : Witness) × (WitnessMayDecide other old new w × (gains g old new (token_of base w) b ≡ true))

abbrev pub WitnessHasBase : Type 0
WitnessHasBase = (base : List (SidValue × GroupState)) (w : Witness) → HasBase base (token_of base w)
