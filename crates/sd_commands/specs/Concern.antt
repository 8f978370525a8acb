-- The value of `--concern`: SIDs that are of concern to risks beside those of every list.
use Rattle.std.specs.Prelude.{◌≡◌, ◌⊎◌, ℕ, Bool, false, ◌||◌, if◌then◌else◌, List, [], ◌∷◌, ◌++◌, length, take}
use Rattle.std.specs.Prelude.{Option, Some, None, codes}
use Rattle.sd_sid.specs.Sid.{SidValue, owner_rights, same_sid}
use Rattle.sd_inheritance.specs.Inheritance.{creator_group, creator_owner}
use Rattle.sd_text.specs.Grammar.{HasFault, Spells}
use Rattle.sd_text.specs.Sid.{sid_text_in}
use Rattle.sd_text.specs.declared.alias.Aliases.{Aliases}
use Rattle.sd_text.specs.declared.fault.TextFault.{TextFault}
use Rattle.sd_answer.specs.Word.{AreEach}
use Rattle.sd_commands.specs.Diagnostic.{at_byte, fault_text}
use Rattle.sd_commands.specs.Mapping.{between_commas}
use Rattle.sd_commands.specs.Pointer.{pointed}
use Rattle.sd_commands.specs.declared.concern.Concern.{Concern}

abbrev pub sids_of : Concern → List SidValue
sids_of concern = take concern.count concern.sids

-- ---- SIDs that no token has

-- OWNER_SERVER, S-1-3-2, and GROUP_SERVER, S-1-3-3 ([MS-DTYP] 2.4.2.4)
abbrev pub owner_server : SidValue
owner_server = record { authority = 3; subs = 2 ∷ [] }

abbrev pub group_server : SidValue
group_server = record { authority = 3; subs = 3 ∷ [] }

-- the SID stands for whoever creates or owns an object, or for the server of one of these: no token has it (2.4.2.4)
abbrev pub is_placeholder : SidValue → Bool
is_placeholder s = (same_sid s creator_owner || same_sid s creator_group)
    || ((same_sid s owner_server || same_sid s group_server) || same_sid s owner_rights)

-- ---- the option's value

-- the text is this SID, which a token can have
abbrev pub IsSidOfToken : Aliases → List ℕ → SidValue → Type 0
IsSidOfToken known text sid = Spells (sid_text_in known) text sid × (is_placeholder sid ≡ false)

-- the texts between commas are these SIDs, one for one
abbrev pub AreSids : Aliases → List ℕ → List SidValue → Type 0
AreSids known text sids = AreEach (IsSidOfToken known) (between_commas text) sids

-- the SIDs of the option's value, and none without it
abbrev pub GivesConcern : Aliases → Option (List ℕ) → List SidValue → Type 0
GivesConcern known None sids = sids ≡ []
GivesConcern known (Some text) sids = AreSids known text sids

-- behind these SIDs the text is no SID that a token can have, or one too many: there are at most 16
abbrev pub IsUnfit : Aliases → List SidValue → List ℕ → Type 0
IsUnfit known sids text = ((sid : SidValue) → IsSidOfToken known text sid → ⊥) ⊎ (length sids ≡ 16)

-- it is the first such text of these, before which are SIDs
abbrev pub IsFirstUnfit : Aliases → List SidValue → List (List ℕ) → List ℕ → Type 0
IsFirstUnfit known sids [] part = ⊥
IsFirstUnfit known sids (text ∷ texts) part =
    (IsUnfit known sids text × (part ≡ text))
    ⊎ ((sid : SidValue) × IsSidOfToken known text sid × IsFirstUnfit known (sids ++ sid ∷ []) texts part)

-- the text is there, and this part of it is the first that is no SID that a token can have, or one too many
abbrev pub GivesNoConcern : Aliases → Option (List ℕ) → List ℕ → Type 0
GivesNoConcern known None part = ⊥
GivesNoConcern known (Some text) part = IsFirstUnfit known [] (between_commas text) part

-- ---- why a part isn't taken

-- no token has the SID, which is at the text's first byte; or it is one too many
abbrev pub unfit_text : Bool → List ℕ → SidValue → List ℕ
unfit_text points text sid =
    if is_placeholder sid then at_byte (codes "no SID of a user or a group") 0 ++ pointed points text 0
    else codes "one SID too many: at most 16"

-- that, or the first fault of the text
abbrev pub IsConcernReason : Bool → Aliases → List ℕ → List ℕ → Type 0
IsConcernReason points known text reason =
    ((sid : SidValue) × Spells (sid_text_in known) text sid × (reason ≡ unfit_text points text sid))
    ⊎ ((fault : TextFault) × (place : ℕ) × HasFault (sid_text_in known) text fault place
    × (reason ≡ fault_text points text fault place))
