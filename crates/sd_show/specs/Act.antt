-- What an entry does, by its type ([MS-DTYP] 2.4.4.1, AceType).
use Rattle.std.specs.Prelude.{ℕ, nat_lt, Bool, true, false, List, [], ◌∷◌, ◌++◌, codes, if◌then◌else◌}
use Rattle.sd_sid.specs.Sid.{SidValue}
use Rattle.sd_line.specs.Line.{PartOf, part_of}
use Rattle.sd_line.specs.declared.line.Value.TheVariants.{Mask, Sid, Text, Words}
use Rattle.sd_whole.specs.declared.kind.WholeKind.{WholeKind}
use Rattle.sd_whole.specs.declared.kind.WholeKind.TheVariants as kinds
use Rattle.sd_wire.specs.Reading.{is_set}
use Rattle.sd_show.specs.Control.{BitWord, words_set}
use Rattle.sd_show.specs.declared.act.Act.{Act}
use Rattle.sd_show.specs.declared.act.Act.TheVariants.{Allow, Deny, Audit, Alarm, Label, Attribute, Policy, TrustLabel}
use Rattle.sd_show.specs.declared.act.Act.TheVariants.{Filter}
use Rattle.sd_show.specs.declared.forms.TheConstants.{ACCESS, AUDIT, LABEL, LIMIT, OF_SID, OTHER_MASK}

abbrev pub act_of : WholeKind → Act
act_of kinds.Allow = Allow
act_of kinds.ObjectAllow = Allow
act_of kinds.CallbackAllow = Allow
act_of kinds.CallbackObjectAllow = Allow
act_of kinds.Deny = Deny
act_of kinds.ObjectDeny = Deny
act_of kinds.CallbackDeny = Deny
act_of kinds.CallbackObjectDeny = Deny
act_of kinds.Audit = Audit
act_of kinds.ObjectAudit = Audit
act_of kinds.CallbackAudit = Audit
act_of kinds.CallbackObjectAudit = Audit
act_of kinds.Alarm = Alarm
act_of kinds.ObjectAlarm = Alarm
act_of kinds.MandatoryLabel = Label
act_of kinds.ResourceAttribute = Attribute
act_of kinds.ScopedPolicy = Policy
act_of kinds.TrustLabel = TrustLabel
act_of kinds.AccessFilter = Filter

abbrev pub word_of : Act → List ℕ
word_of Allow = codes "allows"
word_of Deny = codes "denies"
word_of Audit = codes "audits"
word_of Alarm = codes "raises alarms on"
word_of Label = codes "integrity label"
word_of Attribute = codes "resource attribute for"
word_of Policy = codes "central policy"
word_of TrustLabel = codes "process trust label"
word_of Filter = codes "access filter"

-- what an audit is of: the flags SA and FA
abbrev pub outcome_text : (success failure : Bool) → List ℕ
outcome_text true true = codes "success and failure"
outcome_text true false = codes "success"
outcome_text false true = codes "failure"
outcome_text false false = codes "nothing"

abbrev pub outcome_of : ℕ → List ℕ
outcome_of flags = outcome_text (is_set 0x40 flags) (is_set 0x80 flags)

-- what a label denies to lower levels (2.4.4.13)
abbrev pub policy_words : List BitWord
policy_words = (1, codes "no-write-up") ∷ (2, codes "no-read-up") ∷ (4, codes "no-execute-up") ∷ []

-- a mask that has more bits than these
abbrev pub other_mask_parts : (most mask : ℕ) → List PartOf
other_mask_parts most mask = if nat_lt most mask then part_of OTHER_MASK.now (Mask mask ∷ []) ∷ [] else []

-- the flags ID, NP and CR (CRITICAL_ACE_FLAG)
abbrev pub common_flags : List BitWord
common_flags = (0x10, codes "inherited") ∷ (0x04, codes "one-level-only") ∷ (0x20, codes "critical") ∷ []

-- the words of the flags but OI, CI and IO; SA and FA are said in another place of an audit, and SA has another name in
-- a filter (TRUST_PROTECTED_FILTER_ACE_FLAG)
abbrev pub flag_words : Act → List BitWord
flag_words Audit = common_flags
flag_words Alarm = common_flags
flag_words Filter = common_flags ++ (0x40, codes "trust-protected") ∷ (0x80, codes "failure") ∷ []
flag_words act = common_flags ++ (0x40, codes "success") ∷ (0x80, codes "failure") ∷ []

-- what an entry does, with its word, its flags, its mask and its SID
abbrev pub parts_by : Act → List ℕ → ℕ → ℕ → SidValue → List PartOf
parts_by Allow word flags mask sid = part_of ACCESS.now (Text word ∷ Mask mask ∷ Sid sid ∷ []) ∷ []
parts_by Deny word flags mask sid = part_of ACCESS.now (Text word ∷ Mask mask ∷ Sid sid ∷ []) ∷ []
parts_by Audit word flags mask sid =
    part_of AUDIT.now (Text word ∷ Text (outcome_of flags) ∷ Mask mask ∷ Sid sid ∷ []) ∷ []
parts_by Alarm word flags mask sid =
    part_of AUDIT.now (Text word ∷ Text (outcome_of flags) ∷ Mask mask ∷ Sid sid ∷ []) ∷ []
parts_by Label word flags mask sid =
    part_of LABEL.now (Text word ∷ Sid sid ∷ Words (words_set policy_words mask) ∷ []) ∷ other_mask_parts 7 mask
parts_by Attribute word flags mask sid = part_of OF_SID.now (Text word ∷ Sid sid ∷ []) ∷ other_mask_parts 0 mask
parts_by Policy word flags mask sid = part_of OF_SID.now (Text word ∷ Sid sid ∷ []) ∷ other_mask_parts 0 mask
parts_by TrustLabel word flags mask sid = part_of LIMIT.now (Text word ∷ Mask mask ∷ Sid sid ∷ []) ∷ []
parts_by Filter word flags mask sid = part_of LIMIT.now (Text word ∷ Mask mask ∷ Sid sid ∷ []) ∷ []

abbrev pub act_parts : Act → ℕ → ℕ → SidValue → List PartOf
act_parts act flags mask sid = parts_by act (word_of act) flags mask sid
