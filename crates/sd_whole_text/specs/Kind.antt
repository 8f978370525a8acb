-- The letters of the types of entries ([MS-DTYP] 2.5.1.1, ace-type).
use Rattle.std.specs.Prelude.{ℕ, List, [], codes}
use Rattle.sd_acl.specs.declared.ace.AceKind.{AceKind}
use Rattle.sd_acl.specs.declared.ace.AceKind.TheVariants as plain
use Rattle.sd_whole.specs.declared.kind.WholeKind.{WholeKind}
use Rattle.sd_whole.specs.declared.kind.WholeKind.TheVariants.{Allow, Deny, Audit, Alarm, ObjectAllow, ObjectDeny}
use Rattle.sd_whole.specs.declared.kind.WholeKind.TheVariants.{ObjectAudit, ObjectAlarm, CallbackAllow, CallbackDeny}
use Rattle.sd_whole.specs.declared.kind.WholeKind.TheVariants.{CallbackObjectAllow, CallbackObjectDeny}
use Rattle.sd_whole.specs.declared.kind.WholeKind.TheVariants.{CallbackAudit, CallbackObjectAudit, MandatoryLabel}
use Rattle.sd_whole.specs.declared.kind.WholeKind.TheVariants.{ResourceAttribute, ScopedPolicy, TrustLabel}
use Rattle.sd_whole.specs.declared.kind.WholeKind.TheVariants.{AccessFilter}

-- an allow or a deny as a kind
abbrev pub kind_of_plain : AceKind → WholeKind
kind_of_plain plain.Allow = Allow
kind_of_plain plain.Deny = Deny

-- the letters of a type: 0x0c and 0x0f have none
abbrev pub letters_of : WholeKind → List ℕ
letters_of Allow = codes "A"
letters_of Deny = codes "D"
letters_of Audit = codes "AU"
letters_of Alarm = codes "AL"
letters_of ObjectAllow = codes "OA"
letters_of ObjectDeny = codes "OD"
letters_of ObjectAudit = codes "OU"
letters_of ObjectAlarm = codes "OL"
letters_of CallbackAllow = codes "XA"
letters_of CallbackDeny = codes "XD"
letters_of CallbackObjectAllow = codes "ZA"
letters_of CallbackObjectDeny = []
letters_of CallbackAudit = codes "XU"
letters_of CallbackObjectAudit = []
letters_of MandatoryLabel = codes "ML"
letters_of ResourceAttribute = codes "RA"
letters_of ScopedPolicy = codes "SP"
letters_of TrustLabel = codes "TL"
letters_of AccessFilter = codes "FL"
