-- The types of entries that have a layout ([MS-DTYP] 2.4.4.1, AceType).
use Rattle.std.specs.Prelude.{ℕ, Bool, true, false, ◌==◌, List, [], ◌∷◌, Option, Some, None}
use Rattle.std.specs.List.{find}
use Rattle.sd_acl.specs.declared.ace.AceKind.{AceKind}
use Rattle.sd_acl.specs.declared.ace.AceKind.TheVariants as plain
use Rattle.sd_whole.specs.declared.kind.WholeKind.{WholeKind}
use Rattle.sd_whole.specs.declared.kind.WholeKind.TheVariants.{Allow, Deny, Audit, Alarm, ObjectAllow, ObjectDeny}
use Rattle.sd_whole.specs.declared.kind.WholeKind.TheVariants.{ObjectAudit, ObjectAlarm, CallbackAllow, CallbackDeny}
use Rattle.sd_whole.specs.declared.kind.WholeKind.TheVariants.{CallbackObjectAllow, CallbackObjectDeny}
use Rattle.sd_whole.specs.declared.kind.WholeKind.TheVariants.{CallbackAudit, CallbackObjectAudit, MandatoryLabel}
use Rattle.sd_whole.specs.declared.kind.WholeKind.TheVariants.{ResourceAttribute, ScopedPolicy, TrustLabel}
use Rattle.sd_whole.specs.declared.kind.WholeKind.TheVariants.{AccessFilter}

-- AceType
abbrev pub kind_number : WholeKind → ℕ
kind_number Allow = 0x00
kind_number Deny = 0x01
kind_number Audit = 0x02
kind_number Alarm = 0x03
kind_number ObjectAllow = 0x05
kind_number ObjectDeny = 0x06
kind_number ObjectAudit = 0x07
kind_number ObjectAlarm = 0x08
kind_number CallbackAllow = 0x09
kind_number CallbackDeny = 0x0a
kind_number CallbackObjectAllow = 0x0b
kind_number CallbackObjectDeny = 0x0c
kind_number CallbackAudit = 0x0d
kind_number CallbackObjectAudit = 0x0f
kind_number MandatoryLabel = 0x11
kind_number ResourceAttribute = 0x12
kind_number ScopedPolicy = 0x13
kind_number TrustLabel = 0x14
kind_number AccessFilter = 0x15

-- all kinds
abbrev pub kinds : List WholeKind
kinds =
    Allow ∷ Deny ∷ Audit ∷ Alarm ∷ ObjectAllow ∷ ObjectDeny ∷ ObjectAudit ∷ ObjectAlarm ∷ CallbackAllow ∷
    CallbackDeny ∷ CallbackObjectAllow ∷ CallbackObjectDeny ∷ CallbackAudit ∷ CallbackObjectAudit ∷
    MandatoryLabel ∷ ResourceAttribute ∷ ScopedPolicy ∷ TrustLabel ∷ AccessFilter ∷ []

-- the kind of an AceType: 0x04, 0x0e and 0x10 are reserved
abbrev pub kind_of : ℕ → Option WholeKind
kind_of number = find (λ kind. kind_number kind == number) kinds

-- entries of the kind say for which types of objects they are (2.4.4.3)
abbrev pub has_object_types : WholeKind → Bool
has_object_types ObjectAllow = true
has_object_types ObjectDeny = true
has_object_types ObjectAudit = true
has_object_types ObjectAlarm = true
has_object_types CallbackObjectAllow = true
has_object_types CallbackObjectDeny = true
has_object_types CallbackObjectAudit = true
has_object_types _ = false

-- allows and denies are plain kinds
abbrev pub plain_kind : WholeKind → Option AceKind
plain_kind Allow = Some plain.Allow
plain_kind Deny = Some plain.Deny
plain_kind _ = None
