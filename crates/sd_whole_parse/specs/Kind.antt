-- The types of entries ([MS-DTYP] 2.5.1.1, ace-type).
use Rattle.std.specs.Prelude.{List, [], ◌∷◌, drop, codes}
use Rattle.sd_text.specs.Grammar.{Grammar, Name, name_for, refused, choose, one_of}
use Rattle.sd_text.specs.Sid.{begins_letter}
use Rattle.sd_text.specs.declared.fault.TextFault.TheVariants.{Syntax, EntryKind}
use Rattle.sd_whole.specs.declared.kind.WholeKind.{WholeKind}
use Rattle.sd_whole.specs.declared.kind.WholeKind.TheVariants.{Allow, Deny, Audit, Alarm, ObjectAllow, ObjectDeny}
use Rattle.sd_whole.specs.declared.kind.WholeKind.TheVariants.{ObjectAudit, ObjectAlarm, CallbackAllow, CallbackDeny}
use Rattle.sd_whole.specs.declared.kind.WholeKind.TheVariants.{CallbackObjectAllow, CallbackAudit, MandatoryLabel}
use Rattle.sd_whole.specs.declared.kind.WholeKind.TheVariants.{ResourceAttribute, ScopedPolicy, TrustLabel}
use Rattle.sd_whole.specs.declared.kind.WholeKind.TheVariants.{AccessFilter}

-- the types of one letter
abbrev pub short_kinds : List (Name WholeKind)
short_kinds = name_for (codes "A") Allow ∷ name_for (codes "D") Deny ∷ []

-- the types of two letters
abbrev pub long_kinds : List (Name WholeKind)
long_kinds =
    name_for (codes "AU") Audit ∷ name_for (codes "AL") Alarm
    ∷ name_for (codes "OA") ObjectAllow ∷ name_for (codes "OD") ObjectDeny
    ∷ name_for (codes "OU") ObjectAudit ∷ name_for (codes "OL") ObjectAlarm
    ∷ name_for (codes "XA") CallbackAllow ∷ name_for (codes "XD") CallbackDeny
    ∷ name_for (codes "ZA") CallbackObjectAllow ∷ name_for (codes "XU") CallbackAudit
    ∷ name_for (codes "ML") MandatoryLabel ∷ name_for (codes "RA") ResourceAttribute
    ∷ name_for (codes "SP") ScopedPolicy ∷ name_for (codes "TL") TrustLabel ∷ name_for (codes "FL") AccessFilter ∷ []

-- no type is there
unfoldable pub no_kind : Grammar WholeKind
no_kind = choose begins_letter (refused EntryKind) (refused Syntax)

-- the type of an entry, all the letters there
unfoldable pub whole_kind : Grammar WholeKind
whole_kind = choose (λ text. begins_letter (drop 1 text))
    (choose (λ text. begins_letter (drop 2 text)) no_kind (one_of long_kinds no_kind))
    (one_of short_kinds no_kind)
