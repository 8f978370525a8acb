-- The letters of a type are parsed as that type.
use Rattle.std.proofs.Common.{List, Ok, refl, ℕ, ◌++◌, ◌<◌, ◌∷◌, ◌≡◌, length, arith}
use Rattle.sd_text.specs.Finding.{find}
use Rattle.sd_whole.specs.declared.kind.WholeKind.{WholeKind}
use Rattle.sd_whole.specs.declared.kind.WholeKind.TheVariants as kinds
use Rattle.sd_whole_parse.specs.Kind.{whole_kind}
use Rattle.sd_whole_text.specs.Kind.{letters_of}

pub kind_read : (kind : WholeKind) (rest : List ℕ) → 0 < length (letters_of kind) → find whole_kind (letters_of kind ++ 59 ∷ rest) ≡ Ok (kind, 59 ∷ rest)
unfolding whole_kind
kind_read kinds.Allow rest some = refl
kind_read kinds.Deny rest some = refl
kind_read kinds.Audit rest some = refl
kind_read kinds.Alarm rest some = refl
kind_read kinds.ObjectAllow rest some = refl
kind_read kinds.ObjectDeny rest some = refl
kind_read kinds.ObjectAudit rest some = refl
kind_read kinds.ObjectAlarm rest some = refl
kind_read kinds.CallbackAllow rest some = refl
kind_read kinds.CallbackDeny rest some = refl
kind_read kinds.CallbackObjectAllow rest some = refl
kind_read kinds.CallbackObjectDeny rest some = absurd (omega arith)
kind_read kinds.CallbackAudit rest some = refl
kind_read kinds.CallbackObjectAudit rest some = absurd (omega arith)
kind_read kinds.MandatoryLabel rest some = refl
kind_read kinds.ResourceAttribute rest some = refl
kind_read kinds.ScopedPolicy rest some = refl
kind_read kinds.TrustLabel rest some = refl
kind_read kinds.AccessFilter rest some = refl
