-- Where a condition is neither true nor false, an allow has no part, and a deny denies.
use Rattle.std.proofs.Common.{◌≡◌, Bool, true, false, not, ◌||◌, refl}
use Rattle.sd_acl.specs.declared.ace.AceKind.TheVariants.{Allow, Deny}
use Rattle.sd_check.specs.declared.grounds.Pass.TheVariants.{First, Second}
use Rattle.sd_specialize.specs.Laws.{UnknownFailsClosed}

either : (b : Bool) → (not b || true) ≡ true
either true = refl
either false = refl

pub unknown_fails_closed : UnknownFailsClosed
unknown_fails_closed c e effective unknown = record {
  allow = λ is. rw (is, effective, unknown First Allow, unknown Second Allow, either c.is_restricted) refl;
  deny = λ is. rw (is, effective, unknown First Deny, unknown Second Deny, either c.is_restricted) refl;
}
