-- Why a DACL isn't built.
use Rattle.std.specs.Prelude.{◌≡◌, ◌<◌, List, Option}
use Rattle.sd_acl.specs.declared.ace.Ace.{Ace}
use Rattle.sd_edit.specs.Refusals.{dacl_size}
use Rattle.sd_edit.specs.declared.refusal.TreeError.{TreeError}
use Rattle.sd_edit.specs.declared.refusal.TreeError.TheVariants.{Refused, Memory}
use Rattle.sd_edit.specs.declared.refusal.EditRefusal.TheVariants.{AclTooLarge}

-- an error of a DACL: it takes too many bytes, or out of memory
abbrev pub IsSizeError : TreeError → Option (List Ace) → Type 0
IsSizeError (Refused refusal) dacl = (refusal ≡ AclTooLarge) × (65535 < dacl_size dacl)
IsSizeError Memory dacl = Unit {0}
