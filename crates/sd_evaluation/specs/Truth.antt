-- Truth values, their operators, and which entries apply ([MS-DTYP] 2.4.4.17.7, 2.5.3.1.5).
use Rattle.std.specs.Prelude.{Bool, true, false}
use Rattle.sd_acl.specs.declared.ace.AceKind.{AceKind}
use Rattle.sd_acl.specs.declared.ace.AceKind.TheVariants.{Allow, Deny}
use Rattle.sd_evaluation.specs.declared.truth.Truth.{Truth}
use Rattle.sd_evaluation.specs.declared.truth.Truth.TheVariants.{True, False, Unknown}

abbrev pub truth_if : Bool → Truth
truth_if true = True
truth_if false = False

-- `!`: what isn't known stays unknown
abbrev pub not_truth : Truth → Truth
not_truth True = False
not_truth False = True
not_truth Unknown = Unknown

-- `&&`: false where one is false, whatever the other is
abbrev pub and_truth : Truth → Truth → Truth
and_truth True b = b
and_truth False b = False
and_truth Unknown True = Unknown
and_truth Unknown False = False
and_truth Unknown Unknown = Unknown

-- `||`: true where one is true, whatever the other is
abbrev pub or_truth : Truth → Truth → Truth
or_truth True b = True
or_truth False b = b
or_truth Unknown True = True
or_truth Unknown False = Unknown
or_truth Unknown Unknown = Unknown

-- an allow entry applies only if its condition is true, a deny entry unless it is false
abbrev pub applies : Truth → AceKind → Bool
applies True kind = true
applies False kind = false
applies Unknown Allow = false
applies Unknown Deny = true
