-- Which operators have one operand ([MS-DTYP] 2.4.4.17.6, 2.4.4.17.7).
use Rattle.std.specs.Prelude.{Bool, true, false}
use Rattle.sd_condition.specs.declared.operator.Operator.{Operator}
use Rattle.sd_condition.specs.declared.operator.Operator.TheVariants as operators

abbrev pub is_over_one : Operator → Bool
is_over_one operators.Exists = true
is_over_one operators.NotExists = true
is_over_one operators.Not = true
is_over_one operators.MemberOf = true
is_over_one operators.DeviceMemberOf = true
is_over_one operators.MemberOfAny = true
is_over_one operators.DeviceMemberOfAny = true
is_over_one operators.NotMemberOf = true
is_over_one operators.NotDeviceMemberOf = true
is_over_one operators.NotMemberOfAny = true
is_over_one operators.NotDeviceMemberOfAny = true
is_over_one other = false
