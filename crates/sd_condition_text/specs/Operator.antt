-- The operators of a condition's text ([MS-DTYP] 2.5.1.1, cond-expr).
use Rattle.std.specs.Prelude.{ℕ, List, codes}
use Rattle.sd_condition.specs.declared.operator.Operator.{Operator}
use Rattle.sd_condition.specs.declared.operator.Operator.TheVariants as operators
use Rattle.sd_condition_text.specs.declared.operator.Form.{Form}
use Rattle.sd_condition_text.specs.declared.operator.Form.TheVariants.{Between, Before, Joining, Negating}

abbrev pub word : Operator → List ℕ
word operators.Equal = codes "=="
word operators.NotEqual = codes "!="
word operators.Less = codes "<"
word operators.LessOrEqual = codes "<="
word operators.Greater = codes ">"
word operators.GreaterOrEqual = codes ">="
word operators.Contains = codes "Contains"
word operators.Exists = codes "Exists"
word operators.AnyOf = codes "Any_of"
word operators.MemberOf = codes "Member_of"
word operators.DeviceMemberOf = codes "Device_Member_of"
word operators.MemberOfAny = codes "Member_of_any"
word operators.DeviceMemberOfAny = codes "Device_Member_of_Any"
word operators.NotExists = codes "Not_Exists"
word operators.NotContains = codes "Not_Contains"
word operators.NotAnyOf = codes "Not_Any_of"
word operators.NotMemberOf = codes "Not_Member_of"
word operators.NotDeviceMemberOf = codes "Not_Device_Member_of"
word operators.NotMemberOfAny = codes "Not_Member_of_Any"
word operators.NotDeviceMemberOfAny = codes "Not_Device_Member_of_Any"
word operators.And = codes "&&"
word operators.Or = codes "||"
word operators.Not = codes "!"

abbrev pub form : Operator → Form
form operators.Equal = Between
form operators.NotEqual = Between
form operators.Less = Between
form operators.LessOrEqual = Between
form operators.Greater = Between
form operators.GreaterOrEqual = Between
form operators.Contains = Between
form operators.Exists = Before
form operators.AnyOf = Between
form operators.MemberOf = Before
form operators.DeviceMemberOf = Before
form operators.MemberOfAny = Before
form operators.DeviceMemberOfAny = Before
form operators.NotExists = Before
form operators.NotContains = Between
form operators.NotAnyOf = Between
form operators.NotMemberOf = Before
form operators.NotDeviceMemberOf = Before
form operators.NotMemberOfAny = Before
form operators.NotDeviceMemberOfAny = Before
form operators.And = Joining
form operators.Or = Joining
form operators.Not = Negating
