-- Member_of and its family ([MS-DTYP] 2.4.4.17.6): whether who asks, or the device, has the SIDs of a list.
use Rattle.std.specs.Prelude.{Bool, false, ◌==◌, List, [], ◌∷◌, length, if◌then◌else◌}
use Rattle.std.specs.List.{list_all, list_any}
use Rattle.sd_sid.specs.Sid.{SidValue}
use Rattle.sd_acl.specs.declared.ace.AceKind.{AceKind}
use Rattle.sd_check.specs.Token.{a_group_stands_for, is_restricting, stands_for}
use Rattle.sd_check.specs.declared.grounds.Pass.{Pass}
use Rattle.sd_check.specs.declared.grounds.Pass.TheVariants.{First, Second}
use Rattle.sd_condition.specs.declared.operator.Operator.{Operator}
use Rattle.sd_condition.specs.declared.operator.Operator.TheVariants as operators
use Rattle.sd_condition.specs.declared.token.Token.{Token}
use Rattle.sd_condition.specs.declared.token.Token.TheVariants as tokens
use Rattle.sd_condition.specs.declared.value.Value.{Value}
use Rattle.sd_condition.specs.declared.value.Value.TheVariants as values
use Rattle.sd_evaluation.specs.Facts.{FactsValue}
use Rattle.sd_evaluation.specs.Truth.{not_truth, truth_if}
use Rattle.sd_evaluation.specs.declared.member.Subject.{Subject}
use Rattle.sd_evaluation.specs.declared.member.Subject.TheVariants.{User, Device}
use Rattle.sd_evaluation.specs.declared.truth.Truth.{Truth}
use Rattle.sd_evaluation.specs.declared.truth.Truth.TheVariants.{Unknown}

-- who asks has the SID as the user, or by a group that counts for an entry of the kind; in the second pass, as a
-- restricting SID. The device has it by a group that counts
abbrev pub has : FactsValue → AceKind → Subject → SidValue → Bool
has f kind (User First) s = stands_for f.token kind s
has f kind (User Second) s = is_restricting f.token s
has f kind Device s = a_group_stands_for f.device_groups kind s

abbrev pub is_of : FactsValue → AceKind → Subject → Value → Bool
is_of f kind subject (values.Integer integer) = false
is_of f kind subject (values.Text text) = false
is_of f kind subject (values.Octets octets) = false
is_of f kind subject (values.Sid s) = has f kind subject s

-- all of the SIDs, or one of them; unknown if there are none
abbrev pub has_all : FactsValue → AceKind → Subject → List Value → Truth
has_all f kind subject vs = if length vs == 0 then Unknown else truth_if (list_all (is_of f kind subject) vs)

abbrev pub has_any : FactsValue → AceKind → Subject → List Value → Truth
has_any f kind subject vs = if length vs == 0 then Unknown else truth_if (list_any (is_of f kind subject) vs)

abbrev pub membership : FactsValue → AceKind → Pass → Operator → List Value → Truth
membership f kind pass operators.MemberOf vs = has_all f kind (User pass) vs
membership f kind pass operators.MemberOfAny vs = has_any f kind (User pass) vs
membership f kind pass operators.NotMemberOf vs = not_truth (has_all f kind (User pass) vs)
membership f kind pass operators.NotMemberOfAny vs = not_truth (has_any f kind (User pass) vs)
membership f kind pass operators.DeviceMemberOf vs = has_all f kind Device vs
membership f kind pass operators.DeviceMemberOfAny vs = has_any f kind Device vs
membership f kind pass operators.NotDeviceMemberOf vs = not_truth (has_all f kind Device vs)
membership f kind pass operators.NotDeviceMemberOfAny vs = not_truth (has_any f kind Device vs)
membership f kind pass other vs = Unknown

-- the values of a literal
abbrev pub literals_of : Token → List Value
literals_of (tokens.Value v) = v ∷ []
literals_of (tokens.List vs) = vs
literals_of (tokens.Attribute attribute) = []
literals_of (tokens.Operator operator) = []
