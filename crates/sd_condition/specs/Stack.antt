-- Which tokens are a condition: a stack machine that goes over them in their postfix order finds the operands of each
-- operator, and leaves one condition ([MS-DTYP] 2.5.3.1.5; the operands of each operator 2.4.4.17.6, 2.4.4.17.7).
use Rattle.std.specs.Prelude.{Bool, true, false, List, [], ◌∷◌, Option, Some, None}
use Rattle.std.specs.Prelude.{if◌then◌else◌}
use Rattle.std.specs.List.{list_all}
use Rattle.sd_data.specs.Outcome.{◌>>=◌}
use Rattle.sd_condition.specs.declared.operator.Operator.{Operator}
use Rattle.sd_condition.specs.declared.operator.Operator.TheVariants as operators
use Rattle.sd_condition.specs.declared.operator.Takes.{Takes}
use Rattle.sd_condition.specs.declared.operator.Takes.TheVariants as takes
use Rattle.sd_condition.specs.declared.stack.Operand.{Operand}
use Rattle.sd_condition.specs.declared.stack.Operand.TheVariants.{Value as AValue, Sids, Attribute, Condition}
use Rattle.sd_condition.specs.declared.token.Token.{Token}
use Rattle.sd_condition.specs.declared.token.Token.TheVariants as tokens
use Rattle.sd_condition.specs.declared.value.Value.{Value}
use Rattle.sd_condition.specs.declared.value.Value.TheVariants as values

-- ---- operands

abbrev pub is_sid : Value → Bool
is_sid (values.Integer integer) = false
is_sid (values.Text text) = false
is_sid (values.Octets octets) = false
is_sid (values.Sid sid) = true

-- values on the stack, of which each is a SID or not; so an empty list is one of SIDs
abbrev pub values_operand : Bool → Operand
values_operand true = Sids
values_operand false = AValue

abbrev pub is_sids : Operand → Bool
is_sids AValue = false
is_sids Sids = true
is_sids Attribute = false
is_sids Condition = false

abbrev pub is_attribute : Operand → Bool
is_attribute AValue = false
is_attribute Sids = false
is_attribute Attribute = true
is_attribute Condition = false

-- an operand on the right of a comparison
abbrev pub is_comparable : Operand → Bool
is_comparable AValue = true
is_comparable Sids = true
is_comparable Attribute = true
is_comparable Condition = false

-- an operand that is true, false or unknown: a condition, or an attribute alone
abbrev pub is_truth : Operand → Bool
is_truth AValue = false
is_truth Sids = false
is_truth Attribute = true
is_truth Condition = true

-- ---- operators

abbrev pub taken_by : Operator → Takes
taken_by operators.Equal = takes.Comparison
taken_by operators.NotEqual = takes.Comparison
taken_by operators.Less = takes.Comparison
taken_by operators.LessOrEqual = takes.Comparison
taken_by operators.Greater = takes.Comparison
taken_by operators.GreaterOrEqual = takes.Comparison
taken_by operators.Contains = takes.Comparison
taken_by operators.Exists = takes.Attribute
taken_by operators.AnyOf = takes.Comparison
taken_by operators.MemberOf = takes.Sids
taken_by operators.DeviceMemberOf = takes.Sids
taken_by operators.MemberOfAny = takes.Sids
taken_by operators.DeviceMemberOfAny = takes.Sids
taken_by operators.NotExists = takes.Attribute
taken_by operators.NotContains = takes.Comparison
taken_by operators.NotAnyOf = takes.Comparison
taken_by operators.NotMemberOf = takes.Sids
taken_by operators.NotDeviceMemberOf = takes.Sids
taken_by operators.NotMemberOfAny = takes.Sids
taken_by operators.NotDeviceMemberOfAny = takes.Sids
taken_by operators.And = takes.TwoConditions
taken_by operators.Or = takes.TwoConditions
taken_by operators.Not = takes.Condition

-- an operator of one operand, which passes a test, leaves a condition in its place
abbrev pub after_one : (Operand → Bool) → List Operand → Option (List Operand)
after_one test [] = None
after_one test (operand ∷ rest) = if test operand then Some (Condition ∷ rest) else None

-- an operator of two operands, of which the right one is uppermost
abbrev pub after_two : (Operand → Bool) → (Operand → Bool) → List Operand → Option (List Operand)
after_two left_test right_test [] = None
after_two left_test right_test (right ∷ stack) = if right_test right then after_one left_test stack else None

abbrev pub after_operator : Takes → List Operand → Option (List Operand)
after_operator takes.Comparison = after_two is_attribute is_comparable
after_operator takes.Attribute = after_one is_attribute
after_operator takes.Sids = after_one is_sids
after_operator takes.TwoConditions = after_two is_truth is_truth
after_operator takes.Condition = after_one is_truth

-- ---- tokens

-- the stack after a token, if the token finds its operands; the uppermost operand is the first
abbrev pub after_token : Token → List Operand → Option (List Operand)
after_token (tokens.Value value) stack = Some (values_operand (is_sid value) ∷ stack)
after_token (tokens.List list) stack = Some (values_operand (list_all is_sid list) ∷ stack)
after_token (tokens.Attribute attribute) stack = Some (Attribute ∷ stack)
after_token (tokens.Operator operator) stack = after_operator (taken_by operator) stack

abbrev pub after_tokens : List Token → List Operand → Option (List Operand)
after_tokens [] stack = Some stack
after_tokens (t ∷ ts) stack = after_token t stack >>= λ next. after_tokens ts next

-- the operand that is alone on a stack
abbrev pub alone : List Operand → Option Operand
alone [] = None
alone (operand ∷ []) = Some operand
alone (operand ∷ other ∷ others) = None

-- what the tokens leave: one operand, which is a condition or an attribute alone
unfoldable pub outcome : List Token → Option Operand
outcome ts =
    after_tokens ts [] >>= λ stack.
    (alone stack >>= λ operand.
    (if is_truth operand then Some operand else None))
