-- The byte of each token ([MS-DTYP] 2.4.4.17.4), and of an integer's sign and base (2.4.4.17.5).
use Rattle.std.specs.Prelude.{ℕ, ◌==◌, List, [], ◌∷◌, Option}
use Rattle.std.specs.List.{find}
use Rattle.sd_condition.specs.declared.attribute.Scope.{Scope}
use Rattle.sd_condition.specs.declared.attribute.Scope.TheVariants.{Local, User, Resource, Device}
use Rattle.sd_condition.specs.declared.integer.Base.{Base}
use Rattle.sd_condition.specs.declared.integer.Base.TheVariants.{Octal, Decimal, Hexadecimal}
use Rattle.sd_condition.specs.declared.integer.Sign.{Sign}
use Rattle.sd_condition.specs.declared.integer.Sign.TheVariants.{Plus, Minus, Omitted}
use Rattle.sd_condition.specs.declared.integer.Width.{Width}
use Rattle.sd_condition.specs.declared.integer.Width.TheVariants.{Int8, Int16, Int32, Int64}
use Rattle.sd_condition.specs.declared.operator.Operator.{Operator}
use Rattle.sd_condition.specs.declared.operator.Operator.TheVariants.{Equal, NotEqual, Less, LessOrEqual, Greater}
use Rattle.sd_condition.specs.declared.operator.Operator.TheVariants.{GreaterOrEqual, Contains, Exists, AnyOf}
use Rattle.sd_condition.specs.declared.operator.Operator.TheVariants.{MemberOf, DeviceMemberOf, MemberOfAny}
use Rattle.sd_condition.specs.declared.operator.Operator.TheVariants.{DeviceMemberOfAny, NotExists, NotContains}
use Rattle.sd_condition.specs.declared.operator.Operator.TheVariants.{NotAnyOf, NotMemberOf, NotDeviceMemberOf}
use Rattle.sd_condition.specs.declared.operator.Operator.TheVariants.{NotMemberOfAny, NotDeviceMemberOfAny}
use Rattle.sd_condition.specs.declared.operator.Operator.TheVariants.{And, Or, Not}

-- the one of these whose byte it is
abbrev pub with_byte : {A : Type 0} → (A → ℕ) → List A → ℕ → Option A
with_byte byte_of these byte = find (λ each. byte_of each == byte) these

-- ---- integers (2.4.4.17.5)

abbrev pub width_byte : Width → ℕ
width_byte Int8 = 0x01
width_byte Int16 = 0x02
width_byte Int32 = 0x03
width_byte Int64 = 0x04

abbrev pub widths : List Width
widths = Int8 ∷ Int16 ∷ Int32 ∷ Int64 ∷ []

abbrev pub width_read : ℕ → Option Width
width_read = with_byte width_byte widths

abbrev pub sign_byte : Sign → ℕ
sign_byte Plus = 0x01
sign_byte Minus = 0x02
sign_byte Omitted = 0x03

abbrev pub signs : List Sign
signs = Plus ∷ Minus ∷ Omitted ∷ []

abbrev pub sign_read : ℕ → Option Sign
sign_read = with_byte sign_byte signs

abbrev pub base_byte : Base → ℕ
base_byte Octal = 0x01
base_byte Decimal = 0x02
base_byte Hexadecimal = 0x03

abbrev pub bases : List Base
bases = Octal ∷ Decimal ∷ Hexadecimal ∷ []

abbrev pub base_read : ℕ → Option Base
base_read = with_byte base_byte bases

-- ---- attributes (2.4.4.17.8)

abbrev pub scope_byte : Scope → ℕ
scope_byte Local = 0xf8
scope_byte User = 0xf9
scope_byte Resource = 0xfa
scope_byte Device = 0xfb

abbrev pub scopes : List Scope
scopes = Local ∷ User ∷ Resource ∷ Device ∷ []

abbrev pub scope_read : ℕ → Option Scope
scope_read = with_byte scope_byte scopes

-- ---- operators (2.4.4.17.6, 2.4.4.17.7)

abbrev pub operator_byte : Operator → ℕ
operator_byte Equal = 0x80
operator_byte NotEqual = 0x81
operator_byte Less = 0x82
operator_byte LessOrEqual = 0x83
operator_byte Greater = 0x84
operator_byte GreaterOrEqual = 0x85
operator_byte Contains = 0x86
operator_byte Exists = 0x87
operator_byte AnyOf = 0x88
operator_byte MemberOf = 0x89
operator_byte DeviceMemberOf = 0x8a
operator_byte MemberOfAny = 0x8b
operator_byte DeviceMemberOfAny = 0x8c
operator_byte NotExists = 0x8d
operator_byte NotContains = 0x8e
operator_byte NotAnyOf = 0x8f
operator_byte NotMemberOf = 0x90
operator_byte NotDeviceMemberOf = 0x91
operator_byte NotMemberOfAny = 0x92
operator_byte NotDeviceMemberOfAny = 0x93
operator_byte And = 0xa0
operator_byte Or = 0xa1
operator_byte Not = 0xa2

abbrev pub operators : List Operator
operators =
    Equal ∷ NotEqual ∷ Less ∷ LessOrEqual ∷ Greater ∷ GreaterOrEqual ∷ Contains ∷ Exists ∷ AnyOf ∷ MemberOf
    ∷ DeviceMemberOf ∷ MemberOfAny ∷ DeviceMemberOfAny ∷ NotExists ∷ NotContains ∷ NotAnyOf ∷ NotMemberOf
    ∷ NotDeviceMemberOf ∷ NotMemberOfAny ∷ NotDeviceMemberOfAny ∷ And ∷ Or ∷ Not ∷ []

abbrev pub operator_read : ℕ → Option Operator
operator_read = with_byte operator_byte operators
