-- A byte is read as what it stands for.
use Rattle.sd_condition.proofs.Cited.{Base, Decimal, Device, Hexadecimal, Int16, Int32, Int64, Int8, List, Local, Minus, Octal, Omitted, Operator, Plus, Resource, Scope, Sign, Some, User, Width, [], ap, base_byte, base_read, eqb-true, inl, inr, operator_byte, operator_read, refl, scope_byte, scope_read, sign_byte, sign_read, sym, width_byte, width_read, with_byte, ℕ, ◌==◌, ◌∙◌, ◌∷◌, ◌≡◌}
use Rattle.sd_data.proofs.Found.{chosen, some_is}
use Rattle.sd_condition.specs.declared.operator.Operator.TheVariants as ops

-- what is read of a byte has that byte
pub byte_of_read : {A : Type 0} (byte_of : A → ℕ) (these : List A) (byte : ℕ) (x : A) → with_byte byte_of these byte ≡ Some x → byte_of x ≡ byte
byte_of_read byte_of [] byte x e = absurd cc
byte_of_read byte_of (y ∷ ys) byte x e =
    elim (chosen (byte_of y == byte) (Some y) (with_byte byte_of ys byte) x e) [
      | inl h ↦ ap byte_of (sym (some_is y x h.1)) ∙ eqb-true (byte_of y) byte h.0
      | inr h ↦ byte_of_read byte_of ys byte x h.1
    ]

pub width_again : (w : Width) → width_read (width_byte w) ≡ Some w
width_again Int8 = refl
width_again Int16 = refl
width_again Int32 = refl
width_again Int64 = refl

pub sign_again : (s : Sign) → sign_read (sign_byte s) ≡ Some s
sign_again Plus = refl
sign_again Minus = refl
sign_again Omitted = refl

pub base_again : (b : Base) → base_read (base_byte b) ≡ Some b
base_again Octal = refl
base_again Decimal = refl
base_again Hexadecimal = refl

pub scope_again : (s : Scope) → scope_read (scope_byte s) ≡ Some s
scope_again Local = refl
scope_again User = refl
scope_again Resource = refl
scope_again Device = refl

pub operator_again : (o : Operator) → operator_read (operator_byte o) ≡ Some o
operator_again ops.Equal = refl
operator_again ops.NotEqual = refl
operator_again ops.Less = refl
operator_again ops.LessOrEqual = refl
operator_again ops.Greater = refl
operator_again ops.GreaterOrEqual = refl
operator_again ops.Contains = refl
operator_again ops.Exists = refl
operator_again ops.AnyOf = refl
operator_again ops.MemberOf = refl
operator_again ops.DeviceMemberOf = refl
operator_again ops.MemberOfAny = refl
operator_again ops.DeviceMemberOfAny = refl
operator_again ops.NotExists = refl
operator_again ops.NotContains = refl
operator_again ops.NotAnyOf = refl
operator_again ops.NotMemberOf = refl
operator_again ops.NotDeviceMemberOf = refl
operator_again ops.NotMemberOfAny = refl
operator_again ops.NotDeviceMemberOfAny = refl
operator_again ops.And = refl
operator_again ops.Or = refl
operator_again ops.Not = refl
