-- What an operator takes from the stack, by how many operands it has.
use Rattle.std.proofs.Common.{List, false, refl, true, ◌≡◌}
use Rattle.sd_condition.specs.declared.operator.Operator.{Operator}
use Rattle.sd_condition.specs.declared.operator.Operator.TheVariants as operators
use Rattle.sd_condition_text.specs.Operator.{form}
use Rattle.sd_condition_text.specs.Stack.{after_one, after_operator, after_two}
use Rattle.sd_evaluation.specs.Evaluation.{Part}
use Rattle.sd_evaluation.specs.Form.{is_over_one}

pub over_one_part : (one : Part → Part) (two : Part → Part → Part) (operator : Operator) (stack : List Part)
    → is_over_one operator ≡ true → after_operator one two (form operator) stack ≡ after_one one stack
over_one_part one two operators.Exists stack h = refl
over_one_part one two operators.NotExists stack h = refl
over_one_part one two operators.Not stack h = refl
over_one_part one two operators.MemberOf stack h = refl
over_one_part one two operators.DeviceMemberOf stack h = refl
over_one_part one two operators.MemberOfAny stack h = refl
over_one_part one two operators.DeviceMemberOfAny stack h = refl
over_one_part one two operators.NotMemberOf stack h = refl
over_one_part one two operators.NotDeviceMemberOf stack h = refl
over_one_part one two operators.NotMemberOfAny stack h = refl
over_one_part one two operators.NotDeviceMemberOfAny stack h = refl
over_one_part one two operator stack h = absurd cc

pub over_two_parts : (one : Part → Part) (two : Part → Part → Part) (operator : Operator) (stack : List Part)
    → is_over_one operator ≡ false → after_operator one two (form operator) stack ≡ after_two two stack
over_two_parts one two operators.Exists stack h = absurd cc
over_two_parts one two operators.NotExists stack h = absurd cc
over_two_parts one two operators.Not stack h = absurd cc
over_two_parts one two operators.MemberOf stack h = absurd cc
over_two_parts one two operators.DeviceMemberOf stack h = absurd cc
over_two_parts one two operators.MemberOfAny stack h = absurd cc
over_two_parts one two operators.DeviceMemberOfAny stack h = absurd cc
over_two_parts one two operators.NotMemberOf stack h = absurd cc
over_two_parts one two operators.NotDeviceMemberOf stack h = absurd cc
over_two_parts one two operators.NotMemberOfAny stack h = absurd cc
over_two_parts one two operators.NotDeviceMemberOfAny stack h = absurd cc
over_two_parts one two operator stack h = refl
