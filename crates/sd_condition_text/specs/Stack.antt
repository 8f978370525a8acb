-- What a stack machine makes of tokens in their postfix order: something of each operand, and, of what stands on the
-- stack, something for each operator ([MS-DTYP] 2.4.4.17.4).
use Rattle.std.specs.Prelude.{List, [], ◌∷◌, Option, Some, None}
use Rattle.sd_data.specs.Outcome.{◌>>=◌}
use Rattle.sd_condition.specs.declared.operator.Operator.{Operator}
use Rattle.sd_condition.specs.declared.token.Token.{Token}
use Rattle.sd_condition.specs.declared.token.Token.TheVariants as tokens
use Rattle.sd_condition_text.specs.Operator.{form}
use Rattle.sd_condition_text.specs.declared.operator.Form.{Form}
use Rattle.sd_condition_text.specs.declared.operator.Form.TheVariants.{Between, Before, Joining, Negating}

-- the uppermost is the first
abbrev pub after_one : {A : Type 0} → (A → A) → List A → Option (List A)
after_one one [] = None
after_one one (operand ∷ rest) = Some (one operand ∷ rest)

abbrev pub after_two : {A : Type 0} → (A → A → A) → List A → Option (List A)
after_two two [] = None
after_two two (right ∷ []) = None
after_two two (right ∷ left ∷ rest) = Some (two left right ∷ rest)

abbrev pub after_operator : {A : Type 0} → (A → A) → (A → A → A) → Form → List A → Option (List A)
after_operator one two Between = after_two two
after_operator one two Before = after_one one
after_operator one two Joining = after_two two
after_operator one two Negating = after_one one

abbrev pub after_token : {A : Type 0} → (Token → A) → (Operator → A → A) → (Operator → A → A → A) → Token → List A
    → Option (List A)
after_token leaf one two (tokens.Value value) stack = Some (leaf (tokens.Value value) ∷ stack)
after_token leaf one two (tokens.List list) stack = Some (leaf (tokens.List list) ∷ stack)
after_token leaf one two (tokens.Attribute attribute) stack = Some (leaf (tokens.Attribute attribute) ∷ stack)
after_token leaf one two (tokens.Operator operator) stack =
    after_operator (one operator) (two operator) (form operator) stack

abbrev pub after_tokens : {A : Type 0} → (Token → A) → (Operator → A → A) → (Operator → A → A → A) → List Token
    → List A → Option (List A)
after_tokens leaf one two [] stack = Some stack
after_tokens leaf one two (t ∷ ts) stack =
    after_token leaf one two t stack >>= λ next. after_tokens leaf one two ts next

-- what is alone on a stack
abbrev pub alone : {A : Type 0} → List A → Option A
alone [] = None
alone (x ∷ []) = Some x
alone (x ∷ other ∷ others) = None

-- what the tokens leave, alone on a stack that was empty
abbrev pub left_by : {A : Type 0} → (Token → A) → (Operator → A → A) → (Operator → A → A → A) → List Token → Option A
left_by leaf one two ts = after_tokens leaf one two ts [] >>= alone
