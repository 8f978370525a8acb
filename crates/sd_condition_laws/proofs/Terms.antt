-- The text of a term is parsed as its tokens, where a parenthesis closes behind it.
use Rattle.std.proofs.Common.{List, Ok, Some, [], arith, codes, false, length, length-append, refl, suc, ℕ, ◌++◌, ◌<◌, ◌∙◌, ◌∷◌, ◌≡◌}
use Rattle.std.specs.List.{prefix_len}
use Rattle.sd_condition.specs.Laws.{IsToken}
use Rattle.sd_condition.specs.declared.attribute.Attribute.{Attribute}
use Rattle.sd_condition.specs.declared.operator.Operator.{Operator}
use Rattle.sd_condition.specs.declared.operator.Operator.TheVariants as operators
use Rattle.sd_condition.specs.declared.token.Token.{Token}
use Rattle.sd_condition.specs.declared.token.Token.TheVariants as tokens
use Rattle.sd_condition_laws.proofs.Formed.{ComparableToken, SidsToken}
use Rattle.sd_condition_laws.proofs.Names.{attributes_read}
use Rattle.sd_condition_laws.proofs.Operands.{right_read, sids_read}
use Rattle.sd_condition_parse.specs.Operator.{comparison}
use Rattle.sd_condition_parse.specs.Run.{is_space}
use Rattle.sd_condition_parse.specs.Term.{attribute_term, exists_term, member_term, term}
use Rattle.sd_condition_text.specs.Attribute.{attribute_text}
use Rattle.sd_condition_text.specs.Operator.{word}
use Rattle.sd_condition_text.specs.Text.{is_local_attribute, operand_text}
use Rattle.sd_text.specs.Grammar.{begins}
use Rattle.sd_text.specs.declared.alias.Aliases.{Aliases}

-- what stands at the front of a text is a term with these tokens, behind which a parenthesis closes
pub record TermRead (known : Aliases) (ts : List Token) (text rest : List ℕ) : Type 0 where
  pub read : term known text ≡ Ok (ts, 41 ∷ rest)
  pub no_level : begins text (codes "(") ≡ false
  pub no_negation : begins text (codes "!") ≡ false
  pub no_space : prefix_len is_space text ≡ 0
  pub longer : suc (length rest) < length text

-- ---- an attribute alone

pub alone_read : (known : Aliases) (a : Attribute) (text rest : List ℕ) → IsToken (tokens.Attribute a) → attribute_text a ≡ Some text → TermRead known (tokens.Attribute a ∷ []) (text ++ 41 ∷ rest) rest
unfolding term attribute_term comparison
alone_read known a text rest is e =
    let read = attributes_read a text (41 ∷ rest) is e (record { plain = refl; literal = refl; escape = refl }) in
    record {
      read = rw (read.no_exists, read.no_member, read.read) refl;
      no_level = read.no_level;
      no_negation = read.no_negation;
      no_space = read.no_space;
      longer = read.longer;
    }

-- ---- comparisons

-- the word of an operator between its operands
pub record IsBetween (operator : Operator) : Type 0 where
  pub read : (rest : List ℕ) → comparison (word operator ++ 32 ∷ rest) ≡ Ok (Some operator, 32 ∷ rest)
  pub no_space : (rest : List ℕ) → prefix_len is_space (word operator ++ 32 ∷ rest) ≡ 0

pub between_equal : IsBetween operators.Equal
unfolding comparison
between_equal = record { read = λ rest. refl; no_space = λ rest. refl }

pub between_not_equal : IsBetween operators.NotEqual
unfolding comparison
between_not_equal = record { read = λ rest. refl; no_space = λ rest. refl }

pub between_less : IsBetween operators.Less
unfolding comparison
between_less = record { read = λ rest. refl; no_space = λ rest. refl }

pub between_less_or_equal : IsBetween operators.LessOrEqual
unfolding comparison
between_less_or_equal = record { read = λ rest. refl; no_space = λ rest. refl }

pub between_greater : IsBetween operators.Greater
unfolding comparison
between_greater = record { read = λ rest. refl; no_space = λ rest. refl }

pub between_greater_or_equal : IsBetween operators.GreaterOrEqual
unfolding comparison
between_greater_or_equal = record { read = λ rest. refl; no_space = λ rest. refl }

pub between_contains : IsBetween operators.Contains
unfolding comparison
between_contains = record { read = λ rest. refl; no_space = λ rest. refl }

pub between_any_of : IsBetween operators.AnyOf
unfolding comparison
between_any_of = record { read = λ rest. refl; no_space = λ rest. refl }

pub between_not_contains : IsBetween operators.NotContains
unfolding comparison
between_not_contains = record { read = λ rest. refl; no_space = λ rest. refl }

pub between_not_any_of : IsBetween operators.NotAnyOf
unfolding comparison
between_not_any_of = record { read = λ rest. refl; no_space = λ rest. refl }

pub compared_read : (known : Aliases) (operator : Operator) (a : Attribute) (right : Token) (left_text right_text rest : List ℕ) → IsBetween operator
    → IsToken (tokens.Attribute a) → attribute_text a ≡ Some left_text
    → ComparableToken right → IsToken right → is_local_attribute right ≡ false → operand_text right ≡ Some right_text
    → TermRead known (tokens.Attribute a ∷ right ∷ tokens.Operator operator ∷ []) (left_text ++ (32 ∷ (word operator ++ (32 ∷ (right_text ++ 41 ∷ rest))))) rest
unfolding term attribute_term
compared_read known operator a right left_text right_text rest between is e fits is_right prefix f =
    let behind = right_text ++ 41 ∷ rest in
    let read = attributes_read a left_text (32 ∷ (word operator ++ 32 ∷ behind)) is e (record { plain = refl; literal = refl; escape = refl }) in
    let other = right_read known right right_text rest fits is_right prefix f in
    let longer = read.longer in
    record {
      read = rw (read.no_exists, read.no_member, read.read, between.no_space behind, between.read behind, other.no_space, other.read) refl;
      no_level = read.no_level;
      no_negation = read.no_negation;
      no_space = read.no_space;
      longer = omega (arith, length-append (word operator) (32 ∷ behind), length-append right_text (41 ∷ rest));
    }

-- ---- words before their operands

-- the word of an operator before an attribute
pub record IsBeforeAttribute (operator : Operator) : Type 0 where
  pub read : (known : Aliases) (rest : List ℕ) → term known (word operator ++ 32 ∷ rest) ≡ exists_term operator (32 ∷ rest)
  pub no_level : (rest : List ℕ) → begins (word operator ++ 32 ∷ rest) (codes "(") ≡ false
  pub no_negation : (rest : List ℕ) → begins (word operator ++ 32 ∷ rest) (codes "!") ≡ false
  pub no_space : (rest : List ℕ) → prefix_len is_space (word operator ++ 32 ∷ rest) ≡ 0

pub before_exists : IsBeforeAttribute operators.Exists
unfolding term
before_exists = record { read = λ known rest. refl; no_level = λ rest. refl; no_negation = λ rest. refl; no_space = λ rest. refl }

pub before_not_exists : IsBeforeAttribute operators.NotExists
unfolding term
before_not_exists = record { read = λ known rest. refl; no_level = λ rest. refl; no_negation = λ rest. refl; no_space = λ rest. refl }

pub exists_read : (known : Aliases) (operator : Operator) (a : Attribute) (text rest : List ℕ) → IsBeforeAttribute operator → IsToken (tokens.Attribute a) → attribute_text a ≡ Some text
    → TermRead known (tokens.Attribute a ∷ tokens.Operator operator ∷ []) (word operator ++ 32 ∷ (text ++ 41 ∷ rest)) rest
unfolding exists_term
exists_read known operator a text rest before is e =
    let behind = text ++ 41 ∷ rest in
    let read = attributes_read a text (41 ∷ rest) is e (record { plain = refl; literal = refl; escape = refl }) in
    record {
      read = before.read known behind ∙ rw (read.no_space, read.read) refl;
      no_level = before.no_level behind;
      no_negation = before.no_negation behind;
      no_space = before.no_space behind;
      longer = omega (arith, length-append (word operator) (32 ∷ behind), length-append text (41 ∷ rest));
    }

-- the word of an operator before SIDs
pub record IsBeforeSids (operator : Operator) : Type 0 where
  pub read : (known : Aliases) (rest : List ℕ) → term known (word operator ++ 32 ∷ rest) ≡ member_term known operator (32 ∷ rest)
  pub no_level : (rest : List ℕ) → begins (word operator ++ 32 ∷ rest) (codes "(") ≡ false
  pub no_negation : (rest : List ℕ) → begins (word operator ++ 32 ∷ rest) (codes "!") ≡ false
  pub no_space : (rest : List ℕ) → prefix_len is_space (word operator ++ 32 ∷ rest) ≡ 0

pub before_member_of : IsBeforeSids operators.MemberOf
unfolding term
before_member_of = record { read = λ known rest. refl; no_level = λ rest. refl; no_negation = λ rest. refl; no_space = λ rest. refl }

pub before_device_member_of : IsBeforeSids operators.DeviceMemberOf
unfolding term
before_device_member_of = record { read = λ known rest. refl; no_level = λ rest. refl; no_negation = λ rest. refl; no_space = λ rest. refl }

pub before_member_of_any : IsBeforeSids operators.MemberOfAny
unfolding term
before_member_of_any = record { read = λ known rest. refl; no_level = λ rest. refl; no_negation = λ rest. refl; no_space = λ rest. refl }

pub before_device_member_of_any : IsBeforeSids operators.DeviceMemberOfAny
unfolding term
before_device_member_of_any = record { read = λ known rest. refl; no_level = λ rest. refl; no_negation = λ rest. refl; no_space = λ rest. refl }

pub before_not_member_of : IsBeforeSids operators.NotMemberOf
unfolding term
before_not_member_of = record { read = λ known rest. refl; no_level = λ rest. refl; no_negation = λ rest. refl; no_space = λ rest. refl }

pub before_not_device_member_of : IsBeforeSids operators.NotDeviceMemberOf
unfolding term
before_not_device_member_of = record { read = λ known rest. refl; no_level = λ rest. refl; no_negation = λ rest. refl; no_space = λ rest. refl }

pub before_not_member_of_any : IsBeforeSids operators.NotMemberOfAny
unfolding term
before_not_member_of_any = record { read = λ known rest. refl; no_level = λ rest. refl; no_negation = λ rest. refl; no_space = λ rest. refl }

pub before_not_device_member_of_any : IsBeforeSids operators.NotDeviceMemberOfAny
unfolding term
before_not_device_member_of_any = record { read = λ known rest. refl; no_level = λ rest. refl; no_negation = λ rest. refl; no_space = λ rest. refl }

pub member_read : (known : Aliases) (operator : Operator) (token : Token) (text rest : List ℕ) → IsBeforeSids operator → SidsToken token → IsToken token → operand_text token ≡ Some text
    → TermRead known (token ∷ tokens.Operator operator ∷ []) (word operator ++ 32 ∷ (text ++ 41 ∷ rest)) rest
unfolding member_term
member_read known operator token text rest before fits is e =
    let behind = text ++ 41 ∷ rest in
    let read = sids_read known token text rest fits is e in
    record {
      read = before.read known behind ∙ rw (read.no_space, read.read) refl;
      no_level = before.no_level behind;
      no_negation = before.no_negation behind;
      no_space = before.no_space behind;
      longer = omega (arith, length-append (word operator) (32 ∷ behind), length-append text (41 ∷ rest));
    }
