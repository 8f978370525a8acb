-- The comparisons ([MS-DTYP] 2.4.4.17.6). Unlike values make them unknown, and so does a missing attribute.
use Rattle.std.specs.Prelude.{Bool, true, false, ◌||◌, ◌==◌, List, [], ◌∷◌, length, Option, Some, None}
use Rattle.std.specs.Prelude.{if◌then◌else◌}
use Rattle.std.specs.Cmp.Lexicographic.{slice_cmp}
use Rattle.std.specs.Ordering.{nat_cmp, int_cmp}
use Rattle.std.specs.declared.cmp.Ordering.{Ordering}
use Rattle.std.specs.declared.cmp.Ordering.TheVariants as orders
use Rattle.sd_sid.specs.Sid.{same_sid}
use Rattle.sd_condition.specs.declared.operator.Operator.{Operator}
use Rattle.sd_condition.specs.declared.operator.Operator.TheVariants as operators
use Rattle.sd_evaluation.specs.Case.{text_order}
use Rattle.sd_evaluation.specs.Truth.{and_truth, not_truth, or_truth}
use Rattle.sd_evaluation.specs.Value.{Datum, Number, Text, Octets, Sid}
use Rattle.sd_evaluation.specs.Value.{OperandValue, Values, One, Many, listed}
use Rattle.sd_evaluation.specs.declared.comparison.Relation.{Relation}
use Rattle.sd_evaluation.specs.declared.comparison.Relation.TheVariants.{Less, Equal, Greater, Same, Different, Unlike}
use Rattle.sd_evaluation.specs.declared.truth.Truth.{Truth}
use Rattle.sd_evaluation.specs.declared.truth.Truth.TheVariants as truths

-- ---- two values

abbrev pub ordered : Ordering → Relation
ordered orders.Less = Less
ordered orders.Equal = Equal
ordered orders.Greater = Greater

-- SIDs have no order
abbrev pub same_or_different : Bool → Relation
same_or_different true = Same
same_or_different false = Different

-- numbers by value, texts and octets from the first unit that differs on
abbrev pub relation_of : Bool → Datum → Datum → Relation
relation_of with_case (Number a) (Number b) = ordered (int_cmp a b)
relation_of with_case (Text a) (Text b) = ordered (text_order with_case a b)
relation_of with_case (Octets a) (Octets b) = ordered (slice_cmp nat_cmp a b)
relation_of with_case (Sid a) (Sid b) = same_or_different (same_sid a b)
relation_of with_case a b = Unlike

abbrev pub is_same : Relation → Truth
is_same Less = truths.False
is_same Equal = truths.True
is_same Greater = truths.False
is_same Same = truths.True
is_same Different = truths.False
is_same Unlike = truths.Unknown

abbrev pub is_less : Relation → Truth
is_less Less = truths.True
is_less Equal = truths.False
is_less Greater = truths.False
is_less Same = truths.Unknown
is_less Different = truths.Unknown
is_less Unlike = truths.Unknown

abbrev pub is_greater : Relation → Truth
is_greater Less = truths.False
is_greater Equal = truths.False
is_greater Greater = truths.True
is_greater Same = truths.Unknown
is_greater Different = truths.Unknown
is_greater Unlike = truths.Unknown

-- ---- lists, as sets

-- the value is one of these
abbrev pub is_among : Bool → List Datum → Datum → Truth
is_among with_case [] v = truths.False
is_among with_case (a ∷ these) v = or_truth (is_same (relation_of with_case a v)) (is_among with_case these v)

-- each of the others is one of these
abbrev pub has_each : Bool → List Datum → List Datum → Truth
has_each with_case these [] = truths.True
has_each with_case these (v ∷ others) = and_truth (is_among with_case these v) (has_each with_case these others)

-- one of the others is one of these
abbrev pub has_some : Bool → List Datum → List Datum → Truth
has_some with_case these [] = truths.False
has_some with_case these (v ∷ others) = or_truth (is_among with_case these v) (has_some with_case these others)

-- ---- operators

-- two values, or two lists in which are the same values; a value is unlike a list
abbrev pub equals : Bool → Values → Values → Truth
equals with_case (One a) (One b) = is_same (relation_of with_case a b)
equals with_case (Many these) (Many others) =
    and_truth (has_each with_case these others) (has_each with_case others these)
equals with_case (One a) (Many others) = truths.Unknown
equals with_case (Many these) (One b) = truths.Unknown

-- a list has no order
abbrev pub compares_with : Bool → Values → Values → Relation
compares_with with_case (One a) (One b) = relation_of with_case a b
compares_with with_case (One a) (Many others) = Unlike
compares_with with_case (Many these) right = Unlike

-- each value on the right is one on the left; unknown if there is none on the right
abbrev pub contains : Bool → Values → Values → Truth
contains with_case left right =
    if length (listed right) == 0 then truths.Unknown else has_each with_case (listed left) (listed right)

abbrev pub any_of : Bool → Values → Values → Truth
any_of with_case left right = has_some with_case (listed left) (listed right)

abbrev pub compared : Operator → Bool → Values → Values → Truth
compared operators.Equal with_case left right = equals with_case left right
compared operators.NotEqual with_case left right = not_truth (equals with_case left right)
compared operators.Less with_case left right = is_less (compares_with with_case left right)
compared operators.LessOrEqual with_case left right = not_truth (is_greater (compares_with with_case left right))
compared operators.Greater with_case left right = is_greater (compares_with with_case left right)
compared operators.GreaterOrEqual with_case left right = not_truth (is_less (compares_with with_case left right))
compared operators.Contains with_case left right = contains with_case left right
compared operators.NotContains with_case left right = not_truth (contains with_case left right)
compared operators.AnyOf with_case left right = any_of with_case left right
compared operators.NotAnyOf with_case left right = not_truth (any_of with_case left right)
compared other with_case left right = truths.Unknown

-- case counts if it does on one side
abbrev pub comparison : Operator → Option OperandValue → Option OperandValue → Truth
comparison operator None right = truths.Unknown
comparison operator (Some left) None = truths.Unknown
comparison operator (Some left) (Some right) =
    compared operator (left.with_case || right.with_case) left.values right.values
