-- What a condition is for who asks, over its tree ([MS-DTYP] 2.5.3.1.5, EvaluateAceCondition; the operators 2.4.4.17.6,
-- 2.4.4.17.7).
use Rattle.std.specs.Prelude.{pos, not, ◌==◌, is_some, List, length, Option, Some, None}
use Rattle.std.specs.Option.{option_map}
use Rattle.std.specs.Ordering.{int_eq}
use Rattle.sd_acl.specs.declared.ace.AceKind.{AceKind}
use Rattle.sd_check.specs.declared.grounds.Pass.{Pass}
use Rattle.sd_condition.specs.declared.operator.Operator.{Operator}
use Rattle.sd_condition.specs.declared.operator.Operator.TheVariants as operators
use Rattle.sd_condition.specs.declared.token.Token.{Token}
use Rattle.sd_condition_text.specs.Tree.{Tree, Operand, One, Two, tree_of}
use Rattle.sd_evaluation.specs.Compare.{comparison}
use Rattle.sd_evaluation.specs.Facts.{FactsValue}
use Rattle.sd_evaluation.specs.Member.{literals_of, membership}
use Rattle.sd_evaluation.specs.Truth.{and_truth, not_truth, or_truth, truth_if}
use Rattle.sd_evaluation.specs.Value.{OperandValue, Values, operand_of}
use Rattle.sd_evaluation.specs.Value as datums
use Rattle.sd_evaluation.specs.declared.truth.Truth.{Truth}
use Rattle.sd_evaluation.specs.declared.truth.Truth.TheVariants.{Unknown}

-- ---- an attribute alone

-- a number that isn't zero, or a text that isn't empty; other values, and lists, are neither true nor false
abbrev pub value_truth : Values → Truth
value_truth (datums.One (datums.Number n)) = truth_if (not (int_eq n (pos 0)))
value_truth (datums.One (datums.Text text)) = truth_if (not (length text == 0))
value_truth other = Unknown

abbrev pub truth_alone : Option OperandValue → Truth
truth_alone None = Unknown
truth_alone (Some operand) = value_truth operand.values

-- ---- the parts of a condition

-- what a part is to the operator over it: an operand, or the truth that an operator left
pub data Part : Type 0 where
  Leaf : Token → Part
  Evaluated : Truth → Part

abbrev pub part_truth : FactsValue → AceKind → Part → Truth
part_truth f kind (Leaf token) = truth_alone (operand_of f kind token)
part_truth f kind (Evaluated truth) = truth

abbrev pub part_operand : FactsValue → AceKind → Part → Option OperandValue
part_operand f kind (Leaf token) = operand_of f kind token
part_operand f kind (Evaluated truth) = None

abbrev pub part_membership : FactsValue → AceKind → Pass → Operator → Part → Truth
part_membership f kind pass operator (Leaf token) = membership f kind pass operator (literals_of token)
part_membership f kind pass operator (Evaluated truth) = Unknown

-- an operator over one part. An attribute exists or doesn't, which is never unknown
abbrev pub one_truth : FactsValue → AceKind → Pass → Operator → Part → Truth
one_truth f kind pass operators.Not part = not_truth (part_truth f kind part)
one_truth f kind pass operators.Exists part = truth_if (is_some (part_operand f kind part))
one_truth f kind pass operators.NotExists part = truth_if (not (is_some (part_operand f kind part)))
one_truth f kind pass operator part = part_membership f kind pass operator part

-- an operator over two
abbrev pub two_truth : FactsValue → AceKind → Operator → Part → Part → Truth
two_truth f kind operators.And left right = and_truth (part_truth f kind left) (part_truth f kind right)
two_truth f kind operators.Or left right = or_truth (part_truth f kind left) (part_truth f kind right)
two_truth f kind operator left right = comparison operator (part_operand f kind left) (part_operand f kind right)

abbrev pub over_one : FactsValue → AceKind → Pass → Operator → Part → Part
over_one f kind pass operator part = Evaluated (one_truth f kind pass operator part)

abbrev pub over_two : FactsValue → AceKind → Operator → Part → Part → Part
over_two f kind operator left right = Evaluated (two_truth f kind operator left right)

-- ---- the tree

abbrev pub part_of : FactsValue → AceKind → Pass → Tree → Part
part_of f kind pass (Operand token) = Leaf token
part_of f kind pass (One operator tree) = over_one f kind pass operator (part_of f kind pass tree)
part_of f kind pass (Two operator left right) =
    over_two f kind operator (part_of f kind pass left) (part_of f kind pass right)

abbrev pub truth_of : FactsValue → AceKind → Pass → Tree → Truth
truth_of f kind pass tree = part_truth f kind (part_of f kind pass tree)

-- what the condition of these tokens is: each condition has a tree
abbrev pub condition_truth : FactsValue → AceKind → Pass → List Token → Option Truth
condition_truth f kind pass ts = option_map (truth_of f kind pass) (tree_of ts)
