-- The values of this crate's types that borrow, as contracts see them.
use Rattle.std.specs.Prelude.{map}
use Rattle.sd_evaluation.specs.Evaluation.{Part as SeenPart}
use Rattle.sd_evaluation.specs.Evaluation as parts
use Rattle.sd_evaluation.specs.Value.{Datum as SeenDatum, Values as SeenValues, OperandValue, claim_datum}
use Rattle.sd_evaluation.specs.Value.{literal_datum}
use Rattle.sd_evaluation.specs.Value as operands
use Rattle.sd_evaluation.specs.declared.datum.Datum.{Datum}
use Rattle.sd_evaluation.specs.declared.datum.Datum.TheVariants as data_
use Rattle.sd_evaluation.specs.declared.operand.Operand.{Operand}
use Rattle.sd_evaluation.specs.declared.operand.Values.{Values}
use Rattle.sd_evaluation.specs.declared.operand.Values.TheVariants as values
use Rattle.sd_evaluation.specs.declared.part.Part.{Part}
use Rattle.sd_evaluation.specs.declared.part.Part.TheVariants as the_parts

abbrev pub seen : Datum → SeenDatum
seen (data_.Number n) = operands.Number n
seen (data_.Text text) = operands.Text text.now
seen (data_.Octets octets) = operands.Octets octets.now
seen (data_.Sid s) = operands.Sid s
seen data_.Unreadable = operands.Unreadable

abbrev pub seen_values : Values → SeenValues
seen_values (values.One datum) = operands.One (seen datum)
seen_values (values.Literals vs) = operands.Many (map literal_datum vs.now)
seen_values (values.OfClaim vs) = operands.Many (map claim_datum vs.now)

abbrev pub seen_operand : Operand → OperandValue
seen_operand o = record { values = seen_values o.values; with_case = o.with_case }

abbrev pub seen_part : Part → SeenPart
seen_part (the_parts.Leaf token) = parts.Leaf token.now
seen_part (the_parts.Evaluated truth) = parts.Evaluated truth
