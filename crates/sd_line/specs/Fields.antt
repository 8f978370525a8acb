-- The fields of a part, as the printers walk over them.
use Rattle.std.specs.Prelude.{List, option_map}
use Rattle.sd_line.specs.Form.{pieces_after}
use Rattle.sd_line.specs.Line.{FieldOf, fields_from}
use Rattle.sd_line.specs.declared.fields.Field.{Field}
use Rattle.sd_line.specs.declared.fields.Fields.{Fields}

abbrev pub field_in : Field → FieldOf
field_in f = record { name = f.name.now; value = f.value.now; words = f.words.now }

abbrev pub fields_in : Fields → List FieldOf
fields_in f = fields_from (pieces_after (option_map (λ text. text.now) f.pieces)) f.values.now
