-- The rows that are kept, as what they say.
use Rattle.std.specs.Prelude.{List, map, string_bytes}
use Rattle.sd_schema.specs.Row.{SchemaRow}
use Rattle.sd_schema.specs.declared.row.Row.{Row}
use Rattle.sd_schema.specs.declared.schema.Schema.{Schema}

-- what the row says
abbrev pub row_of : Row → SchemaRow
row_of row = record { guid = row.guid; name = string_bytes row.name }

-- what the rows say, in the file's order
abbrev pub all_rows : List Row → List SchemaRow
all_rows rows = map row_of rows

abbrev pub rows_of : Schema → List SchemaRow
rows_of schema = all_rows schema.rows.items
