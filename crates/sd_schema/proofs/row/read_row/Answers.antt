use Rattle.std.proofs.Common.{subst, sym, ◌≡◌, IfErr, IfOk, Ok}
use Rattle.sd_schema.specs.Kept.{row_of}
use Rattle.sd_schema.specs.Row.{IsLineError}
use Rattle.sd_schema.proofs.Utf8.{row_of_line}
use Rattle.sd_schema.proofs.row.read_row.Goals as goal

pub returns-in-Ok-clause-row : goal.returns-in-Ok-clause-row
returns-in-Ok-clause-row c =
    let is = c.in-Ok.ensures.cases in
    subst (λ found. IfOk c.row_of_text.result (λ row. found ≡ Ok (row_of row))) (sym (row_of_line c.args.line.now c.in-Ok.text.now is.0 is.1)) c.row_of_text.ensures.row

pub returns-in-Ok-clause-none : goal.returns-in-Ok-clause-none
returns-in-Ok-clause-none c =
    let is = c.in-Ok.ensures.cases in
    subst (λ found. IfErr c.row_of_text.result (IsLineError found)) (sym (row_of_line c.args.line.now c.in-Ok.text.now is.0 is.1)) c.row_of_text.ensures.none
