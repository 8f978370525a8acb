use Rattle.sd_lines.proofs.Cited.{Consumes-trans, arith, err_from_is_err_and, length-append, take, ◌++◌}
use Rattle.sd_lines.proofs.input.read_whole.Goals as goal

pub returns-in-Ok-clause-err : goal.returns-in-Ok-clause-err
returns-in-Ok-clause-err g c =
    let text = c.reads.text.items in
    let bytes = take c.in-Ok.count c.read.new.buf in
    let counted = c.in-Ok.ensures.bound.1 in
    record {
      part = text ++ bytes;
      consumed = Consumes-trans _ _ _ _ _ c.reads.invariant.consumed c.in-Ok.ensures.bytes.0;
      fits = omega (arith, length-append text bytes, counted, c.reads.text.ok.0);
    }

pub returns-in_err-extend_from_slice-in-Ok-2-clause-err :
    goal.returns-in_err-extend_from_slice-in-Ok-2-clause-err
returns-in_err-extend_from_slice-in-Ok-2-clause-err g c =
    let text = c.reads.text.items in
    let bytes = take c.in-Ok-2.count c.read.new.buf in
    let counted = c.in-Ok-2.ensures.bound.1 in
    let refused = err_from_is_err_and c.from_residual.result c.from_residual.ensures.1 in
    rw (refused.1, refused.2) (record {
      part = text ++ bytes;
      consumed = Consumes-trans _ _ _ _ _ c.reads.invariant.consumed c.in-Ok-2.ensures.bytes.0;
      fits = omega (arith, length-append text bytes, counted, c.reads.text.ok.0);
    })
