use Rattle.std.proofs.Common.{Err, [], ap, arith, length, length-append, refl, sym, ◌+◌, ◌++◌, ◌∙◌, ◌∷◌, ◌≡◌}
use Rattle.std.proofs.lemmas.List.{append_assoc}
use Rattle.std.specs.Option.{option_copied}
use Rattle.sd_accounts.specs.Kept.{all_rows}
use Rattle.sd_accounts.specs.declared.fault.AccountsError.TheVariants.{Fault}
use Rattle.sd_accounts.proofs.Faults.{passed_on}
use Rattle.sd_accounts.proofs.Lines.{left_len, less_left, lines_left, next_line}
use Rattle.sd_accounts.proofs.Rows.{line_more, no_rows}
use Rattle.sd_accounts.proofs.read.read_rows.Goals as goal

pub lines-init : goal.lines-init
lines-init c = record { done = []; parts = refl; place = refl; are_rows = no_rows _ c.new-rows.ensures.items; room = omega arith }

pub returns-in_err-read_line-clause-fault : goal.returns-in_err-read_line-clause-fault
returns-in_err-read_line-clause-fault c = λ place kind is.
    let inv = c.lines.invariant in
    let line = c.without_return.result.now in
    let fault = c.in_err-read_line.ensures.fault place kind (ap Err (passed_on c.from_residual.result c.in_err-read_line.field-0.0 (Fault place kind) c.from_residual.ensures.1 is)) in
    record {
      before = inv.done;
      rows = all_rows c.lines.rows.items;
      line = line;
      after = lines_left (option_copied c.cut.result.1);
      parts = next_line c.args.text.now c.in-Some.text.now c.cut.result.0.now line inv.done (option_copied c.lines.left) (option_copied c.cut.result.1) inv.parts
          (ap option_copied c.in-Some.is) c.cut.ensures.before c.without_return.ensures c.cut.ensures.after;
      place = fault.place_is ∙ ap (λ n. n + 1) inv.place;
      are_rows = inv.are_rows;
      something = fault.something;
      no_row = fault.no_row;
    }

pub lines-preserved : goal.lines-preserved
lines-preserved c =
    let inv = c.lines.invariant in
    let line = c.without_return.result.now in
    let left : left_len (option_copied c.lines.left) ≡ length c.in-Some.text.now + 1 = ap (λ l. left_len (option_copied l)) c.in-Some.is in
    let less = less_left c.cut.result.1 c.in-Some.text.now c.cut.ensures.less in
    record {
      done = inv.done ++ line ∷ [];
      parts = next_line c.args.text.now c.in-Some.text.now c.cut.result.0.now line inv.done (option_copied c.lines.left) (option_copied c.cut.result.1) inv.parts
          (ap option_copied c.in-Some.is) c.cut.ensures.before c.without_return.ensures c.cut.ensures.after ∙ sym (append_assoc inv.done (line ∷ []) (lines_left (option_copied c.cut.result.1)));
      place = omega (arith, inv.place, length-append inv.done (line ∷ []));
      are_rows = line_more inv.done (all_rows c.lines.rows.items) (all_rows c.read_line.new.rows.items) line inv.are_rows c.in_ok-read_line.ensures.row;
      room = omega (arith, inv.room, left, less);
    }
