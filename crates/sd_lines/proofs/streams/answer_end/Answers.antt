use Rattle.sd_lines.proofs.Cited.{Appends-nil, [], append-nil, arith, err_from_is_err_and, length, nat_tests, nil_from_length, refl, sym, text_of, ◌<◌, ◌∙◌, ◌≡◌}
use Rattle.sd_lines.proofs.Steps.{all_appended, leaves_ended, no_last, one_last, part_appended}
use Rattle.sd_lines.proofs.streams.answer_end.Goals as goal

pub returns-in_err-answer_parts-clause-err : goal.returns-in_err-answer_parts-clause-err
returns-in_err-answer_parts-clause-err g c =
    let refused = err_from_is_err_and c.from_residual.result c.from_residual.ensures.1 in
    rw (refused.1, refused.2)
    (λ old start input left read a consumed end.
    c.in_err-answer_parts.ensures.err old start input left read [] (rw (append-nil c.args.bytes.now) a) consumed)

pub returns-then-is_empty-clause-ok : goal.returns-then-is_empty-clause-ok
returns-then-is_empty-clause-ok g c old start input left read a consumed end =
    let more = c.in_ok-answer_parts.ensures.ok old start (text_of c.args.form read) [] (rw (append-nil c.args.bytes.now) a) in
    let nothing : c.answer_parts.new.line.items ≡ [] = nil_from_length _ (let test = sym c.is_empty.ensures ∙ c.if-is_empty.true in grind (arith, nat_tests)) in
    all_appended read more input left consumed _ [] _ (no_last more refl nothing) end (Appends-nil _)

pub returns-in_err-answer-clause-err : goal.returns-in_err-answer-clause-err
returns-in_err-answer-clause-err g c =
    let refused = err_from_is_err_and c.from_residual-in_err-answer.result c.from_residual-in_err-answer.ensures.1 in
    rw (refused.1, refused.2)
    (λ old start input left read a consumed end.
    leaves_ended read (c.in_ok-answer_parts.ensures.ok old start (text_of c.args.form read) [] (rw (append-nil c.args.bytes.now) a)) input left consumed refl tt)

pub returns-in_err-write_whole-clause-err : goal.returns-in_err-write_whole-clause-err
returns-in_err-write_whole-clause-err g c =
    let said = rw (c.clear.ensures.items) at c.in_ok-answer.ensures in
    let some : 0 < length c.answer_parts.new.line.items = let test = sym c.is_empty.ensures ∙ c.if-is_empty.false in grind (arith, nat_tests) in
    let asked = rw (c.asked.ensures, c.deref.ensures.value) at said.2 in
    let refused = err_from_is_err_and c.from_residual-in_err-write_whole.result c.from_residual-in_err-write_whole.ensures.1 in
    rw (refused.1, refused.2, c.in_err-write_whole.ensures.only)
    (λ old start input left read a consumed end.
    let more = c.in_ok-answer_parts.ensures.ok old start (text_of c.args.form read) [] (rw (append-nil c.args.bytes.now) a) in
    part_appended read more input left consumed _ said.0 c.answer.new.state (one_last more said.0 c.answer.new.state refl some c.in_ok-answer_parts.ensures.goes_on asked) end
    (rw (c.deref-2.ensures.value, said.1) at c.in_err-write_whole.ensures.err))

pub returns-clause-ok : goal.returns-clause-ok
returns-clause-ok g c old start input left read a consumed end =
    let said = rw (c.clear.ensures.items) at c.in_ok-answer.ensures in
    let some : 0 < length c.answer_parts.new.line.items = let test = sym c.is_empty.ensures ∙ c.if-is_empty.false in grind (arith, nat_tests) in
    let asked = rw (c.asked.ensures, c.deref.ensures.value) at said.2 in
    let more = c.in_ok-answer_parts.ensures.ok old start (text_of c.args.form read) [] (rw (append-nil c.args.bytes.now) a) in
    all_appended read more input left consumed _ said.0 c.answer.new.state (one_last more said.0 c.answer.new.state refl some c.in_ok-answer_parts.ensures.goes_on asked) end
    (rw (c.deref-2.ensures.value, said.1) at c.in_ok-write_whole.ensures.ok)
