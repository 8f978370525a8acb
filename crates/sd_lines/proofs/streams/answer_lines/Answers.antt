use Rattle.sd_lines.proofs.Cited.{All-append, Consumes-kept, Consumes-trans, IfErr-weaker, IsAtEnd, [], ap, append-nil, append_assoc, arith, err_from_is_err_and, false, inner_of, nat_tests, on_ok_weaker, refl, rules, sym, take, text_after, ◌++◌, ◌∙◌, ◌≡◌}
use Rattle.sd_lines.proofs.Cutting.{ends, none_above}
use Rattle.sd_lines.proofs.Steps.{leaves_ended}
use Rattle.sd_lines.proofs.streams.answer_lines.Goals as goal

pub returns-in-Err-clause-err : goal.returns-in-Err-clause-err
returns-in-Err-clause-err g c =
    let s = c.loop.invariant in
    let a = rw (append-nil s.read) at (s.answered []) in
    leaves_ended s.read a _ _ (Consumes-kept _ _ _ _ s.consumed c.in-Err.ensures.bytes) refl
    (All-append (λ b. ends c.args.form.ending b ≡ false) a.begun _ a.unended s.held)

-- ---- at the end of the input

pub returns-in_err-end-in-Ok-eq0-clause-err : goal.returns-in_err-end-in-Ok-eq0-clause-err
returns-in_err-end-in-Ok-eq0-clause-err g c =
    let s = c.loop.invariant in
    let refused = err_from_is_err_and c.from_residual.result c.from_residual.ensures.1 in
    rw (refused.1, refused.2) (leaves_ended _ (s.answered _) _ _ (Consumes-trans _ _ _ s.read _ s.consumed c.in-Ok-eq0.ensures.bytes.0) refl tt)

pub returns-in-Ok-eq0 : goal.returns-in-Ok-eq0
returns-in-Ok-eq0 g c =
    let s = c.loop.invariant in
    let none : c.in-Ok-eq0.field-0 ≡ 0 = let test = c.in-Ok-eq0.field-0-test in grind (arith, nat_tests) in
    let gone = Consumes-trans _ _ _ s.read [] s.consumed (rw none at c.in-Ok-eq0.ensures.bytes.0) in
    let end : IsAtEnd (g.R.Read.remaining (inner_of c.read.new.self)) = c.in-Ok-eq0.ensures.bytes.1 none (search rules) in
    let last : c.deref.result.now ≡ text_after c.loop.decoder [] =
    c.deref.ensures.value ∙ c.in_ok-end-in-Ok-eq0.ensures ∙ ap (λ l. l ++ text_after c.loop.decoder []) c.clear.ensures.items in
    let a = rw (sym last) at (s.answered []) in record {
      ok = on_ok_weaker c.answer_end.result (λ ends. ends c.args.state.now _ _ _ _ a gone end) c.answer_end.ensures.ok;
      err = IfErr-weaker c.answer_end.result _ _ (λ error ends. ends c.args.state.now _ _ _ _ a gone end) c.answer_end.ensures.err;
      read = search rules;
      write = search rules;
    }

-- ---- after a read

pub returns-in_err-decode-in-Ok-clause-err : goal.returns-in_err-decode-in-Ok-clause-err
returns-in_err-decode-in-Ok-clause-err g c =
    let s = c.loop.invariant in
    let refused = err_from_is_err_and c.from_residual-in_err-decode-in-Ok.result c.from_residual-in_err-decode-in-Ok.ensures.1 in
    rw (refused.1, refused.2) (leaves_ended _ (s.answered _) _ _ (Consumes-trans _ _ _ s.read _ s.consumed c.in-Ok.ensures.bytes.0) refl tt)

pub returns-in_err-answer_parts-in-Ok-clause-err : goal.returns-in_err-answer_parts-in-Ok-clause-err
returns-in_err-answer_parts-in-Ok-clause-err g c =
    let s = c.loop.invariant in
    let part = take c.in-Ok.count c.read.new.buf in
    let decoded = c.in_ok-decode-in-Ok.ensures.text in
    let added : c.deref-in-Ok.result.now ≡ decoded.0 = c.deref-in-Ok.ensures.value ∙ decoded.1 ∙ ap (λ l. l ++ decoded.0) c.clear.ensures.items in
    let refused = err_from_is_err_and c.from_residual-in_err-answer_parts-in-Ok.result c.from_residual-in_err-answer_parts-in-Ok.ensures.1 in
    rw (refused.1, refused.2)
    (c.in_err-answer_parts-in-Ok.ensures.err c.args.state.now _ _ _ _ (text_after c.decode.new.self [])
    (rw added (rw (decoded.2 [], append-nil part) at (s.answered (part ++ []))))
    (Consumes-trans _ _ _ s.read _ s.consumed c.in-Ok.ensures.bytes.0))

pub loop-preserved : goal.loop-preserved
loop-preserved g c =
    let s = c.loop.invariant in
    let part = take c.in-Ok.count c.read.new.buf in
    let decoded = c.in_ok-decode-in-Ok.ensures.text in
    let added : c.deref-in-Ok.result.now ≡ decoded.0 = c.deref-in-Ok.ensures.value ∙ decoded.1 ∙ ap (λ l. l ++ decoded.0) c.clear.ensures.items in
    record {
      read = s.read ++ part;
      consumed = Consumes-trans _ _ _ s.read _ s.consumed c.in-Ok.ensures.bytes.0;
      held = none_above c.args.form.ending _ c.in_ok-decode-in-Ok.ensures.left;
      answered = λ more.
          rw (append_assoc s.read part more)
          (c.in_ok-answer_parts-in-Ok.ensures.ok c.args.state.now _ _ _ (rw added (rw (decoded.2 more) at (s.answered (part ++ more)))));
      goes_on = c.in_ok-answer_parts-in-Ok.ensures.goes_on;
      reads = search rules;
      writes = search rules;
    }

pub returns-clause-err : goal.returns-clause-err
returns-clause-err g c =
    let s = c.loop.invariant in
    leaves_ended s.read (rw (append-nil s.read) at (s.answered [])) _ _ s.consumed refl tt
