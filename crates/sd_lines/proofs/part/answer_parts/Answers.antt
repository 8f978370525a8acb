use Rattle.sd_lines.proofs.Cited.{[], arith, err_from_is_err_and, inner_of, nat_tests, nil_from_length, refl, rules, sym, ◌∙◌, ◌≡◌}
use Rattle.sd_lines.proofs.Steps.{all_written, leaves_ended, leaves_long, leaves_part}
use Rattle.sd_lines.proofs.part.answer_parts.Goals as goal

pub returns-in_err-rest-clause-err : goal.returns-in_err-rest-clause-err
returns-in_err-rest-clause-err g c =
    let refused = err_from_is_err_and c.from_residual.result c.from_residual.ensures.1 in
    rw (refused.1, refused.2)
    (λ old start input left read more a consumed. leaves_ended read (c.loop-rest.invariant.continues old start _ more a) input left consumed refl tt)

pub returns-in_err-write_whole-clause-err : goal.returns-in_err-write_whole-clause-err
returns-in_err-write_whole-clause-err g c =
    let taken = rw (c.clear.ensures.items) at (c.in_ok-rest.ensures.takes (g.W.Write.contents (inner_of c.loop-rest.writer))) in
    let wrote = rw (c.deref.ensures.value) at c.in_err-write_whole.ensures.err in
    let refused = err_from_is_err_and c.from_residual-in_err-write_whole.result c.from_residual-in_err-write_whole.ensures.1 in
    rw (refused.1, refused.2, c.in_err-write_whole.ensures.only)
    (λ old start input left read more a consumed.
    leaves_part read (taken old start _ more (c.loop-rest.invariant.continues old start _ more a)) input left consumed _ wrote)

pub returns-then-ends_run-clause-err : goal.returns-then-ends_run-clause-err
returns-then-ends_run-clause-err g c old start input left read more a consumed =
    let taken = rw (c.clear.ensures.items) at (c.in_ok-rest.ensures.takes (g.W.Write.contents (inner_of c.loop-rest.writer))) in
    let wrote = rw (c.deref.ensures.value) at c.in_ok-write_whole.ensures.ok in
    leaves_long read (all_written (taken old start _ more (c.loop-rest.invariant.continues old start _ more a)) _ wrote) input left consumed refl
    (rw (c.deref-in-loop-rest.ensures.value) at (sym c.ends_run.ensures ∙ c.if-ends_run.true))

pub loop-rest-preserved : goal.loop-rest-preserved
loop-rest-preserved g c =
    let taken = rw (c.clear.ensures.items) at (c.in_ok-rest.ensures.takes (g.W.Write.contents (inner_of c.loop-rest.writer))) in
    let wrote = rw (c.deref.ensures.value) at c.in_ok-write_whole.ensures.ok in
    record {
      continues = λ old start text more a. all_written (taken old start text more (c.loop-rest.invariant.continues old start text more a)) _ wrote;
      goes_on = rw (c.deref-in-loop-rest.ensures.value) at (sym c.ends_run.ensures ∙ c.if-ends_run.false);
      unfailed = search rules;
    }

pub returns-clause-ok : goal.returns-clause-ok
returns-clause-ok g c =
    let nothing : c.loop-rest.rest.now ≡ [] = nil_from_length _ (let test = sym c.is_empty.ensures ∙ c.loop-rest-test.false in grind (arith, nat_tests)) in
    rw nothing at c.loop-rest.invariant.continues
