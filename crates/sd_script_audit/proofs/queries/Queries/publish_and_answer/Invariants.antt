-- The queries so far are answered, by all that was accepted.
use Rattle.sd_script_audit.proofs.Cited.{None, answer_line, map, printed, style_in, take, ◌++◌, ◌≡◌}
use Rattle.sd_script_audit.proofs.queries.Queries.publish_and_answer.Given as goal

abbrev pub invariant-loop-answer : goal.invariant-loop-answer
invariant-loop-answer g l =
    l.out.items ≡ l.initial.out.items
    ++ printed (style_in l.self.notation) None (map (answer_line g.J.StoreId.opening (l.fn.writer.journal ++ l.fn.writer.pending)) (take l.answer-index l.queries))
