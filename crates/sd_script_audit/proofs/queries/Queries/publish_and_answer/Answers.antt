use Rattle.sd_script_audit.proofs.Cited.{Answer, Told, ap, arith, length, style_in, sym, ◌++◌, ◌<◌, ◌∙◌}
use Rattle.sd_script_audit.proofs.Answering.{answered_more, replies_by, some_of}
use Rattle.sd_script_audit.proofs.queries.Queries.publish_and_answer.Goals as goal

pub loop-answer-preserved : goal.loop-answer-preserved
loop-answer-preserved g c =
    let o = g.J.StoreId.opening in
    let journal = c.args.writer.now.journal ++ c.args.writer.now.pending in
    let queries = c.args.queries.now in
    let answers = c.in-Ok.answers.items in
    let i = c.loop-answer.answer-index in
    let given = c.answer-item.result in
    let is = rw (c.deref-answer-items.ensures.value) at c.answer-item.is in
    let low : i < length answers = rw (c.deref-answer-items.ensures.value) at c.loop-answer-test.true in
    let within : i < length queries = omega (arith, low, c.in-Ok.ensures.count) in
    let q = some_of queries (omega arith) in
    let seen = c.if-answer-seen.false ∙ c.length-seen.ensures.length
    ∙ ap (λ (t : Told). length t.journal) c.in-Ok.ensures.notice ∙ ap length c.in_ok-notice.ensures.journal in
    let grown = rw (c.in_ok-notice.ensures.journal) at c.in-Ok.ensures.grown in
    let are = rw (c.in_ok-notice.ensures.journal) at c.in-Ok.ensures.answers in
    let style = style_in c.args.self.now.notation in
    let grown_by = rw (c.style-style.ensures) at c.in_ok-push_line.ensures in
    answered_more style o journal queries i q given c.in_ok-line.line c.publish_and_tell.new.out.items c.loop-answer.out.items c.push_line.new.out.items
    within c.loop-answer.invariant grown_by c.in_ok-line.ensures seen
    (ap (λ (a : Answer). a.reply) is
    ∙ replies_by o journal queries c.args.checkers.now c.audit.new.checkers answers i given q c.requires.some.0 grown are low (ap (λ (a : Answer). a.seen) (sym is) ∙ seen))
