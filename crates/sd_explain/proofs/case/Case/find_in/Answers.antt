use Rattle.sd_explain.proofs.Cited.{Finding, List, NoEntry, Option, SidValue, ap, applies_in, get_or, get_or-replicate, length, option_map_id, part_of, sym, ◌∙◌}
use Rattle.sd_explain.proofs.AllFound.{found_none, found_passed, found_more, found_all, found_settled}
use Rattle.sd_explain.proofs.case.Case.find_in.Goals as goal

pub loop-index-init : goal.loop-index-init
loop-index-init c =
    found_none c.args.self.now.question.mapping.now (applies_in c.args.pass c.args.self.now.question.token.now c.args.self.now.question.owner.now) c.args.entries.now c.args.bits c.args.findings.now (ap length c.requires)
    (λ b h. ap (λ (fs : List Finding). get_or fs b NoEntry) c.requires ∙ get_or-replicate 32 b NoEntry NoEntry h)

pub loop-index-preserved-then-is_empty-2 : goal.loop-index-preserved-then-is_empty-2
loop-index-preserved-then-is_empty-2 c =
    let q = c.args.self.now.question in
    let e = c.index-entries-index.result in
    let loop = c.loop-index in
    found_passed q.mapping.now (applies_in c.args.pass q.token.now q.owner.now) c.args.entries.now c.args.bits loop.findings loop.undecided loop.index c.part.result c.common-decided.result e
    c.loop-index-test.true c.index-entries-index.is (c.part.ensures ∙ ap (λ (who : Option SidValue). part_of q.mapping.now (applies_in c.args.pass q.token.now who) e) (option_map_id q.owner.now)) c.common-decided.ensures (sym c.is_empty-in-loop-index.ensures ∙ c.if-is_empty-2.true) loop.invariant

pub loop-index-preserved : goal.loop-index-preserved
loop-index-preserved c =
    let q = c.args.self.now.question in
    let e = c.index-entries-index.result in
    let loop = c.loop-index in
    found_more q.mapping.now (applies_in c.args.pass q.token.now q.owner.now) c.args.entries.now c.args.bits loop.findings c.note.new.findings loop.undecided c.minus-undecided.result loop.index c.part.result c.common-decided.result e c.found.result
    c.loop-index-test.true c.index-entries-index.is (c.part.ensures ∙ ap (λ (who : Option SidValue). part_of q.mapping.now (applies_in c.args.pass q.token.now who) e) (option_map_id q.owner.now)) c.common-decided.ensures c.minus-undecided.ensures c.found.ensures c.note.ensures.size c.note.ensures.at loop.invariant

pub returns-then-is_empty : goal.returns-then-is_empty
returns-then-is_empty c = λ b h want.
    found_settled c.args.self.now.question.mapping.now (applies_in c.args.pass c.args.self.now.question.token.now c.args.self.now.question.owner.now) c.args.entries.now c.args.bits
    c.loop-index.findings c.loop-index.undecided c.loop-index.index b (sym c.is_empty.ensures ∙ c.if-is_empty.true) h want c.loop-index.invariant

pub returns : goal.returns
returns c = λ b h want.
    found_all c.args.self.now.question.mapping.now (applies_in c.args.pass c.args.self.now.question.token.now c.args.self.now.question.owner.now) c.args.entries.now c.args.bits c.loop-index.findings c.loop-index.undecided c.loop-index.index b
    c.loop-index-test.false h want c.loop-index.invariant
