use Rattle.sd_analysis.proofs.Cited.{First, true}
use Rattle.sd_analysis.proofs.Gathered.{gains_of, each_gains, each_refused}
use Rattle.sd_analysis.proofs.compare_search.Case.unrestricted.Goals as goal

pub returns-then-not-may_gain-clause-complete : goal.returns-then-not-may_gain-clause-complete
returns-then-not-may_gain-clause-complete c = λ t b low has still. c.may_gain.ensures c.if-not-may_gain.true First true t b

pub returns-clause-report : goal.returns-clause-report
returns-clause-report c = λ before. c.in_ok-add_each.ensures.report (gains_of c.args.self.now) before
    (each_gains c.args.self.now c.args.by_owner c.args.report.now.wanted c.in_ok-findings.findings.items c.deref.result.now c.deref.ensures.value c.in_ok-findings.ensures)

pub returns-clause-less : goal.returns-clause-less
returns-clause-less c = c.in_ok-add_each.ensures.less

pub returns-clause-complete : goal.returns-clause-complete
returns-clause-complete c =
    each_refused c.args.self.now c.args.by_owner c.args.report.now.wanted c.in_ok-findings.findings.items c.deref.result.now
    c.add_each.new.report c.deref.ensures.value c.in_ok-findings.ensures c.in_ok-add_each.ensures.less c.in_ok-add_each.ensures.gone
