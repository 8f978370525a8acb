use Rattle.sd_check.specs.Check.{applies_in}
use Rattle.sd_explain.proofs.AllFound.{IsFound}
use Rattle.sd_explain.proofs.case.Case.find_in.Given as goal

abbrev pub invariant-loop-index : goal.invariant-loop-index
invariant-loop-index l = IsFound l.self.question.mapping.now (applies_in l.pass l.self.question.token.now l.self.question.owner.now) l.entries l.findings l.undecided l.fn.bits l.index
