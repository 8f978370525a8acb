use Rattle.std.proofs.Common.{sym, ◌∙◌}
use Rattle.sd_analysis.proofs.Restricted.{worth_rest}
use Rattle.sd_analysis.proofs.compare_search.Case.worth_trying.Goals as goal

pub returns : goal.returns
returns c = λ denied b low granted sought.
    worth_rest c.args.self.now c.args.pass c.args.demand c.granted-granted.result c.owned.result c.common.result c.args.alone.now denied b low c.requires.alone
    c.common.ensures (c.owned.ensures b low) (sym c.is_rest.ensures ∙ c.if-not-is_rest.false) (c.granted-granted.ensures b low ∙ granted) sought

pub returns-then-not-is_rest : goal.returns-then-not-is_rest
returns-then-not-is_rest c = λ denied b low granted sought. c.granted-granted.ensures b low ∙ granted
