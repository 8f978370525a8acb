use Rattle.sd_analysis.proofs.Cited.{AreGains, parts_of, subst}
use Rattle.sd_analysis.proofs.Gathered.{nothing_gained}
use Rattle.sd_analysis.proofs.compare_gains.compare.Goals as goal

pub returns-clause-same : goal.returns-clause-same
returns-clause-same c = λ same. (
  nothing_gained c.args.mapping.now c.args.base.now (parts_of c.args.new.now) c.in_ok-gained.gained.items
      (subst (λ p. AreGains c.args.mapping.now c.args.base.now p (parts_of c.args.new.now) c.in_ok-gained.gained.items) same c.in_ok-gained.ensures),
  nothing_gained c.args.mapping.now c.args.base.now (parts_of c.args.new.now) c.in_ok-lost.lost.items
      (subst (λ p. AreGains c.args.mapping.now c.args.base.now (parts_of c.args.new.now) p c.in_ok-lost.lost.items) same c.in_ok-lost.ensures),
)
