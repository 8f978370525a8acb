use Rattle.sd_analysis.proofs.Cited.{agree_below_at, ap, holds, listed_of, point_at, refl, true, ◌||◌, ◌≡◌}
use Rattle.sd_analysis.proofs.Shares.{in_question}
use Rattle.sd_analysis.proofs.compare_search.in_question.Goals as goal
use Rattle.sd_analysis.proofs.compare_search.in_question.Goals.{then-demand, else-demand}

pub returns : goal.returns
returns c = λ b low.
    let after = holds (listed_of (point_at c.args.both.now.after c.args.place)) b in
    let before = holds (listed_of (point_at c.args.both.now.before c.args.place)) b in
    let granted : holds c.if-demand.granted b ≡ (c.args.demand.by_owner || after) = elim c.if-demand.branch [
      | then-demand w ↦ rw (w.granted-is, w.if-demand.true) (agree_below_at (holds 0x001FFFFF) (λ k. true) 21 b refl low)
      | else-demand w ↦ rw (w.granted-is, w.if-demand.false) (ap (λ m. holds m b) w.listed-granted.ensures)
    ] in
    in_question c.if-demand.granted c.only_if-listed.result c.minus.result c.common.result c.listed.result c.args.among b after before
    c.args.demand.by_owner c.args.demand.unlisted low granted c.only_if-listed.ensures (ap (λ m. holds m b) c.listed.ensures) c.minus.ensures c.common.ensures
