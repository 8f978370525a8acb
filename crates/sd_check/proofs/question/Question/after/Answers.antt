-- An entry that is passed over changes nothing.
use Rattle.std.proofs.Common.{◌∷◌, []}
use Rattle.sd_check.specs.Fold.{asking}
use Rattle.sd_check.proofs.Passes.{tally_over}
use Rattle.sd_check.proofs.question.Question.after.Goals.{then-is_silent-via-then-is_silent, then-is_silent-via-else-is_silent+then-is_over}
use Rattle.sd_check.proofs.question.Question.after.Goals as goal

pub returns-then-is_silent : goal.returns-then-is_silent
returns-then-is_silent g c = λ seen comes.
    let q = asking g.O.Trustee.sid c.args.self.now in
    elim c.then-is_silent.branch [
      | then-is_silent-via-then-is_silent w ↦ c.is_silent.ensures w.if-is_silent.true _ c.args.progress seen comes
      | then-is_silent-via-else-is_silent+then-is_over w ↦
          tally_over _ q seen (g.E.Entry.ace c.args.entry.now ∷ []) c.args.progress (w.is_over.ensures.first w.if-is_over.true) (w.is_over.ensures.second w.if-is_over.true) comes
    ]
