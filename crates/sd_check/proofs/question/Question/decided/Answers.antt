-- The entry decides what was undecided of its mask, in each pass.
use Rattle.std.proofs.Common.{◌≡◌, true, false, not, ◌&&◌, nat_eq, cond, sym, ◌∙◌, ap}
use Rattle.sd_check.proofs.Cited.{applies, applies_again, asking, is_limit, mapped, owner_rights, same_sid}
use Rattle.sd_check.proofs.Passes.{part_in_force, pass_decides}
use Rattle.sd_check.proofs.question.Question.decided.Goals.{then-this-ne0, else-this-ne0}
use Rattle.sd_check.proofs.question.Question.decided.Goals as goal

pub returns-clause-takes : goal.returns-clause-takes
returns-clause-takes g c = λ seen comes.
    let q = asking g.O.Trustee.sid c.args.self.now in
    let entry = g.E.Entry.ace c.args.entry.now in
    let progress = c.args.progress in
    let mask = c.map-mask.ensures ∙ ap (mapped q.mapping) c.mask.ensures in
    let limit : c.args.limits ≡ is_limit entry = c.requires.limits ∙ ap (λ io. not io && same_sid entry.sid owner_rights) (sym c.requires.in_force) in
    let keeps = c.only_if-kept.ensures ∙ ap (λ l. cond (not l) progress.kept 0) limit in
    record {
      first = pass_decides q.mapping (applies q.token q.owner) _ _ seen entry progress.first progress.kept c.only_if.result c.kind-kind.result c.after-first.result c.only_if-kept.result
          (c.only_if.ensures ∙ part_in_force q.mapping (applies q.token q.owner) entry c.args.applies c.map-mask.result c.requires.in_force c.requires.applies mask) c.kind-kind.ensures c.after-first.ensures.undecided c.after-first.ensures.allowed keeps comes.first;
      second = λ yes. elim c.if-this-ne0.branch [
        | then-this-ne0 w ↦ rw w.second-is (pass_decides q.mapping (applies_again q.token q.owner) _ _ seen entry progress.second progress.kept w.only_if-then-this-ne0.result c.kind-kind.result w.after-second.result c.only_if-kept.result
            (w.only_if-then-this-ne0.ensures ∙ part_in_force q.mapping (applies_again q.token q.owner) entry w.applies_again-applies_again.result c.map-mask.result c.requires.in_force w.applies_again-applies_again.ensures mask) c.kind-kind.ensures w.after-second.ensures.undecided w.after-second.ensures.allowed keeps (comes.second yes))
        | else-this-ne0 w ↦ let contrary : true ≡ false = sym yes ∙ ap (λ n. not (nat_eq n 0)) w.if-this-ne0.false in absurd cc
      ];
    }
