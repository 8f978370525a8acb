-- One entry more.
use Rattle.std.proofs.Common.{Some, None, ap, sym, ◌∙◌}
use Rattle.std.proofs.lemmas.List.{append-nil}
use Rattle.sd_people.proofs.Fit.{subject_more}
use Rattle.sd_people.proofs.wanted.subjects.Goals as goal
use Rattle.sd_people.proofs.wanted.subjects.Goals.{in-Some+in_ok-push, in_default}

pub loop-entry-init : goal.loop-entry-init
loop-entry-init c = c.in_ok-sids.ensures ∙ sym (append-nil _)

pub loop-entry-preserved : goal.loop-entry-preserved
loop-entry-preserved c =
    elim c.match-allowed_sid.branch [
      | in-Some+in_ok-push w ↦
          ap (λ l. l.items) w.sids-is
          ∙ subject_more c.args.owner.now c.args.entries.now c.loop-entry.entry-index c.entry-item.result (Some w.in-Some.sid) c.loop-entry.sids.items w.push.new.self.items
          c.loop-entry-test.true c.entry-item.is c.loop-entry.invariant (sym w.in-Some.is ∙ c.allowed_sid.ensures) w.in_ok-push.ensures.items
      | in_default w ↦
          ap (λ l. l.items) w.sids-is
          ∙ subject_more c.args.owner.now c.args.entries.now c.loop-entry.entry-index c.entry-item.result None c.loop-entry.sids.items c.loop-entry.sids.items
          c.loop-entry-test.true c.entry-item.is c.loop-entry.invariant (sym w.in_default.is ∙ c.allowed_sid.ensures) (sym (append-nil c.loop-entry.sids.items))
    ]
