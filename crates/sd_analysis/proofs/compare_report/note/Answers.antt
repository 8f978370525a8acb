use Rattle.sd_analysis.proofs.Cited.{All, All-push, Change, HasABit, ap, arith, get_or, holds, length, mask_of, subst, sym, ◌<◌, ◌||◌, ◌∙◌, ◌≡◌}
use Rattle.sd_analysis.proofs.Reports.{reported_set, shown_set, some_set}
use Rattle.sd_analysis.proofs.compare_report.note.Goals as goal

module _ (c : goal.After-changes-1) where
  known : Change
  known = c.index.result.now

  low : c.in-Some.place < length c.args.changes.now.items
  low = omega (arith, c.in-Some.ensures.0, ap length c.deref.ensures.value)

  joined : c.union-mask.result ≡ mask_of (λ k. holds (get_or c.args.changes.now.items c.in-Some.place c.index.result.now).mask k || holds c.args.bits k) 32
  joined = c.union-mask.ensures ∙ ap (λ (x : Change). mask_of (λ k. holds x.mask k || holds c.args.bits k) 32) c.index.ensures

  its : (d : Change) → (get_or c.args.changes.now.items c.in-Some.place d).witness ≡ c.args.witness.now
  its d = ap (λ xs. (get_or xs c.in-Some.place d).witness) (sym c.deref.ensures.value) ∙ c.in-Some.ensures.1 d

pub returns-in-Some-clause-reported : goal.returns-in-Some-clause-reported
returns-in-Some-clause-reported c = λ b small.
    reported_set c.args.changes.now.items c.in-Some.place c.union-mask.result c.args.bits b c.index_mut.result.now.witness c.index.result.now (low c) (joined c) small

pub returns-in-Some-clause-shown : goal.returns-in-Some-clause-shown
returns-in-Some-clause-shown c = λ shows all more.
    shown_set shows c.args.changes.now.items c.in-Some.place c.union-mask.result c.args.bits c.args.witness.now c.index_mut.result.now.witness c.index.result.now
    (low c) (joined c) (its c c.index.result.now)
    (ap (λ (x : Change). x.witness) c.index_mut.ensures.value ∙ its c c.index_mut.result.now) all more

pub returns-in-Some-clause-some : goal.returns-in-Some-clause-some
returns-in-Some-clause-some c = λ all.
    some_set c.args.changes.now.items c.in-Some.place c.union-mask.result c.args.bits c.index_mut.result.now.witness c.index.result.now (low c) (joined c) c.requires all

pub returns-clause-some : goal.returns-clause-some
returns-clause-some c = λ all.
    subst (All (λ (x : Change). HasABit x.mask)) (sym c.in_ok-push.ensures.items) (All-push (λ (x : Change). HasABit x.mask) c.args.changes.now.items _ all c.requires)
