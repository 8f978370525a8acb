use Rattle.sd_analysis.proofs.Cited.{Some, ap, arith, inl, inr, is_among, new_of, old_of, sids_in, sids_meet, sym, take, ◌+◌, ◌∙◌}
use Rattle.sd_analysis.proofs.Placed.{are_placed, both_room, denied_at, is_beside}
use Rattle.sd_analysis.proofs.Searched.{among_more, still_left}
use Rattle.sd_analysis.proofs.compare_search.Case.try_pairs.Goals as goal

pub try_pair-requires : goal.try_pair-requires
try_pair-requires c =
    let case = c.args.self.now in
    are_placed case c.args.pass (Some c.args.allowed.now) c.walk.new.self
    (c.walk.ensures case.mapping.now case.base.now (sids_in case) (old_of case) (new_of case) (Some c.args.allowed.now) c.requires.case.table.old_rows c.requires.case.table.new_rows
    (is_beside case c.args.allowed.now c.args.place c.requires.place) c.requires.room.before c.requires.room.after)
    c.denied-item.result c.index-at.result.now
    (denied_at case c.requires.case c.deref-denied-items.result.now c.deref-denied-items.ensures.value c.loop-number.number _ c.index-at.result.now c.denied-item.result
    c.loop-number-test.true c.denied-item.is (omega (arith, c.len.ensures, case.allowed.ok.0)) c.index-at.ensures)

pub returns-clause-room : goal.returns-clause-room
returns-clause-room c =
    let case = c.args.self.now in
    both_room case c.args.pass (Some c.args.allowed.now) c.walk.new.self
    (c.walk.ensures case.mapping.now case.base.now (sids_in case) (old_of case) (new_of case) (Some c.args.allowed.now) c.requires.case.table.old_rows c.requires.case.table.new_rows
    (is_beside case c.args.allowed.now c.args.place c.requires.place) c.requires.room.before c.requires.room.after)

pub loop-number-preserved : goal.loop-number-preserved
loop-number-preserved c = record {
  found = λ wanted before. c.in_ok-try_pair.ensures.found wanted (c.loop-number.invariant.found wanted before);
  less = λ b h. c.loop-number.invariant.less b (c.in_ok-try_pair.ensures.less b h);
  gone = λ s b low among h.
      let same = c.deref-denied-items.ensures.value in
      let number = c.loop-number.number in
      elim (among_more c.deref-denied-items.result.now number c.denied-item.result s c.loop-number-test.true c.denied-item.is (ap (λ xs. is_among (take (number + 1) xs) s) same ∙ among)) [
        | inl before ↦ still_left c.loop-number.found c.try_pair.new.found b c.in_ok-try_pair.ensures.less
            (c.loop-number.invariant.gone s b low (sym (ap (λ xs. is_among (take number xs) s) same) ∙ before) h)
        | inr now ↦ c.in_ok-try_pair.ensures.gone b low
            (ap (λ x. sids_meet c.args.self.now c.args.pass c.args.demand (record { allowed = c.args.allowed.now; denied = Some x }) b) now ∙ h)
      ];
}
