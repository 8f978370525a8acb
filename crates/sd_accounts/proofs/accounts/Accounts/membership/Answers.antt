use Rattle.std.proofs.Common.{None, Some, arith, ap, length, replicate, subst, sym, ◌++◌, ◌+◌, ◌-◌, ◌∙◌, ◌≡◌, ◌≤◌}
use Rattle.std.proofs.lemmas.List.{length-map}
use Rattle.indexmap.specs.IndexMap.{keys}
use Rattle.sd_accounts.specs.Accounts.{rows_of}
use Rattle.sd_accounts.specs.Groups.{AreGroupsOf}
use Rattle.sd_accounts.specs.Index.{AreWithin, sid_at, sids_at}
use Rattle.sd_accounts.specs.Walk.{AreFoundFrom, IsWalked}
use Rattle.sd_accounts.proofs.Walked.{adds_groups, number_within, none_at, sid_found, sids_found, still_within, two_sids, walk_begins, walk_ends, walk_goes_on}
use Rattle.sd_accounts.proofs.accounts.Accounts.membership.Goals as goal
use Rattle.sd_accounts.proofs.accounts.Accounts.membership.Goals.{else-loop-place-test, in-Some-numbered+in_ok-add_all+in_ok-note-2, in_default-numbered, then-loop-place-test+in_default}

pub loop-place-init : goal.loop-place-init
loop-place-init c =
    let self = c.args.self.now in
    let found = c.in_ok-found.found in
    let before = c.in_ok-note.ensures ∙ ap (λ l. l ++ replicate (c.len.result - length l) None) c.in_ok-before.ensures.items
    ∙ ap (λ n. replicate n None) (omega (arith, c.len.ensures.len, length-map found (sid_at (keys self.index)))) in
    (walk_begins (rows_of self) c.args.starts.now (sids_at (keys self.index) found) c.note.new.before.items c.in_ok-found.ensures.starts before, c.in_ok-found.ensures.within)

pub loop-place-preserved : goal.loop-place-preserved
loop-place-preserved c =
    let self = c.args.self.now in
    let all = keys self.index in
    let old = c.loop-place.found in
    let before = c.loop-place.before.items in
    let at = sym c.in-Some.ensures in
    elim c.match-numbered.branch [
      | in-Some-numbered+in_ok-add_all+in_ok-note-2 w ↦
          let sid = w.in-Some-numbered.field-0-0.now in
          let found = sid_found all old c.loop-place.place c.in-Some.number sid at w.in-Some-numbered.ensures.sid in
          let numbers = w.in-Some-numbered.groups.now in
          let are = ap (sids_at all) w.in-Some-numbered.ensures.groups ∙ self.indexed.groups sid in
          let new = w.add_all.new.found in
          let more = w.note-in-Some-numbered.new.before.items in
          let added = adds_groups (rows_of self) all sid numbers old new are w.in_ok-add_all.ensures in
          let counted : w.len-in-Some-numbered.result ≡ length (sids_at all new) = w.len-in-Some-numbered.ensures.len ∙ sym (length-map new (sid_at all)) in
          let are_more = w.in_ok-note-2.ensures
          ∙ ap (λ n. before ++ replicate (n - length before) (Some c.loop-place.place)) counted in
          let walked = walk_goes_on (rows_of self) c.args.starts.now (sids_at all old) (sids_at all new) before c.loop-place.place sid found.0 found.1 added more are_more c.loop-place.invariant.0 in
          let within : AreWithin all new = still_within all numbers old new c.loop-place.invariant.1 (subst (AreWithin all) (sym w.in-Some-numbered.ensures.groups) (self.indexed.sound.within sid)) w.in_ok-add_all.ensures in (
            subst (λ b. IsWalked (rows_of self) c.args.starts.now (sids_at all c.match-numbered.found) b.items (c.loop-place.place + 1)) (sym w.before-is)
                (subst (λ l. IsWalked (rows_of self) c.args.starts.now (sids_at all l) more (c.loop-place.place + 1)) (sym w.found-is) walked),
            subst (λ l. AreWithin all l) (sym w.found-is) within,
          )
      | in_default-numbered w ↦ absurd (omega (arith, w.in_default-numbered.ensures.none, number_within all old c.loop-place.place c.in-Some.number at c.loop-place.invariant.1))
    ]

pub invariant_of-result : goal.invariant_of-result
invariant_of-result c =
    let self = c.args.self.now in
    let all = keys self.index in
    let found = c.loop-place.found in
    let are : c.in_ok-groups.groups.items ≡ sids_at all found = c.in_ok-groups.ensures.sids ∙ sids_found all found c.loop-place.invariant.1 in
    let over : length (sids_at all found) ≤ c.loop-place.place =
    elim c.loop-place-test.branch [
      | else-loop-place-test w ↦ omega (arith, w.loop-place-test.false, c.in_ok-groups.ensures.few, length-map found (sid_at all))
      | then-loop-place-test+in_default w ↦
          omega (arith, none_at found c.loop-place.place (sym w.in_default.ensures), length-map found (sid_at all))
    ] in (
      subst (AreGroupsOf (rows_of self) c.args.starts.now) (sym are)
          (walk_ends (rows_of self) c.args.starts.now (sids_at all found) c.loop-place.before.items c.loop-place.place over c.loop-place.invariant.0
          (two_sids all found self.indexed.sound.apart c.loop-place.invariant.1 c.in_ok-groups.ensures.once)),
      subst (λ groups. AreFoundFrom (rows_of self) c.args.starts.now groups c.loop-place.before.items) (sym are) c.loop-place.invariant.0.reached,
    )
