use Rattle.std.proofs.Common.{ap, arith, length, sym, take, [], ◌++◌, ◌∙◌, ◌∷◌, ◌≤◌}
use Rattle.std.proofs.lemmas.List.{append-nil, take_all}
use Rattle.std.proofs.lemmas.Option.{slice_get_past}
use Rattle.std.specs.List.{cons_option, filter_map}
use Rattle.std.specs.Prelude.{slice_get}
use Rattle.indexmap.specs.IndexMap.{keys}
use Rattle.sd_accounts.proofs.Walked.{none_at, one_sid}
use Rattle.sd_accounts.proofs.groups.sids_of.Goals as goal
use Rattle.sd_accounts.proofs.groups.sids_of.Goals.{else-loop-place-test, in-Some-numbered+in_ok-push, in_default-numbered, then-loop-place-test+in_default}

pub loop-place-preserved : goal.loop-place-preserved
loop-place-preserved c =
    let all = keys c.args.index.now in
    let more = one_sid all c.args.found.now c.loop-place.place c.in-Some.number (sym c.in-Some.ensures) in
    elim c.match-numbered.branch [
      | in-Some-numbered+in_ok-push w ↦
          ap (λ l. l.items) w.sids-is ∙ w.in_ok-push.ensures.items ∙ ap (λ l. l ++ w.in-Some-numbered.sid.now ∷ []) c.loop-place.invariant
          ∙ ap (λ o. filter_map (slice_get all) (take c.loop-place.place c.args.found.now) ++ cons_option o []) (sym w.in-Some-numbered.ensures.sid) ∙ sym more
      | in_default-numbered w ↦
          ap (λ l. l.items) w.sids-is ∙ c.loop-place.invariant ∙ sym (append-nil _)
          ∙ ap (λ o. filter_map (slice_get all) (take c.loop-place.place c.args.found.now) ++ cons_option o []) (sym (slice_get_past all c.in-Some.number w.in_default-numbered.ensures.none)) ∙ sym more
    ]

pub returns-clause-sids : goal.returns-clause-sids
returns-clause-sids c =
    let found = c.args.found.now in
    let over : length found ≤ c.loop-place.place =
    elim c.loop-place-test.branch [
      | else-loop-place-test w ↦ omega (arith, w.loop-place-test.false, c.len-place-end.ensures.len)
      | then-loop-place-test+in_default w ↦ none_at found c.loop-place.place (sym w.in_default.ensures)
    ] in
    c.loop-place.invariant ∙ ap (filter_map (slice_get (keys c.args.index.now))) (take_all c.loop-place.place found over)

pub returns-clause-few : goal.returns-clause-few
returns-clause-few c = omega (arith, c.len.ensures.few, c.len.ensures.len)

pub returns-clause-once : goal.returns-clause-once
returns-clause-once c = c.len.ensures.once
