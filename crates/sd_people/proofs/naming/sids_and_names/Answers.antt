-- One SID more.
use Rattle.std.proofs.Common.{[], ap, arith, get_or, rules, take, ◌∙◌, ◌∷◌}
use Rattle.std.proofs.lemmas.Grind.{common_steps}
use Rattle.std.proofs.lemmas.List.{map-append, take_more}
use Rattle.std.proofs.lemmas.List.Elements.{filter_map-append}
use Rattle.std.specs.List.{filter_map}
use Rattle.sd_people.specs.Names.{names_in}
use Rattle.sd_people.specs.Naming.{sid_and_name}
use Rattle.sd_people.proofs.naming.sids_and_names.Goals as goal
use Rattle.sd_people.proofs.naming.sids_and_names.Goals.{in-Some+in_ok-push, in_default}

pub loop-sid-preserved : goal.loop-sid-preserved
loop-sid-preserved c =
    let sids = c.args.sids.now in
    let i = c.loop-sid.sid-index in
    let word = sid_and_name (names_in c.args.names.now) in
    let whole = ap (filter_map word) (take_more sids i c.sid-item.result c.loop-sid-test.true)
    ∙ filter_map-append word (take i sids) (get_or sids i c.sid-item.result ∷ []) in
    rw (whole, ← c.sid-item.is, ← c.in_ok-word.ensures) (elim c.match-branch-2.branch [
      | in-Some+in_ok-push w ↦ first_of (search rules, grind (arith, common_steps, map-append))
      | in_default w ↦ first_of (search rules, grind (arith, common_steps, map-append))
    ])
