-- One word more.
use Rattle.std.proofs.Common.{[], ap, arith, get_or, rules, take, ◌∙◌, ◌∷◌}
use Rattle.std.proofs.lemmas.Grind.{common_steps}
use Rattle.std.proofs.lemmas.List.{take_more}
use Rattle.std.proofs.lemmas.List.Elements.{filter_map-append}
use Rattle.sd_named.specs.Arguments.{sid_as, sids_as}
use Rattle.sd_named.proofs.added.sids_as.Goals as goal
use Rattle.sd_named.proofs.added.sids_as.Goals.{in-Some+in_ok-push, in_default}

pub loop-one-preserved : goal.loop-one-preserved
loop-one-preserved c =
    let ones = c.args.ones.now in
    let i = c.loop-one.one-index in
    let whole = ap (λ xs. sids_as c.args.role xs) (take_more ones i c.one-item.result c.loop-one-test.true)
    ∙ filter_map-append (sid_as c.args.role) (take i ones) (get_or ones i c.one-item.result ∷ []) in
    rw (whole, ← c.one-item.is, ← c.sid_as.ensures) (elim c.match-sid_as.branch [
      | in-Some+in_ok-push w ↦ first_of (search rules, grind (arith, common_steps))
      | in_default w ↦ first_of (search rules, grind (arith, common_steps))
    ])
