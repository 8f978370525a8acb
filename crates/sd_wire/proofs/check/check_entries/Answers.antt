-- Each turn reads the next entry and goes on with it, or ends with its fault.
use Rattle.sd_wire.proofs.Cited.{Ok, Option, Some, [], ap, drop, err_from_is_err_and, front_read, option_map_id, refl, sym, take, verdict, ◌++◌, ◌-◌, ◌∙◌, ◌∷◌}
use Rattle.sd_check.proofs.Cited.{SidValue}
use Rattle.sd_wire.proofs.Loop.{begins, ends, goes_on, is_done}
use Rattle.sd_wire.proofs.Rest.{entries_in_rest}
use Rattle.sd_wire.proofs.check.check_entries.Goals as goal

pub returns-in_err-entry : goal.returns-in_err-entry
returns-in_err-entry g c =
    let p = err_from_is_err_and c.from_residual.result c.from_residual.ensures.1 in
    let places = c.args.entries in
    let there = entries_in_rest c.args.bytes.now places.place places.end places.count c.requires.place c.requires.end in
    let fault = ends front_read c.loop.rest.now places.count c.loop.counter c.loop.invariant.0 c.in_err-entry.field-0.0 _ c.loop-test.true (sym c.in_err-entry.ensures.read) c.loop.invariant.1 in
    rw (p.1, p.2, sym there ∙ fault) refl

pub loop-preserved : goal.loop-preserved
loop-preserved g c =
    let seen = c.loop.invariant.0 in (
      seen ++ c.in_ok-entry.entry ∷ [],
      goes_on front_read c.loop.rest.now c.args.entries.count c.loop.counter seen c.in_ok-entry.entry c.in_ok-entry.size _ c.loop-test.true (sym c.in_ok-entry.ensures.read) c.loop.invariant.1,
      c.after-progress.ensures seen c.loop.invariant.2,
    )

pub returns : goal.returns
returns g c =
    let question = c.args.question.now in
    let places = c.args.entries in
    let seen = c.loop.invariant.0 in
    let there = entries_in_rest c.args.bytes.now places.place places.end places.count c.requires.place c.requires.end in
    let all = is_done front_read c.loop.rest.now places.count c.loop.counter seen _ c.loop-test.false c.loop.invariant.1 in
    rw (sym there ∙ all) (ap (λ v. Ok v) (c.verdict.ensures seen c.loop.invariant.2
    ∙ ap (λ (owner : Option SidValue). verdict owner (Some seen) question.mapping.now question.token.now question.asked) (option_map_id question.owner.now)))

pub loop-init : goal.loop-init
loop-init g c =
    let places = c.args.entries in
    ([], begins front_read (take (places.end - places.place) (drop places.place c.args.bytes.now)) places.count, c.begin-progress.ensures _)
