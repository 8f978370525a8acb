-- Each turn parses the next entry, or ends with its fault.
use Rattle.sd_wire.proofs.Cited.{[], arith, drop, entries_of, err_from_is_err_and, length, suc, suc-mul, take, ◌*◌, ◌++◌, ◌+◌, ◌-◌, ◌∙◌, ◌∷◌, ◌≡◌, ◌≤◌}
use Rattle.sd_wire.proofs.Loop.{fails, goes_on, is_done, length_left, one_more}
use Rattle.sd_wire.proofs.entries.read_entries.Goals as goal

pub returns-in_err-entry-clause-read : goal.returns-in_err-entry-clause-read
returns-in_err-entry-clause-read g c =
    let p = err_from_is_err_and c.from_residual-in_err-entry.result c.from_residual-in_err-entry.ensures.1 in
    rw (p.1, p.2) (fails g.E.ListEntry.reading c.loop.rest.now c.args.count c.loop.counter c.loop.entries.items c.in_err-entry.field-0.0 (entries_of g.E.ListEntry.reading c.args.bytes.now c.args.count) c.loop-test.true c.in_err-entry.ensures.read c.loop.invariant.0)

pub loop-preserved : goal.loop-preserved
loop-preserved g c =
    let rest = c.loop.rest.now in
    let size = c.in_ok-entry.size in
    let sizes = c.in_ok-entry.ensures.size in
    let within : size ≤ length rest = sizes.2 in
    let left : length (take (length rest - size) (drop size rest)) ≡ length rest - size = length_left rest size in
    let one : c.loop.counter + 1 ≡ suc c.loop.counter = omega arith in
    let more : (c.loop.counter + 1) * c.args.least ≡ c.loop.counter * c.args.least + c.args.least = rw one (suc-mul c.loop.counter c.args.least) in
    let room : c.loop.counter * c.args.least + length rest ≤ length c.args.bytes.now = c.loop.invariant.2 in
    let pushed : c.push_reserved.new.self.items ≡ c.loop.entries.items ++ c.in_ok-entry.entry ∷ [] = c.push_reserved.ensures.items in (
      rw pushed (goes_on g.E.ListEntry.reading rest c.args.count c.loop.counter c.loop.entries.items c.in_ok-entry.entry size _ c.loop-test.true c.in_ok-entry.ensures.read c.loop.invariant.0),
      rw pushed (one_more g.E.ListEntry.taken c.loop.entries.items c.in_ok-entry.entry rest size (length c.args.bytes.now) sizes.1 within c.loop.invariant.1),
      omega (arith, sizes.0, sizes.1, c.requires.least),
      omega arith,
      c.push_reserved.ensures.capacity ∙ c.loop.invariant.4,
    )

pub returns-clause-read : goal.returns-clause-read
returns-clause-read g c = is_done g.E.ListEntry.reading c.loop.rest.now c.args.count c.loop.counter c.loop.entries.items (entries_of g.E.ListEntry.reading c.args.bytes.now c.args.count) c.loop-test.false c.loop.invariant.0
