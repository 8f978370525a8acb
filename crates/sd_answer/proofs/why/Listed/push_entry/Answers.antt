use Rattle.sd_answer.proofs.Cited.{None, Some, append-nil, arith, length, ltb-true, refl, slice_get, slice_get_read, sym, ◌≡◌}
use Rattle.std.proofs.lemmas.Bool.Decides.{nat_tests}
use Rattle.std.proofs.lemmas.Option.{slice_get_past}
use Rattle.sd_answer.proofs.why.Listed.push_entry.Goals as goal

pub returns-in_ok-push-in-Some : goal.returns-in_ok-push-in-Some
returns-in_ok-push-in-Some c =
    let stands : slice_get c.args.self.now.entries.now c.args.place ≡ Some c.in-Some.entry.now =
    slice_get_read c.args.self.now.entries.now (length c.args.self.now.entries.now) c.args.place c.in-Some.entry.now refl
    (ltb-true c.args.place (length c.args.self.now.entries.now) (sym c.in-Some.ensures.lookup.0)) c.in-Some.ensures.lookup.1 in
    rw (c.in_ok-push-in-Some.ensures.items, c.new.ensures, c.in_ok-values-in-Some.ensures.items, c.in_ok-whom-in-Some.ensures, stands) refl

pub returns-in-None : goal.returns-in-None
returns-in-None c =
    let past : slice_get c.args.self.now.entries.now c.args.place ≡ None =
    slice_get_past c.args.self.now.entries.now c.args.place (let out = c.in-None.ensures.lookup in grind (arith, nat_tests)) in
    rw past (sym (append-nil c.args.parts.now.items))
