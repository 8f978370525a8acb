use Rattle.sd_analysis.proofs.Cited.{Some, UnknownEntry, add-one, ap, arith, length, not, refl, risk_if, risks_at, slice_get, slice_get_read, sym, ◌++◌, ◌+◌, ◌∙◌, ◌≡◌}
use Rattle.sd_analysis.specs.Risks.{entry_risks}
use Rattle.sd_analysis.proofs.risks.entry_risks.Goals as goal

pub loop-place-init : goal.loop-place-init
unfolding entry_risks
loop-place-init c = c.new-found.ensures.items

pub loop-place-preserved : goal.loop-place-preserved
unfolding entry_risks
loop-place-preserved c =
    let entries = c.args.entries.now in
    let place = c.loop-place.place in
    let entry = c.index-entries-place.result in
    let stands : slice_get entries place ≡ Some entry = slice_get_read entries (length entries) place entry refl c.loop-place-test.true c.index-entries-place.is in
    c.in_ok-push_if.ensures
    ∙ ap (λ risks. risks ++ risk_if (not c.is_known.result) (UnknownEntry (place + 1) entry)) c.loop-place.invariant
    ∙ ap (λ known. entry_risks entries place ++ risk_if (not known) (UnknownEntry (place + 1) entry)) c.is_known.ensures
    ∙ ap (λ e. entry_risks entries place ++ risks_at place e) (sym stands)
    ∙ ap (entry_risks entries) (sym (add-one place))

pub returns : goal.returns
returns c =
    let all : c.loop-place.place ≡ length c.args.entries.now = omega (arith, c.loop-place-test.false, c.loop-place.auto.place-end) in
    c.loop-place.invariant ∙ ap (entry_risks c.args.entries.now) all
