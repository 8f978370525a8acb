use Rattle.std.proofs.lemmas.Result.{IfOk-weaker}
use Rattle.sd_script.proofs.Cited.{LineFault, LineRequest, Notation, Ok, Result, false≢true, line_asks, subst, sym, ◌∙◌, ◌≡◌}
use Rattle.sd_script.proofs.OneReading.{line-one}
use Rattle.sd_script.proofs.dump.Dumper.is_read_as.Goals as goal

abbrev read : LineRequest → Result LineRequest LineFault
read asked = Ok asked

pub returns-in-Ok : goal.returns-in-Ok
returns-in-Ok c =
    let notation : Notation = c.args.self.now.notation in
    IfOk-weaker c.is_wanted.result _ _ (λ is decides. (
      λ yes. (
        sym c.is_silent.ensures ∙ c.if-is_silent.false,
        subst (λ (asked : LineRequest). line_asks notation c.args.is_open c.args.line.now (Ok asked)) (decides.0 yes) c.in-Ok.ensures,
      ),
      λ asks. let same : read c.in-Ok.asked ≡ read _ = line-one notation c.args.is_open c.args.line.now _ _ c.in-Ok.ensures asks.1 in decides.1 (cc (same)),
    )) c.is_wanted.ensures

pub returns-in-Err-Fault : goal.returns-in-Err-Fault
returns-in-Err-Fault c =
    let asks = rw (c.in-Err-Fault.field-0-is) at c.in-Err-Fault.ensures in (
      λ yes. absurd (false≢true yes),
      λ is. let same = line-one c.args.self.now.notation c.args.is_open c.args.line.now _ _ asks is.1 in absurd (cc (same)),
    )
