use Rattle.sd_analysis.proofs.Cited.{HasABit, ap, holds, subst, sym, ◌==◌, ◌∙◌}
use Rattle.sd_analysis.proofs.Reports.{in_both, report_more, wanted_less, wanted_gone, none_wanted, has_a_bit}
use Rattle.sd_analysis.proofs.compare_report.Report.add.Goals as goal

pub note-requires : goal.note-requires
note-requires c =
    subst HasABit (sym c.common-bits.ensures) (has_a_bit c.args.mask c.args.self.now.wanted (sym (ap (λ m. m == 0) c.common-bits.ensures) ∙ sym c.is_empty.ensures ∙ c.if-is_empty.false))

pub returns-then-is_empty-clause-gone : goal.returns-then-is_empty-clause-gone
returns-then-is_empty-clause-gone c = λ b low h.
    none_wanted c.args.mask c.args.self.now.wanted c.common-bits.result b c.common-bits.ensures (sym c.is_empty.ensures ∙ c.if-is_empty.true) low h

pub returns-clause-report : goal.returns-clause-report
returns-clause-report c = λ shows before h. report_more shows c.args.self.now _ c.args.witness.now c.args.mask c.common-bits.result c.common-bits.ensures
    c.in_ok-note.ensures.reported c.minus-self.ensures
    (c.in_ok-note.ensures.shown shows before.shown
    (λ b is. h b (in_both c.args.mask c.args.self.now.wanted b (sym (ap (λ m. holds m b) c.common-bits.ensures) ∙ is)).0))
    (c.in_ok-note.ensures.some before.some) before

pub returns-clause-less : goal.returns-clause-less
returns-clause-less c = λ b h. wanted_less c.args.self.now.wanted c.common-bits.result _ b c.minus-self.ensures h

pub returns-clause-gone : goal.returns-clause-gone
returns-clause-gone c = λ b low h. wanted_gone c.args.mask c.args.self.now.wanted c.common-bits.result _ b c.common-bits.ensures c.minus-self.ensures low h
