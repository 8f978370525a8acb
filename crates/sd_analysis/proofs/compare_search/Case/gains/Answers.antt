use Rattle.std.proofs.Common.{refl}
use Rattle.sd_analysis.proofs.Gathered.{nothing_reported, whole_report}
use Rattle.sd_analysis.proofs.compare_search.Case.gains.Goals as goal

pub returns : goal.returns
returns c = whole_report c.args.self.now c.restricted-2.new.report
    (c.in_ok-restricted-2.ensures.report (c.in_ok-restricted.ensures.report (c.in_ok-unrestricted-2.ensures.report (c.in_ok-unrestricted.ensures.report
    (nothing_reported c.args.self.now (record { changes = c.new.result; wanted = 0x001FFFFF }) c.new.ensures.items refl)))))
    (λ t b low has still.
    let at_3 = c.in_ok-restricted-2.ensures.less b still in
    let at_1 = c.in_ok-unrestricted-2.ensures.less b (c.in_ok-restricted.ensures.less b at_3) in (
      c.in_ok-unrestricted.ensures.complete t b low has at_1,
      c.in_ok-restricted.ensures.complete b low at_3 (λ u has_u. c.in_ok-unrestricted.ensures.complete u b low has_u at_1) t has,
    ))
    (λ t b low has still.
    let at_2 = c.in_ok-restricted.ensures.less b (c.in_ok-restricted-2.ensures.less b still) in (
      c.in_ok-unrestricted-2.ensures.complete t b low has at_2,
      c.in_ok-restricted-2.ensures.complete b low still (λ u has_u. c.in_ok-unrestricted-2.ensures.complete u b low has_u at_2) t has,
    ))
