-- The bits so far are those of each share below the place.
use Rattle.sd_explain.proofs.Cited.{Granted, Missing, bits_of, reason_in, ◌≡◌}
use Rattle.sd_explain.specs.declared.reason.Share.TheVariants.{Reserved}
use Rattle.sd_explain.proofs.explanation.Explanation.verdict.Given as goal

abbrev pub invariant-loop-place : goal.invariant-loop-place
invariant-loop-place l =
    (l.reserved ≡ bits_of Reserved (reason_in l.self.reasons) l.place)
    × ((l.missing ≡ bits_of Missing (reason_in l.self.reasons) l.place)
    × (l.granted ≡ bits_of Granted (reason_in l.self.reasons) l.place))
