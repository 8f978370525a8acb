-- The law: two SIDs per pass are enough.
use Rattle.sd_analysis.proofs.Cited.{First, MayDecide, None, Second, Some, TwoSidsPerPassSuffice, inl, inr, meets, not, sids_stand, subst, sym, ◌∙◌}
use Rattle.sd_analysis.proofs.Passed.{two_suffice}
use Rattle.sd_analysis.proofs.Bridged.{gain_shown, unrestricted_gains, restricted_gains}

pub two_sids_per_pass_suffice : TwoSidsPerPassSuffice
two_sids_per_pass_suffice g old new base t b other not_old not_new has h =
    let shown = gain_shown g old new b t h in
    let by_owner = shown.0 in
    let unlisted = shown.1.0 in
    let unowned = shown.1.1.0 in
    let first = two_suffice g old new base t other b First (record { by_owner = by_owner; unlisted = unlisted; unowned = unowned }) has not_old not_new shown.1.1.1.0 in
    elim shown.1.1.1.1 [
      | inl here ↦ (
        record { first = first.0; second = None },
        (
          record { first = first.1.0; second = λ sids is. absurd cc },
          unrestricted_gains g old new base b by_owner first.0
              (sym (λ i. meets g old new (record { by_owner = by_owner; unlisted = here.0 i; unowned = here.1 i }) (sids_stand First base first.0) b) ∙ first.1.1.0),
        ),
      )
      | inr there ↦
          let second = two_suffice g old new base t other b Second (record { by_owner = by_owner; unlisted = not unlisted; unowned = not unowned }) has not_old not_new there in (
            record { first = first.0; second = Some second.0 },
            (
              record { first = first.1.0; second = λ sids is. subst (MayDecide other old new) (cc) second.1.0 },
              restricted_gains g old new base b by_owner unlisted unowned first.0 second.0 first.1.1.0 second.1.1.0,
            ),
          )
    ]
