-- The arguments are parsed one after another.
use Rattle.std.proofs.Common.{arith, rules}
use Rattle.std.proofs.lemmas.Grind.{common_steps}
use Rattle.sd_script.proofs.Cited.{inl, inr}
use Rattle.sd_script.specs.Command.{keeps}
use Rattle.sd_script.proofs.Readings.{takes}
use Rattle.sd_script.proofs.argument.Parser.keeping.Goals as goal

pub returns-in_err-inherited : goal.returns-in_err-inherited
returns-in_err-inherited c =
    takes c.args.self.notation (keeps c.args.kind c.args.path.now c.args.sddl.now c.args.inherited.now c.args.offer.now) _ (
    inl (
      _,
      c.in_ok-path.ensures,
      inl (
        (c.in_ok-owner.field-0-0, c.in_ok-owner.is_all),
        c.in_ok-owner.ensures,
        inr (_, c.in_err-inherited.ensures, c.from_residual-in_err-inherited.ensures.1),
      ),
    ))

pub returns-in_err-offer : goal.returns-in_err-offer
returns-in_err-offer c =
    takes c.args.self.notation (keeps c.args.kind c.args.path.now c.args.sddl.now c.args.inherited.now c.args.offer.now) _ (
    inl (
      _,
      c.in_ok-path.ensures,
      inl (
        (c.in_ok-owner.field-0-0, c.in_ok-owner.is_all),
        c.in_ok-owner.ensures,
        inl (
          (c.in_ok-inherited.inherited, c.in_ok-inherited.has_all),
          c.in_ok-inherited.ensures,
          inr (_, c.in_err-offer.ensures, c.from_residual-in_err-offer.ensures.1),
        ),
      ),
    ))

pub returns : goal.returns
returns c =
    inl (
      _,
      c.in_ok-path.ensures,
      inl (
        (c.in_ok-owner.field-0-0, c.in_ok-owner.is_all),
        c.in_ok-owner.ensures,
        inl (
          (c.in_ok-inherited.inherited, c.in_ok-inherited.has_all),
          c.in_ok-inherited.ensures,
          inl ((c.in_ok-offer.offer, c.in_ok-offer.offers_all), c.in_ok-offer.ensures, first_of (cc, search rules, grind (arith, common_steps))),
        ),
      ),
    )
