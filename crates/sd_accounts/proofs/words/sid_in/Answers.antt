use Rattle.std.proofs.Common.{refl, subst, sym}
use Rattle.std.specs.Option.{option_copied}
use Rattle.sd_text.specs.Grammar.{Spells}
use Rattle.sd_text.specs.Sid.{sid_text}
use Rattle.sd_accounts.specs.Row.{BeginsWithSid}
use Rattle.sd_accounts.proofs.words.sid_in.Goals as goal

pub returns-in-Err-clause-fault : goal.returns-in-Err-clause-fault
returns-in-Err-clause-fault c = (
  refl,
  λ sid begins.
      let front = subst (λ left. BeginsWithSid (option_copied left) sid) c.in-Some.is begins in
      let read = c.in-Err.ensures.spelled sid (subst (λ word. Spells sid_text word sid) (sym c.cut.ensures.before) front) in
      cc (read),
)
