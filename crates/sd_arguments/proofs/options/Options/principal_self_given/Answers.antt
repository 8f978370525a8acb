-- A text that is read as no SID spells none.
use Rattle.std.proofs.Common.{◌≡◌, ℕ, List, Option, Some, refl, sym}
use Rattle.sd_sid.specs.Sid.{SidValue}
use Rattle.sd_text.specs.Grammar.{Spells}
use Rattle.sd_text.specs.Sid.{sid_text_in}
use Rattle.sd_text.specs.declared.alias.Aliases.{Aliases}
use Rattle.sd_arguments.specs.Options.{GivesNoSelf}
use Rattle.sd_arguments.proofs.options.Options.principal_self_given.Goals as goal

no_self : (known : Aliases) (given : Option (List ℕ)) (text : List ℕ) → given ≡ Some text
    → ((sid : SidValue) → Spells (sid_text_in known) text sid → ⊥) → GivesNoSelf known given text
no_self known given text same none = rw same (refl, none)

pub returns-in-Err-clause-bad : goal.returns-in-Err-clause-bad
returns-in-Err-clause-bad c = (
  refl,
  no_self c.args.known _ _ (sym c.in-Some.ensures)
      (λ sid spelled. let read = c.read_sid_text_in.ensures.spelled sid spelled in cc (read)),
  c.has-points.ensures,
)
