-- A text spells one SID, and a SID is that of one domain.
use Rattle.std.proofs.Common.{◌≡◌, Option, Some, None}
use Rattle.std.specs.Prelude.{IfNone}
use Rattle.sd_sid.specs.Sid.{SidValue}
use Rattle.sd_text.specs.Domain.{domain_sid}
use Rattle.sd_text.specs.Grammar.{Spells}
use Rattle.sd_text.specs.Sid.{sid_text}
use Rattle.sd_text.specs.declared.domain.Domain.{Domain}
use Rattle.sd_arguments.proofs.options.domain_in.Goals as goal

none_found : (found : Option Domain) (sid : SidValue) (Spelled : SidValue → Type 0)
    → ((domain : Domain) → Spelled (domain_sid domain) → domain_sid domain ≡ sid)
    → ((domain : Domain) → domain_sid domain ≡ sid → found ≡ Some domain)
    → IfNone found ((domain : Domain) → Spelled (domain_sid domain) → ⊥)
none_found (Some domain) sid Spelled one found = tt
none_found None sid Spelled one found = λ domain spelled. let both = found domain (one domain spelled) in cc (both)

pub returns-in-Ok-clause-none : goal.returns-in-Ok-clause-none
returns-in-Ok-clause-none c = none_found c.new.result c.in-Ok.sid (Spells sid_text c.args.text.now)
    (λ domain spelled. let read = c.read_sid_text.ensures.spelled (domain_sid domain) spelled in cc (read)) c.new.ensures.found

pub returns-in-Err-clause-none : goal.returns-in-Err-clause-none
returns-in-Err-clause-none c = λ domain spelled. let read = c.read_sid_text.ensures.spelled (domain_sid domain) spelled in cc (read)
