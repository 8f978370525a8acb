use Rattle.sd_c.proofs.Cited.{Domain, domain_sid, ◌≡◌}
use Rattle.sd_c.proofs.in_domain.domain_of.Goals as goal

pub returns-in-None-clause-err : goal.returns-in-None-clause-err
returns-in-None-clause-err c = (
  c.in_ok-sid.sid,
  c.in_ok-sid.ensures.ok.0,
  c.in_ok-sid.ensures.ok.1,
  λ (domain : Domain) (is : domain_sid domain ≡ c.in_ok-sid.sid). let found = c.in-None.ensures.found domain is in absurd cc,
)
