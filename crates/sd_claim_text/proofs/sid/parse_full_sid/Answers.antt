use Rattle.sd_claim_text.proofs.Lengths.{sid_stops, sid_takes}
use Rattle.sd_claim_text.proofs.sid.parse_full_sid.Goals as goal

pub returns-in_err-sid-clause-within : goal.returns-in_err-sid-clause-within
returns-in_err-sid-clause-within c = sid_stops c.args.known _ _ _ c.in_err-sid.ensures

pub returns-in_err-text-clause-within : goal.returns-in_err-text-clause-within
returns-in_err-text-clause-within c = sid_takes c.args.known _ _ _ c.in_ok-sid.ensures

pub returns-in_err-octets-clause-within : goal.returns-in_err-octets-clause-within
returns-in_err-octets-clause-within c = sid_takes c.args.known _ _ _ c.in_ok-sid.ensures

pub returns-clause-within : goal.returns-clause-within
returns-clause-within c = sid_takes c.args.known _ _ _ c.in_ok-sid.ensures
