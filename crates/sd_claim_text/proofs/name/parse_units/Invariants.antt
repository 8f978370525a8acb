-- The units so far, and the text that is left.
use Rattle.std.proofs.Common.{[], length, ◌++◌, ◌≤◌}
use Rattle.sd_claim_text.proofs.Loops.{Reaches}
use Rattle.sd_claim_text.specs.Name.{is_within, part_found}
use Rattle.sd_claim_text.specs.Parser.{mapped}
use Rattle.sd_claim_text.proofs.name.parse_units.Given as goal

abbrev pub invariant-parts : goal.invariant-parts
invariant-parts l = record {
  reached : Reaches is_within (λ units there. mapped (λ more. units ++ more) (part_found there)) [] l.fn.cursor.rest.now l.units.items l.cursor.rest.now;
  within : length l.cursor.rest.now ≤ length l.fn.cursor.rest.now;
}

abbrev pub decreases-parts : goal.decreases-parts
decreases-parts l = length l.cursor.rest.now
