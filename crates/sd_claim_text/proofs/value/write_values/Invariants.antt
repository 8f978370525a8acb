-- The text so far and the values that are left make the text that the whole is to have.
use Rattle.std.proofs.Common.{Some, drop, string_bytes, ◌≡◌}
use Rattle.std.specs.Fmt.{◌++?◌}
use Rattle.sd_claim_text.specs.Text.{values_text}
use Rattle.sd_claim_text.proofs.value.write_values.Given as goal

abbrev pub invariant-loop-value : goal.invariant-loop-value
invariant-loop-value l =
    Some (string_bytes l.out) ++? values_text (drop l.value-index l.values)
    ≡ Some (string_bytes l.fn.out) ++? values_text l.values
