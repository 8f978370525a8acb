-- The text so far and the values that are left make the text that the whole is to have.
use Rattle.std.proofs.Common.{Some, drop, string_bytes, ◌≡◌}
use Rattle.std.specs.Fmt.{◌++?◌}
use Rattle.sd_condition_text.specs.Value.{further_values}
use Rattle.sd_condition_text.proofs.value.append_further.Given as goal

abbrev pub invariant-loop-value : goal.invariant-loop-value
invariant-loop-value l =
    Some (string_bytes l.text) ++? further_values (drop l.value-index l.values)
    ≡ Some (string_bytes l.fn.before) ++? further_values l.values
