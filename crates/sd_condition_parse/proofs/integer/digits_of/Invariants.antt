-- The bytes so far are digits, and this is their value, or any number at or above the limit if that is.
use Rattle.sd_condition_parse.proofs.Cited.{AllDigits, IsCapped, digits_value, take}
use Rattle.sd_condition_parse.proofs.integer.digits_of.Given as goal

abbrev pub invariant-loop-i : goal.invariant-loop-i
invariant-loop-i l = record { digits : AllDigits l.radix (take l.i l.text); value : IsCapped l.limit l.value (digits_value l.radix (take l.i l.text)) }
