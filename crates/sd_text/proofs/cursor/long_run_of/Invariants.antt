use Rattle.sd_text.proofs.Cited.{AllDigits, IsCapped, digits_value, take}
use Rattle.sd_text.proofs.cursor.long_run_of.Given as goal

-- what has been read are digits, and their value stands, or one from the limit on
abbrev pub invariant-loop-i : goal.invariant-loop-i
invariant-loop-i l = record { digits : AllDigits l.radix (take l.i l.text); value : IsCapped l.limit l.value (digits_value l.radix (take l.i l.text)) }
