use Rattle.sd_text.proofs.Cited.{AllDigits, digits_value, take, ◌≡◌}
use Rattle.sd_text.proofs.cursor.short_run_of.Given as goal

-- what has been read are digits, and this is their value
abbrev pub invariant-loop-i : goal.invariant-loop-i
invariant-loop-i l = record { digits : AllDigits l.radix (take l.i l.text); value : l.value ≡ digits_value l.radix (take l.i l.text) }
