use Rattle.sd_claim_text.specs.Number.{in_64_bits}
use Rattle.sd_text.proofs.Cited.{AllDigits, digits_value, take, ◌≡◌}
use Rattle.sd_claim_text.proofs.number.digits_of.Given as goal

-- what has been parsed are digits, and this is their value
abbrev pub invariant-loop-i : goal.invariant-loop-i
invariant-loop-i l = record {
  digits : AllDigits l.radix (take l.i l.text);
  value : l.value ≡ in_64_bits (digits_value l.radix (take l.i l.text));
}
