use Rattle.sd_text.proofs.number.+push_decimal.Given as goal

-- proposed from what the function passes where it calls itself
abbrev pub decreases-push_decimal : goal.decreases-push_decimal
decreases-push_decimal l = l.number
