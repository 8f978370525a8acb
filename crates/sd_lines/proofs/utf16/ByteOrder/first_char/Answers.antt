use Rattle.sd_lines.proofs.Cited.{ap, arith, false, get_or, is_high_surrogate, is_low_surrogate, lone_unit_char, over_in, refl, sym, true, units_in, ◌++◌, ◌∙◌, ◌≡◌}
use Rattle.sd_lines.proofs.Characters.{lone, lone_is, no_char, pair, pair_is, too_short, too_short_pair}
use Rattle.sd_lines.proofs.utf16.ByteOrder.first_char.Goals as goal

pub returns-in_err-high-clause-none : goal.returns-in_err-high-clause-none
returns-in_err-high-clause-none c = rw (c.from_residual.ensures) (too_short c.args.self c.args.bytes.now c.in_err-high.ensures.none)

pub returns-in_err-low-clause-none : goal.returns-in_err-low-clause-none
returns-in_err-low-clause-none c =
    let one = c.in_ok-high.ensures.some in
    let high : is_high_surrogate c.in_ok-high.high ≡ true = sym c.is_high_surrogate.ensures ∙ c.if-not-is_high_surrogate.false in
    rw (c.from_residual-in_err-low.ensures, one.3)
    (too_short_pair c.args.self one.0 one.1 c.in_ok-high.after.now c.in_err-low.ensures.none (sym (ap is_high_surrogate one.2) ∙ high))

pub returns-then-not-is_high_surrogate-clause-some : goal.returns-then-not-is_high_surrogate-clause-some
returns-then-not-is_high_surrogate-clause-some c more =
    let one = c.in_ok-high.ensures.some in
    let high : is_high_surrogate c.in_ok-high.high ≡ false = sym c.is_high_surrogate.ensures ∙ c.if-not-is_high_surrogate.true in
    let char : c.from_u32.result ≡ lone_unit_char c.from.result = lone_is c.from_u32.result c.from.result (omega (arith, c.in_ok-high.ensures.fits, c.from.ensures)) c.from_u32.ensures.value c.from_u32.ensures.cases in
    rw (char, c.from.ensures, one.3, ← one.2) (lone c.in_ok-high.high (units_in c.args.self (c.in_ok-high.after.now ++ more)) (over_in (c.in_ok-high.after.now ++ more)) (rw high refl))

pub returns-then-is_low_surrogate-clause-some : goal.returns-then-is_low_surrogate-clause-some
returns-then-is_low_surrogate-clause-some c more =
    let one = c.in_ok-high.ensures.some in
    let two = c.in_ok-low.ensures.some in
    let high : is_high_surrogate c.in_ok-high.high ≡ true = sym c.is_high_surrogate.ensures ∙ c.if-not-is_high_surrogate.false in
    let low : is_low_surrogate c.in_ok-low.low ≡ true = sym c.is_low_surrogate.ensures ∙ c.if-is_low_surrogate.true in
    let found = c.from_u32-then-is_low_surrogate in
    rw (
      pair_is found.result c.pair_code.result c.pair_code.ensures.low c.pair_code.ensures.high found.ensures.value found.ensures.cases,
      c.pair_code.ensures.code,
      one.3,
      two.3,
      ← one.2,
      ← two.2,
    )
    (pair c.in_ok-high.high c.in_ok-low.low (units_in c.args.self (c.in_ok-low.after_pair.now ++ more)) (over_in (c.in_ok-low.after_pair.now ++ more)) high low)

pub returns-else-is_low_surrogate-clause-some : goal.returns-else-is_low_surrogate-clause-some
returns-else-is_low_surrogate-clause-some c more =
    let one = c.in_ok-high.ensures.some in
    let two = c.in_ok-low.ensures.some in
    let after = c.in_ok-high.after.now in
    let high : is_high_surrogate c.in_ok-high.high ≡ true = sym c.is_high_surrogate.ensures ∙ c.if-not-is_high_surrogate.false in
    let low : is_low_surrogate c.in_ok-low.low ≡ false = sym c.is_low_surrogate.ensures ∙ c.if-is_low_surrogate.false in
    let first : get_or (units_in c.args.self (after ++ more)) 0 0 ≡ c.in_ok-low.low = rw (two.3) (sym two.2) in
    rw (one.3, ← one.2)
    (rw (no_char c.in_ok-high.high high) at (lone c.in_ok-high.high (units_in c.args.self (after ++ more)) (over_in (after ++ more)) (rw (first, high) low)))
