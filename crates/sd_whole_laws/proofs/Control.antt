-- The control bits of a descriptor with a text are those that the keywords of its text say.
use Rattle.std.proofs.Common.{arith, cond, refl, sym, true, ℕ, ◌%◌, ◌*◌, ◌+◌, ◌/◌, ◌<◌, ◌^◌, ◌≡◌, ◌≤◌, false}
use Rattle.std.specs.Prelude.{Bool, bit_and, ◌==◌}
use Rattle.std.proofs.lemmas.Bool.{eqb-true, not-false}
use Rattle.std.proofs.lemmas.Nat.{and_block, and_le_r}
use Rattle.sd_whole.specs.Reading.{kept_bits}
use Rattle.sd_wire.specs.Reading.{is_set}
use Rattle.sd_whole_text.specs.NoText.{bits_without_keyword}
use Rattle.sd_claim_laws.proofs.Tried.{all_below, each_below}

-- the bits of the keywords that are there
abbrev pub said : ℕ → ℕ
said control =
    cond (is_set 0x1000 control) 0x1000 0 + cond (is_set 0x0100 control) 0x0100 0 + cond (is_set 0x0400 control) 0x0400 0
    + (cond (is_set 0x2000 control) 0x2000 0 + cond (is_set 0x0200 control) 0x0200 0 + cond (is_set 0x0800 control) 0x0800 0)

-- the bits in common with the high and the low byte of a number
in_bytes : (c high low : ℕ) → low < 256 → bit_and c (high * 2 ^ 8 + low) ≡ bit_and (c / 256) high * 2 ^ 8 + bit_and (c % 256) low
in_bytes c high low small =
    let whole : c / 256 * 2 ^ 8 + c % 256 ≡ c = omega arith in
    rw whole at (and_block 8 (c / 256) high (c % 256) low (omega arith) (omega arith))

-- a high byte with bits of keywords alone: each of the 128 is tried
is_said : ℕ → Bool
is_said high = cond (bit_and high 0x40 == 0) (said (high * 256) == high * 256) true

tried : all_below is_said 128 ≡ true
unfolding all_below is_said
tried = refl

only_high : (high : ℕ) → high < 128 → bit_and high 0x40 ≡ 0 → said (high * 256) ≡ high * 256
unfolding is_said
only_high high lt none = let test = each_below is_said 128 high tried lt in eqb-true (said (high * 256)) (high * 256) (rw none at test)

pub control_said : (control : ℕ) → bit_and control kept_bits ≡ control → is_set bits_without_keyword control ≡ false → said control ≡ control
control_said control kept none =
    let high = control / 256 in
    let low = control % 256 in
    let whole = in_bytes control 0x7f 0xeb (omega arith) in
    let without = in_bytes control 0x40 0xeb (omega arith) in
    let zero_bits : bit_and control 0x40eb ≡ 0 = eqb-true (bit_and control 0x40eb) 0 (not-false (bit_and control 0x40eb == 0) none) in
    let few : bit_and high 0x7f ≤ 0x7f = and_le_r high 0x7f in
    let small : bit_and low 0xeb ≤ 0xeb = and_le_r low 0xeb in
    let low_none : bit_and low 0xeb ≡ 0 = omega arith in
    let high_none : bit_and high 0x40 ≡ 0 = omega arith in
    let is : control ≡ high * 256 = omega arith in
    let lt : high < 128 = omega arith in
    rw (sym is) at (only_high high lt high_none)
