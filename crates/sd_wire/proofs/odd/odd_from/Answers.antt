-- Each turn passes over an allow or a deny.
use Rattle.sd_wire.proofs.Cited.{List, Option, arith, le-ltb, length, odd_from, refl, slice_index, suc, sym, u16_at, ℕ, ◌+◌, ◌-◌, ◌<◌, ◌∙◌, ◌≡◌, ◌≤◌}
use Rattle.sd_wire.proofs.odd.odd_from.Goals as goal

passed : (bytes : List ℕ) (at count i : ℕ) (total : Option (ℕ × ℕ)) → i < count → at + 4 ≤ length bytes → slice_index bytes at ≤ 1
    → odd_from bytes at (count - i) (i + 1) ≡ total → odd_from bytes (at + u16_at bytes (at + 2)) (count - (i + 1)) (i + 1 + 1) ≡ total
passed bytes at count i total lt within plain so_far =
    let left : count - i ≡ suc (count - (i + 1)) = omega arith in
    let one : odd_from bytes at (count - i) (i + 1) ≡ odd_from bytes (at + u16_at bytes (at + 2)) (count - (i + 1)) (i + 1 + 1) = rw (left, le-ltb (length bytes) (at + 4) within, le-ltb 1 (slice_index bytes at) plain) refl in
    sym one ∙ so_far

pub loop-i-preserved : goal.loop-i-preserved
loop-i-preserved c =
    let low = c.if-bytes-at.false in
    let plain = c.if-bytes-at-gt1.false in
    let size = c.read_u16.type_inv in
    (rw c.read_u16.ensures (passed c.args.bytes.now c.loop-i.at c.args.count c.loop-i.i _ c.loop-i-test.true (omega arith) (omega arith) c.loop-i.invariant.0), omega arith)
