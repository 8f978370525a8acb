-- The last of the numbers stands at its place.
use Rattle.sd_sid.proofs.Cited.{SidValue, ap, arith, get_or-map-range_with_len, length, length-map-range_with_len, slice_index, sym, u32_at, u32s_at, ◌*◌, ◌+◌, ◌-◌, ◌∙◌}
use Rattle.sd_sid.proofs.lent.SidRef.last_sub.Goals as goal

pub returns : goal.returns
returns c =
    let bytes = c.self.inside.bytes.now in
    let count = c.self.inside.count in
    c.sub_at.ensures
    ∙ sym (ap (λ (s : SidValue). slice_index s.subs (length s.subs - 1)) (sym c.self.view_is)
    ∙ ap (λ n. slice_index (u32s_at bytes 8 count) (n - 1)) (length-map-range_with_len (λ k. u32_at bytes (8 + 4 * k)) 0 count)
    ∙ get_or-map-range_with_len (λ k. u32_at bytes (8 + 4 * k)) 0 count (count - 1) (count - 1) 0 (omega (arith, c.self.invariant.0)) (omega arith))
