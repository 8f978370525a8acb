-- There is room for what is after the SID.
use Rattle.sd_whole.proofs.Cited.{ap, arith, length, length-append, types_part, ℕ}
use Rattle.sd_whole.proofs.Lengths.{length_of_sid}
use Rattle.sd_whole.proofs.entry.push_typed_body.Goals as goal

pub unwrap-requires : goal.unwrap-requires
unwrap-requires c =
    let mask = ap length c.push_mask.ensures.items in
    let types = ap length c.push_types.ensures.items in
    let has = ap (λ b. length (types_part b c.args.ace.now.types)) c.has_object_types.ensures in
    let sid = ap length c.push_reserved_sid.ensures.items in
    c.extend_from_slice.ensures.succeeds (omega (arith, mask, types, has, sid, length-append {A = ℕ}, length_of_sid c.args.ace.now.sid, ap length c.as_slice.ensures.bytes))
