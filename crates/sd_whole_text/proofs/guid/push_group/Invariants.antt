use Rattle.sd_whole_text.proofs.Cited.{AllByRecursion, byte_text, drop, flat_map, length, slice_index, string_bytes, take, ◌++◌, ◌<◌, ◌≡◌}
use Rattle.sd_whole_text.proofs.guid.push_group.Given as goal

-- the bytes so far have been printed, and the places left are within them
abbrev pub invariant-loop-place : goal.invariant-loop-place
invariant-loop-place l = record {
  printed : string_bytes l.out
      ≡ string_bytes l.initial.out ++ flat_map (λ place. byte_text (slice_index l.bytes place)) (take l.place-index l.places);
  within : AllByRecursion (λ place. place < length l.bytes) (drop l.place-index l.places);
}
