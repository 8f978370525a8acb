-- The text so far and its bits, and the rows that are left, print what all rows do.
use Rattle.sd_line.proofs.Cited.{[], drop, map, named_bits, named_from, names_of, string_bytes, ◌≡◌}
use Rattle.sd_line.proofs.names.names_among.Given as goal

abbrev pub invariant-loop-name : goal.invariant-loop-name
invariant-loop-name l =
    named_from (names_of l.kind (map named_bits (drop l.name-index l.rows))) l.mask l.named (string_bytes l.text)
    ≡ named_from (names_of l.kind (map named_bits l.rows)) l.mask 0 []
