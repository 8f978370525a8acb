use Rattle.sd_text.proofs.Cited.{entry_canon_in, flat_map, string_bytes, take, ◌++◌, ◌≡◌}
use Rattle.sd_text.proofs.print.write_dacl.Given as goal

-- the entries so far have been printed
abbrev pub invariant-loop-entry : goal.invariant-loop-entry
invariant-loop-entry l = string_bytes l.out
    ≡ string_bytes l.initial.out ++ flat_map (entry_canon_in l.names) (take l.entry-index l.entry-items)
