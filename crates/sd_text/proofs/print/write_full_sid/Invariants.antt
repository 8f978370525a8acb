use Rattle.sd_text.proofs.Cited.{flat_map, string_bytes, sub_canon, take, ◌++◌, ◌≡◌}
use Rattle.sd_text.proofs.print.write_full_sid.Given as goal

-- the sub-authorities so far have been printed
abbrev pub invariant-loop-sub : goal.invariant-loop-sub
invariant-loop-sub l = record {
  subs : l.sub-items ≡ l.sid.subs;
  printed : string_bytes l.out ≡ string_bytes l.initial.out ++ flat_map sub_canon (take l.sub-index l.sub-items);
}
