use Rattle.sd_text.proofs.Cited.{begins, codes, length, take, true, ◌≡◌, ◌≤◌}
use Rattle.sd_text.proofs.Sids.{SubsReach}
use Rattle.sd_text.proofs.cursor.Cursor.subs_of.Given as goal

-- the sub-authorities that have been read; before the first a dash stands
abbrev pub invariant-subs : goal.invariant-subs
invariant-subs l = record {
  reached : SubsReach l.fn.self.rest.now (take l.count l.subs) l.self.rest.now;
  room : length l.subs ≡ 15;
  few : l.count ≤ 15;
  some : l.count ≡ 0 → begins l.self.rest.now (codes "-") ≡ true;
}

abbrev pub decreases-subs : goal.decreases-subs
decreases-subs l = length l.self.rest.now
