use Rattle.sd_analysis.proofs.Cited.{None, parts_of}
use Rattle.sd_analysis.proofs.Tables.{nobody_beside}
use Rattle.sd_analysis.proofs.compare_table.Table.new.Goals as goal

pub returns : goal.returns
returns c = record {
  places = c.in_ok-places.ensures;
  old_rows = c.in_ok-old_listing.ensures;
  new_rows = c.in_ok-new_listing.ensures;
  first = c.walk.ensures c.args.mapping.now c.args.base.now c.args.sids.now (parts_of c.args.old.now) (parts_of c.args.new.now) None
      c.in_ok-old_listing.ensures c.in_ok-new_listing.ensures (nobody_beside c.args.sids.now) c.in_ok-first.ensures.before c.in_ok-first.ensures.after;
  second = c.walk-2.ensures c.args.mapping.now c.args.base.now c.args.sids.now (parts_of c.args.old.now) (parts_of c.args.new.now) None
      c.in_ok-old_listing.ensures c.in_ok-new_listing.ensures (nobody_beside c.args.sids.now) c.in_ok-second.ensures.before c.in_ok-second.ensures.after;
}
