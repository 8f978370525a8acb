-- Whether the lines that are left ask for what is left decides whether all lines ask for what makes the tree.
use Rattle.sd_script.proofs.Cited.{Decides, IsReadBack, lines, replay}
use Rattle.std.specs.Prelude.{Bool}
use Rattle.sd_script.proofs.Dumping.{AreLeft}
use Rattle.sd_script.proofs.dump.Dumper.is_read_back.Given as goal

abbrev pub invariant-loop-index : goal.invariant-loop-index
invariant-loop-index l =
    let t = replay l.self.tree.now.opening l.self.tree.now.journal in
    (r : Bool) → Decides r (AreLeft l.self.notation l.self.readers t (lines l.rest) l.index) → Decides r (IsReadBack l.self.notation l.self.readers t l.text)
