use Rattle.sd_commands.proofs.Cited.{map, take, ◌≡◌}
use Rattle.sd_commands.specs.Handed.{handed_to, handed_to_of}
use Rattle.sd_specialize.specs.Marked.{lent_marks}
use Rattle.sd_commands.proofs.settings.CommandContext.lists_below.Given as goal

abbrev pub invariant-loop-children : goal.invariant-loop-children
invariant-loop-children l =
    map handed_to_of l.lists.items ≡ map (handed_to l.self.settings.now (lent_marks l.marks) l.old l.new) (take l.children-index l.children-items)
