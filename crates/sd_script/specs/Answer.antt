-- The lines of an answer that are made of a tree as they are printed.
use Rattle.std.specs.Prelude.{List, []}
use Rattle.sd_edit.specs.Journal.{replay}
use Rattle.sd_line.specs.Line.{LineOf}
use Rattle.sd_script.specs.Dump.{dump_lines}
use Rattle.sd_script.specs.Listing.{nodes_below}
use Rattle.sd_script.specs.declared.answer.Made.{Made}
use Rattle.sd_script.specs.declared.answer.Made.TheVariants.{Nothing, Nodes, Dump}

-- lines of the nodes at and below a path, or lines that make the tree
abbrev pub made_lines : Made → List LineOf
made_lines Nothing = []
made_lines (Nodes n) =
    nodes_below n.value.paths n.value.tree.opening n.value.tree.journal n.value.top n.value.which
made_lines (Dump d) =
    dump_lines d.value.notation.paths d.value.readers (replay d.value.tree.opening d.value.tree.journal)
