-- The lines of what a change comes to.
use Rattle.std.specs.Prelude.{ℕ, List, [], ◌++◌, Option, Some, None, map}
use Rattle.sd_acl.specs.Descriptor.{descriptor_of}
use Rattle.sd_answer.specs.Compare.{gains_and_losses}
use Rattle.sd_answer.specs.Descendants.{descendants_lines, inheritance_lines}
use Rattle.sd_answer.specs.Parts.{parts_in}
use Rattle.sd_answer.specs.declared.forms.TheConstants.{PATH}
use Rattle.sd_line.specs.Line.{LineOf, with_head, word_part}
use Rattle.sd_review.specs.declared.compared.Compared.{Compared}

-- the lines of `compare`
abbrev pub lines : Compared → List LineOf
lines c =
    gains_and_losses None (parts_in (descriptor_of c.before)) (parts_in (descriptor_of c.after))
    c.comparison.gained.items c.comparison.lost.items
    ++ descendants_lines c.below.items ++ inheritance_lines c.before.protected c.after.protected

-- none where one of the nodes isn't there
abbrev pub lines_of : Option Compared → List LineOf
lines_of None = []
lines_of (Some c) = lines c

-- each after a path
abbrev pub with_path : List ℕ → List LineOf → List LineOf
with_path path lines = map (with_head (word_part PATH.now path)) lines
