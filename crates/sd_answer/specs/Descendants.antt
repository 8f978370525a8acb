-- The lines about what is made in a container: as those about the container itself, each after what it is.
use Rattle.std.specs.Prelude.{Bool, ◌==◌, if◌then◌else◌, Some, List, [], ◌∷◌, ◌++◌, length}
use Rattle.std.specs.Bool.{beq}
use Rattle.std.specs.List.{flat_map}
use Rattle.sd_analysis.specs.Descendants.{descendant_parts}
use Rattle.sd_analysis.specs.declared.descendants.Descendant.{Descendant}
use Rattle.sd_analysis.specs.declared.descendants_compare.DescendantChange.{DescendantChange}
use Rattle.sd_analysis.specs.declared.descendants_who.DescendantAccess.{DescendantAccess}
use Rattle.sd_line.specs.Line.{LineOf, form, line_of, line_with, part_of}
use Rattle.sd_answer.specs.Compare.{gains_and_losses}
use Rattle.sd_answer.specs.Lines.{made_parts}
use Rattle.sd_answer.specs.Who.{made_who_lines}
use Rattle.sd_answer.specs.declared.forms.TheConstants.{NOTHING_INHERITED, NO_LONGER_PROTECTED, NOW_PROTECTED}

-- what tokens gain and lose of a descendant
abbrev pub descendant_lines : DescendantChange → List LineOf
descendant_lines c =
    gains_and_losses (Some c.descendant) (descendant_parts c.before.items) (descendant_parts c.after.items)
    c.comparison.gained.items c.comparison.lost.items

abbrev pub descendants_lines : List DescendantChange → List LineOf
descendants_lines changes = flat_map descendant_lines changes

-- that the list of the container's own inherits what it did not, or the other way round
abbrev pub inheritance_lines : (was is : Bool) → List LineOf
inheritance_lines was is =
    if beq was is then []
    else if was then line_of (form NO_LONGER_PROTECTED) [] ∷ []
    else line_of (form NOW_PROTECTED) [] ∷ []

abbrev pub nothing_inherited : Descendant → LineOf
nothing_inherited d = line_with NOTHING_INHERITED.0.now
    (made_parts (Some d) ++ part_of NOTHING_INHERITED.1.now [] ∷ [])

-- whom rights of a descendant are granted to: where nothing is handed on, whoever makes it gives it another list
abbrev pub descendant_who_lines : DescendantAccess → List LineOf
descendant_who_lines a =
    if length a.list.items == 0 then nothing_inherited a.descendant ∷ []
    else made_who_lines (Some a.descendant) a.accesses.items

abbrev pub descendants_who_lines : List DescendantAccess → List LineOf
descendants_who_lines all = flat_map descendant_who_lines all
