-- What `compare` answers of the integrity labels of two descriptors ([MS-DTYP] 2.5.3.3).
use Rattle.std.specs.Prelude.{◌≡◌, ℕ, Bool, ◌&&◌, ◌==◌, List, [], ◌∷◌, ◌++◌, codes, if◌then◌else◌}
use Rattle.std.specs.Bool.{beq}
use Rattle.std.specs.Fmt.{decimal}
use Rattle.sd_sid.specs.Mapping.{MappingValue}
use Rattle.sd_sid.specs.Mask.{holds}
use Rattle.sd_line.specs.Line.{LineOf, form, line_of}
use Rattle.sd_line.specs.declared.line.Value.TheVariants as values
use Rattle.sd_answer.specs.declared.forms.TheConstants.{LABEL_CHANGED}
use Rattle.sd_label.specs.Label.{label_of_object, taken_by}
use Rattle.sd_label.specs.declared.label.Label.{Label}
use Rattle.sd_whole.specs.declared.descriptor.WholeDescriptor.{WholeDescriptor}

-- the level (2.4.2.4): the name that `level=` takes for it, or its number
abbrev pub level_name : ℕ → List ℕ
level_name level =
    if level == 0x0000 then codes "untrusted"
    else if level == 0x1000 then codes "low"
    else if level == 0x2000 then codes "medium"
    else if level == 0x2100 then codes "mediumplus"
    else if level == 0x3000 then codes "high"
    else if level == 0x4000 then codes "system"
    else decimal level

-- with what the label denies to lower levels (2.4.4.13), as `show` says it
abbrev pub label_text : Label → List ℕ
label_text label = level_name label.level
    ++ (if holds label.policy 0 then codes " no-write-up" else [])
    ++ (if holds label.policy 1 then codes " no-read-up" else [])
    ++ (if holds label.policy 2 then codes " no-execute-up" else [])

-- both have one level, and deny the same
abbrev pub same_label : Label → Label → Bool
same_label a b = a.level == b.level && beq (holds a.policy 0) (holds b.policy 0)
    && beq (holds a.policy 1) (holds b.policy 1) && beq (holds a.policy 2) (holds b.policy 2)

-- the line of a label that is another
abbrev pub label_lines : (was is : Label) → List LineOf
label_lines was is = if same_label was is then []
    else line_of (form LABEL_CHANGED) (values.Text (label_text was) ∷ values.Text (label_text is) ∷ []) ∷ []

-- the labels of two descriptors, by their SACLs
abbrev pub label_changes : (old new : WholeDescriptor) → List LineOf
label_changes old new = label_lines (label_of_object old.sacl) (label_of_object new.sacl)

-- where there is no line, both labels take the same of each level
abbrev pub NoLineTakesAlike : Type 0
NoLineTakesAlike = (was is : Label) (level : ℕ) (g : MappingValue) → label_lines was is ≡ []
    → taken_by was level g ≡ taken_by is level g
