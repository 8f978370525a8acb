-- What a user gains and loses where one descriptor takes the place of another.
use Rattle.std.specs.Prelude.{ℕ, ◌==◌, ◌&&◌, not, List, [], ◌∷◌, ◌++◌, Option, Some, codes, if◌then◌else◌}
use Rattle.sd_sid.specs.Mask.{holds, mask_of}
use Rattle.sd_line.specs.Line.{Form, LineOf, form, is_of, line_of, value_named}
use Rattle.sd_line.specs.declared.line.Value.{Value}
use Rattle.sd_line.specs.declared.line.Value.TheVariants as values
use Rattle.sd_people.specs.Lines.{Told, User, person}
use Rattle.sd_people.specs.declared.forms.TheConstants.{BY_PERSON, GAINED_BY, LOST_BY}

-- all rights that the user is granted are asked for (MAXIMUM_ALLOWED, [MS-DTYP] 2.4.3)
abbrev pub all_granted : List ℕ
all_granted = codes "0x02000000"

-- the mask that the first line of `why` says is granted; none where it says otherwise
abbrev pub mask_in : Option Value → ℕ
mask_in (Some (values.Mask mask)) = mask
mask_in value = 0

abbrev pub mask_of_line : LineOf → ℕ
mask_of_line l = if is_of (codes "granted") l then mask_in (value_named (codes "mask") l) else 0

abbrev pub granted_mask : List LineOf → ℕ
granted_mask [] = 0
granted_mask (l ∷ lines) = mask_of_line l

-- the bits of the first mask that the second doesn't have
abbrev pub minus : ℕ → ℕ → ℕ
minus one other = mask_of (λ b. holds one b && not (holds other b)) 32

-- the line of what changes, where something does
abbrev pub change : Form → User → ℕ → List Told
change words user mask = if mask == 0 then []
    else (line_of words (values.Mask mask ∷ []), person BY_PERSON.now user) ∷ []

-- what the user gains, and then what it loses
abbrev pub changes : User → (old new : ℕ) → List Told
changes user old new = change (form GAINED_BY) user (minus new old) ++ change (form LOST_BY) user (minus old new)
