-- What of a SACL may deny what a DACL grants, or change what conditions ask about, where an answer leaves it out
-- ([MS-DTYP] 2.5.3.3).
use Rattle.std.specs.Prelude.{◌≡◌, ◌==◌, Bool, true, false, not, ◌&&◌, ◌||◌, List, [], ◌∷◌, length, if◌then◌else◌}
use Rattle.std.specs.Prelude.{is_some}
use Rattle.std.specs.Bool.{Decides}
use Rattle.std.specs.List.{list_any}
use Rattle.sd_acl.specs.Ace.{passes_on}
use Rattle.sd_acl.specs.declared.descriptor.DaclOf.TheVariants.{Absent, Null, List as Entries}
use Rattle.sd_access.specs.Access.{is_attribute, resource_claims}
use Rattle.sd_access.specs.Limits.{has_limits}
use Rattle.sd_line.specs.Line.{LineOf, form, line_of}
use Rattle.sd_answer.specs.declared.forms.TheConstants.{LABEL_ALONE}
use Rattle.sd_specialize.specs.Children.{hands_on_conditions}
use Rattle.sd_specialize.specs.Everyone.{conditional_place}
use Rattle.sd_whole.specs.Reading.{WholeAcl}
use Rattle.sd_whole.specs.declared.ace.WholeAce.{WholeAce}
use Rattle.sd_whole.specs.declared.ace.WholeAce.TheVariants.{Plain, Typed, Opaque}
use Rattle.sd_whole.specs.declared.descriptor.WholeDescriptor.{WholeDescriptor}

-- the line of an answer that leaves them out
abbrev pub sacl_left_out : Bool → List LineOf
sacl_left_out is_left = if is_left then line_of (form LABEL_ALONE) [] ∷ [] else []

-- there is a condition: of the object itself, or below, of what is made in it
abbrev pub asks : (below : Bool) → WholeAcl → Bool
asks below dacl = is_some (conditional_place dacl) || (below && hands_on_conditions dacl)

-- both have conditions, which can ask about the claims of a SACL (2.4.4.15): so one of both may ask about another thing
-- in each
abbrev pub both_ask : (below : Bool) → (old new : WholeDescriptor) → Bool
both_ask below old new = asks below old.dacl && asks below new.dacl

-- the entry is a claim that is handed on
abbrev pub is_handed_claim : WholeAce → Bool
is_handed_claim (Plain e) = false
is_handed_claim (Typed e) = is_attribute e.kind && passes_on e.flags.0
is_handed_claim (Opaque e) = false

abbrev pub hands_on_claims : WholeAcl → Bool
hands_on_claims Absent = false
hands_on_claims Null = false
hands_on_claims (Entries list) = list_any is_handed_claim list.entries

-- claims of the object itself, or below, of what is made in it
abbrev pub has_claims : (below : Bool) → WholeAcl → Bool
has_claims below sacl = not (length (resource_claims sacl) == 0) || (below && hands_on_claims sacl)

abbrev pub ask_claims : (below : Bool) → (old new : WholeDescriptor) → Bool
ask_claims below old new = both_ask below old new && (has_claims below old.sacl || has_claims below new.sacl)

-- whether `compare` leaves out such entries: one of the two has one, and they don't have one SACL
abbrev pub ChangeHasLimits : Bool → (below : Bool) → (old new : WholeDescriptor) → Type 0
ChangeHasLimits depends below old new = (same : Bool) × Decides same (old.sacl ≡ new.sacl)
    × (depends ≡ (((has_limits below old.sacl || has_limits below new.sacl) || ask_claims below old new) && not same))

-- where it leaves out none, the conditions of both ask about the same claims
abbrev pub ConditionsAskAlike : Type 0
ConditionsAskAlike = (below : Bool) (old new : WholeDescriptor) → ChangeHasLimits false below old new
    → both_ask below old new ≡ true → resource_claims old.sacl ≡ resource_claims new.sacl
