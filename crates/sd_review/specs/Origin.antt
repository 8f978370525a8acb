-- Where a node of the new tree was in the old one.
use Rattle.std.specs.Prelude.{ℕ, nat_le, List, [], ◌∷◌, length, if◌then◌else◌, Option, Some, None, option_and_then}
use Rattle.std.specs.Ordering.{eq_by_cmp}
use Rattle.sd_path.specs.Names.{Names, is_within, moved_path, names_cmp}
use Rattle.sd_edit.specs.declared.edit.Edit.{Edit}
use Rattle.sd_edit.specs.declared.edit.Edit.TheVariants.{AddContainer, AddObject, Move}

-- at most 128 names are a path
abbrev pub path_or_none : Names → Option Names
path_or_none path = if nat_le (length path) 128 then Some path else None

abbrev pub unless_same : Names → Names → Option Names
unless_same added path = if eq_by_cmp names_cmp path added then None else Some path

-- where the node that stands at a path after an edit stood before it: nowhere, if the edit added it
abbrev pub place_before : Edit → Names → Option Names
place_before (AddContainer added owner group dacl) path = unless_same added path
place_before (AddObject added owner group dacl) path = unless_same added path
place_before (Move source target) path =
    if is_within target path then path_or_none (moved_path target source path) else Some path
place_before edit path = Some path

-- before several edits, one after the other
abbrev pub origin : List Edit → Names → Option Names
origin [] path = Some path
origin (edit ∷ edits) path = option_and_then (place_before edit) (origin edits path)
