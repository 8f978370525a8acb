-- What an import is answered by: the node is added, and the answer says whether it has all that its text says, and
-- inherits what it had inherited elsewhere, and whether its own entries have the order that they had there.
use Rattle.std.specs.Prelude.{◌≡◌, ℕ, Bool, true, false, ◌&&◌, List, [], ◌∷◌, filter, Option, Some, None, codes}
use Rattle.std.specs.Bool.{Decides}
use Rattle.std.specs.Option.{option_map_or, unwrap_or}
use Rattle.sd_acl.specs.Canonical.{is_explicit, is_inherited}
use Rattle.sd_acl.specs.Descriptor.{DescriptorValue}
use Rattle.sd_acl.specs.declared.ace.Ace.{Ace}
use Rattle.sd_edit.specs.Answers.{descriptor_at}
use Rattle.sd_path.specs.Names.{Names}
use Rattle.sd_edit.specs.Journal.{replay}
use Rattle.sd_edit.specs.Machine.{Machine, accepted}
use Rattle.sd_edit.specs.declared.request.Reply.{Reply}
use Rattle.sd_edit.specs.declared.request.Reply.TheVariants.{Edited}
use Rattle.sd_line.specs.Line.{LineOf}
use Rattle.sd_script.specs.Argument.{entries_in}
use Rattle.sd_script.specs.Reply.{alone, ok_line, reply_line}
use Rattle.sd_script.specs.declared.importing.Given.{Given}

-- the entries of a descriptor, and none where there is none
abbrev pub entries_by : Option DescriptorValue → List Ace
entries_by d = option_map_or (λ (d : DescriptorValue). entries_in d.dacl) d []

-- the entries of the node of a path, after all edits that were accepted
abbrev pub entries_at : Machine → Names → List Ace
entries_at m path = entries_by (descriptor_at m.opening.mapping (replay m.opening (accepted m)) path)

-- both lists have the same inherited entries, in one order; what had no DACL, which grants everything, inherits unlike
abbrev pub InheritAlike : List Ace → Option (List Ace) → Type 0
InheritAlike stored None = ⊥
InheritAlike stored (Some given) = filter is_inherited stored ≡ filter is_inherited given

-- both have the same entries of their own, in one order
abbrev pub AreOrderedAlike : List Ace → Option (List Ace) → Type 0
AreOrderedAlike stored given = filter is_explicit stored ≡ filter is_explicit (unwrap_or given [])

abbrev pub imported_words : (is_same is_ordered_alike : Bool) → List (List ℕ)
imported_words true true = []
imported_words true false = codes "reordered" ∷ []
imported_words false true = codes "differs" ∷ []
imported_words false false = codes "differs" ∷ codes "reordered" ∷ []

-- by what the text gave; the node's entries are those in the tree of all accepted edits
abbrev pub IsImported : Machine → Names → Given → Reply → List LineOf → Type 0
IsImported m path given Edited answer =
    (inherits_alike : Bool) × (is_ordered_alike : Bool)
    × Decides inherits_alike (InheritAlike (entries_at m path) given.entries)
    × Decides is_ordered_alike (AreOrderedAlike (entries_at m path) given.entries)
    × (answer ≡ ok_line (imported_words (given.is_all && inherits_alike) is_ordered_alike) ∷ [])
IsImported m path given reply answer = alone (reply_line reply) ≡ Some answer
