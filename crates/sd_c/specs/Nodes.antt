-- The answers of the calls that return a view's nodes: what was given to each, without what it inherits.
use Rattle.std.specs.Prelude.{◌≡◌, ◌⊎◌, ℕ, false, List, Some, None, IsSome, Ok, slice_get}
use Rattle.std.specs.FinMap.{entries}
use Rattle.sd_acl.specs.Descriptor.{DescriptorValue, HaveNamedFlags, IsDescriptor}
use Rattle.sd_path.specs.Names.{Names}
use Rattle.sd_path.specs.PathText.{path_of, text_of}
use Rattle.sd_wire.specs.Writing.{wire_of}
use Rattle.sd_edit.specs.Answers.{given_at}
use Rattle.sd_edit.specs.Descriptors.{own_descriptor_of_row, own_list}
use Rattle.sd_edit.specs.History.{History}
use Rattle.sd_edit.specs.Journal.{replay}
use Rattle.sd_inheritance.specs.declared.kind.NodeKind.{NodeKind}
use Rattle.sd_inheritance.specs.declared.kind.NodeKind.TheVariants.{Container, Object}
use Rattle.sd_edit.specs.declared.node.NodeDacl.{NodeDacl}
use Rattle.sd_edit.specs.declared.node.NodeDacl.TheVariants.{List as Entries, Stored}
use Rattle.sd_edit.specs.declared.node.NodeRow.{NodeRow}
use Rattle.sd_c.specs.declared.handle.Handle.{Handle}
use Rattle.sd_c.specs.declared.handle.kept.Kept.{Kept}
use Rattle.sd_c.specs.declared.nodes.NodeAnswer.{NodeAnswer}
use Rattle.sd_c.specs.declared.not_done.NotDone.{NotDone}
use Rattle.sd_c.specs.declared.not_done.NotDone.TheVariants as reasons
use Rattle.sd_c.specs.declared.not_done.EditArgument.TheVariants as arguments
use Rattle.sd_c.specs.Edits.{IsNoPath, IsNode}
use Rattle.sd_c.specs.Kept.{view_in}
use Rattle.sd_c.specs.Views.{IsNotFound, not_told}
use Rattle.sd_c.specs.Written.{Writes}

abbrev pub kind_number : NodeKind → ℕ
kind_number Container = 1
kind_number Object = 2

-- nothing is written, and no kind returned
abbrev pub no_node_told : NotDone → NodeAnswer
no_node_told why = record { written = not_told why; kind = 0 }

-- bytes of a node are written, or the buffer is too small for them, and its kind is returned; or nothing, for a reason
-- that holds
abbrev pub TellsNode :
    (List ℕ → NodeKind → Type 0) → (NotDone → Type 0) → Handle → List ℕ → List ℕ → NodeAnswer → Type 0
TellsNode Right Holds view old new told =
    ((bytes : List ℕ) × (kind : NodeKind) × (view.is_there ≡ 1) × Right bytes kind × Writes bytes old new told.written
    × (told.kind ≡ kind_number kind))
    ⊎ ((why : NotDone) × (view.is_there ≡ 1) × Holds why × (new ≡ old) × (told ≡ no_node_told why))
    ⊎ ((view.is_there ≡ 0) × (new ≡ old) × (told ≡ no_node_told reasons.ViewHandle))

-- ---- what was given to the node of a path

-- the self-relative form of what was given to it, after the journal
abbrev pub IsOwnIn : History → Names → List ℕ → NodeKind → Type 0
IsOwnIn h names bytes kind =
    (d : DescriptorValue) × (given_at (replay h.opening h.journal) names ≡ Some (kind, d)) × (bytes ≡ wire_of d)

-- the self-relative form of what was given to a node, after the journal that was published when the view was made
abbrev pub IsOwnAt : Kept → List ℕ → List ℕ → NodeKind → Type 0
IsOwnAt view path bytes kind =
    (h : History) × (names : Names) × (view_in view ≡ Some h) × (path_of path ≡ Ok names) × IsOwnIn h names bytes kind

-- why there is none, the first that holds: no view is kept, the text is no path, no node is there, or out of memory
abbrev pub IsNoOwnAt : Kept → List ℕ → NotDone → Type 0
IsNoOwnAt view path why =
    ((view_in view ≡ None) × (why ≡ reasons.ViewHandle))
    ⊎ (IsSome (view_in view) × IsNoPath arguments.Path path why)
    ⊎ ((h : History) × (names : Names) × (view_in view ≡ Some h) × (path_of path ≡ Ok names)
    × IsNotFound (given_at (replay h.opening h.journal) names) why)

-- a DACL without what was inherited elsewhere
abbrev pub ordinary : NodeDacl → NodeDacl
ordinary (Stored own inherited offer) = Entries false own
ordinary dacl = dacl

-- an edit whose value is what was written of a node gives it the same owner, group and DACL, without what it had
-- inherited elsewhere, if it was stored with that
abbrev pub OwnFormsComeBack : Type 0
OwnFormsComeBack =
    (row : NodeRow) → IsDescriptor (own_descriptor_of_row row) → HaveNamedFlags (own_list row.dacl)
    → IsNode (wire_of (own_descriptor_of_row row)) row.owner row.group (ordinary row.dacl)

-- ---- the nodes in path order

-- the text of the path of the node at this index
abbrev pub IsPathAt : Kept → ℕ → List ℕ → NodeKind → Type 0
IsPathAt view place bytes kind =
    (h : History) × (names : Names) × (row : NodeRow) × (view_in view ≡ Some h)
    × (slice_get (entries (replay h.opening h.journal)) place ≡ Some (names, row)) × (bytes ≡ text_of names)
    × (kind ≡ row.kind)

-- why there is none, the first that holds: no view is kept, no node is there, or out of memory
abbrev pub IsNoPathAt : Kept → ℕ → NotDone → Type 0
IsNoPathAt view place why =
    ((view_in view ≡ None) × (why ≡ reasons.ViewHandle))
    ⊎ ((h : History) × (view_in view ≡ Some h)
    × IsNotFound (slice_get (entries (replay h.opening h.journal)) place) why)
