-- Edits that add nodes, and the rows that they add.
use Rattle.std.specs.Prelude.{Bool, true, false, []}
use Rattle.sd_path.specs.Names.{Names}
use Rattle.sd_sid.specs.Sid.{SidValue}
use Rattle.sd_edit.specs.declared.node.NodeRow.{NodeRow}
use Rattle.sd_inheritance.specs.declared.kind.NodeKind.{NodeKind}
use Rattle.sd_inheritance.specs.declared.kind.NodeKind.TheVariants.{Container, Object}
use Rattle.sd_edit.specs.declared.node.NodeDacl.TheVariants.{Null}
use Rattle.sd_edit.specs.declared.edit.Edit.{Edit}
use Rattle.sd_edit.specs.declared.edit.Edit.TheVariants.{AddContainer, AddObject, SetOwner, SetGroup, SetDacl, Remove}
use Rattle.sd_edit.specs.declared.edit.Edit.TheVariants.{ProtectKeeping, Move}
use Rattle.sd_edit.specs.declared.opening.RootSpec.{RootSpec}

-- the edit that adds a node, which isn't the root
abbrev pub addition_of : NodeKind → Names → NodeRow → Edit
addition_of Container path row = AddContainer path row.owner row.group row.dacl
addition_of Object path row = AddObject path row.owner row.group row.dacl

-- a node of this kind with what a root has
abbrev pub row_of : NodeKind → RootSpec → NodeRow
row_of kind node = record { kind = kind; owner = node.owner; group = node.group; dacl = node.dacl }

-- a root with what a node has
abbrev pub root_of : NodeRow → RootSpec
root_of row = record { owner = row.owner; group = row.group; dacl = row.dacl }

-- an edit that adds a node, as contracts see it: the node's path and its row
pub record AdditionValue : Type 0 where
  pub path : Names
  pub row : NodeRow

abbrev pub is_addition : Edit → Bool
is_addition (AddContainer path owner group dacl) = true
is_addition (AddObject path owner group dacl) = true
is_addition (SetOwner path owner) = false
is_addition (SetGroup path group) = false
is_addition (SetDacl path dacl) = false
is_addition (Remove path) = false
is_addition (ProtectKeeping path) = false
is_addition (Move source target) = false

-- of an edit that adds nothing, anything
abbrev pub no_addition : AdditionValue
no_addition =
    let nobody : SidValue = record { authority = 0; subs = [] } in
    record { path = []; row = record { kind = Object; owner = nobody; group = nobody; dacl = Null } }

abbrev pub added : Edit → AdditionValue
added (AddContainer path owner group dacl) =
    record { path = path; row = record { kind = Container; owner = owner; group = group; dacl = dacl } }
added (AddObject path owner group dacl) =
    record { path = path; row = record { kind = Object; owner = owner; group = group; dacl = dacl } }
added (SetOwner path owner) = no_addition
added (SetGroup path group) = no_addition
added (SetDacl path dacl) = no_addition
added (Remove path) = no_addition
added (ProtectKeeping path) = no_addition
added (Move source target) = no_addition
