-- A node's whole DACL, which is kept in two parts. No public contract says so.
use Rattle.std.specs.Prelude.{Bool, false, not, List, ◌++◌, Option, Some, None}
use Rattle.std.specs.Borrow.{Bor}
use Rattle.sd_acl.specs.declared.ace.Ace.{Ace}
use Rattle.sd_path.specs.Names.{Names}
use Rattle.sd_edit.specs.Refusals.{own_entries}
use Rattle.sd_edit.specs.declared.node.NodeDacl.{NodeDacl}
use Rattle.sd_edit.specs.declared.node.NodeDacl.TheVariants.{Null, List as Entries, Stored}
use Rattle.sd_edit.specs.declared.node.NodeRow.{NodeRow}

-- a row's own entries, and these behind them
abbrev pub behind_own : NodeRow → List Ace → List Ace
behind_own row inherited = own_entries row.dacl ++ inherited

-- a DACL with these behind its own entries; a null one has no entries
abbrev pub dacl_with : NodeDacl → List Ace → Option (List Ace)
dacl_with Null inherited = None
dacl_with (Entries protected own) inherited = Some (own ++ inherited)
dacl_with (Stored own kept offer) inherited = Some (own ++ inherited)

abbrev pub whole_with : NodeRow → List Ace → Option (List Ace)
whole_with row inherited = dacl_with row.dacl inherited

-- a node as contracts see it: its path, its row and its whole DACL
pub record NodeValue : Type 0 where
  pub path : Names
  pub row : NodeRow
  pub whole : Option (List Ace)

-- a DACL in two parts; a null one has none
abbrev pub joined : Option (Bor (List Ace) × Bor (List Ace)) → Option (List Ace)
joined None = None
joined (Some parts) = Some (parts.0.now ++ parts.1.now)

-- whether a node with this DACL inherits what is handed on to it: it is neither null nor protected nor was it stored
abbrev pub inherits : NodeDacl → Bool
inherits Null = false
inherits (Entries protected own) = not protected
inherits (Stored own kept offer) = false
