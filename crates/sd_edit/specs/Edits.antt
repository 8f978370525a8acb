-- What each edit changes.
use Rattle.std.specs.Prelude.{◌≡◌, ◌≢◌, Bool, true, ◌||◌, List, map, Option, Some, None}
use Rattle.std.specs.FinMap as finite
use Rattle.sd_sid.specs.Mapping.{MappingValue}
use Rattle.sd_acl.specs.Canonical.{canonical_order, explicit_entries}
use Rattle.sd_acl.specs.declared.ace.Ace.{Ace}
use Rattle.sd_path.specs.Names.{Names, is_within, moved_path}
use Rattle.sd_edit.specs.Plain.{PlainTree, row_at, dacl_at}
use Rattle.sd_edit.specs.declared.node.NodeRow.{NodeRow}
use Rattle.sd_inheritance.specs.declared.kind.NodeKind.TheVariants.{Container, Object}
use Rattle.sd_edit.specs.declared.node.NodeDacl.{NodeDacl}
use Rattle.sd_edit.specs.declared.node.NodeDacl.TheVariants.{List as Entries}
use Rattle.sd_edit.specs.declared.edit.Edit.{Edit}
use Rattle.sd_edit.specs.declared.edit.Edit.TheVariants.{AddContainer, AddObject, SetOwner, SetGroup, SetDacl, Remove}
use Rattle.sd_edit.specs.declared.edit.Edit.TheVariants.{ProtectKeeping, Move}

-- the DACL of a protected node with all of these entries as its own, in canonical order
abbrev pub kept_dacl : List Ace → NodeDacl
kept_dacl entries = Entries true (canonical_order (explicit_entries entries))

-- the node, protected, keeps what it had inherited; a null DACL stays
abbrev pub keeping : Option (List Ace) → NodeRow → NodeRow
keeping None row = row
keeping (Some entries) row = record row { dacl = kept_dacl entries }

-- the node at the path is changed, where there is one
abbrev pub changed_where : PlainTree → Names → (NodeRow → NodeRow) → Option NodeRow → PlainTree
changed_where t path change None = t
changed_where t path change (Some row) = finite.insert t path (change row)

abbrev pub changed : PlainTree → Names → (NodeRow → NodeRow) → PlainTree
changed t path change = changed_where t path change (row_at t path)

-- what stands at the source and below it goes below the target, with its kind, its owner, its group and its own DACL
abbrev pub moved_entry : Names → Names → Names × NodeRow → Names × NodeRow
moved_entry source target entry = (moved_path source target entry.0, entry.1)

unfoldable pub moved : PlainTree → Names → Names → PlainTree
moved t source target = finite.from_entries (map (moved_entry source target) (finite.entries t))

abbrev pub edited : MappingValue → PlainTree → Edit → PlainTree
edited g t (AddContainer path owner group dacl) = finite.insert t path
    (record { kind = Container; owner = owner; group = group; dacl = dacl })
edited g t (AddObject path owner group dacl) = finite.insert t path
    (record { kind = Object; owner = owner; group = group; dacl = dacl })
edited g t (SetOwner path owner) = changed t path (λ row. record row { owner = owner })
edited g t (SetGroup path group) = changed t path (λ row. record row { group = group })
edited g t (SetDacl path dacl) = changed t path (λ row. record row { dacl = dacl })
edited g t (Remove path) = finite.remove t path
edited g t (ProtectKeeping path) = changed t path (keeping (dacl_at g t path))
edited g t (Move source target) = moved t source target

-- whether a path is, or stands below, one at which an edit adds, changes or removes a node, or from or to which it
-- moves one
abbrev pub touches : Edit → Names → Bool
touches (AddContainer path owner group dacl) q = is_within path q
touches (AddObject path owner group dacl) q = is_within path q
touches (SetOwner path owner) q = is_within path q
touches (SetGroup path group) q = is_within path q
touches (SetDacl path dacl) q = is_within path q
touches (Remove path) q = is_within path q
touches (ProtectKeeping path) q = is_within path q
touches (Move source target) q = is_within source q || is_within target q

-- from the one tree to the other no DACL changes but the path's
abbrev pub ChangesOneNode : MappingValue → PlainTree → PlainTree → Names → Type 0
ChangesOneNode g before after path = (other : Names) → other ≢ path → dacl_at g after other ≡ dacl_at g before other
