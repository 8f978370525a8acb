-- The tree as a finite map from paths to nodes. It holds no inherited entry.
use Rattle.std.specs.Prelude.{List, [], ◌∷◌, ◌++◌, Option, Some, None}
use Rattle.std.specs.FinMap as map
use Rattle.std.specs.FinMap.{FinMap}
use Rattle.sd_sid.specs.Mapping.{MappingValue}
use Rattle.sd_acl.specs.declared.ace.Ace.{Ace}
use Rattle.sd_path.specs.Names.{Names, names_cmp}
use Rattle.sd_edit.specs.Inheritance.{dacl_of_row}
use Rattle.sd_edit.specs.declared.node.NodeRow.{NodeRow}

abbrev pub PlainTree : Type 0
PlainTree = FinMap names_cmp NodeRow

abbrev pub row_at : PlainTree → Names → Option NodeRow
row_at t path = map.get t path

-- the DACL of what stands at a path, below a parent with this DACL; None where nothing stands there
abbrev pub dacl_here : MappingValue → Option NodeRow → Option (List Ace) → Option (List Ace)
dacl_here g None above = None
dacl_here g (Some row) above = dacl_of_row g row above

-- from a path with this DACL down the names
abbrev pub dacl_below : MappingValue → PlainTree → Names → Option (List Ace) → Names → Option (List Ace)
dacl_below g t at above [] = above
dacl_below g t at above (name ∷ names) =
    dacl_below g t (at ++ name ∷ []) (dacl_here g (row_at t (at ++ name ∷ [])) above) names

-- the DACL at a path: None is a null one, or no node. The root inherits nothing
unfoldable pub dacl_at : MappingValue → PlainTree → Names → Option (List Ace)
dacl_at g t path = dacl_below g t [] (dacl_here g (row_at t []) None) path
