-- Trees without gaps: what every tree of a lawful journal is.
use Rattle.std.specs.Prelude.{◌≡◌, false, [], Some, None, IsSome}
use Rattle.sd_path.specs.Names.{Names, up, is_root, is_within}
use Rattle.sd_edit.specs.Plain.{PlainTree, row_at}
use Rattle.sd_edit.specs.Answers.{kind_at}
use Rattle.sd_edit.specs.declared.node.NodeRow.{NodeRow}
use Rattle.sd_inheritance.specs.declared.kind.NodeKind.TheVariants.{Container}

-- the root is there and is a container, and so is what holds each node
pub record IsClosed (t : PlainTree) : Type 0 where
  pub root : kind_at t [] ≡ Some Container
  pub parents : (path : Names) (row : NodeRow) → row_at t path ≡ Some row → kind_at t (up path) ≡ Some Container

-- a path where a node may be added: none stands there, and a container holds it
pub record IsAddable (t : PlainTree) (path : Names) : Type 0 where
  pub free : row_at t path ≡ None
  pub held : kind_at t (up path) ≡ Some Container
  pub below_root : is_root path ≡ false

-- a node that may go to a path: it isn't the root, and a node may be added there, which isn't below it
pub record IsMovable (t : PlainTree) (source target : Names) : Type 0 where
  pub place : IsAddable t target
  pub there : IsSome (row_at t source)
  pub below_root : is_root source ≡ false
  pub apart : is_within source target ≡ false
