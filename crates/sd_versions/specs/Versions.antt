-- What contracts see of a store's tree.
use Rattle.std.specs.Prelude.{List, ◌++◌}
use Rattle.sd_edit.specs.declared.edit.Edit.{Edit}
use Rattle.sd_edit.specs.declared.opening.Opening.{Opening}

-- how it began, the edits that are published, and those that are pending
pub record VersionsValue : Type 0 where
  pub opening : Opening
  pub published : List Edit
  pub pending : List Edit

-- all edits that were accepted: those that are published, and then those that are pending
abbrev pub accepted : VersionsValue → List Edit
accepted v = v.published ++ v.pending
