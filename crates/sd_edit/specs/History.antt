-- What a tree is to those that keep several: how it began, and the edits that it accepted since.
use Rattle.std.specs.Prelude.{List}
use Rattle.sd_edit.specs.Journal.{TreeValue}
use Rattle.sd_edit.specs.declared.edit.Edit.{Edit}
use Rattle.sd_edit.specs.declared.opening.Opening.{Opening}

pub record History : Type 0 where
  pub opening : Opening
  pub journal : List Edit

abbrev pub history_of : TreeValue → History
history_of t = record { opening = t.opening; journal = t.journal }
