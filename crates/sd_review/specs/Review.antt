-- A published tree beside the one with all pending edits.
use Rattle.std.specs.Prelude.{ℕ, Bool, ◌||◌, List, ◌++◌, length, drop, if◌then◌else◌, Option, Some, None, is_some}
use Rattle.sd_sid.specs.Mapping.{MappingValue}
use Rattle.sd_path.specs.Names.{Names}
use Rattle.sd_edit.specs.Answers.{kind_at}
use Rattle.sd_edit.specs.Journal.{replay}
use Rattle.sd_edit.specs.Plain.{PlainTree}
use Rattle.sd_edit.specs.declared.edit.Edit.{Edit}
use Rattle.sd_edit.specs.declared.opening.Opening.{Opening}
use Rattle.sd_review.specs.Origin.{origin}
use Rattle.sd_review.specs.declared.review.Former.{Former}
use Rattle.sd_review.specs.declared.review.Former.TheVariants.{Same, Moved, New}
use Rattle.sd_review.specs.declared.pending.Review.{Review}

-- the published tree, the one with all pending edits, and these edits
pub record Trees : Type 0 where
  pub mapping : MappingValue
  pub old : PlainTree
  pub new : PlainTree
  pub pending : List Edit

-- the trees of a store: its opening, its published edits, and those that are pending
abbrev pub trees_after : Opening → List Edit → List Edit → Trees
trees_after opening published pending = record {
  mapping = opening.mapping;
  old = replay opening published;
  new = replay opening (published ++ pending);
  pending = pending;
}

abbrev pub trees_of : Review → Trees
trees_of r = record {
  mapping = r.old.now.opening.mapping;
  old = replay r.old.now.opening r.old.now.journal;
  new = replay r.new.now.opening r.new.now.journal;
  pending = drop (length r.old.now.journal) r.new.now.journal;
}

-- a node stands at the path in one of the two trees
abbrev pub stands_in : Trees → Names → Bool
stands_in ts path = is_some (kind_at ts.old path) || is_some (kind_at ts.new path)

-- what stood for a node of the new tree in the old one: the node at its own path, if one was there; else the node
-- that the edits moved to it, if that was there
abbrev pub former_by_edits : PlainTree → Option Names → Former
former_by_edits old None = New
former_by_edits old (Some path) = if is_some (kind_at old path) then Moved path else New

abbrev pub former : Trees → Names → Former
former ts path = if is_some (kind_at ts.old path) then Same else former_by_edits ts.old (origin ts.pending path)
