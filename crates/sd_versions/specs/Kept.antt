-- How the two versions are kept. No public contract says so.
use Rattle.std.specs.Prelude.{◌≡◌, List, [], ◌++◌, length, drop, Option, Some, None}
use Rattle.sd_edit.specs.Journal.{TreeValue}
use Rattle.sd_edit.specs.declared.edit.Edit.{Edit}
use Rattle.sd_versions.specs.Versions.{VersionsValue}

-- what the draft has beyond the published journal
abbrev pub pending_in : TreeValue → Option TreeValue → List Edit
pending_in published None = []
pending_in published (Some draft) = drop (length published.journal) draft.journal

abbrev pub versions_of : TreeValue → Option TreeValue → VersionsValue
versions_of published draft = record {
  opening = published.opening;
  published = published.journal;
  pending = pending_in published draft;
}

-- the draft has gone on from the published tree
abbrev pub IsDraftOf : TreeValue → TreeValue → Type 0
IsDraftOf published draft =
    (draft.opening ≡ published.opening)
    × (published.journal ++ drop (length published.journal) draft.journal ≡ draft.journal)
