-- What contracts see of a store: its opening, the published edits, and those that are pending.
use Rattle.std.specs.Prelude.{[]}
use Rattle.sd_edit.specs.History.{History}
use Rattle.sd_versions.specs.Versions.{VersionsValue, accepted}

-- all its edits
abbrev pub history_in : VersionsValue → History
history_in v = record { opening = v.opening; journal = accepted v }

-- a store of which nothing is pending
abbrev pub published_only : History → VersionsValue
published_only h = record { opening = h.opening; published = h.journal; pending = [] }

-- all its edits are published
abbrev pub all_published : VersionsValue → VersionsValue
all_published v = published_only (history_in v)
