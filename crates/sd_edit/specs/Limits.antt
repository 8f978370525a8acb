-- How large a tree may grow: numbers of this profile.
use Rattle.std.specs.Prelude.{ℕ, ◌<◌, ◌≤◌, ◌==◌, nat_lt, List, codes, Result, Ok, Err, if◌then◌else◌}
use Rattle.sd_edit.specs.declared.limits.LimitsError.{LimitsError}
use Rattle.sd_edit.specs.declared.limits.LimitsError.TheVariants.{NoNodes, TooManyNodes, TooManyEdits}

-- the most nodes of a tree, the root counted, and the most edits of its journal
pub record LimitsValue : Type 0 where
  pub nodes : ℕ
  pub edits : ℕ

-- a root fits, and there are at most 2^24 nodes and 2^32 edits
pub record IsLimits (l : LimitsValue) : Type 0 where
  pub root : 0 < l.nodes
  pub nodes : l.nodes ≤ 16777216
  pub edits : l.edits ≤ 4294967296

-- the limits of two numbers, or the first error that fits
abbrev pub limits_of : ℕ → ℕ → Result LimitsValue LimitsError
limits_of nodes edits =
    if nodes == 0 then Err NoNodes
    else if nat_lt 16777216 nodes then Err TooManyNodes
    else if nat_lt 4294967296 edits then Err TooManyEdits
    else Ok (record { nodes = nodes; edits = edits })

-- the limits of a tree that is opened without others: 2^16 nodes and 2^20 edits
abbrev pub standard_limits : LimitsValue
standard_limits = record { nodes = 65536; edits = 1048576 }

-- each error's number
abbrev pub limits_error_number : LimitsError → ℕ
limits_error_number NoNodes = 1
limits_error_number TooManyNodes = 2
limits_error_number TooManyEdits = 3

-- each error's name
abbrev pub limits_error_name : LimitsError → List ℕ
limits_error_name NoNodes = codes "NoNodes"
limits_error_name TooManyNodes = codes "TooManyNodes"
limits_error_name TooManyEdits = codes "TooManyEdits"
