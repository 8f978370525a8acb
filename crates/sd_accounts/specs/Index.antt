-- The groups of each member, as the accounts keep them.
use Rattle.std.specs.Prelude.{◌≡◌, ◌<◌, ◌++◌, ℕ, Bool, false, List, [], length, map, Option, Some, None}
use Rattle.std.specs.Prelude.{if◌then◌else◌, slice_get, slice_index_or}
use Rattle.std.specs.Global.{Vec}
use Rattle.std.specs.List.{Contains, filter_map, list_any}
use Rattle.std.specs.Option.{option_to_list}
use Rattle.indexmap.specs.IndexMap.{IndexMap, get_by, keys}
use Rattle.sd_sid.specs.Sid.{SidValue, same_sid}
use Rattle.sd_accounts.specs.Row.{AccountRow, User, Group, Member, Primary, Disabled}

-- the group in which the member directly is by this row
abbrev pub group_in : SidValue → AccountRow → Option SidValue
group_in member (User sid name) = None
group_in member (Group sid name) = None
group_in member (Member g m) = if same_sid m member then Some g else None
group_in member (Primary u g) = if same_sid u member then Some g else None
group_in member (Disabled user) = None

-- the groups in which the member directly is, in the rows' order
abbrev pub direct_groups : List AccountRow → SidValue → List SidValue
direct_groups rows member = filter_map (group_in member) rows

-- ---- what is kept: for each SID numbers of groups, which are places among the keys

-- the SID of a number; beyond the keys, one that nobody has
abbrev pub nobody : SidValue
nobody = record { authority = 0; subs = [] }

abbrev pub sid_at : List SidValue → ℕ → SidValue
sid_at keys number = slice_index_or keys number nobody

abbrev pub sids_at : List SidValue → List ℕ → List SidValue
sids_at keys numbers = map (sid_at keys) numbers

-- the SID has this number
abbrev pub is_numbered : List SidValue → SidValue → ℕ → Bool
is_numbered keys sid number = list_any (same_sid sid) (option_to_list (slice_get keys number))

-- no two of them are one
abbrev pub AreApart : List SidValue → Type 0
AreApart keys = (i j : ℕ) (d : SidValue) → i < j → j < length keys
    → same_sid (slice_index_or keys i d) (slice_index_or keys j d) ≡ false

-- each number is a key's
abbrev pub AreWithin : List SidValue → List ℕ → Type 0
AreWithin keys numbers = (number : ℕ) → Contains numbers number → number < length keys

-- the numbers that are kept for a SID
abbrev pub kept : Option (Vec ℕ) → List ℕ
kept None = []
kept (Some numbers) = numbers.items

module _ {S : Type 0} where
  abbrev pub numbers_at : IndexMap SidValue (Vec ℕ) S → SidValue → List ℕ
  numbers_at index member = kept (get_by (same_sid member) index)

  -- the groups that are kept for a SID
  abbrev pub groups_at : IndexMap SidValue (Vec ℕ) S → SidValue → List SidValue
  groups_at index member = sids_at (keys index) (numbers_at index member)

  -- each number that is kept is a key's, and no two keys are one
  pub record IsSound (index : IndexMap SidValue (Vec ℕ) S) : Type 0 where
    pub within : (member : SidValue) → AreWithin (keys index) (numbers_at index member)
    pub apart : AreApart (keys index)

  -- for each member the index has the groups in which it directly is
  pub record IsIndexOf (index : IndexMap SidValue (Vec ℕ) S) (rows : List AccountRow) : Type 0 where
    pub sound : IsSound index
    pub groups : (member : SidValue) → groups_at index member ≡ direct_groups rows member

-- further keys stand behind those that were there
abbrev pub Grows : List SidValue → List SidValue → Type 0
Grows old new = (further : List SidValue) × (new ≡ old ++ further)
