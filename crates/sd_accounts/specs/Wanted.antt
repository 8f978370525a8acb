-- Wanted SIDs among those that one has.
use Rattle.std.specs.Prelude.{◌≡◌, ◌⊎◌, ℕ, Bool, true, false, List, [], ◌∷◌, Contains, slice_index_or}
use Rattle.sd_sid.specs.Sid.{IsSid, SidValue}
use Rattle.sd_accounts.specs.Groups.{Belongs}
use Rattle.sd_accounts.specs.Index.{sid_at}
use Rattle.sd_accounts.specs.Row.{AccountRow}
use Rattle.sd_accounts.specs.Walk.{IsStart}

-- one who has these SIDs has this one: it is one of them, or a group to which one belongs
abbrev pub Has : List AccountRow → List SidValue → SidValue → Type 0
Has rows starts sid = Contains starts sid ⊎ Belongs rows starts sid

-- one has one of the wanted
abbrev pub HasWanted : List AccountRow → (wanted starts : List SidValue) → Type 0
HasWanted rows wanted starts = (sid : SidValue) × Contains wanted sid × Has rows starts sid

-- one has none of the wanted, and all that one has are SIDs
abbrev pub HasNone : List AccountRow → (wanted starts : List SidValue) → Type 0
HasNone rows wanted starts = (sid : SidValue) → Has rows starts sid → IsSid sid × (Contains wanted sid → ⊥)

-- one of these is wanted; or none, and all are SIDs
abbrev pub IsOneWanted : (wanted sids : List SidValue) → Type 0
IsOneWanted wanted sids = (sid : SidValue) × Contains wanted sid × Contains sids sid

abbrev pub AreUnwanted : (wanted sids : List SidValue) → Type 0
AreUnwanted wanted sids = (sid : SidValue) → Contains sids sid → IsSid sid × (Contains wanted sid → ⊥)

-- who has one of these SIDs alone has none of the wanted
abbrev pub LeadNowhere : List AccountRow → (wanted sids : List SidValue) → Type 0
LeadNowhere rows wanted sids = (sid : SidValue) → Contains sids sid → HasNone rows wanted (sid ∷ [])

-- so has who has a group alone in which one of the starts directly is
abbrev pub NoneAbove : List AccountRow → (wanted starts : List SidValue) → Type 0
NoneAbove rows wanted starts = (group : SidValue) → IsStart rows starts group → HasNone rows wanted (group ∷ [])

-- so has who has the SID of a number alone of which it is kept
abbrev pub AreNowhere : List AccountRow → (wanted keys : List SidValue) → List Bool → Type 0
AreNowhere rows wanted keys nowhere =
    (k : ℕ) → slice_index_or nowhere k false ≡ true → HasNone rows wanted (sid_at keys k ∷ [])

-- it is kept of no further numbers but those of these SIDs
abbrev pub Keeps : (keys sids : List SidValue) → (old new : List Bool) → Type 0
Keeps keys sids old new = (k : ℕ) → slice_index_or new k false ≡ true
    → (slice_index_or old k false ≡ true) ⊎ Contains sids (sid_at keys k)
