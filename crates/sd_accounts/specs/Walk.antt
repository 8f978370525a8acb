-- The walk over the groups: what is found so far.
use Rattle.std.specs.Prelude.{◌≡◌, ◌<◌, ◌≤◌, ◌++◌, ℕ, List, [], Contains, length, Option, Some, None, slice_index_or}
use Rattle.std.specs.List.{HoldsAt}
use Rattle.sd_sid.specs.Sid.{SidValue}
use Rattle.sd_accounts.specs.Groups.{Belongs, IsIn}
use Rattle.sd_accounts.specs.Row.{AccountRow}

-- what was found, and after it further ones, each of which passes the test; and each that passes it is among them
pub record Extends {A : Type 0} (Passes : A → Type 0) (old new : List A) : Type 0 where
  pub further : List A
  pub front : new ≡ old ++ further
  pub sound : (one : A) → Contains further one → Passes one
  pub all : (one : A) → Passes one → Contains new one

-- the groups in which the member directly is are added
abbrev pub Adds : List AccountRow → SidValue → List SidValue → List SidValue → Type 0
Adds rows member = Extends (IsIn rows member)

-- one of the starts is directly in the group
abbrev pub IsStart : List AccountRow → List SidValue → SidValue → Type 0
IsStart rows starts group = (start : SidValue) × Contains starts start × IsIn rows start group

-- the groups in which one of the starts directly is
abbrev pub HasStarts : List AccountRow → List SidValue → List SidValue → Type 0
HasStarts rows starts = Extends (IsStart rows starts) []

-- the group at place k was found from a start, or from one before it, at this place
abbrev pub IsFoundFrom : List AccountRow → (starts found : List SidValue) → (k : ℕ) → Option ℕ → Type 0
IsFoundFrom rows starts found k None = HoldsAt (IsStart rows starts) found k
IsFoundFrom rows starts found k (Some p) = (p < k) × HoldsAt (λ member. HoldsAt (IsIn rows member) found k) found p

-- for each SID that was found it is known from where
pub record AreFoundFrom (rows : List AccountRow) (starts found : List SidValue) (before : List (Option ℕ))
    : Type 0 where
  pub alike : length before ≡ length found
  pub each : (k : ℕ) → k < length found → IsFoundFrom rows starts found k (slice_index_or before k None)

-- the walk has visited the first so many SIDs of those that it has found: one belongs to each of these, it is known
-- from where each was found, and the groups in which a start or a visited SID directly is are among them
pub record IsWalked (rows : List AccountRow) (starts found : List SidValue) (before : List (Option ℕ)) (visited : ℕ)
    : Type 0 where
  pub within : visited ≤ length found
  pub sound : (sid : SidValue) → Contains found sid → Belongs rows starts sid
  pub reached : AreFoundFrom rows starts found before
  pub begun : (sid : SidValue) → IsStart rows starts sid → Contains found sid
  pub closed : (k : ℕ) (d : SidValue) → k < visited → (group : SidValue) → IsIn rows (slice_index_or found k d) group
      → Contains found group

-- the first of the numbers that are found are few, and there are further ones only where these are as many as may be
abbrev pub IsFilled : (first further : List ℕ) → Type 0
IsFilled first further = (length first ≤ 32) × (length first < 32 → further ≡ [])
