-- A token's index: each SID has one of 1,024 places, and each place has a chain that leads to the user and the groups
-- there.
use Rattle.std.specs.Prelude.{◌≡◌, ℕ, suc, ◌+◌, ◌-◌, ◌<◌, ◌≤◌, ◌%◌, Bool, true, not, ◌||◌, ◌==◌, List, length, drop}
use Rattle.std.specs.Prelude.{slice_index, slice_index_or}
use Rattle.std.specs.List.{list_any}
use Rattle.sd_sid.specs.Sid.{SidValue, same_sid, owner_rights}
use Rattle.sd_acl.specs.declared.ace.AceKind.{AceKind}
use Rattle.sd_acl.specs.declared.ace.AceKind.TheVariants.{Deny}
use Rattle.sd_check.specs.declared.token.GroupState.{GroupState}
use Rattle.sd_check.specs.Token.{a_group_stands_for, counts}

-- the place of a SID: by its last sub-authority, in which SIDs differ most
abbrev pub place_of : SidValue → ℕ
place_of s = slice_index s.subs (length s.subs - 1) % 1024

-- the chain of the SID's place has a link
abbrev pub may_hold : List ℕ → SidValue → Bool
may_hold heads s = not (slice_index heads (place_of s) == 0)

-- a chain leads from the link to the member k. The user is member 0, and the group k is member k + 1. A link is a
-- member's number and 1, or 0 at the end of a chain
pub data OnChain (nexts : List ℕ) : ℕ → ℕ → Type 0 where
  here : {k : ℕ} → OnChain nexts (suc k) k
  behind : {link k : ℕ} → OnChain nexts (slice_index nexts link) k → OnChain nexts (suc link) k

-- the chain of the SID's place leads to the user
abbrev pub IsMarked : List ℕ → List ℕ → SidValue → Type 0
IsMarked heads nexts s = OnChain nexts (slice_index heads (place_of s)) 0

-- the chains of OWNER RIGHTS, of each restricting SID and of the groups beyond the first 254 lead to the user
abbrev pub MarksEach : List ℕ → List ℕ → List (SidValue × GroupState) → List SidValue → Type 0
MarksEach heads nexts groups restricting = (kind : AceKind) (s : SidValue)
    → (same_sid s owner_rights || list_any (λ one. same_sid one s) restricting
    || a_group_stands_for (drop 254 groups) kind s) ≡ true
    → IsMarked heads nexts s

-- the chains of the first n groups. They lead from its place to each group that counts for anything, of the first 254.
-- Each next link is an earlier member's
pub record IsIndex (heads nexts : List ℕ) (groups : List (SidValue × GroupState)) (n : ℕ) : Type 0 where
  pub places : length heads ≡ 1024
  pub room : length nexts ≡ 255
  pub starts : (p : ℕ) → slice_index heads p ≤ n + 1
  pub within : (p : ℕ) → slice_index heads p ≤ 255
  pub goes_back : (i : ℕ) → slice_index nexts i ≤ i
  pub to_group : (k : ℕ) (d : SidValue × GroupState) → k < n → k < 254 → counts Deny (slice_index_or groups k d).1
      ≡ true
      → OnChain nexts (slice_index heads (place_of (slice_index_or groups k d).0)) (suc k)

-- with places marked before any group is added, it is an index as before, and each place that was marked is
abbrev pub Keeps : List ℕ → List ℕ → List ℕ → List ℕ → Type 0
Keeps heads nexts heads' nexts' = ((groups : List (SidValue × GroupState)) → IsIndex heads nexts groups 0
    → IsIndex heads' nexts' groups 0)
    × ((s : SidValue) → IsMarked heads nexts s → IsMarked heads' nexts' s)
