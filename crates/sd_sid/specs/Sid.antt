-- SIDs ([MS-DTYP] 2.4.2).
use Rattle.std.specs.Prelude.{◌≡◌, ℕ, Bool, ◌&&◌, ◌-◌, ◌^◌, ◌<◌, ◌≤◌, ◌==◌, ◌||◌, List, [], ◌∷◌, length, drop}
use Rattle.std.specs.Prelude.{replicate, Result, Ok, Err, if◌then◌else◌, nat_lt, All, codes}
use Rattle.std.specs.Str.{bytes_eq}
use Rattle.std.specs.Ordering.{nat_cmp, ordering_then}
use Rattle.std.specs.Cmp.Lexicographic.{slice_cmp}
use Rattle.std.specs.declared.cmp.Ordering.{Ordering}
use Rattle.sd_sid.specs.declared.sid.SidError.{SidError}
use Rattle.sd_sid.specs.declared.sid.SidError.TheVariants.{Revision, Count, Short, Authority}

-- the identifier authority and the sub-authorities
pub record SidValue : Type 0 where
  pub authority : ℕ
  pub subs : List ℕ

-- what every SID is: an authority of 48 bits, and 1 to 15 sub-authorities of 32
pub record IsSid (s : SidValue) : Type 0 where
  pub authority : s.authority < 2 ^ 48
  pub some : 0 < length s.subs
  pub few : length s.subs ≤ 15
  pub words : All (λ sub. sub < 2 ^ 32) s.subs

-- the SID of an authority and sub-authorities: their number is tested first
abbrev pub sid_of : ℕ → List ℕ → Result SidValue SidError
sid_of authority subs =
    if (length subs == 0 || nat_lt 15 (length subs)) then Err Count
    else if nat_lt authority (2 ^ 48) then Ok (record { authority = authority; subs = subs })
    else Err Authority

-- how a SID is stored: fifteen sub-authorities, of which the unused last ones are zeros
pub record IsPadded (number : ℕ) (padded : List ℕ) (count : ℕ) : Type 0 where
  pub authority : number < 2 ^ 48
  pub some : 0 < count
  pub few : count ≤ 15
  pub room : length padded ≡ 15
  pub padding : drop count padded ≡ replicate (15 - count) 0
  pub words : All (λ sub. sub < 2 ^ 32) padded

-- each error's number
abbrev pub sid_error_number : SidError → ℕ
sid_error_number Revision = 1
sid_error_number Count = 2
sid_error_number Short = 3
sid_error_number Authority = 4

-- each error's name
abbrev pub sid_error_name : SidError → List ℕ
sid_error_name Revision = codes "Revision"
sid_error_name Count = codes "Count"
sid_error_name Short = codes "Short"
sid_error_name Authority = codes "Authority"

-- whether two SIDs have the same authority and the same sub-authorities
abbrev pub same_sid : SidValue → SidValue → Bool
same_sid a b = a.authority == b.authority && bytes_eq a.subs b.subs

-- OWNER RIGHTS, S-1-3-4 (2.4.2.4)
abbrev pub owner_rights : SidValue
owner_rights = record { authority = 3; subs = 4 ∷ [] }

-- SIDs are ordered by the authority, and then by the list of sub-authorities
abbrev pub sid_cmp : SidValue → SidValue → Ordering
sid_cmp a b = ordering_then (nat_cmp a.authority b.authority) (slice_cmp nat_cmp a.subs b.subs)
