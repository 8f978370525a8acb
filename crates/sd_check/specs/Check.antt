-- The rules of the access check ([MS-DTYP] 2.5.3.2): which entries apply, what they decide, what is granted without an
-- entry, and what the verdict is. A DACL is the list of its entries, or None where it is absent or null.
use Rattle.std.specs.Prelude.{ℕ, Bool, false, not, ◌&&◌, ◌||◌, ◌==◌, nat_lt, if◌then◌else◌, List, Option, Some, None}
use Rattle.std.specs.Prelude.{find}
use Rattle.std.specs.Borrow.{Bor}
use Rattle.std.specs.List.{list_any}
use Rattle.sd_sid.specs.Mask.{holds, mask_of}
use Rattle.sd_sid.specs.Mapping.{MappingValue, mapped}
use Rattle.sd_sid.specs.Sid.{SidValue, same_sid, owner_rights}
use Rattle.sd_acl.specs.Ace.{is_allow, is_inherit_only}
use Rattle.sd_acl.specs.declared.ace.Ace.{Ace}
use Rattle.sd_acl.specs.declared.ace.AceKind.{AceKind}
use Rattle.sd_acl.specs.declared.ace.AceKind.TheVariants.{Allow}
use Rattle.sd_acl.specs.Dacl.{Dacl}
use Rattle.sd_acl.specs.declared.descriptor.DaclOf.{DaclOf}
use Rattle.sd_acl.specs.declared.descriptor.DaclOf.TheVariants as dacls
use Rattle.sd_check.specs.Token.{TokenValue, stands_for, is_restricted, is_restricting}
use Rattle.sd_check.specs.declared.grounds.Implied.{Implied}
use Rattle.sd_check.specs.declared.grounds.Pass.{Pass}
use Rattle.sd_check.specs.declared.grounds.Pass.TheVariants.{First, Second}
use Rattle.sd_check.specs.declared.verdict.Verdict.{Verdict}
use Rattle.sd_check.specs.declared.verdict.Verdict.TheVariants.{Granted, Denied, Reserved, EmptyRequest}

abbrev pub dacl_entries : Dacl → Option (List Ace)
dacl_entries dacls.Absent = None
dacl_entries dacls.Null = None
dacl_entries (dacls.List es) = Some es

abbrev pub DaclRef : Type 0
DaclRef = DaclOf (Bor (List Ace))

abbrev pub entries_of : DaclRef → Option (List Ace)
entries_of dacls.Absent = None
entries_of dacls.Null = None
entries_of (dacls.List es) = Some es.now

-- ---- which entries apply (2.5.3.1)

-- whom an entry for the SID speaks of: OWNER RIGHTS is the owner, or nobody where there is none
abbrev pub subject : Option SidValue → SidValue → Option SidValue
subject owner s = if same_sid s owner_rights then owner else Some s

-- an entry of the kind applies to the token where it speaks of somebody, and the token stands for that SID
abbrev pub stands_for_subject : TokenValue → AceKind → Option SidValue → Bool
stands_for_subject t kind None = false
stands_for_subject t kind (Some s) = stands_for t kind s

-- whether an entry of the kind for the SID applies, with this owner
abbrev pub applies : TokenValue → Option SidValue → AceKind → SidValue → Bool
applies t owner kind s = stands_for_subject t kind (subject owner s)

-- in the second pass, of a restricted token, an entry that speaks of somebody applies where that SID is a restricting
-- one
abbrev pub is_restricting_subject : TokenValue → Option SidValue → Bool
is_restricting_subject t None = false
is_restricting_subject t (Some s) = is_restricting t s

-- whether an entry for the SID applies in the second pass, with this owner
abbrev pub applies_again : TokenValue → Option SidValue → AceKind → SidValue → Bool
applies_again t owner kind s = is_restricting_subject t (subject owner s)

abbrev pub applies_in : Pass → TokenValue → Option SidValue → AceKind → SidValue → Bool
applies_in First t owner = applies t owner
applies_in Second t owner = applies_again t owner

-- what holds in the first pass and, of a restricted token, in the second too
abbrev pub in_each_pass : TokenValue → Bool → Bool → Bool
in_each_pass t first second = first && (not (is_restricted t) || second)

-- ---- what the DACL grants. `applies kind sid` says whether an entry of the kind for the SID applies

-- whether the entry decides the bit where no earlier one does: it is effective and applies, and its mask, with
-- the generic rights mapped, holds the bit
abbrev pub decides : MappingValue → (AceKind → SidValue → Bool) → ℕ → Ace → Bool
decides g applies b e = (not (is_inherit_only e) && applies e.kind e.sid) && holds (mapped g e.mask) b

-- the first entry of the list that decides the bit
abbrev pub first : MappingValue → (AceKind → SidValue → Bool) → List Ace → ℕ → Option Ace
first g applies es b = find (decides g applies b) es

-- the entry that decides the bit is there, and is an allow
abbrev pub is_allowed_by : Option Ace → Bool
is_allowed_by None = false
is_allowed_by (Some e) = is_allow e.kind

-- whether the DACL grants the bit. It has to be one of the object's own rights or the standard ones, the places
-- below 21; an absent or a null DACL grants each of these
abbrev pub acl_grants : MappingValue → (AceKind → SidValue → Bool) → Option (List Ace) → ℕ → Bool
acl_grants g applies None b = nat_lt b 21
acl_grants g applies (Some es) b = nat_lt b 21 && is_allowed_by (first g applies es b)

-- granted by the DACL in each pass
abbrev pub is_listed : Option SidValue → Option (List Ace) → MappingValue → TokenValue → ℕ → Bool
is_listed owner dacl g t b = in_each_pass t (acl_grants g (applies t owner) dacl b)
    (acl_grants g (applies_again t owner) dacl b)

-- ---- what is granted without an entry

-- the token stands for the owner, as it would for an allow entry, in each pass
abbrev pub is_owner : TokenValue → Option SidValue → Bool
is_owner t owner = in_each_pass t (stands_for_subject t Allow owner) (is_restricting_subject t owner)

-- an effective entry for OWNER RIGHTS, of either kind and with any mask, limits the owner
abbrev pub is_limit : Ace → Bool
is_limit e = not (is_inherit_only e) && same_sid e.sid owner_rights

abbrev pub limits_owner : Option (List Ace) → Bool
limits_owner None = false
limits_owner (Some es) = list_any is_limit es

-- READ_CONTROL and WRITE_DAC, places 17 and 18, are the owner's unless the list limits the owner;
-- WRITE_OWNER, place 19, is that of who may take ownership; ACCESS_SYSTEM_SECURITY, place 24, that of who has
-- the security privilege
abbrev pub is_implied : Bool → Bool → Bool → ℕ → Bool
is_implied is_owner take_ownership security b =
    (is_owner && (b == 17 || b == 18)) || (take_ownership && b == 19) || (security && b == 24)

-- the owner's two bits, where the list doesn't limit the owner, and the privileges', which nothing restricts
abbrev pub implied_of : Option SidValue → Option (List Ace) → TokenValue → Implied
implied_of owner dacl t = record {
  owner = is_owner t owner && not (limits_owner dacl);
  take_ownership = t.privileges.take_ownership;
  security = t.privileges.security;
}

abbrev pub is_given : Option SidValue → Option (List Ace) → TokenValue → ℕ → Bool
is_given owner dacl t b =
    let implied = implied_of owner dacl t in is_implied implied.owner implied.take_ownership implied.security b

-- ---- what is granted: by the DACL, or without an entry

abbrev pub is_granted : Option SidValue → Option (List Ace) → MappingValue → TokenValue → ℕ → Bool
is_granted owner dacl g t b = is_listed owner dacl g t b || is_given owner dacl t b

-- what MAXIMUM_ALLOWED takes in: all granted bits below place 21, for a list; for an absent or a null DACL what
-- GENERIC_ALL is mapped to, and what is granted without an entry
abbrev pub most_of : MappingValue → (ℕ → Bool) → (ℕ → Bool) → Option (List Ace) → ℕ
most_of g is_granted is_given None = mask_of (λ b. nat_lt b 21 && (holds g.all b || is_given b)) 32
most_of g is_granted is_given (Some es) = mask_of (λ b. nat_lt b 21 && is_granted b) 32

abbrev pub most : Option SidValue → Option (List Ace) → MappingValue → TokenValue → ℕ
most owner dacl g t = most_of g (is_granted owner dacl g t) (is_given owner dacl t) dacl

-- ---- the verdict

-- the bits of a request that no check answers: places 21 to 23, 26 and 27
abbrev pub reserved_of : ℕ → ℕ
reserved_of r = mask_of (λ b. holds r b && holds 0x0CE00000 b) 32

-- the request without MAXIMUM_ALLOWED, place 25
abbrev pub without_maximum : ℕ → ℕ
without_maximum r = mask_of (λ b. holds r b && not (holds 0x02000000 b)) 32

-- all bits of the request that aren't granted
abbrev pub missing_of : (ℕ → Bool) → ℕ → ℕ
missing_of is_granted q = mask_of (λ b. holds q b && not (is_granted b)) 32

-- a request without MAXIMUM_ALLOWED
abbrev pub plain_verdict : ℕ → ℕ → Verdict
plain_verdict q missing =
    if q == 0 then EmptyRequest
    else if missing == 0 then Granted q
    else Denied missing

-- a request with MAXIMUM_ALLOWED: with what was asked for beside it comes all that is granted; where that is
-- nothing, MAXIMUM_ALLOWED itself is missing
abbrev pub maximum_verdict : ℕ → ℕ → Verdict
maximum_verdict missing all =
    if missing == 0 then (if all == 0 then Denied 0x02000000 else Granted all)
    else Denied missing

-- with what was asked for, all that MAXIMUM_ALLOWED takes in
abbrev pub joined_with : ℕ → ℕ → ℕ
joined_with q most = mask_of (λ b. holds q b || holds most b) 32

-- the mapped request, as it was asked for
abbrev pub answered : (ℕ → Bool) → ℕ → ℕ → ℕ → Verdict
answered is_granted most r q =
    if holds r 25 then maximum_verdict (missing_of is_granted q) (joined_with q most)
    else plain_verdict q (missing_of is_granted q)

-- the verdict on the request `r`, from which bits are granted, and `most`, what MAXIMUM_ALLOWED takes in
abbrev pub judged : MappingValue → (ℕ → Bool) → ℕ → ℕ → Verdict
judged g is_granted most r =
    if r == 0 then EmptyRequest
    else if reserved_of r == 0 then answered is_granted most r (mapped g (without_maximum r))
    else Reserved (reserved_of r)

-- the verdict on a request
abbrev pub verdict : Option SidValue → Option (List Ace) → MappingValue → TokenValue → ℕ → Verdict
verdict owner dacl g t r = judged g (is_granted owner dacl g t) (most owner dacl g t) r
