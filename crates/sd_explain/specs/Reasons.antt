-- Why each bit of a request is granted or denied: the cases of the check's rules ([MS-DTYP] 2.5.3.2).
use Rattle.std.specs.Prelude.{ℕ, Bool, true, false, not, ◌&&◌, ◌||◌, ◌==◌, nat_lt, if◌then◌else◌, List, Option, Some}
use Rattle.std.specs.Prelude.{None, map}
use Rattle.std.specs.List.{position_or_len, range_with_len}
use Rattle.sd_sid.specs.Mask.{holds}
use Rattle.sd_sid.specs.Mapping.{MappingValue, mapped}
use Rattle.sd_sid.specs.Sid.{SidValue}
use Rattle.sd_acl.specs.Ace.{is_allow}
use Rattle.sd_check.specs.Check.{decides, first, reserved_of, without_maximum, applies, applies_again, implied_of}
use Rattle.sd_acl.specs.declared.ace.Ace.{Ace}
use Rattle.sd_acl.specs.declared.ace.AceKind.{AceKind}
use Rattle.sd_check.specs.Token.{TokenValue, is_restricted}
use Rattle.sd_check.specs.declared.grounds.Implied.{Implied}
use Rattle.sd_explain.specs.declared.reason.Finding.{Finding}
use Rattle.sd_explain.specs.declared.reason.Finding.TheVariants.{Allowed, Denied, NoEntry}
use Rattle.sd_explain.specs.declared.reason.Cause.{Cause}
use Rattle.sd_explain.specs.declared.reason.Cause.TheVariants.{NoList, Listed, Restricted, Owner, TakeOwnership}
use Rattle.sd_explain.specs.declared.reason.Cause.TheVariants.{Security, NoSecurity, BeyondAll, Reserved, Label}
use Rattle.sd_explain.specs.declared.reason.Reason.{Reason}
use Rattle.sd_explain.specs.declared.reason.Share.{Share}
use Rattle.sd_explain.specs.declared.reason.Share.TheVariants as shares

-- ---- what a pass over the list finds

-- the entry that decides the bit, and its place
abbrev pub finding_at : ℕ → Option Ace → Finding
finding_at place None = NoEntry
finding_at place (Some e) = if is_allow e.kind then Allowed place else Denied place

-- the first entry that decides the bit, of those that apply
abbrev pub finding_of : MappingValue → (AceKind → SidValue → Bool) → List Ace → ℕ → Finding
finding_of g applies es b = finding_at (position_or_len (decides g applies b) es) (first g applies es b)

abbrev pub is_allowed : Finding → Bool
is_allowed (Allowed place) = true
is_allowed (Denied place) = false
is_allowed NoEntry = false

-- ---- causes

-- whether a bit of the cause is granted
abbrev pub grants : Cause → Bool
grants NoList = true
grants (Listed finding) = is_allowed finding
grants (Restricted first second) = is_allowed first && is_allowed second
grants Owner = true
grants TakeOwnership = true
grants Security = true
grants NoSecurity = false
grants BeyondAll = false
grants Reserved = false
grants Label = false

-- what the list says of the bit: one pass, or each of the two
abbrev pub listed_cause : Option SidValue → List Ace → MappingValue → TokenValue → ℕ → Cause
listed_cause owner es g t b =
    if is_restricted t then Restricted (finding_of g (applies t owner) es b) (finding_of g (applies_again t owner) es b)
    else Listed (finding_of g (applies t owner) es b)

-- what is granted without an entry, or else the other cause
abbrev pub given_or : Implied → ℕ → Cause → Cause
given_or given b other =
    if given.owner && (b == 17 || b == 18) then Owner
    else if given.take_ownership && b == 19 then TakeOwnership
    else other

-- a cause that grants is kept; else what is granted without an entry is the cause, if it grants
abbrev pub granting_or : Implied → ℕ → Cause → Cause
granting_or given b cause = if grants cause then cause else given_or given b cause

-- from place 21 on no list grants anything, and a request can name no place but 24
abbrev pub high_cause : Implied → ℕ → Cause
high_cause given b = if given.security && b == 24 then Security else NoSecurity

-- why a bit that the request names is granted or denied
abbrev pub named_cause : Option SidValue → Option (List Ace) → MappingValue → TokenValue → ℕ → Cause
named_cause owner None g t b =
    if nat_lt b 21 then NoList
    else high_cause (implied_of owner None t) b
named_cause owner (Some es) g t b =
    if nat_lt b 21 then granting_or (implied_of owner (Some es) t) b (listed_cause owner es g t b)
    else high_cause (implied_of owner (Some es) t) b

-- why MAXIMUM_ALLOWED includes the bit or not: without a list it includes what GENERIC_ALL stands for, and what is
-- granted without an entry
abbrev pub maximum_cause : Option SidValue → Option (List Ace) → MappingValue → TokenValue → ℕ → Cause
maximum_cause owner None g t b = if holds g.all b then NoList else given_or (implied_of owner None t) b BeyondAll
maximum_cause owner (Some es) g t b = named_cause owner (Some es) g t b

-- ---- reasons

-- the reason of the bit in the answer to the request, if it has one: with a reserved bit in the request only the
-- reserved bits have one; else the bits of the mapped request and, with MAXIMUM_ALLOWED, place 25, each place below 21
abbrev pub reason_at : Option SidValue → Option (List Ace) → MappingValue → TokenValue → ℕ → ℕ → Option Reason
reason_at owner dacl g t r b =
    if not (reserved_of r == 0)
    then (if holds (reserved_of r) b then Some (record { named = true; cause = Reserved }) else None)
    else if holds (mapped g (without_maximum r)) b
    then Some (record { named = true; cause = named_cause owner dacl g t b })
    else if holds r 25 && nat_lt b 21
    then Some (record { named = false; cause = maximum_cause owner dacl g t b })
    else None

-- the reasons of all places, 0 to 31
abbrev pub reasons_of : Option SidValue → Option (List Ace) → MappingValue → TokenValue → ℕ → List (Option Reason)
reasons_of owner dacl g t r = map (reason_at owner dacl g t r) (range_with_len 0 32)

-- ---- shares of the bits

abbrev pub same_finding : Finding → Finding → Bool
same_finding (Allowed j) (Allowed k) = j == k
same_finding (Denied j) (Denied k) = j == k
same_finding NoEntry NoEntry = true
same_finding finding other = false

abbrev pub same_cause : Cause → Cause → Bool
same_cause NoList NoList = true
same_cause (Listed j) (Listed k) = same_finding j k
same_cause (Restricted i j) (Restricted k l) = same_finding i k && same_finding j l
same_cause Owner Owner = true
same_cause TakeOwnership TakeOwnership = true
same_cause Security Security = true
same_cause NoSecurity NoSecurity = true
same_cause BeyondAll BeyondAll = true
same_cause Reserved Reserved = true
same_cause Label Label = true
same_cause cause other = false

-- whether a bit with this reason is of the share
abbrev pub belongs : Share → Reason → Bool
belongs shares.Reserved reason = same_cause reason.cause Reserved
belongs shares.Missing reason = reason.named && not (grants reason.cause)
belongs shares.Granted reason = grants reason.cause
belongs shares.Unnamed reason = not reason.named
belongs (shares.Because cause) reason = same_cause reason.cause cause
