-- What follows from the rules of the check, as laws over all lists, tokens and requests.
use Rattle.std.specs.Prelude.{◌≡◌, ◌↔◌, ℕ, ◌<◌, ◌≤◌, ◌^◌, Bool, true, false, not, ◌&&◌, ◌||◌, nat_lt, List, [], ◌∷◌}
use Rattle.std.specs.Prelude.{◌++◌, Option, Some}
use Rattle.std.specs.List.{AllByRecursion}
use Rattle.sd_sid.specs.Mask.{holds}
use Rattle.sd_sid.specs.Mapping.{MappingValue, mapped}
use Rattle.sd_sid.specs.Sid.{SidValue, same_sid, owner_rights}
use Rattle.sd_acl.specs.Ace.{is_allow, is_inherit_only}
use Rattle.sd_check.specs.Check.{decides, acl_grants, subject, limits_owner, is_implied, without_maximum, applies}
use Rattle.sd_check.specs.Check.{applies_again, stands_for_subject, is_granted, verdict}
use Rattle.sd_acl.specs.declared.ace.Ace.{Ace}
use Rattle.sd_acl.specs.declared.ace.AceKind.{AceKind}
use Rattle.sd_acl.specs.declared.ace.AceKind.TheVariants.{Allow, Deny}
use Rattle.sd_check.specs.declared.verdict.Verdict.TheVariants.{Granted, Denied}
use Rattle.sd_check.specs.declared.token.GroupState.TheVariants.{Enabled}
use Rattle.sd_check.specs.Token.{TokenValue, is_restricting}

-- where no entry before it decides the bit, an entry that does counts
abbrev pub FirstEntryDecides : Type 0
FirstEntryDecides =
    (g : MappingValue) (who : AceKind → SidValue → Bool) (before after : List Ace) (e : Ace) (b : ℕ)
    → AllByRecursion (λ other. decides g who b other ≡ false) before
    → decides g who b e ≡ true
    → acl_grants g who (Some (before ++ e ∷ after)) b ≡ (nat_lt b 21 && is_allow e.kind)

-- the entry has no part in the check: it is inherit-only, or applies to nobody, and doesn't limit the owner
pub record IsSilent (t : TokenValue) (owner : Option SidValue) (e : Ace) : Type 0 where
  pub applies_not : (not (is_inherit_only e) && applies t owner e.kind e.sid) ≡ false
  pub applies_not_again : (not (is_inherit_only e) && applies_again t owner e.kind e.sid) ≡ false
  pub limits_not : (not (is_inherit_only e) && same_sid e.sid owner_rights) ≡ false

abbrev pub SilentEntryChangesNothing : Type 0
SilentEntryChangesNothing =
    (owner : Option SidValue) (before after : List Ace) (e : Ace) (g : MappingValue) (t : TokenValue) (r : ℕ)
    → IsSilent t owner e
    → verdict owner (Some (before ++ e ∷ after)) g t r ≡ verdict owner (Some (before ++ after)) g t r

abbrev pub GrantsWhatWasAsked : Type 0
GrantsWhatWasAsked =
    (owner : Option SidValue) (dacl : Option (List Ace)) (g : MappingValue) (t : TokenValue) (r m : ℕ)
    → holds r 25 ≡ false → verdict owner dacl g t r ≡ Granted m → m ≡ mapped g (without_maximum r)

-- a bit below place 21 is in what MAXIMUM_ALLOWED, place 25, grants where it is granted by itself
abbrev pub MaximumIsEachByItself : Type 0
MaximumIsEachByItself =
    (owner : Option SidValue) (es : List Ace) (g : MappingValue) (t : TokenValue) (m b : ℕ)
    → verdict owner (Some es) g t (2 ^ 25) ≡ Granted m → b < 21
    → (holds m b ≡ true) ↔ (verdict owner (Some es) g t (2 ^ b) ≡ Granted (2 ^ b))

-- where MAXIMUM_ALLOWED, place 25, is denied, no bit below place 21 is granted by itself
abbrev pub DeniedMaximumIsNone : Type 0
DeniedMaximumIsNone =
    (owner : Option SidValue) (es : List Ace) (g : MappingValue) (t : TokenValue) (missing m b : ℕ)
    → verdict owner (Some es) g t (2 ^ 25) ≡ Denied missing → b < 21
    → verdict owner (Some es) g t (2 ^ b) ≡ Granted m → ⊥

abbrev pub NothingBeyondMaximum : Type 0
NothingBeyondMaximum =
    (owner : Option SidValue) (es : List Ace) (g : MappingValue) (t : TokenValue) (m b : ℕ)
    → verdict owner (Some es) g t (2 ^ 25) ≡ Granted m → 21 ≤ b → holds m b ≡ false

-- the token with one more group, which is enabled
abbrev pub with_group : TokenValue → SidValue → TokenValue
with_group t s = record t { groups = (s, Enabled) ∷ t.groups }

-- no effective deny entry that speaks of the SID names the bit
abbrev pub NamesNot : MappingValue → Option SidValue → SidValue → ℕ → Ace → Type 0
NamesNot g owner s b e = not (is_inherit_only e) ≡ true → e.kind ≡ Deny → holds (mapped g e.mask) b ≡ true
    → subject owner e.sid ≡ Some s → ⊥

abbrev pub EnabledGroupTakesNothing : Type 0
EnabledGroupTakesNothing =
    (owner : Option SidValue) (es : List Ace) (g : MappingValue) (t : TokenValue) (s : SidValue) (b : ℕ)
    → AllByRecursion (NamesNot g owner s b) es
    → is_granted owner (Some es) g t b ≡ true → is_granted owner (Some es) g (with_group t s) b ≡ true

-- what a DACL grants is one of the object's own rights or the standard ones, the places below 21
abbrev pub EntriesGrantRightsAlone : Type 0
EntriesGrantRightsAlone =
    (g : MappingValue) (who : AceKind → SidValue → Bool) (dacl : Option (List Ace)) (b : ℕ)
    → acl_grants g who dacl b ≡ true → b < 21

-- ---- restricting SIDs

-- the token with these restricting SIDs in place of its own
abbrev pub restricted_to : TokenValue → List SidValue → TokenValue
restricted_to t sids = record t { restricting = sids }

-- without restricting SIDs there is one pass: the DACL grants what it grants to the user and the groups
abbrev pub NobodyRestrictsNothing : Type 0
NobodyRestrictsNothing =
    (owner : Option SidValue) (dacl : Option (List Ace)) (g : MappingValue) (t : TokenValue) (b : ℕ)
    → is_granted owner dacl g (restricted_to t []) b
    ≡ (acl_grants g (applies t owner) dacl b
    || is_implied (stands_for_subject t Allow owner
    && not (limits_owner dacl)) t.privileges.take_ownership t.privileges.security b)

-- a bit that a restricted token is granted, it is granted without the restriction too
abbrev pub RestrictionGrantsNoBit : Type 0
RestrictionGrantsNoBit =
    (owner : Option SidValue) (dacl : Option (List Ace)) (g : MappingValue) (t : TokenValue) (b : ℕ)
    → is_granted owner dacl g t b ≡ true → is_granted owner dacl g (restricted_to t []) b ≡ true

-- a request that a restricted token is granted is granted without the restriction too, with all that was granted, and
-- perhaps more where MAXIMUM_ALLOWED was asked for
abbrev pub RestrictionGrantsNoRequest : Type 0
RestrictionGrantsNoRequest =
    (owner : Option SidValue) (dacl : Option (List Ace)) (g : MappingValue) (t : TokenValue) (r m : ℕ)
    → verdict owner dacl g t r ≡ Granted m
    → (more : ℕ) × ((verdict owner dacl g (restricted_to t []) r ≡ Granted more)
    × ((b : ℕ) → b < 32 → holds m b ≡ true → holds more b ≡ true))

-- a verdict doesn't depend on the order of the restricting SIDs, nor on how often each is listed
abbrev pub OrderOfRestrictingSidsIsFree : Type 0
OrderOfRestrictingSidsIsFree =
    (owner : Option SidValue) (dacl : Option (List Ace)) (g : MappingValue) (t : TokenValue)
    (some others : List SidValue) (r : ℕ)
    → ((s : SidValue) → is_restricting (restricted_to t some) s ≡ is_restricting (restricted_to t others) s)
    → verdict owner dacl g (restricted_to t some) r ≡ verdict owner dacl g (restricted_to t others) r
