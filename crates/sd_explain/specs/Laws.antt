-- What follows from the definitions of reasons and parts, as laws over all lists, tokens and requests.
use Rattle.std.specs.Prelude.{◌≡◌, ◌≢◌, ◌↔◌, ℕ, ◌<◌, ◌≤◌, Bool, true, false, List, Option, Some, None, slice_get}
use Rattle.std.specs.Prelude.{is_some}
use Rattle.sd_sid.specs.Mask.{holds}
use Rattle.sd_sid.specs.Mapping.{MappingValue, mapped}
use Rattle.sd_sid.specs.Sid.{SidValue}
use Rattle.sd_acl.specs.Ace.{is_allow}
use Rattle.sd_check.specs.Check.{decides, first, subject, without_maximum, reserved_of, applies, applies_again}
use Rattle.sd_check.specs.Check.{is_granted, most, verdict}
use Rattle.sd_acl.specs.declared.ace.Ace.{Ace}
use Rattle.sd_acl.specs.declared.ace.AceKind.{AceKind}
use Rattle.sd_check.specs.declared.verdict.Verdict.TheVariants.{Granted}
use Rattle.sd_check.specs.Token.{TokenValue, stands_for, is_restricting}
use Rattle.sd_explain.specs.Reasons.{finding_of, grants, named_cause, maximum_cause, reason_at}
use Rattle.sd_explain.specs.Parts.{bits_of, part_at}
use Rattle.sd_explain.specs.declared.explanation.Part.{Part}
use Rattle.sd_explain.specs.declared.reason.Finding.TheVariants.{Allowed, Denied, NoEntry}
use Rattle.sd_explain.specs.declared.reason.Reason.{Reason}
use Rattle.sd_explain.specs.declared.reason.Share.TheVariants as shares

-- ---- entries

-- the entry at the place is the first that decides the bit, and is an allow, or else a deny
pub record IsFirstAt
    (g : MappingValue) (who : AceKind → SidValue → Bool) (es : List Ace) (b place : ℕ) (allows : Bool) : Type 0 where
  pub entry : Ace
  pub at_place : slice_get es place ≡ Some entry
  pub is_first : first g who es b ≡ Some entry
  pub is_kind : is_allow entry.kind ≡ allows

abbrev pub AllowedNamesFirst : Type 0
AllowedNamesFirst =
    (g : MappingValue) (who : AceKind → SidValue → Bool) (es : List Ace) (b place : ℕ)
    → finding_of g who es b ≡ Allowed place → IsFirstAt g who es b place true

abbrev pub DeniedNamesFirst : Type 0
DeniedNamesFirst =
    (g : MappingValue) (who : AceKind → SidValue → Bool) (es : List Ace) (b place : ℕ)
    → finding_of g who es b ≡ Denied place → IsFirstAt g who es b place false

-- no entry is named if and only if none decides the bit
abbrev pub NoEntryWhereNone : Type 0
NoEntryWhereNone =
    (g : MappingValue) (who : AceKind → SidValue → Bool) (es : List Ace) (b : ℕ)
    → (finding_of g who es b ≡ NoEntry) ↔ (first g who es b ≡ None)

-- an entry that decides a bit is for a SID, and the token stands for that SID
abbrev pub FirstPassHasSubject : Type 0
FirstPassHasSubject =
    (owner : Option SidValue) (g : MappingValue) (t : TokenValue) (e : Ace) (b : ℕ)
    → decides g (applies t owner) b e ≡ true
    → (s : SidValue) × ((subject owner e.sid ≡ Some s) × (stands_for t e.kind s ≡ true))

-- in the second pass that SID is a restricting one
abbrev pub SecondPassHasSubject : Type 0
SecondPassHasSubject =
    (owner : Option SidValue) (g : MappingValue) (t : TokenValue) (e : Ace) (b : ℕ)
    → decides g (applies_again t owner) b e ≡ true
    → (s : SidValue) × ((subject owner e.sid ≡ Some s) × (is_restricting t s ≡ true))

-- ---- causes

-- the cause of a bit that the request names grants it where the check does
abbrev pub NamedCauseIsDue : Type 0
NamedCauseIsDue =
    (owner : Option SidValue) (dacl : Option (List Ace)) (g : MappingValue) (t : TokenValue) (b : ℕ)
    → grants (named_cause owner dacl g t b) ≡ is_granted owner dacl g t b

-- the cause of a bit that MAXIMUM_ALLOWED asks for grants it just where MAXIMUM_ALLOWED takes it in
abbrev pub MaximumCauseIsDue : Type 0
MaximumCauseIsDue =
    (owner : Option SidValue) (dacl : Option (List Ace)) (g : MappingValue) (t : TokenValue) (b : ℕ)
    → b < 21 → grants (maximum_cause owner dacl g t b) ≡ holds (most owner dacl g t) b

-- ---- parts

-- no bit is in two parts
abbrev pub PartsAreApart : Type 0
PartsAreApart =
    (reasons : ℕ → Option Reason) (j k b : ℕ) (one other : Part)
    → part_at reasons j ≡ Some one → part_at reasons k ≡ Some other → j ≢ k
    → b < 32 → holds one.mask b ≡ true → holds other.mask b ≡ true → ⊥

-- the part of its bit: it begins at the bit or below, has the bit, and has its cause
pub record IsPartOf (reasons : ℕ → Option Reason) (b : ℕ) (reason : Reason) : Type 0 where
  pub place : ℕ
  pub part : Part
  pub begins : place ≤ b
  pub is_part : part_at reasons place ≡ Some part
  pub has_bit : holds part.mask b ≡ true
  pub tells : part.cause ≡ reason.cause

abbrev pub EachBitHasItsPart : Type 0
EachBitHasItsPart =
    (reasons : ℕ → Option Reason) (b : ℕ) (reason : Reason)
    → b < 32 → reasons b ≡ Some reason → IsPartOf reasons b reason

-- a part holds bits of its cause alone
abbrev pub PartsHoldTheirCause : Type 0
PartsHoldTheirCause =
    (reasons : ℕ → Option Reason) (place b : ℕ) (part : Part)
    → part_at reasons place ≡ Some part → b < 32 → holds part.mask b ≡ true
    → (reason : Reason) × ((reasons b ≡ Some reason) × (reason.cause ≡ part.cause))

-- without MAXIMUM_ALLOWED, place 25, the bits with a reason are those of the mapped request
abbrev pub ReasonsJoinToRequest : Type 0
ReasonsJoinToRequest =
    (owner : Option SidValue) (dacl : Option (List Ace)) (g : MappingValue) (t : TokenValue) (r b : ℕ)
    → reserved_of r ≡ 0 → holds r 25 ≡ false
    → is_some (reason_at owner dacl g t r b) ≡ holds (mapped g (without_maximum r)) b

-- what is granted are the bits whose cause grants
abbrev pub GrantedAreTheParts : Type 0
GrantedAreTheParts =
    (owner : Option SidValue) (dacl : Option (List Ace)) (g : MappingValue) (t : TokenValue) (r m : ℕ)
    → verdict owner dacl g t r ≡ Granted m → m ≡ bits_of shares.Granted (reason_at owner dacl g t r) 32
