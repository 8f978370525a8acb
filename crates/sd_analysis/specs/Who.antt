-- Who is granted a right: alternatives, one of which holds for a token just where a check of the right grants it.
use Rattle.std.specs.Prelude.{◌≡◌, ℕ, ◌<◌, Bool, true, false, not, ◌&&◌, nat_lt, if◌then◌else◌}
use Rattle.std.specs.Prelude.{List, take, count_by, Option}
use Rattle.std.specs.List.{All, list_any}
use Rattle.sd_sid.specs.Mask.{holds}
use Rattle.sd_sid.specs.Mapping.{MappingValue}
use Rattle.sd_sid.specs.Sid.{SidValue}
use Rattle.sd_acl.specs.declared.ace.Ace.{Ace}
use Rattle.sd_acl.specs.declared.ace.AceKind.TheVariants.{Allow, Deny}
use Rattle.sd_check.specs.Check.{is_granted}
use Rattle.sd_check.specs.Token.{TokenValue, a_group_stands_for, no_privileges, stands_for}
use Rattle.sd_check.specs.declared.token.GroupState.{GroupState}
use Rattle.sd_analysis.specs.Base.{HasBase, IsPlain}
use Rattle.sd_analysis.specs.declared.who_has.Access.{Access}
use Rattle.sd_analysis.specs.declared.who_has.Alternative.{Alternative}
use Rattle.sd_analysis.specs.declared.who_has.Holder.{Holder}
use Rattle.sd_analysis.specs.declared.who_has.Holder.TheVariants.{Everyone, Sid, Owner}

-- the token is one for whom the alternative is: it has the SID enabled
abbrev pub is_held_by : TokenValue → Holder → Bool
is_held_by t Everyone = true
is_held_by t (Sid s) = stands_for t Allow s
is_held_by t (Owner s) = stands_for t Allow s

-- the alternative holds for the token: none of the first denied SIDs is there, enabled or for denies alone
abbrev pub holds_for : TokenValue → List SidValue → Alternative → Bool
holds_for t denied a = is_held_by t a.holder && not (list_any (stands_for t Deny) (take a.unless denied))

-- the right is one of these, and one of their alternatives holds for the token
abbrev pub has_right : TokenValue → ℕ → Access → Bool
has_right t b access = holds access.mask b && list_any (holds_for t access.denied.items) access.alternatives.items

-- the alternatives are exact: of the rights below place 21 that were asked about, a token with the base, which nothing
-- restricts and without privileges, is granted just those for which one holds
abbrev pub IsWho : Option SidValue → Option (List Ace) → MappingValue → List (SidValue × GroupState)
    → ℕ → List Access → Type 0
IsWho owner dacl g base rights accesses =
    (t : TokenValue) (b : ℕ) → IsPlain t → HasBase base t → b < 32
    → list_any (has_right t b) accesses ≡ ((holds rights b && nat_lt b 21) && is_granted owner dacl g t b)

-- a token with the base, without privileges, restricted or not, is granted nothing beyond the alternatives
abbrev pub IsMost : Option SidValue → Option (List Ace) → MappingValue → List (SidValue × GroupState)
    → ℕ → List Access → Type 0
IsMost owner dacl g base rights accesses =
    (t : TokenValue) (b : ℕ) → t.privileges ≡ no_privileges → HasBase base t → b < 21 → holds rights b ≡ true
    → is_granted owner dacl g t b ≡ true → list_any (has_right t b) accesses ≡ true

-- each right below place 21 that was asked about is in the mask of just one access, and no other bit is in any
abbrev pub HasEachOnce : ℕ → List Access → Type 0
HasEachOnce rights accesses =
    (b : ℕ) → b < 32
    → count_by (λ access. holds access.mask b) accesses ≡ (if holds rights b && nat_lt b 21 then 1 else 0)

-- whether the base has the holder enabled
abbrev pub is_in_base : List (SidValue × GroupState) → Holder → Bool
is_in_base base Everyone = false
is_in_base base (Sid s) = a_group_stands_for base Allow s
is_in_base base (Owner s) = a_group_stands_for base Allow s

-- what every token has because of the base isn't asked for, nor that it isn't there
pub record IsBeyond (base : List (SidValue × GroupState)) (denied : List SidValue) (alternatives : List Alternative)
    : Type 0 where
  pub no_holder : list_any (λ a. is_in_base base a.holder) alternatives ≡ false
  pub no_denied : list_any (a_group_stands_for base Deny) denied ≡ false

abbrev pub AllBeyond : List (SidValue × GroupState) → List Access → Type 0
AllBeyond base accesses = All (λ access. IsBeyond base access.denied.items access.alternatives.items) accesses
