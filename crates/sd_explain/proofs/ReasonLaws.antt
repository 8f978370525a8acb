-- The proofs of the laws on findings, causes and requests.
use Rattle.sd_explain.proofs.Cited.{Ace, AceKind, Allowed, AllowedNamesFirst, Bool, Denied, DeniedNamesFirst, FirstPassHasSubject, GrantedAreTheParts, IsFirstAt, List, MappingValue, NoEntry, NoEntryWhereNone, None, Option, ReasonsJoinToRequest, SecondPassHasSubject, SidValue, Some, TokenValue, ap, arith, cond, decides, false, find_at, finding_at, first, is_restricting, is_restricting_subject, position_or_len, refl, slice_get, stands_for, stands_for_subject, subject, sym, true, ℕ, ◌≡◌}
use Rattle.sd_explain.proofs.Told.{told_verdict_is}

-- ---- findings

module _ (g : MappingValue) (who : AceKind → SidValue → Bool) (es : List Ace) (b at : ℕ) where
  abbrev found : ℕ
  found = position_or_len (decides g who b) es

  named_by : (allows : Bool) (o : Option Ace) → first g who es b ≡ o → slice_get es found ≡ o → finding_at found o ≡ cond allows (Allowed at) (Denied at) → IsFirstAt g who es b at allows
  named_by true None is stands finds = absurd cc
  named_by false None is stands finds = absurd cc
  named_by true (Some e) is stands finds = record { entry = e; at_place = grind (arith, stands, finds); is_first = is; is_kind = grind (arith, finds) }
  named_by false (Some e) is stands finds = record { entry = e; at_place = grind (arith, stands, finds); is_first = is; is_kind = grind (arith, finds) }

  stands_there : slice_get es found ≡ first g who es b
  stands_there = sym (find_at (decides g who b) es)

pub allowed_names_first : AllowedNamesFirst
allowed_names_first g who es b place finds = named_by g who es b place true (first g who es b) refl (stands_there g who es b place) finds

pub denied_names_first : DeniedNamesFirst
denied_names_first g who es b place finds = named_by g who es b place false (first g who es b) refl (stands_there g who es b place) finds

none_found : (place : ℕ) (o : Option Ace) → finding_at place o ≡ NoEntry → o ≡ None
none_found place None is = refl
none_found place (Some e) is = absurd (grind (arith, is))

pub no_entry_where_none : NoEntryWhereNone
no_entry_where_none g who es b = (none_found (position_or_len (decides g who b) es) (first g who es b), λ is. ap (finding_at (position_or_len (decides g who b) es)) is)

pub ruleset on_findings = (allowed_names_first, denied_names_first, no_entry_where_none)

stands_for_some : (t : TokenValue) (kind : AceKind) (who : Option SidValue) → stands_for_subject t kind who ≡ true
    → (s : SidValue) × ((who ≡ Some s) × (stands_for t kind s ≡ true))
stands_for_some t kind None h = absurd cc
stands_for_some t kind (Some s) h = (s, (refl, h))

restricts_some : (t : TokenValue) (who : Option SidValue) → is_restricting_subject t who ≡ true → (s : SidValue) × ((who ≡ Some s) × (is_restricting t s ≡ true))
restricts_some t None h = absurd cc
restricts_some t (Some s) h = (s, (refl, h))

pub first_pass_has_subject : FirstPassHasSubject
first_pass_has_subject owner g t e b h =
    stands_for_some t e.kind (subject owner e.sid) (grind (arith, h))

pub second_pass_has_subject : SecondPassHasSubject
second_pass_has_subject owner g t e b h =
    restricts_some t (subject owner e.sid) (grind (arith, h))

pub ruleset on_subjects = (first_pass_has_subject, second_pass_has_subject)

-- ---- requests

pub reasons_join_to_request : ReasonsJoinToRequest
reasons_join_to_request owner dacl g t r b free plain =
    grind (arith, free, plain)

pub granted_are_the_parts : GrantedAreTheParts
granted_are_the_parts owner dacl g t r m granted = grind (arith, granted, told_verdict_is owner dacl g t r)

pub ruleset on_requests = (reasons_join_to_request, granted_are_the_parts)
