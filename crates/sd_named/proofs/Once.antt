-- Joined SIDs have each once, where both lists have.
use Rattle.std.proofs.Common.{◌≡◌, ◌++◌, ◌∷◌, ◌∙◌, ◌||◌, Bool, true, false, List, [], arith, cond, filter, not, refl, ap, sym, subst}
use Rattle.std.proofs.lemmas.Bool.{true≢false}
use Rattle.std.proofs.lemmas.Map.Keys.{IsDistinct-cons, IsDistinct-from_apart, IsDistinct-head, IsDistinct-tail}
use Rattle.std.specs.Cmp.{both_ways}
use Rattle.std.specs.List.{AllByRecursion, IsDistinct, list_any}
use Rattle.sd_sid.specs.Sid.{SidValue, same_sid}
use Rattle.sd_sid.proofs.Compared.{same_sid-itself, same_sid-true}
use Rattle.sd_accounts.specs.Row.{AccountRow}
use Rattle.sd_named.specs.Arguments.{added, anonymous, authenticated_users, everyone, is_guest, logon_groups}
use Rattle.sd_named.specs.Sids.{AreTokenSids, joined}
use Rattle.sd_named.specs.declared.word.Role.TheVariants.{Enabled}

flips : (a b : SidValue) → same_sid a b ≡ same_sid b a
flips a b =
    both_ways (same_sid a b) (same_sid b a) (λ h. ap (same_sid b) (same_sid-true a b h) ∙ same_sid-itself b)
    (λ h. ap (same_sid a) (same_sid-true b a h) ∙ same_sid-itself a)

neither : (a b : Bool) → (a || b) ≡ false → (a ≡ false) × (b ≡ false)
neither true b h = absurd (true≢false h)
neither false b h = (refl, h)

nothing_once : IsDistinct same_sid []
nothing_once = IsDistinct-from_apart same_sid [] (λ i j d less low. absurd (omega (arith, low)))

one_once : (sid : SidValue) → IsDistinct same_sid (sid ∷ [])
one_once sid = IsDistinct-cons same_sid sid [] tt nothing_once

-- ---- lists of which some are kept

all_kept : (P : SidValue → Type 0) (p : SidValue → Bool) (ys : List SidValue) → AllByRecursion P ys → AllByRecursion P (filter p ys)
all_kept P p [] all = tt
all_kept P p (y ∷ ys) all = by (p y) (all_kept P p ys all.1)
  where
    by : (b : Bool) → AllByRecursion P (filter p ys) → AllByRecursion P (cond b (y ∷ filter p ys) (filter p ys))
    by true rest = (all.0, rest)
    by false rest = rest

once_kept : (p : SidValue → Bool) (ys : List SidValue) → IsDistinct same_sid ys → IsDistinct same_sid (filter p ys)
once_kept p [] once = once
once_kept p (y ∷ ys) once =
    by (p y) (all_kept (λ z. same_sid y z ≡ false) p ys (IsDistinct-head same_sid y ys once)) (once_kept p ys (IsDistinct-tail same_sid y ys once))
  where
    by : (b : Bool) → AllByRecursion (λ z. same_sid y z ≡ false) (filter p ys) → IsDistinct same_sid (filter p ys)
        → IsDistinct same_sid (cond b (y ∷ filter p ys) (filter p ys))
    by true all rest = IsDistinct-cons same_sid y (filter p ys) all rest
    by false all rest = rest

none_among : (xs ys : List SidValue) → AllByRecursion (λ y. list_any (same_sid y) xs ≡ false) (added Enabled [] ys xs)
none_among xs [] = tt
none_among xs (y ∷ ys) = by (list_any (same_sid y) xs) refl (none_among xs ys)
  where
    by : (b : Bool) → list_any (same_sid y) xs ≡ b → AllByRecursion (λ z. list_any (same_sid z) xs ≡ false) (added Enabled [] ys xs)
        → AllByRecursion (λ z. list_any (same_sid z) xs ≡ false) (cond (not b) (y ∷ added Enabled [] ys xs) (added Enabled [] ys xs))
    by true e rest = rest
    by false e rest = (e, rest)

-- ---- lists, one after the other

all_both : (P : SidValue → Type 0) (xs zs : List SidValue) → AllByRecursion P xs → AllByRecursion P zs → AllByRecursion P (xs ++ zs)
all_both P [] zs one two = two
all_both P (x ∷ xs) zs one two = (one.0, all_both P xs zs one.1 two)

heads : (x : SidValue) (xs zs : List SidValue) → AllByRecursion (λ z. list_any (same_sid z) (x ∷ xs) ≡ false) zs → AllByRecursion (λ z. same_sid x z ≡ false) zs
heads x xs [] none = tt
heads x xs (z ∷ zs) none = (flips x z ∙ (neither (same_sid z x) (list_any (same_sid z) xs) none.0).0, heads x xs zs none.1)

tails : (x : SidValue) (xs zs : List SidValue) → AllByRecursion (λ z. list_any (same_sid z) (x ∷ xs) ≡ false) zs
    → AllByRecursion (λ z. list_any (same_sid z) xs ≡ false) zs
tails x xs [] none = tt
tails x xs (z ∷ zs) none = ((neither (same_sid z x) (list_any (same_sid z) xs) none.0).1, tails x xs zs none.1)

once_both : (xs zs : List SidValue) → IsDistinct same_sid xs → IsDistinct same_sid zs → AllByRecursion (λ z. list_any (same_sid z) xs ≡ false) zs
    → IsDistinct same_sid (xs ++ zs)
once_both [] zs one two none = two
once_both (x ∷ xs) zs one two none =
    IsDistinct-cons same_sid x (xs ++ zs) (all_both (λ z. same_sid x z ≡ false) xs zs (IsDistinct-head same_sid x xs one) (heads x xs zs none))
    (once_both xs zs (IsDistinct-tail same_sid x xs one) two (tails x xs zs none))

joined_once : (xs ys : List SidValue) → IsDistinct same_sid xs → IsDistinct same_sid ys → IsDistinct same_sid (joined xs ys)
joined_once xs ys one two = once_both xs (added Enabled [] ys xs) one (once_kept _ ys two) (none_among xs ys)

-- ---- the SIDs of a token

logon_once : (user : SidValue) → IsDistinct same_sid (logon_groups false user)
logon_once user = by (same_sid user anonymous) (is_guest user)
  where
    by : (b c : Bool) → IsDistinct same_sid (cond b [] (cond c (everyone ∷ []) (everyone ∷ authenticated_users ∷ [])))
    by true c = nothing_once
    by false true = one_once everyone
    by false false = IsDistinct-cons same_sid everyone (authenticated_users ∷ []) (refl, tt) (one_once authenticated_users)

pub token_once : (rows : List AccountRow) (user : SidValue) (sids : List SidValue) → AreTokenSids rows user sids → IsDistinct same_sid sids
token_once rows user sids are =
    let first = joined (user ∷ []) (logon_groups false user) in
    subst (IsDistinct same_sid) (sym are.are_sids)
    (joined_once first are.groups (joined_once (user ∷ []) (logon_groups false user) (one_once user) (logon_once user)) are.are_groups.once)
