-- The plain forms of entries: how large they are, and that they are what parsing plain descriptors gives.
use Rattle.sd_whole.proofs.Cited.{Ace, AceKind, List, None, Ok, Option, Result, Some, TypedAce, WholeAce, [], ace_size, arith, false, length, le-ltb, map, nat_lt, plain_as, plain_form, plain_kind, refl, sum_by, sum_by-cons, typed_size_of, whole_ace_size, whole_acl_size, ℕ, ◌+◌, ◌∷◌, ◌≡◌, ◌≤◌}
use Rattle.std.specs.List.{cons_option, filter_map, position_or_len}
use Rattle.sd_acl.specs.Ace.{acl_size_of}
use Rattle.sd_whole.proofs.Lengths.{length_of_plain, length_of_typed}
use Rattle.std.specs.Result.{result_map_both}
use Rattle.sd_whole.specs.Plain.{IsUnlisted, first_odd, is_odd, plain_list}
use Rattle.sd_whole.specs.declared.plain.OddEntry.{OddEntry}
use Rattle.sd_whole.specs.declared.plain.PlainError.{PlainError}
use Rattle.sd_whole.specs.declared.plain.PlainError.TheVariants.{Odd, Memory}
use Rattle.sd_whole.specs.declared.ace.WholeAce.TheVariants as aces

-- the size of a plain form, if there is one
abbrev form_size : Option Ace → ℕ
form_size None = 0
form_size (Some e) = ace_size e

typed_fits : (k : Option AceKind) (e : TypedAce) → form_size (plain_as k e) ≤ typed_size_of e
typed_fits None e = omega arith
typed_fits (Some kind) e = omega arith

form_fits : (e : WholeAce) → form_size (plain_form e) ≤ whole_ace_size e
form_fits (aces.Plain e) = omega (arith, length_of_plain e)
form_fits (aces.Typed e) = omega (arith, length_of_typed e, typed_fits (plain_kind e.kind) e)
form_fits (aces.Opaque e) = omega arith

with_form : (o : Option Ace) (es : List Ace) → sum_by ace_size (cons_option o es) ≡ form_size o + sum_by ace_size es
with_form None es = omega arith
with_form (Some e) es = sum_by-cons ace_size e es

sums_fit : (es : List WholeAce) → sum_by ace_size (filter_map plain_form es) ≤ sum_by whole_ace_size es
sums_fit [] = omega arith
sums_fit (e ∷ es) = omega (arith, with_form (plain_form e) (filter_map plain_form es), form_fits e, sums_fit es, sum_by-cons whole_ace_size e es)

pub forms_fit : (es : List WholeAce) → acl_size_of (filter_map plain_form es) ≤ whole_acl_size es
forms_fit es = omega (arith, sums_fit es)

-- entries that all have a plain form
listed : (es : List WholeAce) (plain : List Ace) → map plain_form es ≡ map (λ e. Some e) plain → (position_or_len is_odd es ≡ length es) × (filter_map plain_form es ≡ plain)
listed [] [] same = (refl, refl)
listed [] (p ∷ plain) same = absurd cc
listed (e ∷ es) [] same = absurd cc
listed (e ∷ es) (p ∷ plain) same =
    let first : plain_form e ≡ Some p = cc same in
    let rest : map plain_form es ≡ map (λ e. Some e) plain = cc same in
    let next = listed es plain rest in
    (rw (first, next.0) (omega arith), rw (first, next.1) refl)

ltb-same : (n : ℕ) → nat_lt n n ≡ false
ltb-same n = le-ltb n n (omega arith)

pub plain_listed : (es : List WholeAce) (plain : List Ace) → map plain_form es ≡ map (λ e. Some e) plain → plain_list es ≡ Ok plain
plain_listed es plain same =
    let both = listed es plain same in
    rw (both.0, ltb-same (length es), both.1) refl

pub all_listed : (es : List WholeAce) → first_odd es ≡ None → plain_list es ≡ Ok (filter_map plain_form es)
all_listed es none = rw none refl

-- why there is no list is why there is nothing made of it
pub unlisted_mapped : {A B : Type 0} (f : A → B) (found : Result A OddEntry) (e : PlainError) → IsUnlisted found e → IsUnlisted (result_map_both f (λ (odd : OddEntry). odd) found) e
unlisted_mapped f found (Odd odd) h = rw h refl
unlisted_mapped f found Memory h = (f h.0, rw h.1 refl)
