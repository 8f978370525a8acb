-- That equal SIDs are one: what a map and a set of SIDs compare by.
use Rattle.std.proofs.Common.{◌≡◌, ◌++◌, ◌-◌, ◌&&◌, ◌∙◌, ℕ, Bool, true, List, length, take, replicate, nat_eq, refl, ap, sym}
use Rattle.std.proofs.lemmas.Bool.{and_from, and_parts, eq-eqb, eqb-true}
use Rattle.std.proofs.Math.Seq.{take-append_seam}
use Rattle.std.specs.Cmp.{both_ways}
use Rattle.std.specs.Str.{bytes_eq}
use lib.Pointwise.{bytes_decides}
use Rattle.sd_sid.specs.Sid.{SidValue, same_sid}
use Rattle.sd_sid.proofs.Compared.{same_sid-true, same_sid-itself}

-- `==` of two SIDs, which compares their fields
abbrev pub sid_eq : SidValue → SidValue → Bool
sid_eq a b = nat_eq a.authority b.authority && (bytes_eq (a.subs ++ replicate (15 - length a.subs) 0) (b.subs ++ replicate (15 - length b.subs) 0) && nat_eq (length a.subs) (length b.subs))

same_front : (xs ys rs ss : List ℕ) → xs ++ rs ≡ ys ++ ss → length xs ≡ length ys → xs ≡ ys
same_front xs ys rs ss whole long =
    sym (take-append_seam xs rs) ∙ ap (take (length xs)) whole ∙ ap (λ n. take n (ys ++ ss)) long ∙ take-append_seam ys ss

pub sid_eq-true : (a b : SidValue) → sid_eq a b ≡ true → a ≡ b
sid_eq-true a b h =
    let parts = and_parts (nat_eq a.authority b.authority) _ h in
    let more = and_parts (bytes_eq (a.subs ++ replicate (15 - length a.subs) 0) (b.subs ++ replicate (15 - length b.subs) 0)) _ parts.1 in
    let authority = eqb-true a.authority b.authority parts.0 in
    let subs = same_front a.subs b.subs _ _ ((bytes_decides _ _).0 more.0) (eqb-true (length a.subs) (length b.subs) more.1) in
    λ i. record { authority = authority i; subs = subs i }

pub sid_eq-itself : (s : SidValue) → sid_eq s s ≡ true
sid_eq-itself s =
    let subs = s.subs ++ replicate (15 - length s.subs) 0 in
    and_from (nat_eq s.authority s.authority) _ (eq-eqb s.authority s.authority refl)
    (and_from (bytes_eq subs subs) _ ((bytes_decides subs subs).1 refl) (eq-eqb (length s.subs) (length s.subs) refl))

-- it is the test by which contracts compare SIDs
pub sid_eq-same : (a b : SidValue) → sid_eq a b ≡ same_sid a b
sid_eq-same a b =
    both_ways (sid_eq a b) (same_sid a b)
    (λ h. ap (same_sid a) (sym (sid_eq-true a b h)) ∙ same_sid-itself a)
    (λ h. ap (sid_eq a) (sym (same_sid-true a b h)) ∙ sid_eq-itself a)

pub sid_test : (a : SidValue) → sid_eq a ≡ same_sid a
sid_test a = λ i b. sid_eq-same a b i
