-- Lists between which no entry is removed, added or moved are one.
use Rattle.std.proofs.Common.{inl, inr, Bool, List, None, Option, Some, [], add-one, ap, arith, false, get_or, length, refl, suc, sym, take, true, zero, ℕ, ◌++◌, ◌+◌, ◌<◌, ◌==◌, ◌≡◌, ◌≤◌, ◌∙◌, ◌∷◌, ◌⊎◌}
use Rattle.std.proofs.lemmas.Bool.{and_parts, cases_Bool, cases_order, eqb-true}
use Rattle.std.proofs.lemmas.List.{length-append, length-map}
use Rattle.std.proofs.lemmas.List.Quantifiers.{position-Some}
use Rattle.std.proofs.lemmas.List.Sums.{count_by_more_no, count_by_more_yes}
use Rattle.std.proofs.lemmas.Option.{get_or_from_slice_get, slice_get-get_or, slice_get-map, slice_get_cases, slice_get_past, slice_get_within}
use Rattle.std.specs.List.{count_by, position, slice_get}
use Rattle.std.specs.Option.{is_some, option_map}
use Rattle.std.specs.Prelude.{if◌then◌else◌}
use Rattle.sd_whole.specs.declared.ace.WholeAce.{WholeAce}
use Rattle.sd_whole_text.specs.declared.no_text.AclKind.{AclKind}
use Rattle.sd_show.proofs.SameEntries.{same_entries}
use Rattle.sd_show.specs.Diff.{entry_changes, new_at, new_below, partners_of, removed_at, removed_below}
use Rattle.sd_show.specs.Pairs.{CountedOf, common_within, counted_at, counts, is_partner, or_none, partner, partner_at}
use Rattle.sd_show.specs.Same.{same_entry}

-- ---- lists

pub nil_parts : {X : Type 0} (xs ys : List X) → xs ++ ys ≡ [] → (xs ≡ []) × (ys ≡ [])
nil_parts [] ys e = (refl, e)
nil_parts (x ∷ xs) ys e = absurd cc

pub if_nil : {X : Type 0} (b : Bool) (x : X) → (if b then [] else x ∷ []) ≡ [] → b ≡ true
if_nil true x e = refl
if_nil false x e = absurd cc

below_or_at : (k n : ℕ) → k < suc n → (k < n) ⊎ (k ≡ n)
below_or_at k n low = elim (cases_order k n) [
  | inl same ↦ inr same
  | inr (inl below) ↦ inl below
  | inr (inr above) ↦ absurd (omega arith)
]

get_left : {X : Type 0} (xs ys : List X) (k : ℕ) → k < length xs → slice_get (xs ++ ys) k ≡ slice_get xs k
get_left [] ys k low = absurd (omega arith)
get_left (x ∷ xs) ys zero low = refl
get_left (x ∷ xs) ys (suc k) low = get_left xs ys k (omega arith)

get_last : {X : Type 0} (xs : List X) (y : X) → slice_get (xs ++ y ∷ []) (length xs) ≡ Some y
get_last [] y = refl
get_last (x ∷ xs) y = get_last xs y

-- the element at a place within a list
pub element : {X : Type 0} (xs : List X) (k : ℕ) → k < length xs → (x : X) × (slice_get xs k ≡ Some x)
element xs k low = elim (slice_get_cases xs k).1 [
  | inl found ↦ (found.0, found.2)
  | inr past ↦ absurd (omega (arith, past.0))
]

same_elements : {X : Type 0} (xs ys : List X) → length xs ≡ length ys → ((k : ℕ) → k < length ys → slice_get xs k ≡ slice_get ys k) → xs ≡ ys
same_elements [] [] e same = refl
same_elements [] (y ∷ ys) e same = absurd (omega arith)
same_elements (x ∷ xs) [] e same = absurd (omega arith)
same_elements (x ∷ xs) (y ∷ ys) e same =
    let first : Some x ≡ Some y = same 0 (omega arith) in
    let one : x ≡ y = cc in
    let others = same_elements xs ys (omega arith) (λ k low. same (suc k) (omega arith)) in
    λ i. one i ∷ others i

same_front : {X : Type 0} (xs ys : List X) (n : ℕ) → n ≤ length xs → n ≤ length ys → ((k : ℕ) → k < n → slice_get xs k ≡ slice_get ys k) → take n xs ≡ take n ys
same_front xs ys zero hx hy same = refl
same_front [] ys (suc n) hx hy same = absurd (omega arith)
same_front (x ∷ xs) [] (suc n) hx hy same = absurd (omega arith)
same_front (x ∷ xs) (y ∷ ys) (suc n) hx hy same =
    let first : Some x ≡ Some y = same 0 (omega arith) in
    let one : x ≡ y = cc in
    let others = same_front xs ys n (omega arith) (omega arith) (λ k low. same (suc k) (omega arith)) in
    λ i. one i ∷ others i

-- ---- counts

count_one_more : {X : Type 0} (p : X → Bool) (xs : List X) (k : ℕ) (d : X) → k < length xs → count_by p (take k xs) ≤ count_by p (take (suc k) xs)
count_one_more p xs k d low = elim (cases_Bool (p (get_or xs k d))) [
  | inl counted' ↦ let more = count_by_more_yes p xs k d low counted' in rw (← add-one k) (omega arith)
  | inr not_counted ↦ let more = count_by_more_no p xs k d low not_counted in rw (← add-one k) (omega arith)
]

-- the count grows past an element that is counted
pub count_grows : {X : Type 0} (p : X → Bool) (xs : List X) (i k : ℕ) (d : X) → i < k → k ≤ length xs → p (get_or xs i d) ≡ true → count_by p (take i xs) < count_by p (take k xs)
count_grows p xs i zero d low h counted' = absurd (omega arith)
count_grows p xs i (suc k) d low h counted' = elim (below_or_at i k low) [
  | inl below ↦
      let here = count_grows p xs i k d below (omega arith) counted' in
      let more = count_one_more p xs k d (omega arith) in
      omega arith
  | inr same ↦
      let more = count_by_more_yes p xs i d (omega arith) counted' in
      let next : count_by p (take (suc k) xs) ≡ count_by p (take (i + 1) xs) = rw (same, add-one k) refl in
      omega arith
]

pub length-counts : (es : List WholeAce) (n : ℕ) → n ≤ length es → length (counts es n) ≡ n
unfolding counts
length-counts es zero h = refl
length-counts es (suc n) h =
    let found = element es n (omega arith) in
    let fewer = length-counts es n (omega arith) in
    rw (found.1, length-append, fewer) (add-one n)

pub counts_at : (es : List WholeAce) (n k : ℕ) (e : WholeAce) → k < n → n ≤ length es → slice_get es k ≡ Some e
    → slice_get (counts es n) k ≡ Some (e, count_by (same_entry e) (take k es))
unfolding counts
counts_at es zero k e low h is = absurd (omega arith)
counts_at es (suc n) k e low h is =
    let found = element es n (omega arith) in
    let size = length-counts es n (omega arith) in
    elim (below_or_at k n low) [
      | inl below ↦ get_left (counts es n) (counted_at (take n es) (slice_get es n)) k (omega arith) ∙ counts_at es n k e below (omega arith) is
      | inr same ↦
          let here : slice_get es n ≡ Some e = rw same at is in
          let one : CountedOf = (e, count_by (same_entry e) (take n es)) in
          let last = rw size at (get_last (counts es n) one) in
          rw (same, here) last
    ]

-- ---- partners

-- an entry has a partner of this number in the other list
record Paired (es fs : List WholeAce) (k : ℕ) (e : WholeAce) (m : ℕ) : Type 0 where
  place : ℕ
  number : m ≡ place + 1
  there : slice_get fs place ≡ Some e
  counted : count_by (same_entry e) (take k es) ≡ count_by (same_entry e) (take place fs)
  itself : same_entry e e ≡ true

from_option : (o : Option ℕ) (m : ℕ) → option_map (λ place. place + 1) o ≡ Some m → (i : ℕ) × (o ≡ Some i) × (m ≡ i + 1)
from_option None m e = absurd cc
from_option (Some i) m e = (i, refl, cc)

paired : (es fs : List WholeAce) (k : ℕ) (e : WholeAce) (m : ℕ) → slice_get es k ≡ Some e → partner_at (partners_of es fs) k ≡ Some m → Paired es fs k e m
paired es fs k e m is has =
    let low = slice_get_within es k e is in
    let ours : CountedOf = (e, count_by (same_entry e) (take k es)) in
    let others = counts fs (length fs) in
    let at_k = counts_at es (length es) k e low (omega arith) is in
    let mapped = slice_get-map (partner others) (counts es (length es)) k in
    let read : or_none (option_map (partner others) (slice_get (counts es (length es)) k)) ≡ Some m = ap or_none (sym mapped) ∙ has in
    let his : partner others ours ≡ Some m = rw at_k at read in
    let found = from_option (position (is_partner ours) others) m his in
    let first = position-Some (is_partner ours) others found.0 ours found.1 in
    let size = length-counts fs (length fs) (omega arith) in
    let theirs = element fs found.0 (omega (arith, first.0)) in
    let at_i = counts_at fs (length fs) found.0 theirs.0 (omega (arith, first.0)) (omega arith) theirs.1 in
    let got = slice_get-get_or others found.0 ours first.0 in
    let other : CountedOf = (theirs.0, count_by (same_entry theirs.0) (take found.0 fs)) in
    let both : Some (get_or others found.0 ours) ≡ Some other = sym got ∙ at_i in
    let one : get_or others found.0 ours ≡ other = cc in
    let passes : is_partner ours other ≡ true = ap (is_partner ours) (sym one) ∙ first.1 in
    let parts = and_parts (ours.1 == other.1) (same_entry e theirs.0) passes in
    let equal = same_entries e theirs.0 parts.1 in
    let number = eqb-true ours.1 other.1 parts.0 in
    record {
      place = found.0;
      number = found.2;
      there = theirs.1 ∙ ap Some (sym equal);
      counted = number ∙ ap (λ x. count_by (same_entry x) (take found.0 fs)) (sym equal);
      itself = ap (same_entry e) equal ∙ parts.1;
    }

-- ---- no line

has_partner : (kind : AclKind) (number : ℕ) (p : Option ℕ) (o : Option WholeAce) (e : WholeAce) → o ≡ Some e → removed_at kind number p o ≡ [] → (m : ℕ) × (p ≡ Some m)
has_partner kind number p None e is none = absurd cc
has_partner kind number (Some m) (Some f) e is none = (m, refl)
has_partner kind number None (Some f) e is none = absurd cc

none_removed : (kind : AclKind) (ps : List (Option ℕ)) (es : List WholeAce) (n : ℕ) → n ≤ length es → removed_below kind ps es n ≡ [] → (k : ℕ) → k < n → (m : ℕ) × (partner_at ps k ≡ Some m)
unfolding removed_below
none_removed kind ps es zero h none k low = absurd (omega arith)
none_removed kind ps es (suc n) h none k low =
    let parts = nil_parts (removed_below kind ps es n) (removed_at kind (n + 1) (partner_at ps n) (slice_get es n)) none in
    let e = element es n (omega arith) in
    elim (below_or_at k n low) [
      | inl below ↦ none_removed kind ps es n (omega arith) parts.0 k below
      | inr same ↦ rw same (has_partner kind (n + 1) (partner_at ps n) (slice_get es n) e.0 e.1 parts.1)
    ]

has_place : (kind : AclKind) (old new : List (Option ℕ)) (number : ℕ) (p : Option ℕ) (o : Option WholeAce) (e : WholeAce) → o ≡ Some e
    → new_at kind old new number p o ≡ [] → (m : ℕ) × (p ≡ Some m) × (common_within old m ≡ common_within new number)
has_place kind old new number p None e is none = absurd cc
has_place kind old new number None (Some f) e is none = absurd cc
has_place kind old new number (Some m) (Some f) e is none =
    (m, refl, eqb-true (common_within old m) (common_within new number) (if_nil (common_within old m == common_within new number) _ none))

none_new : (kind : AclKind) (old new : List (Option ℕ)) (es : List WholeAce) (n : ℕ) → n ≤ length es → new_below kind old new es n ≡ []
    → (k : ℕ) → k < n → (m : ℕ) × (partner_at new k ≡ Some m) × (common_within old m ≡ common_within new (k + 1))
unfolding new_below
none_new kind old new es zero h none k low = absurd (omega arith)
none_new kind old new es (suc n) h none k low =
    let parts = nil_parts (new_below kind old new es n) (new_at kind old new (n + 1) (partner_at new n) (slice_get es n)) none in
    let e = element es n (omega arith) in
    elim (below_or_at k n low) [
      | inl below ↦ none_new kind old new es n (omega arith) parts.0 k below
      | inr same ↦ rw same (has_place kind old new (n + 1) (partner_at new n) (slice_get es n) e.0 e.1 parts.1)
    ]

all_common : (ps : List (Option ℕ)) (n : ℕ) → n ≤ length ps → ((k : ℕ) → k < n → (m : ℕ) × (partner_at ps k ≡ Some m)) → common_within ps n ≡ n
all_common ps zero h all = refl
all_common ps (suc n) h all =
    let fewer = all_common ps n (omega arith) (λ k low. all k (omega arith)) in
    let there = all n (omega arith) in
    let read = slice_get-get_or ps n None (omega arith) in
    let is : get_or ps n None ≡ Some there.0 = sym (ap or_none read) ∙ there.1 in
    let more = count_by_more_yes is_some ps n None (omega arith) (ap is_some is) in
    let next : count_by is_some (take (suc n) ps) ≡ count_by is_some (take (n + 1) ps) = rw (add-one n) refl in
    omega arith

-- the entries of the second list stand in the first one where they stand there
record Stay (es fs : List WholeAce) : Type 0 where
  olds : (k : ℕ) → k < length es → (m : ℕ) × (partner_at (partners_of es fs) k ≡ Some m)
  news : (j : ℕ) → j < length fs → (m : ℕ) × (partner_at (partners_of fs es) j ≡ Some m)
      × (common_within (partners_of es fs) m ≡ common_within (partners_of fs es) (j + 1))

length-partners : (es fs : List WholeAce) → length (partners_of es fs) ≡ length es
length-partners es fs = length-map (counts es (length es)) (partner (counts fs (length fs))) ∙ length-counts es (length es) (omega arith)

stays : (es fs : List WholeAce) → Stay es fs → (j : ℕ) → j < length fs → slice_get es j ≡ slice_get fs j
stays es fs h j low =
    let f = element fs j low in
    let there = h.news j low in
    let pair = paired fs es j f.0 there.0 f.1 there.1 in
    let within = slice_get_within es pair.place f.0 pair.there in
    let number = pair.number in
    let size = length-partners es fs in
    let other_size = length-partners fs es in
    let all = all_common (partners_of es fs) there.0 (omega arith) (λ k less. h.olds k (omega arith)) in
    let all' = all_common (partners_of fs es) (j + 1) (omega arith) (λ k less. let one = h.news k (omega arith) in (one.0, one.1)) in
    let numbers = there.2 in
    let same : pair.place ≡ j = omega arith in
    (rw same at pair.there) ∙ sym f.1

not_longer : (es fs : List WholeAce) → Stay es fs → length fs < length es → ⊥
not_longer es fs h longer =
    let e = element es (length fs) longer in
    let has = h.olds (length fs) longer in
    let pair = paired es fs (length fs) e.0 has.0 e.1 has.1 in
    let within = slice_get_within fs pair.place e.0 pair.there in
    let front = same_front es fs pair.place (omega arith) (omega arith) (λ k low. stays es fs h k (omega arith)) in
    let here = get_or_from_slice_get es pair.place e.0 e.0 (stays es fs h pair.place within ∙ pair.there) in
    let grows = count_grows (same_entry e.0) es pair.place (length fs) e.0 within (omega arith) (ap (same_entry e.0) here ∙ pair.itself) in
    let fronts = ap (count_by (same_entry e.0)) front in
    let counted = pair.counted in
    omega arith

not_shorter : (es fs : List WholeAce) → Stay es fs → length es < length fs → ⊥
not_shorter es fs h shorter =
    let f = element fs (length es) shorter in
    let none : None ≡ Some f.0 = sym (slice_get_past es (length es) (omega arith)) ∙ stays es fs h (length es) shorter ∙ f.1 in
    cc

pub same_lists : (kind : AclKind) (es fs : List WholeAce) → entry_changes kind es fs ≡ [] → es ≡ fs
same_lists kind es fs none =
    let ps = partners_of es fs in
    let qs = partners_of fs es in
    let parts = nil_parts (removed_below kind ps es (length es)) (new_below kind ps qs fs (length fs)) none in
    let h : Stay es fs = record {
      olds = none_removed kind ps es (length es) (omega arith) parts.0;
      news = none_new kind ps qs fs (length fs) (omega arith) parts.1;
    } in
    let sizes : length es ≡ length fs = elim (cases_order (length es) (length fs)) [
      | inl same ↦ same
      | inr (inl shorter) ↦ absurd (not_shorter es fs h shorter)
      | inr (inr longer) ↦ absurd (not_longer es fs h longer)
    ] in
    same_elements es fs sizes (stays es fs h)
