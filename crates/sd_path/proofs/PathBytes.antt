-- Paths as they are kept: what is said of names is said of the bytes in which each is ended by a zero byte.
use Rattle.sd_path.proofs.Cited.{Equal, Greater, IsPath, Keeps, Less, List, Names, [], and_assoc, and_parts, ap, append_assoc, arith, bytes_eq, cond, drop, drop-append_seam, ended, false, get_or, get_or-append, get_or-append_right, get_or-append_seam, is_name, is_name_byte, is_root, is_within, length, length-take-le, list_all, list_all-append, names_cmp, names_of, nat_cmp, nat_eq, nat_le, nat_lt, nat_tests, onto_first, ordering_then, refl, slice_cmp, starts_with, subst, suc, sym, take, take-append_seam, then_next, true, up, zero, ℕ, ◌&&◌, ◌++◌, ◌+◌, ◌-◌, ◌<◌, ◌∙◌, ◌∷◌, ◌≡◌, ◌≢◌, ◌≤◌}
use Rattle.std.proofs.Common.{length-append}
use Rattle.sd_path.proofs.Paths.{last_name, push-up}

-- no byte is zero
abbrev pub HasNoZero : List ℕ → Type 0
HasNoZero [] = Unit {0}
HasNoZero (b ∷ bs) = (0 < b) × HasNoZero bs

abbrev pub HaveNoZero : Names → Type 0
HaveNoZero [] = Unit {0}
HaveNoZero (name ∷ names) = HasNoZero name × HaveNoZero names

name_byte_above : (b : ℕ) → is_name_byte b ≡ true → 0 < b
name_byte_above b h = grind (arith, nat_tests)

HasNoZero-name_bytes : (bs : List ℕ) → list_all is_name_byte bs ≡ true → HasNoZero bs
HasNoZero-name_bytes [] h = tt
HasNoZero-name_bytes (b ∷ bs) h =
    let parts = and_parts (is_name_byte b) (list_all is_name_byte bs) h in
    (name_byte_above b parts.0, HasNoZero-name_bytes bs parts.1)

-- ---- the order of the bytes is that of the names

zero_first : (b : ℕ) → 0 < b → nat_cmp 0 b ≡ Less
zero_first b h = grind (arith, nat_tests)

zero_second : (b : ℕ) → 0 < b → nat_cmp b 0 ≡ Greater
zero_second b h = grind (arith, nat_tests)

zero_itself : nat_cmp 0 0 ≡ Equal
zero_itself = refl

one_name_cmp : (xs ys p q : List ℕ) → HasNoZero xs → HasNoZero ys
    → slice_cmp nat_cmp (xs ++ 0 ∷ p) (ys ++ 0 ∷ q) ≡ ordering_then (slice_cmp nat_cmp xs ys) (slice_cmp nat_cmp p q)
one_name_cmp [] [] p q hx hy = refl
one_name_cmp [] (y ∷ ys) p q hx hy = ap (λ o. ordering_then o (slice_cmp nat_cmp p (ys ++ 0 ∷ q))) (zero_first y hy.0)
one_name_cmp (x ∷ xs) [] p q hx hy = ap (λ o. ordering_then o (slice_cmp nat_cmp (xs ++ 0 ∷ p) q)) (zero_second x hx.0)
one_name_cmp (x ∷ xs) (y ∷ ys) p q hx hy =
    ap (λ o. ordering_then (nat_cmp x y) o) (one_name_cmp xs ys p q hx.1 hy.1)
    ∙ then_next (nat_cmp x y) (slice_cmp nat_cmp xs ys) (slice_cmp nat_cmp p q) refl refl

ended_first : (xs p : List ℕ) → slice_cmp nat_cmp [] (xs ++ 0 ∷ p) ≡ Less
ended_first [] p = refl
ended_first (x ∷ xs) p = refl

ended_second : (xs p : List ℕ) → slice_cmp nat_cmp (xs ++ 0 ∷ p) [] ≡ Greater
ended_second [] p = refl
ended_second (x ∷ xs) p = refl

pub cmp-ended : (xs ys : Names) → HaveNoZero xs → HaveNoZero ys
    → slice_cmp nat_cmp (ended xs) (ended ys) ≡ names_cmp xs ys
cmp-ended [] [] hx hy = refl
cmp-ended [] (y ∷ ys) hx hy = ended_first y (ended ys)
cmp-ended (x ∷ xs) [] hx hy = ended_second x (ended xs)
cmp-ended (x ∷ xs) (y ∷ ys) hx hy =
    one_name_cmp x y (ended xs) (ended ys) hx.0 hy.0
    ∙ ap (ordering_then (slice_cmp nat_cmp x y)) (cmp-ended xs ys hx.1 hy.1)

HaveNoZero-names : (names : Names) → list_all is_name names ≡ true → HaveNoZero names
HaveNoZero-names [] h = tt
HaveNoZero-names (name ∷ names) h =
    let parts = and_parts (is_name name) (list_all is_name names) h in
    let bytes = and_parts (nat_lt 0 (length name) && nat_le (length name) 255) (list_all is_name_byte name) parts.0 in
    (HasNoZero-name_bytes name bytes.1, HaveNoZero-names names parts.1)

pub cmp-kept : (bs cs : List ℕ) (m n : ℕ) → Keeps bs m → Keeps cs n
    → slice_cmp nat_cmp bs cs ≡ names_cmp (names_of bs) (names_of cs)
cmp-kept bs cs m n kb kc =
    let e = cmp-ended (names_of bs) (names_of cs) (HaveNoZero-names (names_of bs) kb.path.named) (HaveNoZero-names (names_of cs) kc.path.named) in
    cc (e, kb.whole, kc.whole)

-- ---- a path is within the top where its bytes begin with the top's

zero_other : (b : ℕ) → 0 < b → nat_eq 0 b ≡ false
zero_other b h = grind (arith, nat_tests)

other_zero : (b : ℕ) → 0 < b → nat_eq b 0 ≡ false
other_zero b h = grind (arith, nat_tests)

one_name_begins : (ys xs q p : List ℕ) → HasNoZero ys → HasNoZero xs
    → starts_with nat_eq (xs ++ 0 ∷ p) (ys ++ 0 ∷ q) ≡ (bytes_eq ys xs && starts_with nat_eq p q)
one_name_begins [] [] q p hy hx = refl
one_name_begins [] (x ∷ xs) q p hy hx =
    ap (λ b. b && starts_with nat_eq (xs ++ 0 ∷ p) q) (zero_other x hx.0)
one_name_begins (y ∷ ys) [] q p hy hx =
    ap (λ b. b && starts_with nat_eq p (ys ++ 0 ∷ q)) (other_zero y hy.0)
one_name_begins (y ∷ ys) (x ∷ xs) q p hy hx =
    ap (λ b. nat_eq y x && b) (one_name_begins ys xs q p hy.1 hx.1)
    ∙ sym (and_assoc (nat_eq y x) (bytes_eq ys xs) (starts_with nat_eq p q))

nothing_begins : (ys q : List ℕ) → starts_with nat_eq [] (ys ++ 0 ∷ q) ≡ false
nothing_begins [] q = refl
nothing_begins (y ∷ ys) q = refl

begins-ended : (top path : Names) → HaveNoZero top → HaveNoZero path
    → starts_with nat_eq (ended path) (ended top) ≡ is_within top path
begins-ended [] path ht hp = refl
begins-ended (name ∷ top) [] ht hp = nothing_begins name (ended top)
begins-ended (name ∷ top) (first ∷ path) ht hp =
    one_name_begins name first (ended top) (ended path) ht.0 hp.0
    ∙ ap (λ b. bytes_eq name first && b) (begins-ended top path ht.1 hp.1)

pub begins-kept : (top bs : List ℕ) (m n : ℕ) → Keeps top m → Keeps bs n
    → starts_with nat_eq bs top ≡ is_within (names_of top) (names_of bs)
begins-kept top bs m n kt kb =
    let e = begins-ended (names_of top) (names_of bs) (HaveNoZero-names (names_of top) kt.path.named) (HaveNoZero-names (names_of bs) kb.path.named) in
    cc (e, kt.whole, kb.whole)

-- ---- the names come back from the bytes

HasNoZero-cons : (b : ℕ) (bs rest : List ℕ) → 0 < b → names_of (bs ++ 0 ∷ rest) ≡ bs ∷ names_of rest
    → names_of (b ∷ bs ++ 0 ∷ rest) ≡ (b ∷ bs) ∷ names_of rest
HasNoZero-cons b bs rest h e =
    ap (λ t. cond t ([] ∷ names_of (bs ++ 0 ∷ rest)) (onto_first b (names_of (bs ++ 0 ∷ rest)))) (other_zero b h) ∙ ap (onto_first b) e

pub names_of-name : (name rest : List ℕ) → HasNoZero name → names_of (name ++ 0 ∷ rest) ≡ name ∷ names_of rest
names_of-name [] rest h = refl
names_of-name (b ∷ bs) rest h = HasNoZero-cons b bs rest h.0 (names_of-name bs rest h.1)

pub names_of-ended : (names : Names) → HaveNoZero names → names_of (ended names) ≡ names
names_of-ended [] h = refl
names_of-ended (name ∷ names) h =
    names_of-name name (ended names) h.0 ∙ ap (λ ns. name ∷ ns) (names_of-ended names h.1)

pub names_of-path : (names : Names) → IsPath names → names_of (ended names) ≡ names
names_of-path names h = names_of-ended names (HaveNoZero-names names h.named)

pub Keeps-ended : (names : Names) → IsPath names → Keeps (ended names) (length names)
Keeps-ended names h =
    let e = names_of-path names h in
    record { whole = ap ended e; counted = ap length e; path = rw e h }

-- ---- the path of what holds it

-- ---- one more name

ended-push : (names : Names) (name : List ℕ) → ended (names ++ name ∷ []) ≡ ended names ++ (name ++ 0 ∷ [])
ended-push [] name = refl
ended-push (first ∷ names) name =
    ap (λ bs. first ++ 0 ∷ bs) (ended-push names name) ∙ sym (append_assoc first (0 ∷ ended names) (name ++ 0 ∷ []))

IsPath-push : (names : Names) (name : List ℕ) → IsPath names → length names < 128 → is_name name ≡ true → IsPath (names ++ name ∷ [])
IsPath-push names name h room is = record {
  at_most = omega (arith, length-append names (name ∷ []));
  named = list_all-append is_name names (name ∷ []) ∙ rw (h.named, is) refl;
}

kept-push : (bs name kept : List ℕ) (n : ℕ) → Keeps bs n → kept ≡ bs ++ (name ++ 0 ∷ []) → kept ≡ ended (names_of bs ++ name ∷ [])
kept-push bs name kept n h is = is ∙ ap (λ front. front ++ (name ++ 0 ∷ [])) (sym h.whole) ∙ sym (ended-push (names_of bs) name)

-- the bytes of a path with one more name behind them keep the path with that name
pub names_of-push : (bs name kept : List ℕ) (n : ℕ) → Keeps bs n → n < 128 → is_name name ≡ true → kept ≡ bs ++ (name ++ 0 ∷ [])
    → names_of kept ≡ names_of bs ++ name ∷ []
names_of-push bs name kept n h room is same =
    ap names_of (kept-push bs name kept n h same)
    ∙ names_of-path (names_of bs ++ name ∷ []) (IsPath-push (names_of bs) name h.path (omega (arith, h.counted)) is)

pub Keeps-push : (bs name kept : List ℕ) (n : ℕ) → Keeps bs n → n < 128 → is_name name ≡ true → kept ≡ bs ++ (name ++ 0 ∷ []) → Keeps kept (n + 1)
Keeps-push bs name kept n h room is same =
    let path = IsPath-push (names_of bs) name h.path (omega (arith, h.counted)) is in
    let P : List ℕ → Type 0 = λ bytes. Keeps bytes (n + 1) in
    let Q : ℕ → Type 0 = λ count. Keeps (ended (names_of bs ++ name ∷ [])) count in
    let count : length (names_of bs ++ name ∷ []) ≡ n + 1 = omega (arith, length-append (names_of bs) (name ∷ []), h.counted) in
    subst P (sym (kept-push bs name kept n h same)) (subst Q count (Keeps-ended (names_of bs ++ name ∷ []) path))

pub length-up : (names : Names) → length (up names) ≡ length names - 1
length-up [] = refl
length-up (name ∷ []) = refl
length-up (name ∷ next ∷ names) = let e = length-up (next ∷ names) in omega arith

named-up : (names : Names) → list_all is_name names ≡ true → list_all is_name (up names) ≡ true
named-up [] h = refl
named-up (name ∷ []) h = refl
named-up (name ∷ next ∷ names) h =
    let parts = and_parts (is_name name) (list_all is_name (next ∷ names)) h in
    rw parts.0 (named-up (next ∷ names) parts.1)

pub IsPath-up : (names : Names) → IsPath names → IsPath (up names)
IsPath-up names h = record {
  at_most = let e = length-up names in let m = h.at_most in omega arith;
  named = named-up names h.named;
}

-- the bytes of the path of what holds it, and behind them those of the last name
ended-up : (name : List ℕ) (names : Names)
    → ended (name ∷ names) ≡ ended (up (name ∷ names)) ++ (last_name (name ∷ names) ++ 0 ∷ [])
ended-up name [] = refl
ended-up name (next ∷ names) =
    ap (λ bs. name ++ 0 ∷ bs) (ended-up next names)
    ∙ sym (append_assoc name (0 ∷ ended (up (next ∷ names))) (last_name (next ∷ names) ++ 0 ∷ []))

HasNoZero-last_name : (names : Names) → HaveNoZero names → HasNoZero (last_name names)
HasNoZero-last_name [] h = tt
HasNoZero-last_name (name ∷ []) h = h.0
HasNoZero-last_name (name ∷ next ∷ names) h = HasNoZero-last_name (next ∷ names) h.1

HasNoZero-at : (bs : List ℕ) (k : ℕ) → HasNoZero bs → k < length bs → 0 < get_or bs k 0
HasNoZero-at [] k h below = absurd (omega arith)
HasNoZero-at (b ∷ bs) zero h below = h.0
HasNoZero-at (b ∷ bs) (suc k) h below = HasNoZero-at bs k h.1 (omega arith)

-- what is left of the bytes in front of a name ends with a zero byte
zero_ends : (names : Names) → 0 < length (ended names) → get_or (ended names) (length (ended names) - 1) 0 ≡ 0
zero_ends [] h = refl
zero_ends (name ∷ names) h =
    let e : ended (name ∷ names) ≡ (ended (up (name ∷ names)) ++ last_name (name ∷ names)) ++ 0 ∷ [] =
    ended-up name names ∙ sym (append_assoc (ended (up (name ∷ names))) (last_name (name ∷ names)) (0 ∷ [])) in
    let front = ended (up (name ∷ names)) ++ last_name (name ∷ names) in
    let n : length (ended (name ∷ names)) - 1 ≡ length front = omega (arith, ap length e, length-append front (0 ∷ [])) in
    rw n (ap (λ bs. get_or bs (length front) 0) e ∙ get_or-append_seam front 0 [] 0)

up_is_shorter : (names : Names) → length (ended (up names)) ≤ length (ended names) - 1
up_is_shorter [] = omega arith
up_is_shorter (name ∷ names) =
    let l = last_name (name ∷ names) in
    omega (arith, ap length (ended-up name names), length-append (ended (up (name ∷ names))) (l ++ 0 ∷ []), length-append l (0 ∷ []))

-- going back from the end over bytes that aren't zero, one doesn't pass the end of that path
up_stays : (names : Names) (end : ℕ) → length (ended (up names)) ≤ end → 0 < end → end ≤ length (ended names) - 1
    → get_or (ended names) (end - 1) 0 ≢ 0 → length (ended (up names)) ≤ end - 1
up_stays [] end h some within other = omega arith
up_stays (name ∷ names) end h some within other =
    let front = ended (up (name ∷ names)) in
    let behind = last_name (name ∷ names) ++ 0 ∷ [] in
    let same : length front ≡ end → get_or (ended (name ∷ names)) (end - 1) 0 ≡ 0 = λ (e : length front ≡ end).
    ap (λ bs. get_or bs (end - 1) 0) (ended-up name names)
    ∙ get_or-append front behind 0 (end - 1) (omega arith)
    ∙ ap (λ n. get_or front (n - 1) 0) (sym e)
    ∙ zero_ends (up (name ∷ names)) (omega arith) in
    grind (arith, same)

-- where the going back has ended, that path ends
up_ends : (names : Names) (end : ℕ) → HaveNoZero names → length (ended (up names)) ≤ end → end ≤ length (ended names) - 1
    → (0 < end → get_or (ended names) (end - 1) 0 ≡ 0) → take end (ended names) ≡ ended (up names)
up_ends [] end h at within zero_there = let e : end ≡ 0 = omega arith in rw e refl
up_ends (name ∷ names) end h at within zero_there =
    let front = ended (up (name ∷ names)) in
    let l = last_name (name ∷ names) in
    let size = ap length (ended-up name names) ∙ length-append front (l ++ 0 ∷ []) in
    let size_behind = length-append l (0 ∷ []) in
    let above : length front < end → 0 < get_or (ended (name ∷ names)) (end - 1) 0 = λ (later : length front < end).
    let e : get_or (ended (name ∷ names)) (end - 1) 0 ≡ get_or l (end - 1 - length front) 0 =
    ap (λ bs. get_or bs (end - 1) 0) (ended-up name names)
    ∙ get_or-append_right front (l ++ 0 ∷ []) (end - 1) 0 (omega arith)
    ∙ get_or-append l (0 ∷ []) 0 (end - 1 - length front) (omega arith) in
    rw e (HasNoZero-at l (end - 1 - length front) (HasNoZero-last_name (name ∷ names) h) (omega arith)) in
    let same : end ≡ length front = grind (arith, above, zero_there) in
    rw same (ap (take (length front)) (ended-up name names) ∙ take-append_seam front (l ++ 0 ∷ []))

pub parent-begins : (bs : List ℕ) (n : ℕ) → Keeps bs n → length (ended (up (names_of bs))) ≤ length bs - 1
parent-begins bs n k = let e = up_is_shorter (names_of bs) in rw k.whole at e

pub parent-stays : (bs : List ℕ) (n end : ℕ) → Keeps bs n → length (ended (up (names_of bs))) ≤ end → 0 < end → end ≤ length bs - 1
    → get_or bs (end - 1) 0 ≢ 0 → length (ended (up (names_of bs))) ≤ end - 1
parent-stays bs n end k =
    rw k.whole at (up_stays (names_of bs) end)

pub parent-ends : (bs : List ℕ) (n end : ℕ) → Keeps bs n → length (ended (up (names_of bs))) ≤ end → end ≤ length bs - 1
    → (0 < end → get_or bs (end - 1) 0 ≡ 0) → take end bs ≡ ended (up (names_of bs))
parent-ends bs n end k =
    rw k.whole at (up_ends (names_of bs) end (HaveNoZero-names (names_of bs) k.path.named))

-- the front of the bytes keeps the path of what holds it
pub Keeps-up : (bs front : List ℕ) (n : ℕ) → Keeps bs n → front ≡ ended (up (names_of bs)) → Keeps front (n - 1)
Keeps-up bs front n k e =
    let p = Keeps-ended (up (names_of bs)) (IsPath-up (names_of bs) k.path) in
    let size : length (up (names_of bs)) ≡ n - 1 = length-up (names_of bs) ∙ ap (λ m. m - 1) k.counted in
    rw e (rw size at p)

pub names_of-up : (bs front : List ℕ) (n : ℕ) → Keeps bs n → front ≡ ended (up (names_of bs)) → names_of front ≡ up (names_of bs)
names_of-up bs front n k e =
    ap names_of e ∙ names_of-path (up (names_of bs)) (IsPath-up (names_of bs) k.path)

-- ---- the last name

count_not_root : (names : Names) → length names ≢ 0 → is_root names ≡ false
count_not_root [] some = absurd (some refl)
count_not_root (name ∷ names) some = refl

pub last_name-kept : (bs : List ℕ) (n from : ℕ) → Keeps bs n → n ≢ 0 → take from bs ≡ ended (up (names_of bs)) → from ≤ length bs - 1
    → names_of bs ≡ up (names_of bs) ++ take (length bs - 1 - from) (drop from bs) ∷ []
last_name-kept bs n from k some front within =
    let names = names_of bs in
    let last = last_name names in
    let not_root : is_root names ≡ false = count_not_root names (λ none. some (sym k.counted ∙ none)) in
    let parts = push-up names not_root in
    let bytes : bs ≡ ended (up names) ++ (last ++ 0 ∷ []) = sym k.whole ∙ ap ended (sym parts) ∙ ended-push (up names) last in
    let size : length (ended (up names)) ≡ from =
    ap (λ (xs : List ℕ). length xs) (sym front) ∙ length-take-le from bs (omega (arith, within)) in
    let rest : drop from bs ≡ last ++ 0 ∷ [] =
    ap (drop from) bytes ∙ ap (λ m. drop m (ended (up names) ++ (last ++ 0 ∷ []))) (sym size) ∙ drop-append_seam (ended (up names)) (last ++ 0 ∷ []) in
    let whole = ap (λ (xs : List ℕ). length xs) bytes ∙ length-append (ended (up names)) (last ++ 0 ∷ []) in
    let tail = length-append last (0 ∷ []) in
    let count : length bs - 1 - from ≡ length last = omega (arith, whole, tail, size) in
    let is : take (length bs - 1 - from) (drop from bs) ≡ last =
    ap (λ m. take m (drop from bs)) count ∙ ap (take (length last)) rest ∙ take-append_seam last (0 ∷ []) in
    sym parts ∙ ap (λ name. up names ++ name ∷ []) (sym is)
