-- That SIDs compare as their values do, though they are kept with zeros behind the sub-authorities.
use Rattle.sd_sid.proofs.Cited.{Equal, Greater, Inside, IsPadded, IsSid, Less, List, Ordering, SidValue, [], and-false, and_assoc, and_from, and_parts, ap, arith, bytes_decides, bytes_eq, cond, eq-eqb, eqb-suc-suc, eqb-suc-zero, eqb-true, eqb-zero-suc, ext_get_or, fields_of, get_or, get_or-take, le-ltb, leb-suc-suc, length, length-append, length-replicate, length-take-le, lt-ltb, nat_cmp, nat_eq, nat_lt, ordering_then, parts_come_back, refl, replicate, same_sid, sid_cmp, slice_cmp, suc, sym, take, true, value_of, zero, ℕ, ◌&&◌, ◌++◌, ◌+◌, ◌-◌, ◌<◌, ◌==◌, ◌∙◌, ◌∷◌, ◌≡◌, ◌≤◌}

zeros_equal : (m : ℕ) → bytes_eq (replicate m 0) (replicate m 0) ≡ true
zeros_equal zero = refl
zeros_equal (suc m) = zeros_equal m

-- lists padded to one length are equal, with their lengths, where the lists are
padded_equal : (xs ys : List ℕ) (m n : ℕ) → length xs + m ≡ length ys + n
    → (bytes_eq (xs ++ replicate m 0) (ys ++ replicate n 0) && nat_eq (length xs) (length ys)) ≡ bytes_eq xs ys
padded_equal [] [] m n e = let same : m ≡ n = omega arith in rw same (ap (λ b. b && true) (zeros_equal n))
padded_equal [] (y ∷ ys) m n e = ap (λ b. bytes_eq (replicate m 0) (y ∷ (ys ++ replicate n 0)) && b) (eqb-zero-suc (length ys)) ∙ and-false _
padded_equal (x ∷ xs) [] m n e = ap (λ b. bytes_eq (x ∷ (xs ++ replicate m 0)) (replicate n 0) && b) (eqb-suc-zero (length xs)) ∙ and-false _
padded_equal (x ∷ xs) (y ∷ ys) m n e =
    and_assoc (nat_eq x y) (bytes_eq (xs ++ replicate m 0) (ys ++ replicate n 0)) (nat_eq (suc (length xs)) (suc (length ys)))
    ∙ ap (λ b. nat_eq x y && b)
    (ap (λ b. bytes_eq (xs ++ replicate m 0) (ys ++ replicate n 0) && b) (eqb-suc-suc (length xs) (length ys))
    ∙ padded_equal xs ys m n (omega arith))

pub equal_by_value : (a b : SidValue) → IsSid a → IsSid b
    → (nat_eq a.authority b.authority && (bytes_eq (a.subs ++ replicate (15 - length a.subs) 0) (b.subs ++ replicate (15 - length b.subs) 0) && nat_eq (length a.subs) (length b.subs)))
    ≡ same_sid a b
equal_by_value a b ha hb =
    ap (λ t. nat_eq a.authority b.authority && t)
    (padded_equal a.subs b.subs (15 - length a.subs) (15 - length b.subs) (omega (arith, ha.few, hb.few)))

then_assoc : (a b c : Ordering) → ordering_then (ordering_then a b) c ≡ ordering_then a (ordering_then b c)
then_assoc Less b c = refl
then_assoc Equal b c = refl
then_assoc Greater b c = refl

zero_below : (n : ℕ) → nat_cmp zero (suc n) ≡ Less
zero_below n = ap (λ b. cond b Less (cond (0 == suc n) Equal Greater)) (lt-ltb 0 (suc n) (omega arith))

zero_above : (n : ℕ) → nat_cmp (suc n) zero ≡ Greater
zero_above n =
    ap (λ b. cond b Less (cond (suc n == 0) Equal Greater)) (le-ltb (suc n) 0 (omega arith))
    ∙ ap (λ b. cond b Equal Greater) (eqb-suc-zero n)

both_more : (m n : ℕ) → nat_cmp (suc m) (suc n) ≡ nat_cmp m n
both_more m n =
    ap (λ b. cond b Less (cond (suc m == suc n) Equal Greater)) (leb-suc-suc (suc m) n)
    ∙ ap (λ b. cond (nat_lt m n) Less (cond b Equal Greater)) (eqb-suc-suc m n)

-- zeros come before any list of their length, and none comes before them
zeros_first : (m : ℕ) (zs : List ℕ) → length zs ≡ m → ordering_then (slice_cmp nat_cmp (replicate m 0) zs) Less ≡ Less
zeros_first zero [] e = refl
zeros_first zero (z ∷ zs) e = absurd (omega arith)
zeros_first (suc m) [] e = absurd (omega arith)
zeros_first (suc m) (zero ∷ zs) e = zeros_first m zs (omega arith)
zeros_first (suc m) (suc z ∷ zs) e = ap (λ o. ordering_then (ordering_then o (slice_cmp nat_cmp (replicate m 0) zs)) Less) (zero_below z)

zeros_last : (m : ℕ) (zs : List ℕ) → length zs ≡ m → ordering_then (slice_cmp nat_cmp zs (replicate m 0)) Greater ≡ Greater
zeros_last zero [] e = refl
zeros_last zero (z ∷ zs) e = absurd (omega arith)
zeros_last (suc m) [] e = absurd (omega arith)
zeros_last (suc m) (zero ∷ zs) e = zeros_last m zs (omega arith)
zeros_last (suc m) (suc z ∷ zs) e = ap (λ o. ordering_then (ordering_then o (slice_cmp nat_cmp zs (replicate m 0))) Greater) (zero_above z)

-- zeros are one list where they are as many
zeros_tie : (m n : ℕ) → m ≡ n → slice_cmp nat_cmp (replicate m 0) (replicate n 0) ≡ Equal
zeros_tie zero zero e = refl
zeros_tie zero (suc n) e = absurd (omega arith)
zeros_tie (suc m) zero e = absurd (omega arith)
zeros_tie (suc m) (suc n) e = zeros_tie m n (omega arith)

padded_length : (xs : List ℕ) (m n : ℕ) → length xs + m ≡ 0 + n → length (xs ++ replicate m 0) ≡ n
padded_length xs m n e = omega (arith, length-append xs (replicate m 0), length-replicate {A = ℕ} m 0)

-- lists padded to one length, and then their lengths, are ordered as the lists are
padded_cmp : (xs ys : List ℕ) (m n : ℕ) → length xs + m ≡ length ys + n
    → ordering_then (slice_cmp nat_cmp (xs ++ replicate m 0) (ys ++ replicate n 0)) (nat_cmp (length xs) (length ys)) ≡ slice_cmp nat_cmp xs ys
padded_cmp [] [] m n e = ap (λ o. ordering_then o Equal) (zeros_tie m n (omega arith))
padded_cmp [] (y ∷ ys) m n e =
    ap (ordering_then (slice_cmp nat_cmp (replicate m 0) ((y ∷ ys) ++ replicate n 0))) (zero_below (length ys))
    ∙ zeros_first m ((y ∷ ys) ++ replicate n 0) (padded_length (y ∷ ys) n m (sym e))
padded_cmp (x ∷ xs) [] m n e =
    ap (ordering_then (slice_cmp nat_cmp ((x ∷ xs) ++ replicate m 0) (replicate n 0))) (zero_above (length xs))
    ∙ zeros_last n ((x ∷ xs) ++ replicate m 0) (padded_length (x ∷ xs) m n e)
padded_cmp (x ∷ xs) (y ∷ ys) m n e =
    then_assoc (nat_cmp x y) (slice_cmp nat_cmp (xs ++ replicate m 0) (ys ++ replicate n 0)) (nat_cmp (suc (length xs)) (suc (length ys)))
    ∙ ap (ordering_then (nat_cmp x y))
    (ap (ordering_then (slice_cmp nat_cmp (xs ++ replicate m 0) (ys ++ replicate n 0))) (both_more (length xs) (length ys))
    ∙ padded_cmp xs ys m n (omega arith))

pub ordered_by_value : (a b : SidValue) → IsSid a → IsSid b
    → ordering_then (nat_cmp a.authority b.authority)
    (ordering_then (slice_cmp nat_cmp (a.subs ++ replicate (15 - length a.subs) 0) (b.subs ++ replicate (15 - length b.subs) 0)) (nat_cmp (length a.subs) (length b.subs)))
    ≡ sid_cmp a b
ordered_by_value a b ha hb =
    ap (ordering_then (nat_cmp a.authority b.authority))
    (padded_cmp a.subs b.subs (15 - length a.subs) (15 - length b.subs) (omega (arith, ha.few, hb.few)))

-- SIDs that pass the test are one
pub same_sid-true : (a b : SidValue) → same_sid a b ≡ true → a ≡ b
same_sid-true a b h =
    let parts = and_parts (nat_eq a.authority b.authority) (bytes_eq a.subs b.subs) h in
    let authority = eqb-true a.authority b.authority parts.0 in
    let subs = (bytes_decides a.subs b.subs).0 parts.1 in
    λ i. record { authority = authority i; subs = subs i }

-- and a SID passes it with itself
pub same_sid-itself : (s : SidValue) → same_sid s s ≡ true
same_sid-itself s = and_from (nat_eq s.authority s.authority) (bytes_eq s.subs s.subs) (eq-eqb s.authority s.authority refl) ((bytes_decides s.subs s.subs).1 refl)

-- SIDs that pass the test have the same fields
pub same_fields : (a b : Inside) → IsPadded a.authority a.subs a.count → IsPadded b.authority b.subs b.count
    → same_sid (value_of a) (value_of b) ≡ true → a ≡ b
same_fields a b ha hb h =
    sym (parts_come_back a ha) ∙ ap fields_of (same_sid-true (value_of a) (value_of b) h) ∙ parts_come_back b hb

-- lists with the same first five numbers

first_same : (xs ys : List ℕ) → get_or xs 0 0 ≡ get_or ys 0 0 → get_or xs 1 0 ≡ get_or ys 1 0 → get_or xs 2 0 ≡ get_or ys 2 0
    → get_or xs 3 0 ≡ get_or ys 3 0 → get_or xs 4 0 ≡ get_or ys 4 0
    → (i : ℕ) → i < 5 → get_or xs i 0 ≡ get_or ys i 0
first_same xs ys a b c d e zero h = a
first_same xs ys a b c d e (suc zero) h = b
first_same xs ys a b c d e (suc (suc zero)) h = c
first_same xs ys a b c d e (suc (suc (suc zero))) h = d
first_same xs ys a b c d e (suc (suc (suc (suc zero)))) h = e
first_same xs ys a b c d e (suc (suc (suc (suc (suc i))))) h = absurd (omega (arith, h))

-- SIDs of at most five numbers are the same where these are, the authorities and the counts
pub few_same : (a b : Inside) → IsPadded a.authority a.subs a.count → IsPadded b.authority b.subs b.count
    → get_or a.subs 0 0 ≡ get_or b.subs 0 0 → get_or a.subs 1 0 ≡ get_or b.subs 1 0 → get_or a.subs 2 0 ≡ get_or b.subs 2 0
    → get_or a.subs 3 0 ≡ get_or b.subs 3 0 → get_or a.subs 4 0 ≡ get_or b.subs 4 0
    → a.authority ≡ b.authority → a.count ≡ b.count → a.count ≤ 5 → same_sid (value_of a) (value_of b) ≡ true
few_same a b ha hb e0 e1 e2 e3 e4 authority count few =
    let long : length (take a.count a.subs) ≡ a.count = length-take-le a.count a.subs (omega (arith, ha.few, ha.room)) in
    let as_long : length (take a.count b.subs) ≡ a.count = length-take-le a.count b.subs (omega (arith, ha.few, hb.room)) in
    let subs : take a.count a.subs ≡ take a.count b.subs =
    ext_get_or 0 (take a.count a.subs) (take a.count b.subs) (long ∙ sym as_long)
    (λ i h. get_or-take a.count a.subs i 0 (omega (arith, h, long))
    ∙ first_same a.subs b.subs e0 e1 e2 e3 e4 i (omega (arith, h, long, few))
    ∙ sym (get_or-take a.count b.subs i 0 (omega (arith, h, long)))) in
    let same : value_of a ≡ value_of b =
    λ i. record { authority = authority i; subs = (subs ∙ ap (λ n. take n b.subs) count) i } in
    ap (same_sid (value_of a)) (sym same) ∙ same_sid-itself (value_of a)
