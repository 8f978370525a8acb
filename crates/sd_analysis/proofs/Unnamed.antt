-- There is always a SID that neither descriptor names: more are numbered than named.
use Rattle.sd_analysis.proofs.Cited.{Ace, Bool, List, Ok, Option, Parts, Result, SidError, SidValue, [], ap, arith, cases_Bool, cond, entries_or_none, false, false_from_ne_true, has_sid, inl, inr, is_among, is_named, le-ltb, length, length-append, length-map, list_any, list_any-append, lt-ltb, map, ne_eqb, numbered, option_to_list, refl, same_sid, same_sid-true, sid_of, suc, sym, true, zero, ℕ, ◌%◌, ◌++◌, ◌+◌, ◌/◌, ◌<◌, ◌^◌, ◌||◌, ◌∙◌, ◌∷◌, ◌≡◌, ◌≤◌}

pub sid_made : (authority : ℕ) (subs : List ℕ) → authority < 2 ^ 48 → 0 < length subs → length subs ≤ 15 → sid_of authority subs ≡ Ok (record { authority = authority; subs = subs })
sid_made authority subs low some few = rw (ne_eqb (length subs) 0 (omega arith), le-ltb 15 (length subs) few, lt-ltb authority (2 ^ 48) low) refl

abbrev ok_sid : SidValue → Result SidValue SidError
ok_sid s = Ok s

pub the_sid : (s : SidValue) (authority : ℕ) (subs : List ℕ) → ok_sid s ≡ Ok (record { authority = authority; subs = subs }) → s ≡ record { authority = authority; subs = subs }
the_sid s authority subs e = cc

-- how many numbers below n pass
count : (ℕ → Bool) → ℕ → ℕ
count p zero = 0
count p (suc k) = cond (p k) 1 0 + count p k

one_either : (x y : Bool) (a b c : ℕ) → a ≤ b + c → cond (x || y) 1 0 + a ≤ (cond x 1 0 + b) + (cond y 1 0 + c)
one_either x y a b c h = grind arith

count_either : (p q : ℕ → Bool) (n : ℕ) → count (λ k. p k || q k) n ≤ count p n + count q n
unfolding count
count_either p q zero = omega arith
count_either p q (suc k) = let rest = count_either p q k in one_either (p k) (q k) _ _ _ rest

count_none : (p : ℕ → Bool) (n : ℕ) → ((k : ℕ) → k < n → p k ≡ false) → count p n ≡ 0
unfolding count
count_none p zero h = refl
count_none p (suc k) h = ap (λ x. cond x 1 0 + count p k) (h k (omega arith)) ∙ omega (arith, count_none p k (λ i low. h i (omega arith)))

count_all : (p : ℕ → Bool) (n : ℕ) → ((k : ℕ) → k < n → p k ≡ true) → count p n ≡ n
unfolding count
count_all p zero h = refl
count_all p (suc k) h = ap (λ x. cond x 1 0 + count p k) (h k (omega arith)) ∙ omega (arith, count_all p k (λ i low. h i (omega arith)))

count_once : (p : ℕ → Bool) (n : ℕ) → ((i k : ℕ) → p i ≡ true → p k ≡ true → i ≡ k) → count p n ≤ 1
unfolding count
count_once p zero once = omega arith
count_once p (suc k) once = elim (cases_Bool (p k)) [
  | inl here ↦
      let none : count p k ≡ 0 = count_none p k (λ i low. false_from_ne_true _ (λ there. let same : i ≡ k = once i k there here in absurd (omega arith))) in
      let eq : cond (p k) 1 0 + count p k ≡ 1 = ap (λ x. cond x 1 0 + count p k) here ∙ omega (arith, none) in omega (arith, eq)
  | inr not_here ↦
      let rest = count_once p k once in
      let eq : cond (p k) 1 0 + count p k ≡ count p k = ap (λ x. cond x 1 0 + count p k) not_here ∙ omega arith in omega (arith, eq, rest)
]

numbered_apart : (i k : ℕ) → numbered i ≡ numbered k → i ≡ k
numbered_apart i k h =
    let subs : i / 4294967296 ∷ i % 4294967296 ∷ [] ≡ k / 4294967296 ∷ k % 4294967296 ∷ [] = ap (λ (s : SidValue). s.subs) h in
    let high : i / 4294967296 ≡ k / 4294967296 = cc in
    let low : i % 4294967296 ≡ k % 4294967296 = cc in
    omega (arith, high, low)

count_among : (sids : List SidValue) (n : ℕ) → count (λ k. is_among sids (numbered k)) n ≤ length sids
count_among [] n = let none = count_none (λ k. is_among [] (numbered k)) n (λ k low. refl) in omega (arith, none)
count_among (s ∷ sids) n =
    let first = count_once (λ k. same_sid s (numbered k)) n (λ i k here there.
    numbered_apart i k (sym (same_sid-true s (numbered i) here) ∙ same_sid-true s (numbered k) there)) in
    let rest = count_among sids n in
    let both = count_either (λ k. same_sid s (numbered k)) (λ k. is_among sids (numbered k)) n in
    omega (arith, first, rest, both)

-- the SIDs that a descriptor names
names_of : Parts → List SidValue
names_of parts = option_to_list parts.owner ++ map (λ (e : Ace). e.sid) (entries_or_none parts.dacl)

entries_among : (es : List Ace) (s : SidValue) → list_any (λ (e : Ace). same_sid e.sid s) es ≡ is_among (map (λ (e : Ace). e.sid) es) s
entries_among [] s = refl
entries_among (e ∷ es) s = ap (λ x. same_sid e.sid s || x) (entries_among es s)

owner_among : (owner : Option SidValue) (s : SidValue) → has_sid owner s ≡ is_among (option_to_list owner) s
owner_among owner s = grind arith

named_among : (parts : Parts) (s : SidValue) → is_named parts s ≡ is_among (names_of parts) s
unfolding names_of
named_among parts s =
    ap (λ x. x || list_any (λ (e : Ace). same_sid e.sid s) (entries_or_none parts.dacl)) (owner_among parts.owner s)
    ∙ ap (λ x. is_among (option_to_list parts.owner) s || x) (entries_among (entries_or_none parts.dacl) s)
    ∙ sym (list_any-append (λ x. same_sid x s) (option_to_list parts.owner) (map (λ (e : Ace). e.sid) (entries_or_none parts.dacl)))

owner_length : (owner : Option SidValue) → length (option_to_list owner) ≤ 1
owner_length owner = grind arith

names_length : (parts : Parts) → length (names_of parts) ≤ length (entries_or_none parts.dacl) + 1
unfolding names_of
names_length parts =
    omega (
      arith,
      length-append (option_to_list parts.owner) (map (λ (e : Ace). e.sid) (entries_or_none parts.dacl)),
      length-map (entries_or_none parts.dacl) (λ (e : Ace). e.sid),
      owner_length parts.owner,
    )

-- so not all of these are named
pub one_unnamed : (old new : Parts) (n : ℕ) → ((k : ℕ) → k < n → (is_named old (numbered k) || is_named new (numbered k)) ≡ true)
    → (es ds : List Ace) → es ≡ entries_or_none old.dacl → ds ≡ entries_or_none new.dacl → length es + length ds + 2 < n → ⊥
one_unnamed old new n all es ds is_es is_ds many =
    let whole = count_all (λ k. is_named old (numbered k) || is_named new (numbered k)) n all in
    let both = count_either (λ k. is_named old (numbered k)) (λ k. is_named new (numbered k)) n in
    let first : count (λ k. is_named old (numbered k)) n ≤ length (names_of old) =
    rw (ap (λ p. count p n) (λ i k. named_among old (numbered k) i)) (count_among (names_of old) n) in
    let second : count (λ k. is_named new (numbered k)) n ≤ length (names_of new) =
    rw (ap (λ p. count p n) (λ i k. named_among new (numbered k) i)) (count_among (names_of new) n) in
    omega (arith, whole, both, first, second, names_length old, names_length new, ap length is_es, ap length is_ds, many)

pub named_more : (old new : Parts) (n : ℕ) → ((k : ℕ) → k < n → (is_named old (numbered k) || is_named new (numbered k)) ≡ true)
    → (is_named old (numbered n) || is_named new (numbered n)) ≡ true
    → (k : ℕ) → k < n + 1 → (is_named old (numbered k) || is_named new (numbered k)) ≡ true
named_more old new n k h j k2 = grind arith
