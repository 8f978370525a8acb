-- The printed text of a SID is read as the SID.
use Rattle.sd_text.proofs.Cited.{Aliases, All, All-head, All-tail, AllByRecursion, IsNumeral, IsSid, List, Name, None, Ok, Option, SidValue, Some, [], alias_in, and-false, ap, append-nil, append_assoc, arith, begins, begins_digit, codes, common_steps, dash, decimal, decimal_is_IsNumeral, digit_value, digits_is_IsNumeral, digits_value, drop, eq_ignore_ascii_case, false, find, flat_map, hex, inl, inr, length, lit<, lt-ltb, named, nat_lt, nat_tests, number, refl, replicate, rules, sub_canon, subs_of, subst, suc, sym, unwrap_or, zero, ℕ, ◌++◌, ◌+◌, ◌-◌, ◌<◌, ◌^◌, ◌∙◌, ◌∷◌, ◌≡◌, ◌≤◌}
use Rattle.sd_text.specs.Alias.{aliases}
use Rattle.sd_text.specs.Sid.{sub, authority, sid}
use Rattle.sd_text.specs.Canon.{authority_canon, full_canon, sid_canon}
use Rattle.sd_text.proofs.Parts.{went}
use Rattle.sd_text.proofs.Engine.{spells_find}
use Rattle.sd_text.proofs.Tables.{alias_row}
use Rattle.sd_text.proofs.Loops.{reaches_start, item_more}
use Rattle.sd_text.proofs.Sids.{SubsReach, subs_end}

-- what may stand behind a SID
pub record Stops (rest : List ℕ) : Type 0 where
  pub no_digit : begins_digit 10 rest ≡ false
  pub no_dash : begins rest (codes "-") ≡ false

-- ---- numbers

pub number_read : (head : List ℕ) (radix limit n : ℕ) (ds rest : List ℕ) → IsNumeral radix ds → digits_value radix ds ≡ n → n < limit → begins_digit radix rest ≡ false → drop (length head) (head ++ (ds ++ rest)) ≡ ds ++ rest → find (number (length head) radix limit) (head ++ (ds ++ rest)) ≡ Ok (n, rest)
number_read head radix limit n ds rest numeral same lt ends behind =
    spells_find (number (length head) radix limit) (head ++ (ds ++ rest)) n rest (ds, record { parts = behind; numeral = numeral; whole = ends }, sym same, lt)

pub decimal_read : (limit n : ℕ) (rest : List ℕ) → n < limit → n < 2 ^ 64 → begins_digit 10 rest ≡ false → find (number 0 10 limit) (decimal n ++ rest) ≡ Ok (n, rest)
decimal_read limit n rest lt fits ends = let digits = decimal_is_IsNumeral n fits in number_read [] 10 limit n (decimal n) rest digits.0 digits.1 lt ends refl

-- ---- sub-authorities

sub_read : (before n : ℕ) (rest : List ℕ) → before < 15 → n < 2 ^ 32 → begins_digit 10 rest ≡ false → find (sub before) (decimal n ++ rest) ≡ Ok (n, rest)
unfolding sub
sub_read before n rest few lt ends = rw (lt-ltb before 15 few) (decimal_read (2 ^ 32) n rest lt (omega arith) ends)

subs_stop : (subs rest : List ℕ) → begins_digit 10 rest ≡ false → begins_digit 10 (flat_map sub_canon subs ++ rest) ≡ false
subs_stop [] rest ends = ends
subs_stop (n ∷ subs) rest ends = refl

subs_read : (start done subs rest : List ℕ) → length done + length subs ≤ 15 → All (λ n. n < 2 ^ 32) subs → begins_digit 10 rest ≡ false → SubsReach start done (flat_map sub_canon subs ++ rest) → SubsReach start (done ++ subs) rest
subs_read start done [] rest few words ends reached = rw (append-nil done) reached
subs_read start done (n ∷ subs) rest few words ends reached =
    let regroup : flat_map sub_canon (n ∷ subs) ++ rest ≡ 45 ∷ (decimal n ++ (flat_map sub_canon subs ++ rest)) = ap (λ (xs : List ℕ). 45 ∷ xs) (append_assoc (decimal n) (flat_map sub_canon subs) rest) in
    let here : SubsReach start done (45 ∷ (decimal n ++ (flat_map sub_canon subs ++ rest))) = subst (λ text. SubsReach start done text) regroup reached in
    let one = sub_read (length done) n (flat_map sub_canon subs ++ rest) (omega arith) (All-head (λ m. m < 2 ^ 32) n subs words) (subs_stop subs rest ends) in
    let more = item_more here refl one in
    rw (sym (append_assoc done (n ∷ []) subs)) (subs_read start (done ++ n ∷ []) subs rest (omega (arith, length_push done n)) (All-tail (λ m. m < 2 ^ 32) n subs words) ends more)
  where
    length_push : (xs : List ℕ) (m : ℕ) → length (xs ++ m ∷ []) ≡ length xs + 1
    length_push xs m = grind (arith, common_steps)

sid_subs_read : (auth : ℕ) (n : ℕ) (subs rest : List ℕ) → length (n ∷ subs) ≤ 15 → All (λ m. m < 2 ^ 32) (n ∷ subs) → Stops rest → find (subs_of auth) (flat_map sub_canon (n ∷ subs) ++ rest) ≡ Ok (record { authority = auth; subs = n ∷ subs }, rest)
sid_subs_read auth n subs rest few words stops =
    let start = flat_map sub_canon (n ∷ subs) ++ rest in
    subs_end auth refl (subs_read start [] (n ∷ subs) rest (omega arith) words stops.no_digit (reaches_start dash (λ before u. sub (length before)) start)) stops.no_dash

-- ---- authorities

-- a decimal number is no head of a hexadecimal one
not_x : (d : ℕ) → digit_value d < 10 → eq_ignore_ascii_case d 88 ≡ false
not_x d lt = grind (arith, nat_tests)

no_head : (ds tail : List ℕ) → IsNumeral 10 ds → begins (ds ++ 45 ∷ tail) (codes "0X") ≡ false
no_head [] tail n = absurd (let some = n.0 in omega arith)
no_head (d ∷ []) tail n = and-false (eq_ignore_ascii_case d 48)
no_head (d ∷ e ∷ ds) tail n = rw (not_x e n.1.1.0) (and-false (eq_ignore_ascii_case d 48))

-- leading zeros change nothing
zeros_read : (k : ℕ) (ds : List ℕ) → IsNumeral 16 ds → IsNumeral 16 (replicate k 48 ++ ds) × (digits_value 16 (replicate k 48 ++ ds) ≡ digits_value 16 ds)
zeros_read zero ds numeral = (numeral, refl)
zeros_read (suc k) ds numeral = let rest = zeros_read k ds numeral in ((omega arith, (lit< tt, rest.0.1)), rest.1)

authority_read : (n : ℕ) (tail : List ℕ) → n < 2 ^ 48 → find authority (authority_canon n ++ 45 ∷ tail) ≡ Ok (n, 45 ∷ tail)
unfolding authority authority_canon
authority_read n tail lt =
    elim (went (nat_lt n (2 ^ 32))) [
      | inl h ↦ rw (h, no_head (decimal n) tail (decimal_is_IsNumeral n (omega arith)).0) (decimal_read (2 ^ 48) n (45 ∷ tail) lt (omega arith) refl)
      | inr h ↦
          let digits = digits_is_IsNumeral 16 false (omega arith) (omega arith) n (omega arith) in
          let zeros = 12 - length (hex n) in
          let padded = zeros_read zeros (hex n) digits.0 in
          rw h (number_read (codes "0x") 16 (2 ^ 48) n (replicate zeros 48 ++ hex n) (45 ∷ tail) padded.0 (padded.1 ∙ digits.1) lt refl refl)
    ]

-- ---- SIDs

AliasReads : Name SidValue → Type 0
AliasReads name = (rest : List ℕ) → (begins (name.letters ++ rest) (codes "S-1-") ≡ false) × (named aliases (name.letters ++ rest) ≡ Some (name.stands_for, rest))

alias_rows : AllByRecursion AliasReads aliases
unfolding aliases AliasReads
alias_rows = search rules

pub sid_read : (known : Aliases) (s : SidValue) (rest : List ℕ) → IsSid s → Stops rest → find (sid known) (sid_canon s ++ rest) ≡ Ok (s, rest)
unfolding sid sid_canon full_canon AliasReads
sid_read known s rest is stops = by_alias (alias_in aliases s) refl
  where
    in_full : (auth : ℕ) (subs : List ℕ) → IsSid (record { authority = auth; subs = subs }) → find (sid known) (full_canon (record { authority = auth; subs = subs }) ++ rest) ≡ Ok (record { authority = auth; subs = subs }, rest)
    in_full auth [] h = absurd (let some = h.some in omega arith)
    in_full auth (n ∷ subs) h =
        let regroup = append_assoc (authority_canon auth) (flat_map sub_canon (n ∷ subs)) rest in
        let tail = decimal n ++ flat_map sub_canon subs ++ rest in
        rw (regroup, authority_read auth tail h.authority) (sid_subs_read auth n subs rest h.few h.words stops)

    by_alias : (found : Option (List ℕ)) → alias_in aliases s ≡ found → find (sid known) (unwrap_or found (full_canon s) ++ rest) ≡ Ok (s, rest)
    by_alias None e = in_full s.authority s.subs is
    by_alias (Some letters) e =
        let row = alias_row AliasReads aliases s letters alias_rows e in
        let reads = row.1 rest in
        rw (sym row.2, reads.0, reads.1, row.3) refl
