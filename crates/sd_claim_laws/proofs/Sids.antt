-- The printed SID of a claim is parsed as the SID's text in full, which the claim has.
use Rattle.std.proofs.lemmas.List.{length-append}
use Rattle.std.proofs.Common.{Err, List, None, Ok, Option, Some, [], arith, inl, inr, length, refl, subst, sym, true, ℕ, ◌++◌, ◌+◌, ◌<◌, ◌^◌, ◌∷◌, ◌≡◌, ◌≤◌}
use Rattle.std.specs.Prelude.{Bool, codes, nat_le, nat_lt, not, ◌&&◌, ◌==◌}
use Rattle.std.specs.List.{AllByRecursion, list_all}
use Rattle.std.specs.Option.{option_map}
use Rattle.std.specs.Str.{bytes_eq}
use Rattle.std.proofs.lemmas.Bool.{and_parts, eqb-false, leb-true, ltb-true, not-true}
use Rattle.std.proofs.lemmas.List.Elements.{All-from_recursion}
use Rattle.std.proofs.lemmas.Slice.Eq.{bytes_eq-Decides}
use Rattle.sd_sid.specs.Sid.{IsSid, SidValue}
use Rattle.sd_text.proofs.CanonSids.{Stops, sid_read}
use Rattle.sd_text.proofs.Engine.{find_spells}
use Rattle.sd_text.proofs.Parts.{chosen}
use Rattle.sd_text.proofs.Tables.{named_all}
use Rattle.sd_text.specs.Alias.{aliases, in_domain}
use Rattle.sd_text.specs.Canon.{full_canon, sid_canon}
use Rattle.sd_text.specs.Finding.{Found, find}
use Rattle.sd_text.specs.Grammar.{Items, Name, begins, named, spells}
use Rattle.sd_text.specs.Sid.{authority, dash, domain_alias, no_alias, sid, sub, subs_of}
use Rattle.sd_text.specs.declared.alias.Aliases.{Aliases}
use Rattle.sd_claim_text.specs.Value.{full_sid_found, sid_if_full, sid_of}
use Rattle.sd_claim_laws.proofs.Closing.{Closing, closed, comma, parenthesis}

-- ---- what is parsed as a SID is one

-- a test that a SID's numbers fit
abbrev fits : SidValue → Bool
fits s = nat_lt s.authority (2 ^ 48) && not (length s.subs == 0) && nat_le (length s.subs) 15 && list_all (λ n. nat_lt n (2 ^ 32)) s.subs

all_low : (subs : List ℕ) → list_all (λ n. nat_lt n (2 ^ 32)) subs ≡ true → AllByRecursion (λ n. n < 2 ^ 32) subs
all_low [] e = tt
all_low (n ∷ subs) e = let both = and_parts (nat_lt n (2 ^ 32)) (list_all (λ n. nat_lt n (2 ^ 32)) subs) e in (ltb-true n (2 ^ 32) both.0, all_low subs both.1)

is_sid : (s : SidValue) → fits s ≡ true → IsSid s
is_sid s e =
    let last = and_parts (nat_lt s.authority (2 ^ 48) && not (length s.subs == 0) && nat_le (length s.subs) 15) (list_all (λ n. nat_lt n (2 ^ 32)) s.subs) e in
    let few = and_parts (nat_lt s.authority (2 ^ 48) && not (length s.subs == 0)) (nat_le (length s.subs) 15) last.0 in
    let some = and_parts (nat_lt s.authority (2 ^ 48)) (not (length s.subs == 0)) few.0 in
    record {
      authority = ltb-true s.authority (2 ^ 48) some.0;
      some = let other = eqb-false (length s.subs) 0 (not-true _ some.1) in omega arith;
      few = leb-true (length s.subs) 15 few.1;
      words = All-from_recursion (λ n. n < 2 ^ 32) s.subs (all_low s.subs last.1);
    }

alias_rows : list_all (λ (name : Name SidValue). fits name.stands_for) aliases ≡ true
unfolding aliases
alias_rows = refl

each_alias : (names : List (Name SidValue)) → list_all (λ (name : Name SidValue). fits name.stands_for) names ≡ true → AllByRecursion (λ (name : Name SidValue). IsSid name.stands_for) names
each_alias [] e = tt
each_alias (name ∷ names) e = let both = and_parts (fits name.stands_for) (list_all (λ (each : Name SidValue). fits each.stands_for) names) e in (is_sid name.stands_for both.0, each_alias names both.1)

-- each sub-authority is one more of at most fifteen
subs_fit : (before : List ℕ) (text : List ℕ) (subs : List ℕ) (behind : List ℕ) → length before ≤ 15 → Items dash (λ earlier u. spells (sub (length earlier))) before text subs behind
    → (length before + length subs ≤ 15) × AllByRecursion (λ n. n < 2 ^ 32) subs
unfolding sub
subs_fit before text [] behind few items = (omega arith, tt)
subs_fit before text (n ∷ subs) behind few items =
    elim items.4 [
      | inl h ↦
          let lt = ltb-true (length before) 15 h.0 in
          let small : n < 2 ^ 32 = h.1.3 in
          let push : length (before ++ n ∷ []) ≡ length before + 1 = length_push before n in
          let later = subs_fit (before ++ n ∷ []) items.2 subs behind (omega arith) items.5 in
          (omega (arith, later.0), (small, later.1))
      | inr h ↦ absurd (elim h.1 [ inl k ↦ k.1 | inr k ↦ k.1 ])
    ]
  where
    length_push : (xs : List ℕ) (m : ℕ) → length (xs ++ m ∷ []) ≡ length xs + 1
    length_push xs m = length-append xs (m ∷ [])

-- there is one at least
one_sub : (text : List ℕ) (subs behind : List ℕ) → begins text (codes "-") ≡ true → Items dash (λ earlier u. spells (sub (length earlier))) [] text subs behind → named dash behind ≡ None → 0 < length subs
one_sub text [] behind opens items none = absurd (let here : named dash text ≡ None = rw items at none in let there = rw opens at here in cc)
one_sub text (n ∷ subs) behind opens items none = omega arith

full_is_sid : (number : ℕ) (text : List ℕ) (s : SidValue) (behind : List ℕ) → number < 2 ^ 48 → spells (subs_of number) text s behind → IsSid s
unfolding subs_of
full_is_sid number text s behind lt spelt =
    elim spelt.2 [
      | inl h ↦
          let items = subs_fit [] text spelt.0 spelt.1 (omega arith) h.1.0 in
          let some = one_sub text spelt.0 spelt.1 h.0 h.1.0 h.1.1 in
          subst IsSid (sym spelt.3.0) (record { authority = lt; some = some; few = omega (arith, items.0); words = All-from_recursion (λ n. n < 2 ^ 32) spelt.0 items.1 })
      | inr h ↦ absurd h.1
    ]

authority_fits : (text : List ℕ) (n : ℕ) (behind : List ℕ) → spells authority text n behind → n < 2 ^ 48
unfolding authority
authority_fits text n behind spelt = elim spelt [ inl h ↦ h.1.3 | inr h ↦ h.1.3 ]

found_sid : (text : List ℕ) (s : SidValue) (behind : List ℕ) → find (sid (in_domain None)) text ≡ Ok (s, behind) → IsSid s
unfolding sid domain_alias no_alias
found_sid text s behind e =
    elim (find_spells (sid (in_domain None)) text s behind e) [
      | inl h ↦
          let number = h.1.3 in
          full_is_sid number.0 number.1 s behind (authority_fits h.1.1 number.0 number.1 number.2) number.3
      | inr h ↦ elim h.1 [
        | inl k ↦ named_all IsSid aliases text s behind (each_alias aliases alias_rows) k
        | inr k ↦ elim k.1 [
          | inl l ↦ absurd (let no : None ≡ Some (s, behind) = l in cc)
          | inr l ↦ absurd (elim l.1 [ inl m ↦ m.1 | inr m ↦ elim m.1 [ inl n ↦ n.1 | inr n ↦ n.1 ] ])
        ]
      ]
    ]

-- ---- the text in full

stops : (c : Closing) (rest : List ℕ) → Stops (closed c rest)
stops comma rest = record { no_digit = refl; no_dash = refl }
stops parenthesis rest = record { no_digit = refl; no_dash = refl }

-- the SID whose text in full the octets are
in_full : (octets : List ℕ) (s : SidValue) (r : Found SidValue) → find (sid (in_domain None)) octets ≡ r → sid_if_full octets r ≡ Some s → IsSid s × (full_canon s ≡ octets)
in_full octets s (Ok x) found e =
    elim (chosen (bytes_eq (full_canon x.0) octets) _ _ _ e) [
      | inl h ↦
          let same : x.0 ≡ s = cc (h.1) in
          (subst IsSid same (found_sid octets x.0 x.1 found), rw same at ((bytes_eq-Decides (full_canon x.0) octets).0 h.0))
      | inr h ↦ absurd (let no = h.1 in cc)
    ]
in_full octets s (Err d) found e = absurd cc

pub sid_back : (known : Aliases) (octets text : List ℕ) (c : Closing) (rest : List ℕ) → option_map sid_canon (sid_of octets) ≡ Some text → full_sid_found known (text ++ closed c rest) ≡ Ok (octets, closed c rest)
unfolding sid_of
sid_back known octets text c rest e = by_sid (sid_of octets) refl e
  where
    by_sid : (o : Option SidValue) → sid_of octets ≡ o → option_map sid_canon o ≡ Some text → full_sid_found known (text ++ closed c rest) ≡ Ok (octets, closed c rest)
    by_sid None is printed = absurd cc
    by_sid (Some s) is printed =
        let full = in_full octets s (find (sid (in_domain None)) octets) refl is in
        let same : sid_canon s ≡ text = cc (printed) in
        rw (sym same, sid_read known s (closed c rest) full.0 (stops c rest), full.1) refl
