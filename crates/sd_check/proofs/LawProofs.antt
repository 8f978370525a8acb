-- The proofs of the laws.
use Rattle.std.proofs.Common.{◌≡◌, ℕ, ◌^◌, ◌<◌, Bool, true, false, ◌&&◌, ◌||◌, not, ◌==◌, nat_lt, cond, List, [], ◌∷◌, ◌++◌, Option, Some, None, inl, inr, refl, sym, ◌∙◌, ap, arith, find}
use Rattle.sd_check.proofs.Cited.{and_parts, ltb-true, cases_Bool, cases_eq, or_left, or_right, false≢true, lt-ltb, ne_eqb, cond-true, cond-false, and-false, bit_at-pow_same, bit_at-pow_other, bit_at-zero, holds, MappingValue, mapped, SidValue, same_sid-true, holds_place, holds-mask_of, mask_of-alike, is_allow, is_inherit_only, decides, is_allowed_by, is_limit, first, limits_owner, subject, judged, missing_of, joined_with, reserved_of, without_maximum, applies, applies_again, stands_for_subject, is_granted, is_given, is_listed, Ace, AceKind, Allow, Deny, Verdict, Granted, Denied, TokenValue, AllByRecursion, list_any, or_cases, le-ltb, find-append, list_any-append, option_or}
use Rattle.sd_sid.specs.Mask.{mask_of}
use Rattle.std.proofs.Math.Pow.{pow_pos}
use Rattle.std.proofs.lemmas.Nat.{pow_below}
use Rattle.sd_check.specs.Laws.{FirstEntryDecides, SilentEntryChangesNothing, IsSilent, GrantsWhatWasAsked, MaximumIsEachByItself, DeniedMaximumIsNone, NothingBeyondMaximum, EnabledGroupTakesNothing, NamesNot, with_group, EntriesGrantRightsAlone}
use Rattle.sd_check.proofs.LowMasks.{judged_low, no_places}

-- ---- the first entry that settles a bit

find_skips : {X : Type 0} (p : X → Bool) (before rest : List X) → AllByRecursion (λ x. p x ≡ false) before → find p (before ++ rest) ≡ find p rest
find_skips p [] rest h = refl
find_skips p (x ∷ xs) rest h = rw h.0 (find_skips p xs rest h.1)

pub first_entry_decides : FirstEntryDecides
first_entry_decides g who before after e b none settles =
    ap (λ o. nat_lt b 21 && is_allowed_by o) (find_skips (decides g who b) before (e ∷ after) none ∙ cond-true _ _ _ settles)

-- ---- an entry without a part

-- tests that agree everywhere are one
pub one_test : (p q : ℕ → Bool) → ((b : ℕ) → p b ≡ q b) → p ≡ q
one_test p q h = λ i b. h b i

-- for a list the verdict rests on which bits are granted
judged_list : MappingValue → (ℕ → Bool) → ℕ → Verdict
judged_list g p r = judged g p (mask_of (λ b. nat_lt b 21 && p b) 32) r

module _ (owner : Option SidValue) (before after : List Ace) (e : Ace) (g : MappingValue) (t : TokenValue) (silent : IsSilent t owner e) where
  same_limits : limits_owner (Some (before ++ e ∷ after)) ≡ limits_owner (Some (before ++ after))
  same_limits = list_any-append is_limit before (e ∷ after) ∙ ap (λ b. list_any is_limit before || (b || list_any is_limit after)) silent.limits_not ∙ sym (list_any-append is_limit before after)

  same_first : (who : AceKind → SidValue → Bool) → (not (is_inherit_only e) && who e.kind e.sid) ≡ false → (b : ℕ) → first g who (before ++ e ∷ after) b ≡ first g who (before ++ after) b
  same_first who none b =
      find-append (decides g who b) before (e ∷ after)
      ∙ ap (option_or (first g who before b)) (cond-false _ _ _ (ap (λ x. x && holds (mapped g e.mask) b) none))
      ∙ sym (find-append (decides g who b) before after)

  same_grants : (b : ℕ) → is_granted owner (Some (before ++ e ∷ after)) g t b ≡ is_granted owner (Some (before ++ after)) g t b
  same_grants b = grind (arith, same_first (applies t owner) silent.applies_not b, same_first (applies_again t owner) silent.applies_not_again b, same_limits)

pub silent_entry_changes_nothing : SilentEntryChangesNothing
unfolding judged_list
silent_entry_changes_nothing owner before after e g t r silent =
    ap (λ p. judged_list g p r) (one_test _ _ (same_grants owner before after e g t silent))

-- ---- what was asked for

pub grants_what_was_asked : GrantsWhatWasAsked
grants_what_was_asked owner dacl g t r m plain granted = grind (arith, plain, granted)

-- ---- MAXIMUM_ALLOWED

reserved_at_maximum : reserved_of (2 ^ 25) ≡ 0
unfolding mask_of
reserved_at_maximum = refl

mapped_at_maximum : (g : MappingValue) → mapped g (without_maximum (2 ^ 25)) ≡ 0
unfolding mask_of
mapped_at_maximum g = refl

nothing_missing : (p : ℕ → Bool) → missing_of p 0 ≡ 0
unfolding mask_of
nothing_missing p = refl

at_maximum : (g : MappingValue) (p : ℕ → Bool) (most m : ℕ) → judged g p most (2 ^ 25) ≡ Granted m → m ≡ joined_with 0 most
at_maximum g p most m e =
    let one = rw (reserved_at_maximum, mapped_at_maximum g, nothing_missing p) at e in
    grind (arith, one)

denied_at_maximum : (g : MappingValue) (p : ℕ → Bool) (most m : ℕ) → judged g p most (2 ^ 25) ≡ Denied m → joined_with 0 most ≡ 0
denied_at_maximum g p most m e =
    let one = rw (reserved_at_maximum, mapped_at_maximum g, nothing_missing p) at e in
    grind (arith, one)

-- which places MAXIMUM_ALLOWED takes in, from which bits are granted
most_holds : (p : ℕ → Bool) (b : ℕ) → holds (joined_with 0 (mask_of (λ k. nat_lt k 21 && p k) 32)) b ≡ (nat_lt b 32 && (nat_lt b 32 && (nat_lt b 21 && p b)))
most_holds p b =
    grind (
      arith,
      holds-mask_of (λ k. holds 0 k || holds (mask_of (λ i. nat_lt i 21 && p i) 32) k) 32 b,
      holds-mask_of (λ i. nat_lt i 21 && p i) 32 b,
      ap (λ n. n == 1) (bit_at-zero b),
    )

-- and which it takes in below place 21
low_most_holds : (p : ℕ → Bool) (b : ℕ) → b < 21 → holds (joined_with 0 (mask_of (λ k. nat_lt k 21 && p k) 32)) b ≡ p b
low_most_holds p b low =
    grind (arith, most_holds p b, lt-ltb b 32 (omega arith), lt-ltb b 21 low)

-- a single bit is missing where it isn't granted
none_missing : (p : ℕ → Bool) (b : ℕ) → p b ≡ true → missing_of p (2 ^ b) ≡ 0
none_missing p b given = mask_of-alike _ (λ k. false) 32 (λ k h. elim (cases_eq k b) [
  | inl same ↦ rw (same, given) (and-false (holds (2 ^ b) b))
  | inr other ↦ ap (λ n. n == 1 && not (p k)) (bit_at-pow_other b k other)
]) ∙ no_places

one_missing : (p : ℕ → Bool) (b : ℕ) → b < 32 → p b ≡ false → (missing_of p (2 ^ b) == 0) ≡ false
one_missing p b low refused = ne_eqb _ 0 (λ none.
    let held : holds (missing_of p (2 ^ b)) b ≡ true =
    holds_place (λ k. holds (2 ^ b) k && not (p k)) b low ∙ ap (λ n. n == 1 && not (p b)) (bit_at-pow_same b) ∙ ap not refused in
    false≢true (sym (ap (λ n. n == 1) (bit_at-zero b)) ∙ sym (ap (λ n. holds n b) none) ∙ held))

alone : (g : MappingValue) (p : ℕ → Bool) (most b : ℕ) → b < 21
    → judged g p most (2 ^ b) ≡ cond (missing_of p (2 ^ b) == 0) (Granted (2 ^ b)) (Denied (missing_of p (2 ^ b)))
alone g p most b low =
    let some : (2 ^ b == 0) ≡ false = ne_eqb (2 ^ b) 0 (λ e. let some : 0 < 2 ^ b = pow_pos b in absurd (omega arith)) in
    judged_low g p most (2 ^ b) some (pow_below b 21 low) ∙ cond-false _ _ _ some

pub maximum_is_each_by_itself : MaximumIsEachByItself
unfolding judged_list
maximum_is_each_by_itself owner es g t m b granted low =
    let p = is_granted owner (Some es) g t in
    let held : holds m b ≡ p b =
    ap (λ n. holds n b) (at_maximum g p _ m granted) ∙ low_most_holds p b low in
    let one = alone g p (mask_of (λ k. nat_lt k 21 && p k) 32) b low in (
      λ is. one ∙ ap (λ n. cond (n == 0) (Granted (2 ^ b)) (Denied n)) (none_missing p b (sym held ∙ is)),
      λ is. grind (arith, is, one, held, one_missing p b (omega arith)),
    )

pub denied_maximum_is_none : DeniedMaximumIsNone
unfolding judged_list
denied_maximum_is_none owner es g t missing m b denied low is =
    let p = is_granted owner (Some es) g t in
    let most = mask_of (λ k. nat_lt k 21 && p k) 32 in
    let nothing : joined_with 0 most ≡ 0 = denied_at_maximum g p most missing denied in
    let refused : p b ≡ false = sym (low_most_holds p b low) ∙ ap (λ n. holds n b) nothing ∙ ap (λ n. n == 1) (bit_at-zero b) in
    grind (arith, is, alone g p most b low, one_missing p b (omega arith) refused)

pub nothing_beyond_maximum : NothingBeyondMaximum
unfolding judged_list
nothing_beyond_maximum owner es g t m b granted high =
    let p = is_granted owner (Some es) g t in
    grind (arith, ap (λ n. holds n b) (at_maximum g p _ m granted), most_holds p b, le-ltb b 21 high)

pub ruleset on_maximum = (maximum_is_each_by_itself, nothing_beyond_maximum)

-- ---- one more group

-- with one more enabled group a token stands for all that it did
stands_more : (t : TokenValue) (s : SidValue) (kind : AceKind) (who : Option SidValue)
    → stands_for_subject t kind who ≡ true → stands_for_subject (with_group t s) kind who ≡ true
stands_more t s kind None h = h
stands_more t s kind (Some x) h = grind (arith, h)

-- and what it stands for now alone is the group
stands_new : (t : TokenValue) (s : SidValue) (kind : AceKind) (who : Option SidValue)
    → stands_for_subject (with_group t s) kind who ≡ true → stands_for_subject t kind who ≡ false → who ≡ Some s
stands_new t s kind None h none = absurd cc
stands_new t s kind (Some x) h none = ap Some (sym (same_sid-true s x (grind (arith, h, none))))

kind_denies : (kind : AceKind) → is_allow kind ≡ false → kind ≡ Deny
kind_denies Allow h = absurd cc
kind_denies Deny h = refl

module _ (g : MappingValue) (owner : Option SidValue) (t : TokenValue) (s : SidValue) (b : ℕ) where
  -- an entry that settles the bit for the larger token alone is an allow
  new_entry_allows : (e : Ace) → NamesNot g owner s b e → decides g (applies t owner) b e ≡ false → decides g (applies (with_group t s) owner) b e ≡ true
      → is_allow e.kind ≡ true
  new_entry_allows e names before now = elim (cases_Bool (is_allow e.kind)) [
    | inl allows ↦ allows
    | inr denies ↦ absurd (names (grind (arith, now)) (kind_denies e.kind denies) (grind (arith, now))
        (stands_new t s e.kind (subject owner e.sid) (grind (arith, now)) (grind (arith, now, before))))
  ]

  first_still_allows : (es : List Ace) → AllByRecursion (NamesNot g owner s b) es
      → is_allowed_by (first g (applies t owner) es b) ≡ true → is_allowed_by (first g (applies (with_group t s) owner) es b) ≡ true
  first_still_allows [] names h = h
  first_still_allows (e ∷ es) names h =
      elim (cases_Bool (decides g (applies t owner) b e)) [
        | inl settles ↦ grind (arith, h, settles, stands_more t s e.kind (subject owner e.sid))
        | inr passes ↦ grind (arith, h, passes, new_entry_allows e names.0 passes, first_still_allows es names.1)
      ]

pub enabled_group_takes_nothing : EnabledGroupTakesNothing
enabled_group_takes_nothing owner es g t s b names granted =
    elim (or_cases (is_listed owner (Some es) g t b) (is_given owner (Some es) t b) granted) [
      | inl listed ↦ let still : is_listed owner (Some es) g (with_group t s) b ≡ true = grind (arith, listed, first_still_allows g owner t s b es names) in
          or_left _ _ still
      | inr given ↦ let still : is_given owner (Some es) (with_group t s) b ≡ true = grind (arith, given, stands_more t s Allow owner) in or_right _ _ still
    ]

-- ---- what comes from no entry

pub entries_grant_rights_alone : EntriesGrantRightsAlone
entries_grant_rights_alone g who None b h = ltb-true b 21 h
entries_grant_rights_alone g who (Some es) b h = ltb-true b 21 (and_parts (nat_lt b 21) (is_allowed_by (first g who es b)) h).0
