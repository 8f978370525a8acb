-- The SIDs of a search, their places in its table, and what the table's walks say of them.
use Rattle.sd_analysis.proofs.Cited.{AreBeforeAndAfter, ArePlaced, BeforeAndAfter, Case, HasRoom, IsCase, IsOtherSid, IsPlace, List, Option, Pass, SidValue, Some, [], ap, arith, false≢true, get_or, get_or-append-add, get_or-map, get_or_append_left, get_or_read, holds, inl, inr, is_among, length, length-append, length-map, listed_of, new_of, old_of, place_in, point_at, sids_in, sids_of, subst, sym, take, take-append-le, true, ℕ, ◌+◌, ◌<◌, ◌∙◌, ◌∷◌, ◌≡◌}
use Rattle.sd_analysis.proofs.Tables.{among_at, among_left, among_right, first_or_before, place_low}

module _ (case : Case) (is : IsCase case) where
  place_at : (n : ℕ) (d : SidValue) → n < length (sids_in case) → get_or case.table.places.items n 0 ≡ place_in (sids_in case) (get_or (sids_in case) n d)
  place_at n d low = ap (λ xs. get_or xs n 0) is.table.places ∙ get_or-map (place_in (sids_in case)) (sids_in case) n d 0 low

  pub sids_long : length (sids_in case) ≡ length case.allowed.items + length case.denied.items
  sids_long = length-append case.allowed.items case.denied.items

  pub places_long : length case.table.places.items ≡ length (sids_in case)
  places_long = ap length is.table.places ∙ length-map (sids_in case) (place_in (sids_in case))

  allowed_at : (i : ℕ) (s : SidValue) → i < length case.allowed.items → s ≡ get_or case.allowed.items i s → get_or (sids_in case) i s ≡ s
  allowed_at i s low at = get_or_append_left case.allowed.items case.denied.items s i low ∙ sym at

  inside : (i : ℕ) → i < length case.allowed.items → i < length (sids_in case)
  inside i low = let long = sids_long in omega (arith, long, low)

  pub allowed_inside : (i : ℕ) → i < length case.allowed.items → i < length case.table.places.items
  allowed_inside i low = let long = sids_long in let places = places_long in omega (arith, long, places, low)

  -- an allowed SID at its own place
  pub allowed_place : (i : ℕ) (s : SidValue) → i < length case.allowed.items → s ≡ get_or case.allowed.items i s
      → get_or case.table.places.items i 0 ≡ i → IsPlace case s i
  allowed_place i s low at own = record {
    among = among_left case.allowed.items case.denied.items s (ap (is_among case.allowed.items) at ∙ among_at case.allowed.items i s low);
    at = ap (place_in (sids_in case)) (sym (allowed_at i s low at)) ∙ sym (place_at i s (inside i low)) ∙ own;
  }

  -- one at another place was tried before
  pub allowed_before : (i : ℕ) (s : SidValue) → i < length case.allowed.items → s ≡ get_or case.allowed.items i s
      → (get_or case.table.places.items i 0 ≡ i → ⊥) → is_among (take i case.allowed.items) s ≡ true
  allowed_before i s low at other = elim (first_or_before (sids_in case) i s (inside i low)) [
    | inl own ↦ absurd (other (place_at i s (inside i low) ∙ own))
    | inr before ↦
        ap (λ xs. is_among xs s) (sym (take-append-le i case.allowed.items case.denied.items (omega (arith, low))))
        ∙ ap (is_among (take i (sids_in case))) (sym (allowed_at i s low at)) ∙ before
  ]

  pub denied_place : (i at : ℕ) (s : SidValue) → i < length case.denied.items → s ≡ get_or case.denied.items i s
      → at ≡ get_or case.table.places.items (length case.allowed.items + i) 0 → IsPlace case s at
  denied_place i at s low here is_at = record {
    among = among_right case.allowed.items case.denied.items s (ap (is_among case.denied.items) here ∙ among_at case.denied.items i s low);
    at = ap (place_in (sids_in case)) (here ∙ sym (get_or-append-add case.allowed.items case.denied.items i s))
        ∙ sym (place_at (length case.allowed.items + i) s (let long = sids_long in omega (arith, long, low))) ∙ sym is_at;
  }

module _ (case : Case) (is : IsCase case) where
  -- a denied SID's place, by the list of SIDs that a loop takes
  pub denied_at : (sids : List SidValue) → sids ≡ case.denied.items → (i n at : ℕ) (s : SidValue) → i < length sids → s ≡ get_or sids i s
      → n ≡ length case.allowed.items + i → at ≡ get_or case.table.places.items n at → IsPlace case s at
  denied_at sids same i n at s low here is_n read =
      let inside : i < length case.denied.items = subst (λ xs. i < length xs) same low in
      let long = sids_long case is in
      let places = places_long case is in
      denied_place case is i at s inside (here ∙ ap (λ xs. get_or xs i s) same)
      (get_or_read case.table.places.items n at (omega (arith, inside, is_n, long, places)) read 0 ∙ ap (λ k. get_or case.table.places.items k 0) is_n)

place_inside : (case : Case) (s : SidValue) (place : ℕ) → IsPlace case s place → place < length (sids_in case)
place_inside case s place is = subst (λ n. n < length (sids_in case)) is.at (place_low (sids_in case) s is.among)

pub is_beside : (case : Case) (s : SidValue) (place : ℕ) → IsPlace case s place → IsOtherSid (sids_in case) (Some s) (Some place)
is_beside case s place is = record {
  at = ap Some (sym is.at);
  among = λ one same. let eq : s ≡ one = some_same s one same in ap (is_among (sids_in case)) (sym eq) ∙ is.among;
}
  where
    some_same : (x y : SidValue) → Some x ≡ Some y → x ≡ y
    some_same x y same = cc

-- what the walks say of a SID at its place
module _ (case : Case) (pass : Pass) (other_sid : Option SidValue) (both : BeforeAndAfter)
    (are : AreBeforeAndAfter case.mapping.now case.base.now (sids_in case) (old_of case) (new_of case) pass other_sid both) where
  pub both_room : HasRoom case both
  both_room = record { before = are.before.room; after = are.after.room }

  pub are_placed : (s : SidValue) (place : ℕ) → IsPlace case s place → ArePlaced case pass (sids_of other_sid s) both place
  are_placed s place is =
      let inside = place_inside case s place is in
      let before = are.before.room in
      let after = are.after.room in record {
        room_before = omega (arith, inside, before);
        room_after = omega (arith, inside, after);
        before = λ b low. ap (λ n. holds (listed_of (point_at both.before n)) b) (sym is.at) ∙ are.before.listed s b is.among low;
        after = λ b low. ap (λ n. holds (listed_of (point_at both.after n)) b) (sym is.at) ∙ are.after.listed s b is.among low;
      }

-- no SID is among none
pub among_none : (sids : List SidValue) (s : SidValue) → length sids ≡ 0 → is_among sids s ≡ true → ⊥
among_none [] s none h = false≢true h
among_none (x ∷ sids) s none h = omega (arith, none)
