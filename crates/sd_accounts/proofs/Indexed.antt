-- The index of the direct memberships, as it grows.
use Rattle.std.proofs.Common.{◌≡◌, ◌++◌, ◌+◌, ◌<◌, ◌≤◌, ◌∙◌, ℕ, inl, inr, List, [], ◌∷◌, Bool, true, false, cond, Option, Some, None, get_or, length, map, take, refl, ap, sym, subst, arith}
use Rattle.std.proofs.lemmas.List.{append-nil, append_assoc, get_or-append-add, get_or-map, get_or_append_left, length-append, length-map, map-append, take_more}
use Rattle.std.proofs.lemmas.List.Elements.{Contains-append_left, Contains-append_right, Contains-get_or, Contains-push, Contains-push_cases, filter_map-append}
use Rattle.std.specs.Global.{Vec}
use Rattle.indexmap.proofs.CallerLemmas.{insert_entry-new}
use Rattle.std.proofs.lemmas.Bool.{cases_lt, lt-ltb}
use Rattle.std.proofs.lemmas.List.Quantifiers.{position-Some}
use Rattle.std.proofs.lemmas.Map.Keys.{apart_from_distinct}
use Rattle.std.specs.List.{Contains, IsDistinct, cons_option, position, position_or_len}
use Rattle.std.specs.Map.{keys_of, lookup}
use Rattle.std.specs.Option.{option_to_list, unwrap_or}
use Rattle.std.specs.Prelude.{if◌then◌else◌, is_some}
use Rattle.indexmap.specs.IndexMap.{IndexMap, IsEmpty, Updates, get, get_by, insert_entry, keys}
use Rattle.sd_sid.specs.Sid.{SidValue, same_sid}
use Rattle.sd_accounts.specs.Index.{AreApart, AreWithin, Grows, IsIndexOf, IsSound, direct_groups, group_in, groups_at, kept, nobody, numbers_at, sid_at, sids_at}
use Rattle.sd_accounts.specs.Kept.{all_rows, row_of}
use Rattle.sd_accounts.specs.declared.row.Row.{Row}
use Rattle.sd_accounts.specs.Row.{Member}
use Rattle.sd_accounts.proofs.Direct.{nothing_in}
use Rattle.sd_accounts.proofs.Sids.{sid_eq, sid_eq-true, sid_eq-same, sid_test}

-- ---- lists by a function

pub in_map : {A B : Type 0} (f : A → B) (xs : List A) (x : A) → Contains xs x → Contains (map f xs) (f x)
in_map f xs x (k, low, at) = (k, omega (arith, length-map xs f), get_or-map f xs k x (f x) low ∙ ap f at)

pub from_map : {B : Type 0} (f : ℕ → B) (xs : List ℕ) (y : B) → Contains (map f xs) y → (x : ℕ) × Contains xs x × (f x ≡ y)
from_map f xs y (k, low, at) =
    let within : k < length xs = omega (arith, length-map xs f, low) in
    (get_or xs k 0, Contains-get_or xs k 0 within, sym (get_or-map f xs k 0 y within) ∙ at)

-- SIDs that `==` finds apart are two
pub apart : (keys : List SidValue) → IsDistinct sid_eq keys → AreApart keys
apart keys once i j d less low = sym (sid_eq-same (get_or keys i d) (get_or keys j d)) ∙ apart_from_distinct sid_eq keys i j d once less low

-- ---- keys that grow

entries_grow : (es : List (SidValue × Vec ℕ)) (k : SidValue) (v : Vec ℕ) → Grows (keys_of es) (keys_of (insert_entry sid_eq es k v))
entries_grow [] k v = (k ∷ [], refl)
entries_grow (e ∷ es) k v = by (sid_eq k e.0) refl (entries_grow es k v)
  where
    by : (b : Bool) → sid_eq k e.0 ≡ b → Grows (keys_of es) (keys_of (insert_entry sid_eq es k v)) → Grows (keys_of (e ∷ es)) (keys_of (insert_entry sid_eq (e ∷ es) k v))
    by true is rest = subst (λ t. Grows (keys_of (e ∷ es)) (keys_of (if t then (e.0, v) ∷ es else e ∷ insert_entry sid_eq es k v))) (sym is) ([], sym (append-nil (keys_of (e ∷ es))))
    by false is rest = subst (λ t. Grows (keys_of (e ∷ es)) (keys_of (if t then (e.0, v) ∷ es else e ∷ insert_entry sid_eq es k v))) (sym is) (rest.0, ap (λ l. e.0 ∷ l) rest.1)

pub grown : {S : Type 0} (old new : IndexMap SidValue (Vec ℕ) S) (k : SidValue) (v : Vec ℕ) → new.entries ≡ insert_entry sid_eq old.entries k v → Grows (keys old) (keys new)
grown old new k v is = subst (λ es. Grows (keys old) (keys_of es)) (sym is) (entries_grow old.entries k v)

pub grow_on : (one two three : List SidValue) → Grows one two → Grows two three → Grows one three
grow_on one two three first second = (first.0 ++ second.0, second.1 ∙ ap (λ l. l ++ second.0) first.1 ∙ append_assoc one first.0 second.0)

pub longer : (old new : List SidValue) → Grows old new → length old ≤ length new
longer old new grows = omega (arith, ap length grows.1, length-append old grows.0)

pub sid_stays : (old new : List SidValue) (n : ℕ) → Grows old new → n < length old → sid_at new n ≡ sid_at old n
sid_stays old new n grows low = ap (λ l. sid_at l n) grows.1 ∙ get_or_append_left old grows.0 nobody n low

pub sids_stay : (old new : List SidValue) (ns : List ℕ) → Grows old new → AreWithin old ns → sids_at new ns ≡ sids_at old ns
sids_stay old new [] grows low = refl
sids_stay old new (n ∷ ns) grows low =
    ap (λ s. s ∷ sids_at new ns) (sid_stays old new n grows (low n (Contains-append_left (n ∷ []) ns n (Contains-push [] n))))
    ∙ ap (λ l. sid_at old n ∷ l) (sids_stay old new ns grows (λ m at. low m (Contains-append_right (n ∷ []) ns m at)))

-- ---- a SID's number

pub nothing : {A : Type 0} (o : Option A) → false ≡ is_some o → o ≡ None
nothing None e = refl
nothing (Some x) e = cc

-- a key has its place
pub key_found : (keys : List SidValue) (sid : SidValue) (n : ℕ) → position (sid_eq sid) keys ≡ Some n → (n < length keys) × (sid_at keys n ≡ sid)
key_found keys sid n is = let at = position-Some (sid_eq sid) keys n nobody is in (at.0, sym (sid_eq-true sid (sid_at keys n) at.1))

-- a new key has the next one
pub key_added : {S : Type 0} (old new : IndexMap SidValue (Vec ℕ) S) (sid : SidValue) (value : Vec ℕ) (n : ℕ) → get sid_eq old sid ≡ None → position (sid_eq sid) (keys old) ≡ None
    → new.entries ≡ insert_entry sid_eq old.entries sid value → n ≡ position_or_len (sid_eq sid) (keys old) → n < length new.entries
    → (n < length (keys new)) × (sid_at (keys new) n ≡ sid)
key_added old new sid value n none nowhere entries is within =
    let low : n < length (keys new) = omega (arith, within, length-map new.entries (λ (e : SidValue × Vec ℕ). e.0)) in
    let more : keys new ≡ keys old ++ sid ∷ [] = ap keys_of (entries ∙ insert_entry-new sid_eq old sid value none) ∙ map-append (λ (e : SidValue × Vec ℕ). e.0) old.entries ((sid, value) ∷ []) in
    let past : length (keys old) ≤ n = elim (cases_lt (position_or_len (sid_eq sid) (keys old)) (length (keys old))) [
      | inl before ↦
          let found : position (sid_eq sid) (keys old) ≡ Some (position_or_len (sid_eq sid) (keys old)) =
          ap (λ b. cond b (Some (position_or_len (sid_eq sid) (keys old))) None) (lt-ltb _ (length (keys old)) before) in
          cc (found, nowhere)
      | inr over ↦ omega (arith, over, is)
    ] in
    let last : n ≡ length (keys old) + 0 = omega (arith, low, past, ap length more, length-append (keys old) (sid ∷ [])) in
    (low, ap (λ l. sid_at l n) more ∙ ap (sid_at (keys old ++ sid ∷ [])) last ∙ get_or-append-add (keys old) (sid ∷ []) 0 nobody)

-- ---- a group is added

module _ {S : Type 0} where
  -- what is found at a member
  pub numbers_found : (index : IndexMap SidValue (Vec ℕ) S) (m : SidValue) → kept (get sid_eq index m) ≡ numbers_at index m
  numbers_found index m = ap (λ test. kept (get_by test index)) (sid_test m)

  -- a value that takes the place of another
  pub numbers_put : (old new : IndexMap SidValue (Vec ℕ) S) (member m : SidValue) (value : Vec ℕ) → Updates sid_eq old new member (Some value)
      → (b : Bool) → sid_eq member m ≡ b → numbers_at new m ≡ (if b then value.items else numbers_at old m)
  numbers_put old new member m value put true e = sym (numbers_found new m) ∙ ap kept (put.0 m ∙ ap (λ t. cond t (Some value) (get sid_eq old m)) e)
  numbers_put old new member m value put false e =
      sym (numbers_found new m) ∙ ap kept (put.0 m ∙ ap (λ t. cond t (Some value) (get sid_eq old m)) e) ∙ numbers_found old m

  -- a new key has no groups
  pub none_put : (old new : IndexMap SidValue (Vec ℕ) S) (group : SidValue) (value : Vec ℕ) → value.items ≡ [] → get sid_eq old group ≡ None
      → Updates sid_eq old new group (Some value) → (m : SidValue) → numbers_at new m ≡ numbers_at old m
  none_put old new group value empty none put m = by (sid_eq group m) refl
    where
      by : (b : Bool) → sid_eq group m ≡ b → numbers_at new m ≡ numbers_at old m
      by true e =
          numbers_put old new group m value put true e ∙ empty ∙ ap kept (sym none) ∙ ap (λ s. kept (get sid_eq old s)) (sid_eq-true group m e) ∙ numbers_found old m
      by false e = numbers_put old new group m value put false e

  module _ (old mid next new : IndexMap SidValue (Vec ℕ) S) (member group : SidValue) (none groups : Vec ℕ) (number : ℕ) (sound : IsSound old)
      (emptied : Updates sid_eq old mid member (Some none)) (kept_on : (m : SidValue) → numbers_at next m ≡ numbers_at mid m)
      (put : Updates sid_eq next new member (Some groups)) (more : groups.items ≡ numbers_at old member ++ number ∷ [])
      (grows : Grows (keys old) (keys new)) (low : number < length (keys new)) (is : sid_at (keys new) number ≡ group) where
    numbers_now : (m : SidValue) (b : Bool) → sid_eq member m ≡ b → numbers_at new m ≡ numbers_at old m ++ option_to_list (if b then Some number else None)
    numbers_now m true e = numbers_put next new member m groups put true e ∙ more ∙ ap (λ s. numbers_at old s ++ number ∷ []) (sid_eq-true member m e)
    numbers_now m false e =
        numbers_put next new member m groups put false e ∙ kept_on m ∙ numbers_put old mid member m none emptied false e ∙ sym (append-nil (numbers_at old m))

    -- the SIDs of what is kept now
    shown : (m : SidValue) (b : Bool) → sids_at (keys new) (numbers_at old m ++ option_to_list (if b then Some number else None))
        ≡ groups_at old m ++ option_to_list (if b then Some group else None)
    shown m true =
        map-append (sid_at (keys new)) (numbers_at old m) (number ∷ []) ∙ ap (λ l. l ++ sid_at (keys new) number ∷ []) (sids_stay (keys old) (keys new) (numbers_at old m) grows (sound.within m))
        ∙ ap (λ s. groups_at old m ++ s ∷ []) is
    shown m false =
        ap (sids_at (keys new)) (append-nil (numbers_at old m)) ∙ sids_stay (keys old) (keys new) (numbers_at old m) grows (sound.within m) ∙ sym (append-nil (groups_at old m))

    pub groups_added : (m : SidValue) → groups_at new m ≡ groups_at old m ++ option_to_list (group_in m (Member group member))
    groups_added m =
        ap (sids_at (keys new)) (numbers_now m (sid_eq member m) refl) ∙ shown m (sid_eq member m)
        ∙ ap (λ t. groups_at old m ++ option_to_list (if t then Some group else None)) (sid_eq-same member m)

    pub within_added : (m : SidValue) → AreWithin (keys new) (numbers_at new m)
    within_added m n at = by (sid_eq member m) (subst (λ l. Contains l n) (numbers_now m (sid_eq member m) refl) at)
      where
        was : Contains (numbers_at old m) n → n < length (keys new)
        was there = omega (arith, sound.within m n there, longer (keys old) (keys new) grows)

        by : (b : Bool) → Contains (numbers_at old m ++ option_to_list (if b then Some number else None)) n → n < length (keys new)
        by true there = elim (Contains-push_cases (numbers_at old m) number n there) [
          | inl before ↦ was before
          | inr same ↦ subst (λ k. k < length (keys new)) same low
        ]
        by false there = was (subst (λ l. Contains l n) (append-nil (numbers_at old m)) there)

-- what was kept, or a new list without any
pub kept_or : (groups : Option (Vec ℕ)) (new : Vec ℕ) → new.items ≡ [] → (unwrap_or groups new).items ≡ kept groups
kept_or None new empty = empty
kept_or (Some groups) new empty = refl

alone : (o : Option SidValue) → option_to_list o ≡ cons_option o []
alone None = refl
alone (Some x) = refl

-- the index of one more row
pub row_added : {S : Type 0} (old new : IndexMap SidValue (Vec ℕ) S) (rows : List Row) (i : ℕ) (row : Row) → i < length rows → row ≡ get_or rows i row
    → IsIndexOf old (all_rows (take i rows)) → IsSound new → ((m : SidValue) → groups_at new m ≡ groups_at old m ++ option_to_list (group_in m (row_of row)))
    → IsIndexOf new (all_rows (take (i + 1) rows))
row_added old new rows i row low is before sound step = record {
  sound = sound;
  groups = λ m.
      let taken : all_rows (take (i + 1) rows) ≡ all_rows (take i rows) ++ row_of row ∷ [] =
      ap all_rows (take_more rows i row low ∙ ap (λ r. take i rows ++ r ∷ []) (sym is)) ∙ map-append row_of (take i rows) (row ∷ []) in
      step m ∙ ap (λ gs. gs ++ option_to_list (group_in m (row_of row))) (before.groups m)
      ∙ ap (λ gs. direct_groups (all_rows (take i rows)) m ++ gs) (alone (group_in m (row_of row)))
      ∙ sym (filter_map-append (group_in m) (all_rows (take i rows)) (row_of row ∷ [])) ∙ ap (λ rs. direct_groups rs m) (sym taken);
}

-- the index of no rows
pub none_indexed : {S : Type 0} (index : IndexMap SidValue (Vec ℕ) S) → IsEmpty index → IsIndexOf index []
none_indexed index empty = record {
  sound = record {
    within = λ m n at. absurd (nothing_in n (subst (λ l. Contains l n) (none m) at));
    apart = λ i j d less low. absurd (omega (arith, less, low, ap length no_keys));
  };
  groups = λ m. ap (sids_at (keys index)) (none m);
}
  where
    no_keys : keys index ≡ []
    no_keys = ap keys_of empty

    none : (m : SidValue) → numbers_at index m ≡ []
    none m = ap (λ es. kept (lookup (same_sid m) es)) empty
