-- The rest of a list, as a slice: what is read at its front is what is read at its place in the bytes.
use Rattle.sd_wire.proofs.Cited.{Ace, AceKind, EntrySize, Err, List, Ok, Result, SidValue, WireFault, all_named, ap, arith, bit_and, cases_lt, cond, drop, drop-drop, drop-take, false, front_read, get_or, get_or-drop, get_or-take, inl, inr, kind_read, le-ltb, length, length-drop, length-take-le, lt-ltb, ltb-false, nat_lt, not, passed, refl, sid_read, suc, sym, take, take-take, u16_at, u32_at, zero, zero-add, ℕ, ◌%◌, ◌+◌, ◌-◌, ◌<◌, ◌==◌, ◌>>=◌, ◌∙◌, ◌≡◌, ◌≤◌}
use Rattle.sd_wire.specs.Reading.{entries_of, entries_read, entry_read}
use Rattle.sd_wire.proofs.Found.{bound, good, good_is}

-- a part of a part
pub part_of_rest : (xs : List ℕ) (at end i j : ℕ) → i ≤ j → j ≤ end - at
    → take (j - i) (drop i (take (end - at) (drop at xs))) ≡ take (at + j - (at + i)) (drop (at + i) xs)
part_of_rest xs at end i j order within =
    let whole : end - at ≡ i + (end - at - i) = omega arith in
    let same : at + j - (at + i) ≡ j - i = omega arith in
    ap (λ n. take (j - i) (drop i (take n (drop at xs)))) whole
    ∙ ap (take (j - i)) (drop-take i (end - at - i) (drop at xs) ∙ ap (take (end - at - i)) (drop-drop i at xs))
    ∙ take-take (j - i) (end - at - i) (drop (at + i) xs) (omega arith)
    ∙ ap (λ n. take n (drop (at + i) xs)) (sym same)

module _ (bytes : List ℕ) (at end : ℕ) where
  abbrev rest : List ℕ
  rest = take (end - at) (drop at bytes)

  byte : (i j : ℕ) → i < end - at → j ≡ at + i → get_or rest i 0 ≡ get_or bytes j 0
  byte i j low is = get_or-take (end - at) (drop at bytes) i 0 low ∙ get_or-drop at bytes i 0 ∙ ap (λ k. get_or bytes k 0) (sym is)

  size_same : 4 ≤ end - at → u16_at rest 2 ≡ u16_at bytes (at + 2)
  size_same long = rw (byte 2 (at + 2) (omega arith) refl, byte 3 (at + 2 + 1) (omega arith) (omega arith)) refl

  mask_same : 8 ≤ end - at → u32_at rest 4 ≡ u32_at bytes (at + 4)
  mask_same long =
      rw (
        byte 4 (at + 4) (omega arith) refl,
        byte 5 (at + 4 + 1) (omega arith) (omega arith),
        byte 6 (at + 4 + 2) (omega arith) (omega arith),
        byte 7 (at + 4 + 3) (omega arith) (omega arith),
      ) refl

  -- the entry at the front of the rest is that at the place
  pub entry_in_rest : at ≤ end → entry_read rest 0 (end - at) ≡ entry_read bytes at end
  unfolding entry_read
  entry_in_rest order = elim (cases_lt (end - at) 4) as (λ _. entry_read rest 0 (end - at) ≡ entry_read bytes at end) [
    | inl short ↦ rw (lt-ltb (end - at) 4 short, lt-ltb end (at + 4) (omega arith)) refl
    | inr long ↦
        let size = u16_at bytes (at + 2) in
        let none : nat_lt (end - at) 4 ≡ false = le-ltb (end - at) 4 long in
        let also : nat_lt end (at + 4) ≡ false = le-ltb end (at + 4) (omega arith) in
        elim (cases_lt (end - at) size) as (λ _. entry_read rest 0 (end - at) ≡ entry_read bytes at end) [
          | inl past ↦ rw (none, also, size_same long, zero-add size, lt-ltb (end - at) size past, lt-ltb end (at + size) (omega arith)) refl
          | inr fits ↦
              let inside : nat_lt (end - at) size ≡ false = le-ltb (end - at) size fits in
              let within : nat_lt end (at + size) ≡ false = le-ltb end (at + size) (omega arith) in
              elim (cases_lt size 16) as (λ _. entry_read rest 0 (end - at) ≡ entry_read bytes at end) [
                | inl small ↦ rw (none, also, size_same long, zero-add size, inside, within, byte 0 at (omega arith) (omega arith), lt-ltb size 16 small) refl
                | inr big ↦
                    rw (
                      none,
                      also,
                      size_same long,
                      zero-add size,
                      inside,
                      within,
                      byte 0 at (omega arith) (omega arith),
                      byte 1 (at + 1) (omega arith) refl,
                      mask_same (omega arith),
                      part_of_rest bytes at end 8 size (omega arith) fits,
                    ) refl
              ]
        ]
  ]

-- an entry that is read ends within its list
entry_ends : (bytes : List ℕ) (at end : ℕ) (x : Ace × ℕ) → entry_read bytes at end ≡ Ok x → at + x.1 ≤ end
unfolding entry_read
entry_ends bytes at end x e =
    let size = u16_at bytes (at + 2) in
    let made : AceKind → SidValue → Ace × ℕ = λ kind sid. (record { kind = kind; flags = record { 0 = bit_and (get_or bytes (at + 1) 0) all_named }; mask = u32_at bytes (at + 4); sid = sid }, size) in
    let with_sid : AceKind → Result (Ace × ℕ) WireFault = λ kind. sid_read bytes (at + 8) (at + size) >>= λ sid. Ok (made kind sid) in
    let with_kind : AceKind → Result (Ace × ℕ) WireFault = λ kind. cond (nat_lt size 16) (Err EntrySize) (with_sid kind) in
    let whole : Result (Ace × ℕ) WireFault = kind_read (get_or bytes at 0) >>= with_kind in
    let within_list : Result (Ace × ℕ) WireFault = cond (nat_lt end (at + size)) (Err EntrySize) whole in
    let aligned : Result (Ace × ℕ) WireFault = cond (not (size % 4 == 0)) (Err EntrySize) within_list in
    let header = passed (nat_lt end (at + 4)) EntrySize (cond (nat_lt size 4) (Err EntrySize) aligned) x e in
    let least = passed (nat_lt size 4) EntrySize aligned x header.1 in
    let even = passed (not (size % 4 == 0)) EntrySize within_list x least.1 in
    let within = passed (nat_lt end (at + size)) EntrySize whole x even.1 in
    let kind = bound (kind_read (get_or bytes at 0)) with_kind x within.1 in
    let room = passed (nat_lt size 16) EntrySize (with_sid kind.0) x kind.2 in
    let sid = bound (sid_read bytes (at + 8) (at + size)) (λ sid. good (made kind.0 sid)) x room.1 in
    let size_is : size ≡ x.1 = ap (λ (y : Ace × ℕ). y.1) (good_is (made kind.0 sid.0) x sid.2) in
    omega (arith, ltb-false _ _ within.0)

-- the entries at the front of the rest are those at the place, if those behind the first are
first_and_others : (bytes : List ℕ) (at end n : ℕ) → at ≤ end → end ≤ length bytes
    → ((size : ℕ) → at + size ≤ end → entries_of front_read (take (end - (at + size)) (drop (at + size) bytes)) n ≡ entries_read bytes (at + size) end n)
    → (read : Result (Ace × ℕ) WireFault) → entry_read bytes at end ≡ read → entries_of front_read (take (end - at) (drop at bytes)) (suc n) ≡ entries_read bytes at end (suc n)
unfolding entries_of entries_read
first_and_others bytes at end n order room others read is =
    let xs = take (end - at) (drop at bytes) in
    let long : length xs ≡ end - at = length-take-le (end - at) (drop at bytes) (omega (arith, length-drop at bytes)) in
    let first : entry_read xs 0 (length xs) ≡ read = ap (entry_read xs 0) long ∙ entry_in_rest bytes at end order ∙ is in
    elim read as (λ r. read ≡ r → entries_of front_read xs (suc n) ≡ entries_read bytes at end (suc n)) [
      | Ok x ↦ λ found.
          let within : at + x.1 ≤ end = entry_ends bytes at end x (is ∙ found) in
          let split : end - at ≡ x.1 + (end - (at + x.1)) = omega arith in
          let left : drop x.1 xs ≡ take (end - (at + x.1)) (drop (at + x.1) bytes) =
          ap (λ k. drop x.1 (take k (drop at bytes))) split ∙ drop-take x.1 (end - (at + x.1)) (drop at bytes) ∙ ap (take (end - (at + x.1))) (drop-drop x.1 at bytes) in
          rw (first ∙ found, is ∙ found, left, others x.1 within) refl
      | Err fault ↦ λ found. rw (first ∙ found, is ∙ found) refl
    ] refl

pub entries_in_rest : (bytes : List ℕ) (at end n : ℕ) → at ≤ end → end ≤ length bytes → entries_of front_read (take (end - at) (drop at bytes)) n ≡ entries_read bytes at end n
unfolding entries_of entries_read
entries_in_rest bytes at end zero order room = refl
entries_in_rest bytes at end (suc n) order room =
    first_and_others bytes at end n order room (λ size within. entries_in_rest bytes (at + size) end n within room) (entry_read bytes at end) refl
