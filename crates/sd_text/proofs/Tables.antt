-- Names of a table, one row after the other.
use Rattle.sd_text.proofs.Cited.{AllByRecursion, Bor, Items, List, Name, None, Ok, PrintedRight, RightNames, Row, SidValue, Some, [], add-one, and_parts, ap, begins, bit_or, cond, drop, drop-cons, eqb-true, find, fold, fold-append, get_or, has, inl, inr, length, many, map, named, option_map, or_lt, pow_pos, printed_right, refl, renamed, rows, rules, run, same_sid, same_sid-true, spells, subst, sym, value, ℕ, ◌&&◌, ◌++◌, ◌+◌, ◌<◌, ◌==◌, ◌^◌, ◌∙◌, ◌∷◌, ◌≡◌}
use Rattle.sd_text.specs.Rights.{bits_of}
use Rattle.sd_text.specs.Alias.{aliases, alias_in}
use Rattle.sd_text.specs.RightNames.{name_in}
use Rattle.sd_text.proofs.Parts.{went, chosen, name_is, found_is, part_ok}
use Rattle.sd_text.proofs.Engine.{find_spells}
use Rattle.sd_text.proofs.Loops.{Reaches, reaches_start, reaches_more, reaches_end}

-- a row, and those behind it
pub named_at : {T : Type 0} (rs : List (Row T)) (i : ℕ) (r : Row T) (text : List ℕ) → i < length rs → r ≡ get_or rs i r → named (rows (drop i rs)) text ≡ cond (begins text r.0.now) (Some (r.1, drop (length r.0.now) text)) (named (rows (drop (i + 1) rs)) text)
named_at rs i r text lt is = rw (drop-cons rs i r lt, sym is, add-one) refl

-- a row of the table of printed rights, looked up by the mask, and the rows after it
pub name_at : (names : RightNames) (rs : List (Bor (List ℕ) × ℕ × RightNames)) (i : ℕ) (r : Bor (List ℕ) × ℕ × RightNames) (mask : ℕ) → i < length rs → r ≡ get_or rs i r → name_in names (map printed_right (drop i rs)) mask ≡ cond (has names r.2 && r.1 == mask) (Some r.0.now) (name_in names (map printed_right (drop (i + 1) rs)) mask)
unfolding name_in
name_at names rs i r mask lt is = rw (drop-cons rs i r lt, sym is, add-one) refl

-- ---- a run of names, whose meanings are put together one by one

-- the names so far have been read, and put together
pub record IsTogether {A B : Type 0} (names : List (Name A)) (add : B → A → B) (none : B) (start : List ℕ) (sum : B) (rest : List ℕ) : Type 0 where
  pub meanings : List A
  pub reached : Reaches names (λ before meaning. value meaning) start meanings rest
  pub together : sum ≡ fold add none meanings

module _ {A B : Type 0} (names : List (Name A)) (add : B → A → B) (none : B) (start : List ℕ) where
  pub run_start : IsTogether names add none start none start
  run_start = record { meanings = []; reached = reaches_start names (λ before meaning. value meaning) start; together = refl }

  pub run_more : (sum : B) (rest : List ℕ) (meaning : A) (after : List ℕ) → IsTogether names add none start sum rest → named names rest ≡ Some (meaning, after) → IsTogether names add none start (add sum meaning) after
  run_more sum rest meaning after so_far name = record {
    meanings = so_far.meanings ++ meaning ∷ [];
    reached = reaches_more names (λ before m. value m) start so_far.meanings rest meaning after meaning after so_far.reached name refl;
    together = ap (λ b. add b meaning) so_far.together ∙ sym (fold-append add none so_far.meanings (meaning ∷ []));
  }

  pub run_end : (sum : B) (rest : List ℕ) → IsTogether names add none start sum rest → named names rest ≡ None → find (run names add none) start ≡ Ok (sum, rest)
  run_end sum rest so_far ends = rw (reaches_end names (λ before meaning. value meaning) start so_far.meanings rest so_far.reached ends, so_far.together) refl

-- ---- tables whose names stand for something else

pub named_renamed : {A B : Type 0} (f : A → B) (names : List (Name A)) (text : List ℕ) → named (renamed f names) text ≡ option_map (λ x. (f x.0, x.1)) (named names text)
named_renamed f [] text = refl
named_renamed f (name ∷ names) text =
    elim (went (begins text name.letters)) [ inl h ↦ rw h refl | inr h ↦ rw h (named_renamed f names text) ]

-- what all names of a table have, the one that stands there has
pub named_all : {A : Type 0} (P : A → Type 0) (names : List (Name A)) (text : List ℕ) (a : A) (behind : List ℕ) → AllByRecursion (λ name. P name.stands_for) names → named names text ≡ Some (a, behind) → P a
named_all P [] text a behind all e = absurd cc
named_all P (name ∷ names) text a behind all e =
    elim (chosen (begins text name.letters) _ _ _ e) [
      | inl h ↦ subst P (name_is name.stands_for a (drop (length name.letters) text) behind h.1).0 all.0
      | inr h ↦ named_all P names text a behind all.1 h.1
    ]

-- the row whose alias stands for the SID, with what all rows have
pub alias_row : (P : Name SidValue → Type 0) (names : List (Name SidValue)) (s : SidValue) (letters : List ℕ) → AllByRecursion P names → alias_in names s ≡ Some letters → (name : Name SidValue) × P name × (name.letters ≡ letters) × (name.stands_for ≡ s)
unfolding alias_in
alias_row P [] s letters all e = absurd cc
alias_row P (name ∷ names) s letters all e =
    elim (chosen (same_sid name.stands_for s) _ _ _ e) [
      | inl h ↦ let same : name.letters ≡ letters = cc in (name, all.0, same, same_sid-true name.stands_for s h.0)
      | inr h ↦ alias_row P names s letters all.1 h.1
    ]

-- an alias has two letters
pub alias_is_pair : (sid : SidValue) (letters : List ℕ) → alias_in aliases sid ≡ Some letters → length letters ≡ 2
unfolding aliases
alias_is_pair sid letters e = let row = alias_row (λ name. length name.letters ≡ 2) aliases sid letters (search rules) e in rw (sym row.2) row.1

-- and the row whose name is for just these bits
pub right_row : (P : Name ℕ → Type 0) (names : RightNames) (rights : List PrintedRight) (mask : ℕ) (letters : List ℕ) → AllByRecursion (λ (right : PrintedRight). P right.0) rights → name_in names rights mask ≡ Some letters → (name : Name ℕ) × P name × (name.letters ≡ letters) × (name.stands_for ≡ mask)
unfolding name_in
right_row P names [] mask letters all e = absurd cc
right_row P names (right ∷ rights) mask letters all e =
    elim (chosen (has names right.1 && right.0.stands_for == mask) _ _ _ e) [
      | inl h ↦
          let same : right.0.letters ≡ letters = cc in
          let both = and_parts (has names right.1) (right.0.stands_for == mask) h.0 in
          (right.0, all.0, same, eqb-true right.0.stands_for mask both.1)
      | inr h ↦ right_row P names rights mask letters all.1 h.1
    ]

-- ---- how large joined bits grow

fold_below : (k start : ℕ) (masks : List ℕ) → start < 2 ^ k → AllByRecursion (λ mask. mask < 2 ^ k) masks → fold bit_or start masks < 2 ^ k
fold_below k start [] lt all = lt
fold_below k start (mask ∷ masks) lt all = fold_below k (bit_or start mask) masks (or_lt k start mask lt all.0) all.1

items_below : (k : ℕ) (names : List (Name ℕ)) → AllByRecursion (λ name. name.stands_for < 2 ^ k) names → (before : List ℕ) (text : List ℕ) (masks : List ℕ) (behind : List ℕ) → Items names (λ earlier mask. spells (value mask)) before text masks behind → AllByRecursion (λ mask. mask < 2 ^ k) masks
items_below k names all before text [] behind items = tt
items_below k names all before text (mask ∷ masks) behind items =
    (subst (λ m. m < 2 ^ k) (sym items.4.0) (named_all (λ m. m < 2 ^ k) names text items.0 items.1 all items.3), items_below k names all (before ++ mask ∷ []) items.2 masks behind items.5)

-- the bits that a run of names joins are below a limit that each name's are
pub bits_below : (k : ℕ) (names : List (Name ℕ)) → AllByRecursion (λ name. name.stands_for < 2 ^ k) names → (text : List ℕ) (bits : ℕ) (behind : List ℕ) → find (bits_of names) text ≡ Ok (bits, behind) → bits < 2 ^ k
unfolding bits_of
bits_below k names all text bits behind e =
    let parts = part_ok (find (many names (λ before mask. value mask)) text) _ bits behind e in
    let read = find_spells (many names (λ before mask. value mask)) text parts.0 parts.1 parts.2 in
    let same = found_is (fold bit_or 0 parts.0) bits parts.1 behind parts.3 in
    subst (λ b. b < 2 ^ k) same.0 (fold_below k 0 parts.0 (pow_pos k) (items_below k names all [] text parts.0 parts.1 read.0))
