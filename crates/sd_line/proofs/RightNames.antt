-- The names of a table of named bits, one row after the other.
use Rattle.sd_line.proofs.Cited.{Bool, Bor, List, Name, ObjectKind, Option, add-one, bit_or, cond, drop, drop-cons, false, get_or, is_due, is_of, length, map, named_bits, names_of, refl, true, with_word, ℕ, ◌&&◌, ◌+◌, ◌<◌, ◌∷◌, ◌≡◌}
use Rattle.sd_line.specs.MaskNames.{named_from}

abbrev pub Row : Type 0
Row = Bor (List ℕ) × ℕ × Option ObjectKind

-- where a test decides whether a name is among those
pub by_test : (test : Bool) (name : Name ℕ) (rest : List (Name ℕ)) (mask named : ℕ) (text : List ℕ)
    → named_from (cond test (name ∷ rest) rest) mask named text
    ≡ cond (test && is_due mask named name.stands_for) (named_from rest mask (bit_or named name.stands_for) (with_word text name.letters))
    (named_from rest mask named text)
unfolding named_from
by_test true name rest mask named text = refl
by_test false name rest mask named text = refl

-- a row, whose name is due or isn't, and those behind it
pub row_at : (kind : Option ObjectKind) (rs : List Row) (i : ℕ) (d : Row) (mask named : ℕ) (text : List ℕ) (due : Bool) → i < length rs
    → (is_of kind (get_or rs i d).2 && is_due mask named (get_or rs i d).1) ≡ due
    → named_from (names_of kind (map named_bits (drop i rs))) mask named text
    ≡ cond due
    (named_from (names_of kind (map named_bits (drop (i + 1) rs))) mask (bit_or named (get_or rs i d).1) (with_word text (get_or rs i d).0.now))
    (named_from (names_of kind (map named_bits (drop (i + 1) rs))) mask named text)
row_at kind rs i d mask named text due lt is =
    rw (drop-cons rs i d lt, add-one, ← is) (by_test (is_of kind (get_or rs i d).2) (named_bits (get_or rs i d)).0 _ mask named text)
