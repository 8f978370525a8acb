-- The row that a name of two letters can have in its table. Only for speed: the tables themselves have the names.
use Rattle.std.specs.Prelude.{ℕ, suc, ◌+◌, ◌-◌, ◌*◌, ◌%◌, ◌==◌, Bool, true, false, ◌&&◌, List, [], ◌∷◌, length}
use Rattle.std.specs.Prelude.{slice_index}
use Rattle.std.specs.Char.{to_ascii_lowercase}
use Rattle.sd_sid.specs.Sid.{SidValue}
use Rattle.sd_text.specs.Grammar.{Name}

-- the number of two letters, of either case
abbrev pub slot : ℕ → ℕ → ℕ
slot c d = (to_ascii_lowercase c + 11 * to_ascii_lowercase d) % 109

-- these are two letters, and this is the row of their number
abbrev pub is_placed : List ℕ → ℕ → List ℕ → Bool
is_placed places k [] = false
is_placed places k (l ∷ []) = false
is_placed places k (l ∷ m ∷ []) = slice_index places (slot l m) == k
is_placed places k (l ∷ m ∷ n ∷ letters) = false

-- each row is that of its number; the first is row k
abbrev pub are_placed : {A : Type 0} → List ℕ → ℕ → List (Name A) → Bool
are_placed places k [] = true
are_placed places k (name ∷ names) = is_placed places k name.letters && are_placed places (suc k) names

-- the number of a SID
abbrev pub sid_slot : SidValue → ℕ
sid_slot s = (2 * s.authority + slice_index s.subs (length s.subs - 1)) % 58

-- each row is that of the number of its SID; the first is row k
abbrev pub sids_are_placed : List ℕ → ℕ → List (Name SidValue) → Bool
sids_are_placed places k [] = true
sids_are_placed places k (name ∷ names) = slice_index places (sid_slot name.stands_for) == k && sids_are_placed places
    (suc k) names
