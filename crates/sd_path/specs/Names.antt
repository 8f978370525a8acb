-- Paths: a path is the list of its names from the root down, and a name the list of its bytes.
use Rattle.std.specs.Prelude.{◌≡◌, ℕ, ◌≤◌, Bool, true, false, not, ◌&&◌, ◌||◌, ◌==◌, nat_lt, nat_le, if◌then◌else◌}
use Rattle.std.specs.Prelude.{List, [], ◌∷◌, ◌++◌, length, drop}
use Rattle.std.specs.List.{list_all, onto_first}
use Rattle.std.specs.Ordering.{nat_cmp}
use Rattle.std.specs.Cmp.Lexicographic.{slice_cmp}
use Rattle.std.specs.declared.cmp.Ordering.{Ordering}
use Rattle.std.specs.Str.{bytes_eq}

abbrev pub Names : Type 0
Names = List (List ℕ)

-- paths are ordered by their names, and names by their bytes: a path precedes the paths below it
abbrev pub names_cmp : Names → Names → Ordering
names_cmp = slice_cmp (slice_cmp nat_cmp)

-- the parent's path; the root's is the root
abbrev pub up : Names → Names
up [] = []
up (name ∷ []) = []
up (name ∷ next ∷ names) = name ∷ up (next ∷ names)

abbrev pub is_root : Names → Bool
is_root [] = true
is_root (name ∷ names) = false

-- whether a path is the top or is below it: the top is a prefix of it
abbrev pub is_within : Names → Names → Bool
is_within [] path = true
is_within (name ∷ top) [] = false
is_within (name ∷ top) (first ∷ path) = bytes_eq name first && is_within top path

-- the path with its prefix, the source, replaced by the target; a path without that prefix stays as it is
abbrev pub moved_path : Names → Names → Names → Names
moved_path source target path = if is_within source path then target ++ drop (length source) path else path

-- no name has `/` or a zero byte
abbrev pub is_name_byte : ℕ → Bool
is_name_byte b = not (b == 0x2F || b == 0)

-- a name has 1 to 255 bytes
abbrev pub is_name : List ℕ → Bool
is_name name = nat_lt 0 (length name) && nat_le (length name) 255 && list_all is_name_byte name

-- a path has at most 128 names
pub record IsPath (path : Names) : Type 0 where
  pub at_most : length path ≤ 128
  pub named : list_all is_name path ≡ true

-- ---- how a path is stored: as one byte string, with a zero byte after each name

abbrev pub ended : Names → List ℕ
ended [] = []
ended (name ∷ names) = name ++ 0 ∷ ended names

abbrev pub names_of : List ℕ → Names
names_of [] = []
names_of (b ∷ bs) = if b == 0 then [] ∷ names_of bs else onto_first b (names_of bs)

-- the bytes store a path of so many names
pub record Keeps (bytes : List ℕ) (count : ℕ) : Type 0 where
  pub whole : ended (names_of bytes) ≡ bytes
  pub counted : length (names_of bytes) ≡ count
  pub path : IsPath (names_of bytes)
