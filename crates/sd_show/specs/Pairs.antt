-- Which entries two lists have in common: the first of equal entries with the first, the second with the second, and so
-- on.
use Rattle.std.specs.Prelude.{ℕ, zero, suc, ◌+◌, Bool, ◌&&◌, ◌==◌, List, [], ◌∷◌, ◌++◌, map, slice_get, take}
use Rattle.std.specs.Prelude.{Option, Some, None, is_some, option_map}
use Rattle.std.specs.List.{count_by, position}
use Rattle.sd_whole.specs.declared.ace.WholeAce.{WholeAce}
use Rattle.sd_show.specs.Same.{same_entry}
use Rattle.sd_show.specs.declared.pairs.Counted.{Counted}

-- an entry, and how many equal ones are before it in its list
abbrev pub CountedOf : Type 0
CountedOf = WholeAce × ℕ

-- equal entries, of which either has as many equal ones before it
abbrev pub is_partner : CountedOf → CountedOf → Bool
is_partner a b = a.1 == b.1 && same_entry a.0 b.0

abbrev pub counted_at : List WholeAce → Option WholeAce → List CountedOf
counted_at before None = []
counted_at before (Some e) = (e, count_by (same_entry e) before) ∷ []

-- the entries before a place, counted
unfoldable pub counts : List WholeAce → ℕ → List CountedOf
counts es zero = []
counts es (suc k) = counts es k ++ counted_at (take k es) (slice_get es k)

-- the number of an entry's partner, counted from 1, if it has one
abbrev pub partner : List CountedOf → CountedOf → Option ℕ
partner others one = option_map (λ place. place + 1) (position (is_partner one) others)

abbrev pub partners : (list others : List CountedOf) → List (Option ℕ)
partners list others = map (partner others) list

abbrev pub or_none : Option (Option ℕ) → Option ℕ
or_none None = None
or_none (Some partner) = partner

-- the partner of the entry at a place
abbrev pub partner_at : List (Option ℕ) → ℕ → Option ℕ
partner_at partners place = or_none (slice_get partners place)

-- how many of the first entries, so many, have a partner: of an entry with one, its number among those
abbrev pub common_within : List (Option ℕ) → ℕ → ℕ
common_within partners number = count_by is_some (take number partners)

-- the values of the code
abbrev pub counted_of : Counted → CountedOf
counted_of one = (one.entry.now, one.before)

abbrev pub values : List Counted → List CountedOf
values list = map counted_of list
