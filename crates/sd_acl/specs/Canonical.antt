-- The order of a list, and what is explicit in it ([MS-DTYP] 2.4.4.1, INHERITED_ACE, and 2.4.5).
use Rattle.std.specs.Prelude.{Bool, false, not, ◌&&◌, ◌||◌, bit_and, List, [], ◌∷◌, ◌++◌, map, filter}
use Rattle.std.specs.List.{list_any}
use Rattle.sd_sid.specs.Mask.{holds}
use Rattle.sd_acl.specs.Ace.{is_allow}
use Rattle.sd_acl.specs.declared.ace.Ace.{Ace}

-- the entry was inherited: it has the flag ID
abbrev pub is_inherited : Ace → Bool
is_inherited e = holds e.flags.0 4

abbrev pub is_explicit : Ace → Bool
is_explicit e = not (is_inherited e)

abbrev pub allows : Ace → Bool
allows e = is_allow e.kind

abbrev pub denies : Ace → Bool
denies e = not (is_allow e.kind)

-- some explicit entry comes after an inherited one
abbrev pub explicit_behind_inherited : List Ace → Bool
explicit_behind_inherited [] = false
explicit_behind_inherited (e ∷ es) = (is_inherited e && list_any is_explicit es) || explicit_behind_inherited es

-- some deny comes after an allow
abbrev pub deny_behind_allow : List Ace → Bool
deny_behind_allow [] = false
deny_behind_allow (e ∷ es) = (allows e && list_any denies es) || deny_behind_allow es

-- the explicit entries stand first, and among them the denies
abbrev pub is_canonical : List Ace → Bool
is_canonical es = not (explicit_behind_inherited es) && not (deny_behind_allow (filter is_explicit es))

-- the denies in their order, then the allows in theirs
abbrev pub canonical_order : List Ace → List Ace
canonical_order es = filter denies es ++ filter allows es

-- the entry without the flag ID
abbrev pub explicit_entry : Ace → Ace
explicit_entry e = record e { flags = record { 0 = bit_and e.flags.0 0xEF } }

abbrev pub explicit_entries : List Ace → List Ace
explicit_entries es = map explicit_entry es
