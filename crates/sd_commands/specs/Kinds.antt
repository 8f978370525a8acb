-- The kinds of entries ([MS-DTYP] 2.4.4.1, 2.5.1.1): what standard error says of an EntryKind.
use Rattle.std.specs.Prelude.{ℕ, ◌==◌, if◌then◌else◌, List, [], ◌∷◌, ◌++◌, drop, Option, Some, None, codes, bytes_eq}
use Rattle.std.specs.Prelude.{not}
use Rattle.std.specs.Char.{is_ascii_alphabetic, to_ascii_lowercase}
use Rattle.std.specs.Borrow.{Bor}
use Rattle.std.specs.Fmt.{decimal}
use Rattle.sd_text.specs.Sid.{begins_letter}
use Rattle.sd_text.specs.declared.fault.TextFault.{TextFault}
use Rattle.sd_text.specs.declared.fault.TextFault.TheVariants.{EntryKind}
use Rattle.sd_wire.specs.Odd.{odd_entry}
use Rattle.sd_wire.specs.declared.fault.WireFault.{WireFault}
use Rattle.sd_wire.specs.declared.fault.WireFault.TheVariants as wire

-- a kind: its AceType, its letters in a text, in lower case, or none, and its name
pub record KindRow : Type 0 where
  pub number : ℕ
  pub letters : List ℕ
  pub name : List ℕ

abbrev pub kind : ℕ → List ℕ → List ℕ → KindRow
kind number letters name = record { number = number; letters = letters; name = name }

abbrev pub kinds : List KindRow
kinds =
    kind 0 (codes "a") (codes "allow") ∷ kind 1 (codes "d") (codes "deny")
    ∷ kind 2 (codes "au") (codes "audit") ∷ kind 3 (codes "al") (codes "alarm") ∷ kind 4 [] (codes "compound allow")
    ∷ kind 5 (codes "oa") (codes "object allow") ∷ kind 6 (codes "od") (codes "object deny")
    ∷ kind 7 (codes "ou") (codes "object audit") ∷ kind 8 (codes "ol") (codes "object alarm")
    ∷ kind 9 (codes "xa") (codes "callback allow") ∷ kind 10 (codes "xd") (codes "callback deny")
    ∷ kind 11 (codes "za") (codes "callback object allow") ∷ kind 12 [] (codes "callback object deny")
    ∷ kind 13 (codes "xu") (codes "callback audit") ∷ kind 14 [] (codes "callback alarm")
    ∷ kind 15 [] (codes "callback object audit") ∷ kind 16 [] (codes "callback object alarm")
    ∷ kind 17 (codes "ml") (codes "mandatory label") ∷ kind 18 (codes "ra") (codes "resource attribute")
    ∷ kind 19 (codes "sp") (codes "scoped policy") ∷ kind 20 (codes "tl") (codes "trust label")
    ∷ kind 21 (codes "fl") (codes "access filter") ∷ []

-- a row of the code's table
abbrev pub kind_row : ℕ × Bor (List ℕ) × Bor (List ℕ) → KindRow
kind_row (number, letters, name) = kind number letters.now name.now

-- the name of the kind with these letters; with this AceType
abbrev pub kind_by_letters : List KindRow → List ℕ → List ℕ
kind_by_letters [] letters = codes "unknown"
kind_by_letters (row ∷ rows) letters = if bytes_eq row.letters letters then row.name else kind_by_letters rows letters

abbrev pub kind_by_number : List KindRow → ℕ → List ℕ
kind_by_number [] number = codes "unknown"
kind_by_number (row ∷ rows) number = if row.number == number then row.name else kind_by_number rows number

-- which kind an entry is whose type, one or two letters of either case, begins a text
abbrev pub kind_at : List ℕ → List ℕ
kind_at [] = codes "unknown"
kind_at (a ∷ []) = kind_by_letters kinds (to_ascii_lowercase a ∷ [])
kind_at (a ∷ b ∷ text) =
    if not (is_ascii_alphabetic b) then kind_by_letters kinds (to_ascii_lowercase a ∷ [])
    else if begins_letter text then codes "unknown"
    else kind_by_letters kinds (to_ascii_lowercase a ∷ to_ascii_lowercase b ∷ [])

-- which kind it is, where the fault is that it may not stand in its list
abbrev pub kind_note : List ℕ → TextFault → ℕ → List ℕ
kind_note text EntryKind place = codes " (" ++ kind_at (drop place text) ++ codes ")"
kind_note text fault place = []

-- which entry of the bytes it is, counted from 1, and which kind
abbrev pub entry_note : Option (ℕ × ℕ) → List ℕ
entry_note None = []
entry_note (Some (number, kind)) =
    codes " (entry " ++ decimal number ++ codes ": " ++ kind_by_number kinds kind ++ codes ")"

abbrev pub wire_kind_note : List ℕ → WireFault → List ℕ
wire_kind_note bytes wire.EntryKind = entry_note (odd_entry bytes)
wire_kind_note bytes fault = []
