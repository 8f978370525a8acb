-- Entries ([MS-DTYP] 2.5.1.1, ace).
use Rattle.std.specs.Prelude.{ℕ, ◌+◌, Bool, true, false, nat_lt, ◌==◌, ◌&&◌, not, List, [], ◌∷◌, length, drop, map}
use Rattle.std.specs.Prelude.{codes}
use Rattle.sd_acl.specs.Ace.{ace_size, acl_size_of, named_flags}
use Rattle.sd_acl.specs.declared.ace.Ace.{Ace}
use Rattle.sd_acl.specs.declared.ace.AceKind.{AceKind}
use Rattle.sd_acl.specs.declared.ace.AceKind.TheVariants.{Allow, Deny}
use Rattle.sd_text.specs.declared.alias.Aliases.{Aliases}
use Rattle.sd_text.specs.declared.fault.TextFault.TheVariants.{Syntax, EntryKind, ObjectGuid, AclTooLarge}
use Rattle.sd_text.specs.Grammar.{Grammar, Name, value, refused, choose, word, many, begins, ◌>>=◌}
use Rattle.sd_text.specs.Rights.{bits, bits_of, rights}
use Rattle.sd_text.specs.Sid.{begins_letter, sid}

-- what precedes an entry
abbrev pub opening : List (Name (Unit {0}))
opening = record { letters = codes "("; stands_for = tt } ∷ []

-- the text begins with this type: with this letter, and no other follows it
abbrev pub is_type : List ℕ → List ℕ → Bool
is_type letter text = begins text letter && not (begins_letter (drop 1 text))

-- the type of an entry
unfoldable pub kind : Grammar AceKind
kind = choose (is_type (codes "A")) (word (codes "A") >>= λ u. value Allow)
    (choose (is_type (codes "D")) (word (codes "D") >>= λ u. value Deny)
    (choose begins_letter (refused EntryKind) (refused Syntax)))

-- the names of flags
abbrev pub flag_names : List (Name ℕ)
flag_names = map (λ (flag : List ℕ × ℕ). bits flag.0 flag.1) named_flags

-- an empty field of a GUID, with its `;`
unfoldable pub guid : Grammar (Unit {0})
guid = choose (λ text. begins text (codes ";")) (word (codes ";"))
    (choose (λ text. length text == 0) (refused Syntax) (refused ObjectGuid))

-- the entry's end, when the list before it has a size of so many bytes
unfoldable pub entry_end : ℕ → Ace → Grammar Ace
entry_end size entry = choose (λ text. begins text (codes ")") && nat_lt 65535 (size + ace_size entry))
    (refused AclTooLarge)
    (word (codes ")") >>= λ u. value entry)

-- an entry after its `(`, when the list before it has a size of so many bytes
unfoldable pub entry : Aliases → ℕ → Grammar Ace
entry known size = do
  allows ← kind
  u ← word (codes ";")
  flags ← bits_of flag_names
  v ← word (codes ";")
  mask ← rights
  w ← word (codes ";")
  object ← guid
  inherit ← guid
  trustee ← sid known
  entry_end size (record { kind = allows; flags = record { 0 = flags }; mask = mask; sid = trustee })

-- there is an entry
abbrev pub has_one : List Ace → Bool
has_one [] = false
has_one (e ∷ es) = true

-- any number of entries, each knowing the size of the list before it
abbrev pub entries_of : (ℕ → Grammar Ace) → Grammar (List Ace)
entries_of entry = many opening (λ before u. entry (acl_size_of before))

-- the entries of a DACL
unfoldable pub entries : Aliases → Grammar (List Ace)
entries known = entries_of (entry known)
