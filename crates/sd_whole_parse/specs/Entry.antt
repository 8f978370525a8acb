-- Entries of every type ([MS-DTYP] 2.5.1.1, ace).
use Rattle.std.specs.Prelude.{ℕ, ◌+◌, ◌&&◌, nat_lt, List, [], length, codes}
use Rattle.sd_text.specs.Entry.{opening}
use Rattle.sd_text.specs.Finding.{Found, find, find_items}
use Rattle.sd_text.specs.Grammar.{Grammar, value, refused, choose, word, begins}
use Rattle.sd_text.specs.Grammar.{◌>>=◌ as ◌and_then◌}
use Rattle.sd_text.specs.declared.alias.Aliases.{Aliases}
use Rattle.sd_text.specs.declared.fault.TextFault.TheVariants.{AclTooLarge}
use Rattle.sd_whole.specs.Entry.{whole_ace_size, whole_acl_size}
use Rattle.sd_whole.specs.Kind.{has_object_types, plain_kind}
use Rattle.sd_whole.specs.Reading.{plain_or_typed}
use Rattle.sd_whole.specs.declared.ace.WholeAce.{WholeAce}
use Rattle.sd_whole_parse.specs.Data.{data_found}
use Rattle.sd_whole_parse.specs.Fields.{flags_of, rights_of, trustee_of}
use Rattle.sd_whole_parse.specs.Finding.{◌>>=◌, done}
use Rattle.sd_whole_parse.specs.Guid.{types_of}
use Rattle.sd_whole_parse.specs.Kind.{whole_kind}
use Rattle.sd_whole_parse.specs.Spaces.{to_entry}

-- the entry's end, when the list before it has a size of so many bytes
unfoldable pub entry_end : ℕ → WholeAce → Grammar WholeAce
entry_end size entry = choose (λ text. begins text (codes ")") && nat_lt 65535 (size + whole_ace_size entry))
    (refused AclTooLarge)
    (word (codes ")") and_then λ u. value entry)

-- an entry after its `(`, when the list before it has a size of so many bytes, and the spaces up to the next one
unfoldable pub entry_found : Aliases → ℕ → List ℕ → Found WholeAce
entry_found known size = do
  kind ← find whole_kind
  u ← find (word (codes ";"))
  flags ← find (flags_of kind)
  v ← find (word (codes ";"))
  mask ← find (rights_of kind)
  w ← find (word (codes ";"))
  types ← find (types_of (has_object_types kind))
  trustee ← find (trustee_of kind known)
  trailing ← data_found known kind
  entry ← find (entry_end size (plain_or_typed (plain_kind kind) (record {
    kind = kind;
    flags = record { 0 = flags };
    mask = mask;
    types = types;
    sid = trustee;
    trailing = trailing;
  })))
  x ← to_entry
  done entry

-- any number of entries, each knowing the size of the list before it
unfoldable pub entries_found : Aliases → List ℕ → Found (List WholeAce)
entries_found known text =
    find_items opening (λ before u. entry_found known (whole_acl_size before)) (length text) [] text
