-- The flags of an entry, with every bit ([MS-DTYP] 2.5.1.1, ace-flag-string).
use Rattle.std.specs.Prelude.{ℕ, List, ◌++◌, bit_and, codes}
use Rattle.sd_text.specs.Canon.{flags_canon, where_set}
use Rattle.sd_whole.specs.declared.kind.WholeKind.{WholeKind}
use Rattle.sd_whole.specs.declared.kind.WholeKind.TheVariants.{AccessFilter}
use Rattle.sd_wire.specs.Reading.{is_set}

-- the named flags that are set: the bit 0x40 of an access filter is TP (TRUST_PROTECTED_FILTER_ACE_FLAG)
abbrev pub named_text : WholeKind → ℕ → List ℕ
named_text AccessFilter flags = flags_canon (bit_and flags 0xbf) ++ where_set (is_set 0x40 flags) (codes "TP")
named_text kind flags = flags_canon flags

-- those, and CR if the bit 0x20 is set (CRITICAL_ACE_FLAG)
unfoldable pub flags_text : WholeKind → ℕ → List ℕ
flags_text kind flags = named_text kind flags ++ where_set (is_set 0x20 flags) (codes "CR")
