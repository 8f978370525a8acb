-- The canonical order of a DACL with entries of every type ([MS-DTYP] 2.4.5).
use Rattle.std.specs.Prelude.{ℕ, Bool, ◌==◌, ◌||◌, List, if◌then◌else◌}
use Rattle.std.specs.List.Sorted.{IsNonDecreasingBy, IsPermutation, IsStableByKey}
use Rattle.std.specs.Ordering.{nat_cmp}
use Rattle.sd_wire.specs.Reading.{is_set}
use Rattle.sd_whole.specs.declared.ace.WholeAce.{WholeAce}
use Rattle.sd_whole.specs.Entry.{flags_of, type_of}

-- the types that deny: a deny, of an object, with a condition, and with both (2.4.4.1, AceType)
abbrev pub is_deny : WholeAce → Bool
is_deny e = type_of e == 0x01 || type_of e == 0x06 || type_of e == 0x0a || type_of e == 0x0c

-- explicit entries that deny, then the other explicit ones, then the inherited ones
abbrev pub rank : WholeAce → ℕ
rank e = if is_set 0x10 (flags_of e) then 2 else if is_deny e then 0 else 1

-- after has the entries of before in that order, and those of one rank in the order that they had
pub record IsCanonicalOrder (before after : List WholeAce) : Type 0 where
  pub same : IsPermutation before after
  pub rising : IsNonDecreasingBy rank after
  pub stable : IsStableByKey rank nat_cmp before after
