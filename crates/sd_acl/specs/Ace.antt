-- Entries: whether they count in a check, and the sizes of entries and of lists ([MS-DTYP] 2.4.4.1, AceSize, and 2.4.5,
-- AclSize).
use Rattle.std.specs.Prelude.{ℕ, Bool, true, false, ◌+◌, ◌*◌, ◌&&◌, ◌||◌, ◌==◌, List, [], ◌∷◌, length, sum_by}
use Rattle.std.specs.Prelude.{fold, bit_or, codes}
use Rattle.std.specs.Bool.{beq}
use Rattle.sd_sid.specs.Mask.{holds}
use Rattle.sd_sid.specs.Sid.{same_sid}
use Rattle.sd_acl.specs.declared.ace.AceKind.{AceKind}
use Rattle.sd_acl.specs.declared.ace.AceKind.TheVariants.{Allow, Deny}
use Rattle.sd_acl.specs.declared.ace.Ace.{Ace}

abbrev pub is_allow : AceKind → Bool
is_allow Allow = true
is_allow Deny = false

-- an inherit-only entry has no part in a check (2.4.4.1, INHERIT_ONLY_ACE)
abbrev pub is_inherit_only : Ace → Bool
is_inherit_only e = holds e.flags.0 3

-- objects or containers inherit an entry with these flags: OI or CI is among them (2.4.4.1, AceFlags)
abbrev pub passes_on : ℕ → Bool
passes_on flags = holds flags 0 || holds flags 1

-- equal in all that they have
abbrev pub same_ace : Ace → Ace → Bool
same_ace e f =
    beq (is_allow e.kind) (is_allow f.kind) && e.flags.0 == f.flags.0 && e.mask == f.mask && same_sid e.sid f.sid

-- the flags that have names: their letters, and their bits (2.4.4.1, AceFlags)
abbrev pub named_flags : List (List ℕ × ℕ)
named_flags =
    (codes "OI", 0x01) ∷ (codes "CI", 0x02) ∷ (codes "NP", 0x04) ∷ (codes "IO", 0x08)
    ∷ (codes "ID", 0x10) ∷ (codes "SA", 0x40) ∷ (codes "FA", 0x80) ∷ []

-- the bits of them all
abbrev pub all_named : ℕ
all_named = fold (λ bits (flag : List ℕ × ℕ). bit_or bits flag.1) 0 named_flags

-- the entry's header and mask, and its SID
abbrev pub ace_size : Ace → ℕ
ace_size e = 16 + 4 * length e.sid.subs

-- the list's header, and its entries
abbrev pub acl_size_of : List Ace → ℕ
acl_size_of es = 8 + sum_by ace_size es
