-- The flags, the rights and the SID of an entry ([MS-DTYP] 2.5.1.1, ace-flag-string, ace-rights and sid-string).
use Rattle.std.specs.Prelude.{ℕ, Bool, true, false, is_some, List, [], ◌∷◌, ◌++◌, codes, if◌then◌else◌}
use Rattle.sd_sid.specs.Sid.{SidValue}
use Rattle.sd_text.specs.Entry.{flag_names}
use Rattle.sd_text.specs.Grammar.{Grammar, Name, value, refused, choose, one_of, named, ◌>>=◌}
use Rattle.sd_text.specs.Rights.{bits, bits_of, rights}
use Rattle.sd_text.specs.Sid.{sid}
use Rattle.sd_text.specs.declared.alias.Aliases.{Aliases}
use Rattle.sd_text.specs.declared.fault.TextFault.TheVariants.{Syntax}
use Rattle.sd_whole.specs.declared.kind.WholeKind.{WholeKind}
use Rattle.sd_whole.specs.declared.kind.WholeKind.TheVariants.{AccessFilter, MandatoryLabel}
use Rattle.sd_whole_text.specs.Level.{level_names, level_sid}

-- the names of flags: the seven, and CR (CRITICAL_ACE_FLAG)
abbrev pub all_flag_names : List (Name ℕ)
all_flag_names = flag_names ++ bits (codes "CR") 0x20 ∷ []

-- an access filter's, of which one is TP (TRUST_PROTECTED_FILTER_ACE_FLAG)
abbrev pub filter_flag_names : List (Name ℕ)
filter_flag_names = all_flag_names ++ bits (codes "TP") 0x40 ∷ []

-- entries of this kind are access filters
abbrev pub is_filter : WholeKind → Bool
is_filter AccessFilter = true
is_filter _ = false

-- the flags of an entry of this kind
unfoldable pub flags_of : WholeKind → Grammar ℕ
flags_of kind = bits_of (if is_filter kind then filter_flag_names else all_flag_names)

-- what a mandatory label denies to lower levels: to write up, to read up, to execute up (2.4.4.13)
abbrev pub label_names : List (Name ℕ)
label_names = bits (codes "NW") 1 ∷ bits (codes "NR") 2 ∷ bits (codes "NX") 4 ∷ []

-- the rights of an entry of this kind: a label's by its own names, if one is there
unfoldable pub rights_of : WholeKind → Grammar ℕ
rights_of MandatoryLabel = choose (λ text. is_some (named label_names text)) (bits_of label_names) rights
rights_of kind = rights

-- the SID of an entry of this kind: a label's also by the alias of its level
unfoldable pub trustee_of : WholeKind → Aliases → Grammar SidValue
trustee_of MandatoryLabel known = choose (λ text. is_some (named level_names text))
    (one_of level_names (refused Syntax) >>= λ level. value (level_sid level)) (sid known)
trustee_of kind known = sid known
