-- The printed text of each value ([MS-DTYP] 2.5.1).
use Rattle.std.specs.Prelude.{ℕ, ◌+◌, ◌-◌, ◌/◌, ◌%◌, ◌^◌, Bool, false, ◌==◌, nat_lt, List, [], ◌∷◌, ◌++◌}
use Rattle.std.specs.Prelude.{length, replicate, bit_and, Option, Some, None, unwrap_or, codes, if◌then◌else◌}
use Rattle.std.specs.List.{flat_map}
use Rattle.std.specs.Fmt.{decimal, digits}
use Rattle.sd_sid.specs.Sid.{SidValue}
use Rattle.sd_acl.specs.Descriptor.{DescriptorValue}
use Rattle.sd_acl.specs.declared.ace.Ace.{Ace}
use Rattle.sd_acl.specs.declared.ace.AceKind.{AceKind}
use Rattle.sd_acl.specs.declared.ace.AceKind.TheVariants.{Allow, Deny}
use Rattle.sd_acl.specs.Dacl.{Dacl}
use Rattle.sd_acl.specs.declared.descriptor.DaclOf.TheVariants.{Absent, Null, List as Entries}
use Rattle.sd_text.specs.Grammar.{Name}
use Rattle.sd_text.specs.Alias.{aliases, alias_in}
use Rattle.sd_text.specs.RightNames.{name_in, printed_rights}
use Rattle.sd_text.specs.declared.right_names.RightNames.{RightNames}
use Rattle.sd_text.specs.declared.right_names.RightNames.TheVariants.{All}
use Rattle.sd_text.specs.Entry.{flag_names}

-- a number in lower-case hexadecimal digits
abbrev pub hex : ℕ → List ℕ
hex n = digits 16 false n

-- a number below 100 in two digits
abbrev pub two_digits : ℕ → List ℕ
two_digits n = (48 + n / 10) ∷ (48 + n % 10) ∷ []

-- an authority in decimal if it has 32 bits, else in 12 hexadecimal digits
unfoldable pub authority_canon : ℕ → List ℕ
authority_canon n = if nat_lt n (2 ^ 32) then decimal n else codes "0x" ++ replicate (12 - length (hex n)) 48 ++ hex n

-- a sub-authority after its dash
abbrev pub sub_canon : ℕ → List ℕ
sub_canon n = codes "-" ++ decimal n

-- a SID in full
unfoldable pub full_canon : SidValue → List ℕ
full_canon sid = codes "S-1-" ++ authority_canon sid.authority ++ flat_map sub_canon sid.subs

-- a SID by its alias, or else in full
unfoldable pub sid_canon : SidValue → List ℕ
sid_canon sid = unwrap_or (alias_in aliases sid) (full_canon sid)

-- a mask by one of these names, or else in hexadecimal
unfoldable pub rights_canon_in : RightNames → ℕ → List ℕ
rights_canon_in names mask = unwrap_or (name_in names printed_rights mask) (codes "0x" ++ hex mask)

-- the name of a flag if it is set
abbrev pub flag_canon : ℕ → Name ℕ → List ℕ
flag_canon flags name = if bit_and flags name.stands_for == 0 then [] else name.letters

-- the names of the flags that are set, in the order of the table
unfoldable pub flags_canon : ℕ → List ℕ
flags_canon flags = flat_map (flag_canon flags) flag_names

-- the type of an entry
abbrev pub kind_canon : AceKind → List ℕ
kind_canon Allow = codes "A"
kind_canon Deny = codes "D"

-- an entry with these names of rights
unfoldable pub entry_canon_in : RightNames → Ace → List ℕ
entry_canon_in names e = codes "(" ++ kind_canon e.kind ++ codes ";" ++ flags_canon e.flags.0 ++ codes ";"
    ++ rights_canon_in names e.mask ++ codes ";;;" ++ sid_canon e.sid ++ codes ")"

abbrev pub entry_canon : Ace → List ℕ
entry_canon e = entry_canon_in All e

-- letters if the test holds
abbrev pub where_set : Bool → List ℕ → List ℕ
where_set test letters = if test then letters else []

-- the keywords of the DACL's section
unfoldable pub words_canon : DescriptorValue → List ℕ
words_canon d = where_set d.protected (codes "P") ++ where_set d.auto_req (codes "AR") ++ where_set d.auto_inherited
    (codes "AI")

-- the DACL's section, if there is a DACL
abbrev pub dacl_canon : RightNames → List ℕ → Dacl → List ℕ
dacl_canon names words Absent = []
dacl_canon names words Null = codes "D:" ++ words ++ codes "NO_ACCESS_CONTROL"
dacl_canon names words (Entries es) = codes "D:" ++ words ++ flat_map (entry_canon_in names) es

-- a section of one SID, if there is one
abbrev pub section_canon : List ℕ → Option SidValue → List ℕ
section_canon head None = []
section_canon head (Some sid) = head ++ sid_canon sid

-- the printed text of a descriptor with these names of rights
unfoldable pub canon_in : RightNames → DescriptorValue → List ℕ
canon_in names d = section_canon (codes "O:") d.owner ++ section_canon (codes "G:") d.group
    ++ dacl_canon names (words_canon d) d.dacl

-- the canonical text
abbrev pub canon : DescriptorValue → List ℕ
canon d = canon_in All d
