-- Security descriptors as text ([MS-DTYP] 2.5.1.1).
use Rattle.std.specs.Prelude.{ℕ, Bool, true, false, List, [], ◌∷◌, Option, Some, None, codes}
use Rattle.sd_sid.specs.Sid.{SidValue}
use Rattle.sd_acl.specs.Descriptor.{DescriptorValue}
use Rattle.sd_acl.specs.Dacl.{Dacl}
use Rattle.sd_acl.specs.declared.descriptor.DaclOf.TheVariants.{Absent, Null, List as Entries}
use Rattle.sd_text.specs.declared.descriptor.DaclWord.{DaclWord}
use Rattle.sd_text.specs.declared.descriptor.DaclWord.TheVariants.{Protected, AutoReq, AutoInherited, NoAccessControl}
use Rattle.sd_text.specs.declared.descriptor.DaclWords.{DaclWords}
use Rattle.sd_text.specs.declared.descriptor.DaclPart.{DaclPart}
use Rattle.sd_text.specs.declared.alias.Aliases.{Aliases}
use Rattle.sd_text.specs.declared.fault.TextFault.TheVariants.{HasSacl}
use Rattle.sd_text.specs.Grammar.{Grammar, Name, name_for, value, refused, choose, word, run, begins, whole, ◌>>=◌}
use Rattle.sd_text.specs.Alias.{in_domain}
use Rattle.sd_text.specs.Sid.{sid}
use Rattle.sd_text.specs.Entry.{has_one, entries}

-- a section of one SID, if its head is there
unfoldable pub sid_section : Aliases → List ℕ → Grammar (Option SidValue)
sid_section known head = choose (λ text. begins text head)
    (word head >>= λ u. sid known >>= λ trustee. value (Some trustee)) (value None)

-- the keywords of a DACL's section
abbrev pub dacl_words : List (Name DaclWord)
dacl_words = name_for (codes "P") Protected ∷ name_for (codes "AR") AutoReq ∷ name_for (codes "AI") AutoInherited
    ∷ name_for (codes "NO_ACCESS_CONTROL") NoAccessControl ∷ []

-- no keyword
abbrev pub no_words : DaclWords
no_words = record { protected = false; auto_req = false; auto_inherited = false; no_access_control = false }

-- one keyword more
abbrev pub with_word : DaclWords → DaclWord → DaclWords
with_word words Protected = record words { protected = true }
with_word words AutoReq = record words { auto_req = true }
with_word words AutoInherited = record words { auto_inherited = true }
with_word words NoAccessControl = record words { no_access_control = true }

-- a run of keywords
unfoldable pub words : Grammar DaclWords
words = run dacl_words with_word no_words

-- after the keywords a list, unless there is no access control
unfoldable pub dacl_behind : Aliases → DaclWords → Grammar DaclPart
dacl_behind known found = choose (λ text. found.no_access_control) (value (record { dacl = Null; words = found }))
    (entries known >>= λ list. value (record { dacl = Entries list; words = found }))

-- the section of the DACL, if its head is there
unfoldable pub dacl_section : Aliases → Grammar DaclPart
dacl_section known = choose (λ text. begins text (codes "D:"))
    (word (codes "D:") >>= λ u. words >>= λ found. dacl_behind known found)
    (value (record { dacl = Absent; words = no_words }))

-- no section of a SACL is there
unfoldable pub no_sacl : Grammar (Unit {0})
no_sacl = choose (λ text. begins text (codes "S:")) (refused HasSacl) (value tt)

-- the DACL has an entry: only then does parsing allocate
abbrev pub has_entry : Dacl → Bool
has_entry Absent = false
has_entry Null = false
has_entry (Entries es) = has_one es

-- the sections of the owner, the group and the DACL
unfoldable pub parts : Aliases → Grammar DescriptorValue
parts known = do
  owner ← sid_section known (codes "O:")
  group ← sid_section known (codes "G:")
  part ← dacl_section known
  value (record {
    owner = owner;
    group = group;
    dacl = part.dacl;
    protected = part.words.protected;
    auto_req = part.words.auto_req;
    auto_inherited = part.words.auto_inherited;
  })

-- the sections of a descriptor
unfoldable pub sections : Aliases → Grammar DescriptorValue
sections known = do
  descriptor ← parts known
  u ← no_sacl
  value descriptor

-- the text of a descriptor, with the aliases that it may have
abbrev pub sddl_in : Aliases → Grammar DescriptorValue
sddl_in known = whole (sections known)

-- the text of a descriptor, without a domain or the aliases of newer versions
abbrev pub sddl : Grammar DescriptorValue
sddl = sddl_in (in_domain None)
