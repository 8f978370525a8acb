-- The value of `--mapping`: what the four generic rights stand for.
use Rattle.std.specs.Prelude.{◌≡◌, ◌⊎◌, ℕ, ◌==◌, List, [], ◌∷◌, if◌then◌else◌, Option, Some, None, option_map, codes}
use Rattle.std.specs.Prelude.{bytes_eq}
use Rattle.std.specs.List.{slice_split}
use Rattle.sd_line.specs.declared.names.ObjectKind.{ObjectKind}
use Rattle.sd_line.specs.declared.names.ObjectKind.TheVariants.{File, Key, Service, Process}
use Rattle.sd_line.specs.declared.names.ObjectKind.TheVariants.{Folder, Directory, Printer, Section, Token, Manager}
use Rattle.sd_sid.specs.Mapping.{MappingValue, IsMapping, file_mapping}
use Rattle.sd_text.specs.Grammar.{Spells}
use Rattle.sd_text.specs.Rights.{mask_text}

-- the kind of object that the text names; of a share the rights are those of files
abbrev pub kind_named : List ℕ → Option ObjectKind
kind_named text =
    if bytes_eq text (codes "file") then Some File
    else if bytes_eq text (codes "folder") then Some Folder
    else if bytes_eq text (codes "share") then Some File
    else if bytes_eq text (codes "ds") then Some Directory
    else if bytes_eq text (codes "key") then Some Key
    else if bytes_eq text (codes "service") then Some Service
    else if bytes_eq text (codes "scm") then Some Manager
    else if bytes_eq text (codes "printer") then Some Printer
    else if bytes_eq text (codes "process") then Some Process
    else if bytes_eq text (codes "section") then Some Section
    else if bytes_eq text (codes "token") then Some Token
    else None

-- a kind's generic mapping: what the four generic rights stand for, by the constants of winnt.h and winsvc.h, [MS-ADTS]
-- 5.1.3.2 of Active Directory's objects, [MS-RPRN] 2.2.3.1 of printers, and [MS-SCMR] 3.1.4 of the service control
-- manager
abbrev pub kind_mapping : ObjectKind → MappingValue
kind_mapping File = file_mapping
kind_mapping Key = record { read = 0x20019; write = 0x20006; execute = 0x20019; all = 0xF003F }
kind_mapping Service = record { read = 0x2008D; write = 0x20002; execute = 0x20170; all = 0xF01FF }
kind_mapping Process = record { read = 0x20410; write = 0x20BEA; execute = 0x121001; all = 0x1FFFFF }
kind_mapping Folder = file_mapping
kind_mapping Directory = record { read = 0x20094; write = 0x20028; execute = 0x20004; all = 0xF01FF }
kind_mapping Printer = record { read = 0x20008; write = 0x20008; execute = 0x20008; all = 0xF000C }
kind_mapping Section = record { read = 0x20005; write = 0x20002; execute = 0x20008; all = 0xF001F }
kind_mapping Token = record { read = 0x20008; write = 0x200E0; execute = 0x20000; all = 0xF01FF }
kind_mapping Manager = record { read = 0x20014; write = 0x20022; execute = 0x20009; all = 0xF003F }

abbrev pub mapping_named : List ℕ → Option MappingValue
mapping_named text = option_map kind_mapping (kind_named text)

-- the kind of object whose mapping is given; without the option it is that of files
abbrev pub kind_given : Option (List ℕ) → Option ObjectKind
kind_given None = Some File
kind_given (Some text) = kind_named text

-- the texts that commas part
abbrev pub between_commas : List ℕ → List (List ℕ)
between_commas text = slice_split (λ b. b == 44) text

-- the texts are the masks for read, write, execute and all
abbrev pub AreMasks : List (List ℕ) → MappingValue → Type 0
AreMasks (read ∷ write ∷ execute ∷ all ∷ []) g =
    Spells mask_text read g.read × Spells mask_text write g.write × Spells mask_text execute g.execute
    × Spells mask_text all g.all
AreMasks texts g = ⊥

-- the text names the mapping, or is its four masks, each within the object's own rights and the standard ones
abbrev pub IsMappingText : List ℕ → MappingValue → Type 0
IsMappingText text g = (mapping_named text ≡ Some g) ⊎ (AreMasks (between_commas text) g × IsMapping g)

-- without the option the mapping is that of files
abbrev pub GivesMapping : Option (List ℕ) → MappingValue → Type 0
GivesMapping None g = g ≡ file_mapping
GivesMapping (Some text) g = IsMappingText text g

-- the text is there, and tells no mapping
abbrev pub GivesNoMapping : Option (List ℕ) → Type 0
GivesNoMapping None = ⊥
GivesNoMapping (Some text) = (g : MappingValue) → IsMappingText text g → ⊥
