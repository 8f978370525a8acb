-- The names of masks, by kind of object ([MS-DTYP] 2.4.3): one table for masks that are printed and parsed.
use Rattle.std.specs.Prelude.{ℕ, Bool, true, false, ◌&&◌, if◌then◌else◌, List, [], ◌∷◌, ◌++◌, Option, Some, None, codes}
use Rattle.std.specs.Str.{str_eq_ignore_ascii_case}
use Rattle.std.specs.Borrow.{Bor}
use Rattle.sd_text.specs.Grammar.{Name}
use Rattle.sd_line.specs.MaskNames.{named_from}
use Rattle.sd_text.specs.Rights.{bits}
use Rattle.sd_line.specs.declared.names.ObjectKind.{ObjectKind}
use Rattle.sd_line.specs.declared.names.ObjectKind.TheVariants.{File, Key, Service, Process}
use Rattle.sd_line.specs.declared.names.ObjectKind.TheVariants.{Folder, Directory, Printer, Section, Token, Manager}

-- a name for bits, and the kind of object that has it, or none where every object does
abbrev pub NamedBits : Type 0
NamedBits = Name ℕ × Option ObjectKind

-- of a file, a registry key, a service, a process, a folder, an object of Active Directory, a printer, a section, a
-- token, the service control manager, and of every object
abbrev pub file : List ℕ → ℕ → NamedBits
file letters mask = (bits letters mask, Some File)

abbrev pub key : List ℕ → ℕ → NamedBits
key letters mask = (bits letters mask, Some Key)

abbrev pub service : List ℕ → ℕ → NamedBits
service letters mask = (bits letters mask, Some Service)

abbrev pub process : List ℕ → ℕ → NamedBits
process letters mask = (bits letters mask, Some Process)

abbrev pub folder : List ℕ → ℕ → NamedBits
folder letters mask = (bits letters mask, Some Folder)

abbrev pub directory : List ℕ → ℕ → NamedBits
directory letters mask = (bits letters mask, Some Directory)

abbrev pub printer : List ℕ → ℕ → NamedBits
printer letters mask = (bits letters mask, Some Printer)

abbrev pub section : List ℕ → ℕ → NamedBits
section letters mask = (bits letters mask, Some Section)

abbrev pub token : List ℕ → ℕ → NamedBits
token letters mask = (bits letters mask, Some Token)

abbrev pub manager : List ℕ → ℕ → NamedBits
manager letters mask = (bits letters mask, Some Manager)

abbrev pub any : List ℕ → ℕ → NamedBits
any letters mask = (bits letters mask, None)

-- what Windows lists as the permissions of a file, and masks that winnt.h names, where SDDL has a shorter name or names
-- that are these bits together
unfoldable pub long_names : List NamedBits
long_names =
    file (codes "Full control") 0x1F01FF ∷ file (codes "Read & execute") 0x1200A9 ∷ file (codes "Read") 0x120089
    ∷ file (codes "FILE_GENERIC_WRITE") 0x120116 ∷ file (codes "FILE_GENERIC_EXECUTE") 0x1200A0
    ∷ key (codes "KEY_ALL_ACCESS") 0xF003F ∷ key (codes "KEY_READ") 0x20019 ∷ key (codes "KEY_WRITE") 0x20006
    ∷ printer (codes "Manage this printer") 0xF000C ∷ printer (codes "Manage documents") 0xF0030
    ∷ printer (codes "Print") 0x20008 ∷ []

-- the names of SDDL for masks of a kind and for rights of every object (KX has the mask of KR), and names of one word
-- for masks that it has none for, the greatest mask first
unfoldable pub short_names : List NamedBits
short_names =
    any (codes "GR") 0x80000000 ∷ any (codes "GW") 0x40000000 ∷ any (codes "GX") 0x20000000
    ∷ any (codes "GA") 0x10000000 ∷ process (codes "PROCESS_ALL_ACCESS") 0x1FFFFF ∷ file (codes "FA") 0x1F01FF
    ∷ file (codes "Modify") 0x1301BF ∷ file (codes "FW") 0x120116 ∷ file (codes "FX") 0x1200A0
    ∷ file (codes "FR") 0x120089 ∷ file (codes "Write") 0x100116 ∷ service (codes "SERVICE_ALL_ACCESS") 0xF01FF
    ∷ directory (codes "GenericAll") 0xF01FF ∷ token (codes "TOKEN_ALL_ACCESS") 0xF01FF ∷ key (codes "KA") 0xF003F
    ∷ manager (codes "SC_MANAGER_ALL_ACCESS") 0xF003F ∷ printer (codes "JOB_ALL_ACCESS") 0xF0030
    ∷ section (codes "SECTION_ALL_ACCESS") 0xF001F ∷ printer (codes "PRINTER_ALL_ACCESS") 0xF000C
    ∷ any (codes "WO") 0x80000 ∷ any (codes "WD") 0x40000 ∷ token (codes "TOKEN_WRITE") 0x200E0
    ∷ directory (codes "GenericRead") 0x20094 ∷ directory (codes "GenericWrite") 0x20028 ∷ key (codes "KR") 0x20019
    ∷ printer (codes "PRINTER_READ") 0x20008 ∷ token (codes "TOKEN_READ") 0x20008 ∷ key (codes "KW") 0x20006
    ∷ any (codes "RC") 0x20000 ∷ any (codes "SD") 0x10000 ∷ directory (codes "CR") 0x100 ∷ directory (codes "LO") 0x80
    ∷ directory (codes "DT") 0x40 ∷ directory (codes "WP") 0x20 ∷ directory (codes "RP") 0x10
    ∷ directory (codes "SW") 0x8 ∷ directory (codes "LC") 0x4 ∷ directory (codes "DC") 0x2
    ∷ directory (codes "CC") 0x1 ∷ []

-- the rights, one bit each
unfoldable pub rights : List NamedBits
rights =
    folder (codes "FILE_LIST_DIRECTORY") 0x1 ∷ file (codes "FILE_READ_DATA") 0x1 ∷ folder (codes "FILE_ADD_FILE") 0x2
    ∷ file (codes "FILE_WRITE_DATA") 0x2 ∷ folder (codes "FILE_ADD_SUBDIRECTORY") 0x4
    ∷ file (codes "FILE_APPEND_DATA") 0x4 ∷ file (codes "FILE_READ_EA") 0x8 ∷ file (codes "FILE_WRITE_EA") 0x10
    ∷ folder (codes "FILE_TRAVERSE") 0x20 ∷ file (codes "FILE_EXECUTE") 0x20 ∷ file (codes "FILE_DELETE_CHILD") 0x40
    ∷ file (codes "FILE_READ_ATTRIBUTES") 0x80 ∷ file (codes "FILE_WRITE_ATTRIBUTES") 0x100
    ∷ key (codes "KEY_QUERY_VALUE") 0x1 ∷ key (codes "KEY_SET_VALUE") 0x2 ∷ key (codes "KEY_CREATE_SUB_KEY") 0x4
    ∷ key (codes "KEY_ENUMERATE_SUB_KEYS") 0x8 ∷ key (codes "KEY_NOTIFY") 0x10 ∷ key (codes "KEY_CREATE_LINK") 0x20
    ∷ key (codes "KEY_WOW64_64KEY") 0x100 ∷ key (codes "KEY_WOW64_32KEY") 0x200
    ∷ service (codes "SERVICE_QUERY_CONFIG") 0x1 ∷ service (codes "SERVICE_CHANGE_CONFIG") 0x2
    ∷ service (codes "SERVICE_QUERY_STATUS") 0x4 ∷ service (codes "SERVICE_ENUMERATE_DEPENDENTS") 0x8
    ∷ service (codes "SERVICE_START") 0x10 ∷ service (codes "SERVICE_STOP") 0x20
    ∷ service (codes "SERVICE_PAUSE_CONTINUE") 0x40 ∷ service (codes "SERVICE_INTERROGATE") 0x80
    ∷ service (codes "SERVICE_USER_DEFINED_CONTROL") 0x100 ∷ process (codes "PROCESS_TERMINATE") 0x1
    ∷ process (codes "PROCESS_CREATE_THREAD") 0x2 ∷ process (codes "PROCESS_SET_SESSIONID") 0x4
    ∷ process (codes "PROCESS_VM_OPERATION") 0x8 ∷ process (codes "PROCESS_VM_READ") 0x10
    ∷ process (codes "PROCESS_VM_WRITE") 0x20 ∷ process (codes "PROCESS_DUP_HANDLE") 0x40
    ∷ process (codes "PROCESS_CREATE_PROCESS") 0x80 ∷ process (codes "PROCESS_SET_QUOTA") 0x100
    ∷ process (codes "PROCESS_SET_INFORMATION") 0x200 ∷ process (codes "PROCESS_QUERY_INFORMATION") 0x400
    ∷ process (codes "PROCESS_SUSPEND_RESUME") 0x800 ∷ process (codes "PROCESS_QUERY_LIMITED_INFORMATION") 0x1000
    ∷ process (codes "PROCESS_SET_LIMITED_INFORMATION") 0x2000 ∷ directory (codes "ADS_RIGHT_DS_CREATE_CHILD") 0x1
    ∷ directory (codes "ADS_RIGHT_DS_DELETE_CHILD") 0x2 ∷ directory (codes "ADS_RIGHT_ACTRL_DS_LIST") 0x4
    ∷ directory (codes "ADS_RIGHT_DS_SELF") 0x8 ∷ directory (codes "ADS_RIGHT_DS_READ_PROP") 0x10
    ∷ directory (codes "ADS_RIGHT_DS_WRITE_PROP") 0x20 ∷ directory (codes "ADS_RIGHT_DS_DELETE_TREE") 0x40
    ∷ directory (codes "ADS_RIGHT_DS_LIST_OBJECT") 0x80 ∷ directory (codes "ADS_RIGHT_DS_CONTROL_ACCESS") 0x100
    ∷ printer (codes "SERVER_ACCESS_ADMINISTER") 0x1 ∷ printer (codes "SERVER_ACCESS_ENUMERATE") 0x2
    ∷ printer (codes "PRINTER_ACCESS_ADMINISTER") 0x4 ∷ printer (codes "PRINTER_ACCESS_USE") 0x8
    ∷ printer (codes "JOB_ACCESS_ADMINISTER") 0x10 ∷ printer (codes "JOB_ACCESS_READ") 0x20
    ∷ printer (codes "PRINTER_ACCESS_MANAGE_LIMITED") 0x40 ∷ section (codes "SECTION_QUERY") 0x1
    ∷ section (codes "SECTION_MAP_WRITE") 0x2 ∷ section (codes "SECTION_MAP_READ") 0x4
    ∷ section (codes "SECTION_MAP_EXECUTE") 0x8 ∷ section (codes "SECTION_EXTEND_SIZE") 0x10
    ∷ section (codes "SECTION_MAP_EXECUTE_EXPLICIT") 0x20 ∷ token (codes "TOKEN_ASSIGN_PRIMARY") 0x1
    ∷ token (codes "TOKEN_DUPLICATE") 0x2 ∷ token (codes "TOKEN_IMPERSONATE") 0x4 ∷ token (codes "TOKEN_QUERY") 0x8
    ∷ token (codes "TOKEN_QUERY_SOURCE") 0x10 ∷ token (codes "TOKEN_ADJUST_PRIVILEGES") 0x20
    ∷ token (codes "TOKEN_ADJUST_GROUPS") 0x40 ∷ token (codes "TOKEN_ADJUST_DEFAULT") 0x80
    ∷ token (codes "TOKEN_ADJUST_SESSIONID") 0x100 ∷ manager (codes "SC_MANAGER_CONNECT") 0x1
    ∷ manager (codes "SC_MANAGER_CREATE_SERVICE") 0x2 ∷ manager (codes "SC_MANAGER_ENUMERATE_SERVICE") 0x4
    ∷ manager (codes "SC_MANAGER_LOCK") 0x8 ∷ manager (codes "SC_MANAGER_QUERY_LOCK_STATUS") 0x10
    ∷ manager (codes "SC_MANAGER_MODIFY_BOOT_CONFIG") 0x20 ∷ any (codes "DELETE") 0x10000
    ∷ any (codes "READ_CONTROL") 0x20000 ∷ any (codes "WRITE_DAC") 0x40000 ∷ any (codes "WRITE_OWNER") 0x80000
    ∷ any (codes "SYNCHRONIZE") 0x100000 ∷ any (codes "ACCESS_SYSTEM_SECURITY") 0x1000000
    ∷ any (codes "MAXIMUM_ALLOWED") 0x2000000 ∷ any (codes "GENERIC_ALL") 0x10000000
    ∷ any (codes "GENERIC_EXECUTE") 0x20000000 ∷ any (codes "GENERIC_WRITE") 0x40000000
    ∷ any (codes "GENERIC_READ") 0x80000000 ∷ []

-- an object of the first kind has the names of the second; a folder also those of files
abbrev pub has_names_of : ObjectKind → ObjectKind → Bool
has_names_of File File = true
has_names_of Key Key = true
has_names_of Service Service = true
has_names_of Process Process = true
has_names_of Folder Folder = true
has_names_of Folder File = true
has_names_of Directory Directory = true
has_names_of Printer Printer = true
has_names_of Section Section = true
has_names_of Token Token = true
has_names_of Manager Manager = true
has_names_of kind other = false

-- whether a name is one for objects of this kind, and not of every kind
abbrev pub is_own : Option ObjectKind → Option ObjectKind → Bool
is_own kind None = false
is_own None (Some other) = false
is_own (Some kind) (Some other) = has_names_of kind other

-- whether it is one for objects of this kind; of no kind only that of every object is
abbrev pub is_of : Option ObjectKind → Option ObjectKind → Bool
is_of kind None = true
is_of kind of = is_own kind of

abbrev pub names_of : Option ObjectKind → List NamedBits → List (Name ℕ)
names_of kind [] = []
names_of kind (named ∷ rest) = if is_of kind named.1 then named.0 ∷ names_of kind rest else names_of kind rest

-- a mask by names, as FR+WD
abbrev pub mask_names : Option ObjectKind → ℕ → List ℕ
mask_names kind mask = named_from (names_of kind (short_names ++ rights)) mask 0 []

-- the bits of the first of these names that the word is, in any case
abbrev pub bits_among : List NamedBits → Option ObjectKind → List ℕ → Option ℕ
bits_among [] kind word = None
bits_among (named ∷ rest) kind word =
    if is_of kind named.1 && str_eq_ignore_ascii_case named.0.letters word then Some named.0.stands_for
    else bits_among rest kind word

-- the mask that the word names
abbrev pub mask_named : Option ObjectKind → List ℕ → Option ℕ
mask_named kind word = bits_among (long_names ++ short_names ++ rights) kind word

-- a row of a table of the code
abbrev pub named_bits : Bor (List ℕ) × ℕ × Option ObjectKind → NamedBits
named_bits row = (bits row.0.now row.1, row.2)
