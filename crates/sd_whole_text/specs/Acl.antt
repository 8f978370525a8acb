-- SACLs and DACLs as text ([MS-DTYP] 2.5.1.1, dacl and sacl).
use Rattle.std.specs.Prelude.{ℕ, List, [], ◌++◌, codes}
use Rattle.std.specs.List.{flat_map}
use Rattle.sd_acl.specs.declared.descriptor.DaclOf.TheVariants.{Absent, Null, List as Entries}
use Rattle.sd_text.specs.Canon.{where_set}
use Rattle.sd_text.specs.declared.right_names.RightNames.{RightNames}
use Rattle.sd_whole.specs.Reading.{WholeAcl}
use Rattle.sd_wire.specs.Reading.{is_set}
use Rattle.sd_whole_text.specs.Entry.{entry_text}
use Rattle.sd_whole_text.specs.declared.no_text.AclKind.{AclKind}
use Rattle.sd_whole_text.specs.declared.no_text.AclKind.TheVariants.{Dacl, Sacl}

-- the head of the section
abbrev pub head_of : AclKind → List ℕ
head_of Dacl = codes "D:"
head_of Sacl = codes "S:"

-- the control bits of the keyword P: PD, PS (2.4.6)
abbrev pub protected_bit : AclKind → ℕ
protected_bit Dacl = 0x1000
protected_bit Sacl = 0x2000

-- of the keyword AR: DC, SC
abbrev pub auto_req_bit : AclKind → ℕ
auto_req_bit Dacl = 0x0100
auto_req_bit Sacl = 0x0200

-- of the keyword AI: DI, SI
abbrev pub auto_inherited_bit : AclKind → ℕ
auto_inherited_bit Dacl = 0x0400
auto_inherited_bit Sacl = 0x0800

-- the keywords of the section
unfoldable pub keywords_text : AclKind → ℕ → List ℕ
keywords_text acl control = where_set (is_set (protected_bit acl) control) (codes "P")
    ++ where_set (is_set (auto_req_bit acl) control) (codes "AR")
    ++ where_set (is_set (auto_inherited_bit acl) control) (codes "AI")

-- the section, if the SACL or the DACL is there
abbrev pub acl_text : RightNames → AclKind → ℕ → WholeAcl → List ℕ
acl_text names kind control Absent = []
acl_text names kind control Null = head_of kind ++ keywords_text kind control ++ codes "NO_ACCESS_CONTROL"
acl_text names kind control (Entries list) =
    head_of kind ++ keywords_text kind control ++ flat_map (entry_text names) list.entries
