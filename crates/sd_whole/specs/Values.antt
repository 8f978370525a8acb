-- Lists and descriptors as plain values ([MS-DTYP] 2.4.5 and 2.4.6).
use Rattle.std.specs.Prelude.{ℕ, List}
use Rattle.sd_whole.specs.declared.ace.WholeAce.{WholeAce}
use Rattle.sd_whole.specs.declared.list.ListRevision.{ListRevision}
use Rattle.sd_whole.specs.declared.list.ListRevision.TheVariants.{Standard, DirectoryService}

-- a list: AclRevision, and the entries
pub record WholeListValue : Type 0 where
  pub revision : ListRevision
  pub entries : List WholeAce

-- AclRevision (2.4.5)
abbrev pub revision_number : ListRevision → ℕ
revision_number Standard = 2
revision_number DirectoryService = 4
