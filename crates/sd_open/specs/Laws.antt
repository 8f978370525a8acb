-- What follows from the rules, over all files, parents and requests.
use Rattle.std.specs.Prelude.{◌≡◌, ℕ, true, ◌||◌, if◌then◌else◌, Option, None}
use Rattle.sd_acl.specs.Descriptor.{DescriptorValue}
use Rattle.sd_check.specs.Check.{dacl_entries, is_granted, verdict}
use Rattle.sd_check.specs.Token.{TokenValue}
use Rattle.sd_check.specs.declared.verdict.Verdict.TheVariants.{Denied, Granted}
use Rattle.sd_sid.specs.Mapping.{MappingValue}
use Rattle.sd_open.specs.Open.{by_parent, grants, is_granted_with, open_verdict, parent_grants}

-- without a parent the open is the check of the file
abbrev pub OpenWithoutParentIsACheck : Type 0
OpenWithoutParentIsACheck =
    (file : DescriptorValue) (g : MappingValue) (t : TokenValue) (r : ℕ)
    → open_verdict file None g t r ≡ verdict file.owner (dacl_entries file.dacl) g t r

-- what the file's descriptor grants no parent takes away
abbrev pub ParentTakesNothing : Type 0
ParentTakesNothing =
    (file : DescriptorValue) (parent : Option DescriptorValue) (g : MappingValue) (t : TokenValue) (b : ℕ)
    → is_granted file.owner (dacl_entries file.dacl) g t b ≡ true
    → is_granted_with (by_parent parent g t) file g t b ≡ true

-- an open for DELETE is granted exactly if the file grants DELETE, or its parent FILE_DELETE_CHILD
abbrev pub DeletionIsGrantedByEither : Type 0
DeletionIsGrantedByEither =
    (file : DescriptorValue) (parent : Option DescriptorValue) (g : MappingValue) (t : TokenValue)
    → open_verdict file parent g t 0x10000
    ≡ (if grants (verdict file.owner (dacl_entries file.dacl) g t 0x10000) || parent_grants parent g t 0x40
    then Granted 0x10000 else Denied 0x10000)
