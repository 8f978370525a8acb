-- Opens of existing files ([MS-FSA] 2.1.5.1.2.1, Algorithm to Check Access to an Existing File): what is granted is
-- what the check of the file's descriptor grants; DELETE, if DELETE or MAXIMUM_ALLOWED is asked for, to who has
-- FILE_DELETE_CHILD by the descriptor of the file's parent; and FILE_READ_ATTRIBUTES likewise to who has
-- FILE_LIST_DIRECTORY by it. What is asked for beside these is missing. So neither right is lost by a deny entry of the
-- file, and no other right of the parent counts.
use Rattle.std.specs.Prelude.{◌≡◌, ℕ, Bool, true, false, ◌||◌, if◌then◌else◌, Option, Some, None, option_map}
use Rattle.std.specs.Borrow.{Bor}
use Rattle.sd_acl.specs.Descriptor.{DescriptorValue, descriptor_of}
use Rattle.sd_acl.specs.declared.descriptor.Descriptor.{Descriptor}
use Rattle.sd_check.specs.Check.{dacl_entries, is_granted, joined_with, judged, most, reserved_of, verdict}
use Rattle.sd_check.specs.Check.{without_maximum}
use Rattle.sd_check.specs.Token.{TokenValue}
use Rattle.sd_check.specs.declared.verdict.Verdict.{Verdict}
use Rattle.sd_check.specs.declared.verdict.Verdict.TheVariants.{Granted}
use Rattle.sd_sid.specs.Mapping.{MappingValue, mapped}
use Rattle.sd_sid.specs.Mask.{holds}

-- ---- what the parent grants

abbrev pub grants : Verdict → Bool
grants (Granted mask) = true
grants _ = false

-- the check of the parent for the right grants it; a volume's root has no parent
abbrev pub parent_grants : Option DescriptorValue → MappingValue → TokenValue → ℕ → Bool
parent_grants None g t right = false
parent_grants (Some parent) g t right = grants (verdict parent.owner (dacl_entries parent.dacl) g t right)

-- DELETE, 0x10000, by FILE_DELETE_CHILD, 0x40; FILE_READ_ATTRIBUTES, 0x80, by FILE_LIST_DIRECTORY, 0x01
abbrev pub by_parent : Option DescriptorValue → MappingValue → TokenValue → ℕ
by_parent parent g t =
    joined_with (if parent_grants parent g t 0x40 then 0x10000 else 0)
    (if parent_grants parent g t 0x01 then 0x80 else 0)

-- ---- what is granted

-- where the parent grants these rights more
abbrev pub is_granted_with : ℕ → DescriptorValue → MappingValue → TokenValue → ℕ → Bool
is_granted_with more file g t b = is_granted file.owner (dacl_entries file.dacl) g t b || holds more b

-- MAXIMUM_ALLOWED takes them in
abbrev pub most_with : ℕ → DescriptorValue → MappingValue → TokenValue → ℕ
most_with more file g t = joined_with (most file.owner (dacl_entries file.dacl) g t) more

abbrev pub verdict_with : ℕ → DescriptorValue → MappingValue → TokenValue → ℕ → Verdict
verdict_with more file g t r = judged g (is_granted_with more file g t) (most_with more file g t) r

-- the verdict on an open for these rights
abbrev pub open_verdict : DescriptorValue → Option DescriptorValue → MappingValue → TokenValue → ℕ → Verdict
open_verdict file parent g t r = verdict_with (by_parent parent g t) file g t r

-- none of the rights is generic, reserved or MAXIMUM_ALLOWED
pub record IsOwnRights (g : MappingValue) (q : ℕ) : Type 0 where
  pub free : reserved_of q ≡ 0
  pub by_name : holds q 25 ≡ false
  pub mapped : mapped g (without_maximum q) ≡ q

-- a parent that is borrowed
abbrev pub borrowed : Option (Bor Descriptor) → Option DescriptorValue
borrowed parent = option_map (λ (d : Bor Descriptor). descriptor_of d.now) parent
