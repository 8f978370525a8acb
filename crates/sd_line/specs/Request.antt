-- The rights that a request asks for.
use Rattle.std.specs.Prelude.{ℕ, not, ◌&&◌, Option, Some}
use Rattle.sd_sid.specs.Mask.{holds, mask_of}
use Rattle.sd_line.specs.declared.names.ObjectKind.{ObjectKind}
use Rattle.sd_line.specs.declared.names.ObjectKind.TheVariants.{Key}

-- of a registry key all but KEY_WOW64_64KEY and KEY_WOW64_32KEY, which say which view of the registry is opened
abbrev pub requested : Option ObjectKind → ℕ → ℕ
requested (Some Key) request = mask_of (λ b. holds request b && not (holds 0x300 b)) 32
requested kind request = request
