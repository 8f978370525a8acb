-- How masks are spelled, and the rights of entries beside them.
use Rattle.std.specs.Prelude.{ℕ, List, ◌++◌, Some, false, codes}
use Rattle.std.specs.Fmt.{digits}
use Rattle.sd_text.specs.declared.right_names.RightNames.{RightNames}
use Rattle.sd_text.specs.declared.right_names.RightNames.TheVariants.{All, Files, Keys, Common}
use Rattle.sd_line.specs.Names.{mask_names}
use Rattle.sd_line.specs.declared.names.ObjectKind.TheVariants.{File, Folder, Key}
use Rattle.sd_line.specs.declared.spelling.Spelling.{Spelling}
use Rattle.sd_line.specs.declared.spelling.Spelling.TheVariants.{Number, Names}

-- a mask in lower-case hexadecimal without leading zeros
abbrev pub mask_digits : ℕ → List ℕ
mask_digits mask = codes "0x" ++ digits 16 false mask

-- a mask as a number, or by the names of rights of a kind of object
abbrev pub spelled : Spelling → ℕ → List ℕ
spelled Number mask = mask_digits mask
spelled (Names kind) mask = mask_names kind mask

-- the names that rights have in an entry beside masks so spelled
abbrev pub right_names_of : Spelling → RightNames
right_names_of Number = All
right_names_of (Names (Some File)) = Files
right_names_of (Names (Some Folder)) = Files
right_names_of (Names (Some Key)) = Keys
right_names_of (Names kind) = Common
