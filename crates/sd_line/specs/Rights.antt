-- The line of `rights`: a mask, the permission that it is, and the names of its rights, as winnt.h and winsvc.h have
-- them.
use Rattle.std.specs.Prelude.{ℕ, ◌&&◌, ◌==◌, if◌then◌else◌, List, [], ◌∷◌, ◌++◌, Option, Some, None, codes}
use Rattle.sd_line.specs.MaskNames.{named_from}
use Rattle.sd_line.specs.Spelling.{mask_digits}
use Rattle.sd_line.specs.Line.{LineOf, text_line}
use Rattle.sd_line.specs.Names.{NamedBits, is_own, long_names, names_of, rights, short_names}
use Rattle.sd_line.specs.declared.names.ObjectKind.{ObjectKind}

-- the rights, as FILE_READ_DATA+DELETE, and bits without a name as a number after them
abbrev pub right_names : Option ObjectKind → ℕ → List ℕ
right_names kind mask = named_from (names_of kind rights) mask 0 []

-- the first of the kind's own names that is for just this mask
abbrev pub permission_among : List NamedBits → Option ObjectKind → ℕ → Option (List ℕ)
permission_among [] kind mask = None
permission_among (named ∷ rest) kind mask =
    if is_own kind named.1 && named.0.stands_for == mask then Some named.0.letters
    else permission_among rest kind mask

-- the mask's name, as Windows lists it, or else as it is printed under `--names`
abbrev pub permission_named : Option ObjectKind → ℕ → Option (List ℕ)
permission_named kind mask = permission_among (long_names ++ short_names) kind mask

abbrev pub permission_text : Option (List ℕ) → List ℕ
permission_text None = []
permission_text (Some name) = codes " " ++ name

abbrev pub rights_text : Option ObjectKind → ℕ → List ℕ
rights_text kind mask =
    mask_digits mask ++ permission_text (permission_named kind mask) ++ codes ": " ++ right_names kind mask

-- of no kind
abbrev pub rights_line : Option ObjectKind → ℕ → LineOf
rights_line kind mask = text_line (rights_text kind mask)
