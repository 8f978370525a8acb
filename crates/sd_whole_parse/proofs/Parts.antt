-- The plain part of a text, of which only a left-out SACL is reported.
use Rattle.std.proofs.Common.{List, ap, false, true, ℕ}
use Rattle.std.specs.Prelude.{Bool}
use Rattle.sd_acl.specs.Descriptor.{DescriptorValue}
use Rattle.sd_text.specs.declared.alias.Aliases.{Aliases}
use Rattle.sd_whole_parse.specs.Part.{IsPart, IsTextPart}
use Rattle.sd_whole_parse.specs.declared.part.LeftOut.{LeftOut}

abbrev sacl_of : LeftOut → Bool
sacl_of left_out = left_out.sacl

pub part_of_text : (known : Aliases) (whole : Bool) (text : List ℕ) (d : DescriptorValue) (left_out : LeftOut)
    → IsTextPart known whole text d left_out → IsPart known whole text d left_out.sacl
part_of_text known true text d left_out (w, is, part, lacks) = (w, is, part, ap sacl_of lacks)
part_of_text known false text d left_out (is, lacks) = (is, ap sacl_of lacks)
