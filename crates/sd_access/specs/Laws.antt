-- What follows from the rules, over all questions and descriptors.
use Rattle.std.specs.Prelude.{◌≡◌, ◌≤◌, false, ◌&&◌, is_some, Ok}
use Rattle.sd_acl.specs.Descriptor.{DescriptorValue}
use Rattle.sd_check.specs.Check.{dacl_entries, verdict}
use Rattle.sd_label.specs.Label.{label_of_object}
use Rattle.sd_specialize.specs.Laws.{has_self}
use Rattle.sd_whole.specs.Plain.{plain_part}
use Rattle.sd_whole.specs.Whole.{IsWholeDescriptor}
use Rattle.sd_whole.specs.declared.descriptor.WholeDescriptor.{WholeDescriptor}
use Rattle.sd_access.specs.Access.{whole_verdict}
use Rattle.sd_access.specs.Question.{QuestionValue}

-- a descriptor with a plain part is checked as that part, for a client of the object's level or a higher one, if it has
-- no entry for PRINCIPAL SELF or the question names nobody for it
abbrev pub PlainIsCheckedAsBefore : Type 0
PlainIsCheckedAsBefore =
    (q : QuestionValue) (d : WholeDescriptor) (plain : DescriptorValue) → IsWholeDescriptor d
    → plain_part d ≡ Ok plain → (is_some q.principal_self && has_self d.dacl) ≡ false
    → (label_of_object d.sacl).level ≤ q.client.level
    → whole_verdict q d ≡ Ok (verdict plain.owner (dacl_entries plain.dacl) q.mapping q.client.token q.asked)
