-- A descriptor with a plain part is checked as that part.
use Rattle.std.proofs.Common.{◌≡◌, ◌≤◌, nat_lt, Ok, ap, ◌∙◌}
use Rattle.std.proofs.lemmas.Bool.{cond-false, le-ltb}
use Rattle.sd_acl.specs.Descriptor.{DescriptorValue}
use Rattle.sd_check.specs.Check.{dacl_entries}
use Rattle.sd_label.proofs.LawProofs.{nothing_taken_changes_nothing}
use Rattle.sd_label.specs.Label.{label_of_object}
use Rattle.sd_label.specs.Under.{verdict_under}
use Rattle.sd_specialize.proofs.PlainStays.{plain_stays_plain}
use Rattle.sd_specialize.specs.Specialize.{◌>>=◌}
use Rattle.sd_whole.specs.declared.descriptor.WholeDescriptor.{WholeDescriptor}
use Rattle.sd_access.specs.Access.{context_for, plain_verdict, taken_from}
use Rattle.sd_access.specs.Laws.{PlainIsCheckedAsBefore}
use Rattle.sd_access.specs.Question.{QuestionValue}

-- a client that isn't below the object loses nothing
nothing_taken : (q : QuestionValue) (d : WholeDescriptor) → (label_of_object d.sacl).level ≤ q.client.level → taken_from q d ≡ 0
nothing_taken q d high = cond-false (nat_lt q.client.level (label_of_object d.sacl).level) _ _ (le-ltb q.client.level (label_of_object d.sacl).level high)

pub plain_is_checked_as_before : PlainIsCheckedAsBefore
plain_is_checked_as_before q d plain is part nobody high =
    ap (λ found. found >>= λ (p : DescriptorValue). Ok (plain_verdict q d p)) (plain_stays_plain (context_for q d) d plain is nobody part)
    ∙ ap (λ n. Ok (verdict_under n plain.owner (dacl_entries plain.dacl) q.mapping q.client.token q.asked)) (nothing_taken q d high)
    ∙ ap Ok (nothing_taken_changes_nothing plain.owner (dacl_entries plain.dacl) q.mapping q.client.token q.asked)
