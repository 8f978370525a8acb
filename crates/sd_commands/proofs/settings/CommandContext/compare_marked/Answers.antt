use Rattle.std.specs.Borrow.{Bor}
use Rattle.std.specs.Prelude.{option_copied, option_map}
use Rattle.sd_acl.specs.Descriptor.{DescriptorValue, descriptor_of}
use Rattle.sd_line.specs.Line.{LineOf}
use Rattle.sd_whole.specs.declared.ace.TypedAce.{TypedAce}
use Rattle.sd_commands.specs.Answer.{AnswerValue}
use Rattle.sd_commands.specs.Handed.{HandedValue, handed_of, lent_handed}
use Rattle.sd_commands.specs.declared.handed.Handed.{Handed}
use Rattle.sd_commands.specs.declared.settings.Settings.{Settings}
use Rattle.sd_commands.proofs.Cited.{IfOk-weaker, List, None, Option, Some, answer_of, ap, subst, ℕ, ◌∙◌, ◌≡◌}
use Rattle.sd_commands.specs.CommandAnswer.{AnswersComparison, AnswersOfBase}
use Rattle.sd_commands.specs.WholeVerdict.{everyone_context}
use Rattle.sd_specialize.specs.Copies.{with_copies}
use Rattle.sd_commands.specs.WholeVerdict.{everyone_context}
use Rattle.sd_specialize.specs.Copies.{with_copies}
use Rattle.sd_specialize.specs.Marked.{lent_marks}
use Rattle.sd_commands.proofs.settings.CommandContext.compare_marked.Goals as goal

-- what is lent is what is owned
lent : (handed : Option (Bor Handed)) (own : Option Handed) → option_copied handed ≡ own → lent_handed handed ≡ option_map handed_of own
lent None own is = ap (option_map handed_of) is
lent (Some handed) own is = ap (option_map handed_of) is

-- by other names of the same conditions, entries and descriptors it is the same answer
alike : (settings : Settings) (words : List (Bor (List ℕ))) (answer : AnswerValue) (some these : List TypedAce) (one handed : Option HandedValue)
    (old first new second : DescriptorValue) (last : List LineOf) → some ≡ these → one ≡ handed → old ≡ first → new ≡ second
    → AnswersOfBase settings words (AnswersComparison settings some one last old new) answer
    → AnswersOfBase settings words (AnswersComparison settings these handed last first second) answer
alike settings words answer some these one handed old first new second last same inherits is_old is_new said =
    subst (λ all. AnswersOfBase settings words (AnswersComparison settings all handed last first second) answer) same
    (subst (λ all. AnswersOfBase settings words (AnswersComparison settings some all last first second) answer) inherits
    (subst (λ d. AnswersOfBase settings words (AnswersComparison settings some one last d second) answer) is_old
    (subst (λ d. AnswersOfBase settings words (AnswersComparison settings some one last old d) answer) is_new said)))

pub returns : goal.returns
returns c =
    let settings = c.args.self.now.settings.now in
    let old = descriptor_of c.args.old.descriptor in
    let new = descriptor_of c.args.new.descriptor in
    let inner = answer_of c.in_ok-answer.answer in
    let for_old = c.in_ok-plain_old.ensures ∙ ap (λ marks. with_copies (everyone_context settings) marks old) (ap lent_marks c.deref.ensures.value ∙ c.in_ok-marks.ensures) in
    let for_new = c.in_ok-plain_new.ensures ∙ ap (λ marks. with_copies (everyone_context settings) marks new) (ap lent_marks c.deref-2.ensures.value ∙ c.in_ok-marks.ensures) in
    let marks = ap lent_marks c.deref-3.ensures.value ∙ c.in_ok-marks.ensures in
    let handed = lent _ _ c.as_ref-handed.ensures.value ∙ c.in_ok-handed.ensures in
    IfOk-weaker c.note_types.result _ _ (λ answer told. (
      c.children_are_left_out-is_left.result,
      c.children_are_left_out-is_left.ensures,
      c.change_has_types-depends.result,
      c.change_has_types-depends.ensures,
      c.in_ok-last.last.items,
      c.in_ok-last.ensures,
      (
        inner,
        told,
        alike settings c.args.words.now inner _ _ _ _ _ _ _ _ _ marks handed for_old for_new c.in_ok-answer.ensures,
      ),
    )) c.note_types.ensures
