-- What is answered of a whole descriptor whoever asks, by what the code finds of it.
use Rattle.sd_commands.proofs.Cited.{List, None, Option, Some, descriptor_of, inl, inr, subst, sym, ℕ, ◌≡◌}
use Rattle.std.specs.Prelude.{Err, Ok, Result}
use Rattle.sd_acl.specs.Descriptor.{DescriptorValue}
use Rattle.sd_specialize.specs.declared.fault.SpecializeFault.{SpecializeFault}
use Rattle.sd_whole.specs.Plain.{has_sacl}
use Rattle.sd_whole.specs.Reading.{WholeAcl}
use Rattle.sd_whole.specs.declared.descriptor.WholeDescriptor.{WholeDescriptor}
use Rattle.sd_whole_parse.specs.Part.{IsWhole}
use Rattle.sd_commands.specs.Answer.{AnswerValue, AnswersFit, IsTold}
use Rattle.sd_commands.specs.Diagnostic.{sacl_note}
use Rattle.sd_commands.specs.ForEveryone.{AnswersOfEveryone, AnswersSeen, IsForEveryone, IsOfEveryone, seen_as}
use Rattle.sd_commands.specs.Required.{missing_dacl}
use Rattle.sd_commands.specs.declared.for_everyone.ForEveryone.{ForEveryone}
use Rattle.sd_commands.specs.declared.for_everyone.ForEveryone.TheVariants.{Plain, Refused}
use Rattle.sd_commands.specs.declared.for_everyone.PlainForEveryone.{PlainForEveryone}
use Rattle.sd_commands.specs.declared.settings.Settings.{Settings}

module _ (argument : List ℕ) (Answers : DescriptorValue → AnswerValue → Type 0) (answer : AnswerValue) where
  -- an answer that is that of no plain descriptor
  refused_fit : (missing : Option (List ℕ)) (found : Result DescriptorValue SpecializeFault)
      → AnswersFit argument missing (AnswersSeen argument found (λ plain other. ⊥)) answer
      → AnswersFit argument missing (AnswersSeen argument found Answers) answer
  refused_fit (Some missing) found said = said
  refused_fit None (Ok plain) said = absurd said
  refused_fit None (Err fault) said = said

  -- an answer of a plain descriptor
  fits : (missing : Option (List ℕ)) (found : Result DescriptorValue SpecializeFault) (plain : DescriptorValue)
      → missing ≡ None → found ≡ Ok plain → Answers plain answer
      → AnswersFit argument missing (AnswersSeen argument found Answers) answer
  fits missing found plain is_there is_plain said =
      subst (λ m. AnswersFit argument m (AnswersSeen argument found Answers) answer) (sym is_there)
      (subst (λ f. AnswersSeen argument f Answers answer) (sym is_plain) said)

module _ (argument what : List ℕ) (before : WholeAcl) (settings : Settings) (text : List ℕ) (Answers : WholeDescriptor → DescriptorValue → AnswerValue → Type 0) (answer : AnswerValue) where
  pub refused : AnswersOfEveryone argument what before settings text (λ whole plain other. ⊥) answer → AnswersOfEveryone argument what before settings text Answers answer
  refused (inl (d, is, (inner, noted, said))) = inl (
    d,
    is,
    (
      inner,
      noted,
      refused_fit argument (Answers d) inner (missing_dacl settings.require_dacl d.dacl) (seen_as before settings d) said,
    ),
  )
  refused (inr fault) = inr fault

  pub taken : (plain : PlainForEveryone) (inner : AnswerValue) → IsOfEveryone argument what before settings text (Plain plain)
      → Answers plain.whole (descriptor_of plain.descriptor) inner → IsTold (sacl_note argument what (has_sacl plain.whole)) inner answer
      → AnswersOfEveryone argument what before settings text Answers answer
  taken plain inner (d, is, (is_there, is_plain, one)) said noted = inl (
    d,
    is,
    (
      inner,
      subst (λ whole. IsTold (sacl_note argument what (has_sacl whole)) inner answer) one noted,
      fits argument (Answers d) inner (missing_dacl settings.require_dacl d.dacl) (seen_as before settings d)
          (descriptor_of plain.descriptor) is_there is_plain
          (subst (λ whole. Answers whole (descriptor_of plain.descriptor) inner) one said),
    ),
  )

-- what the code finds of the descriptor that the text is
pub of_text : (argument what : List ℕ) (before : WholeAcl) (settings : Settings) (text : List ℕ) (d : WholeDescriptor) → IsWhole settings.aliases text d
    → (given : ForEveryone) → IsForEveryone argument what before settings d given → IsOfEveryone argument what before settings text given
of_text argument what before settings text d is (Plain plain) found = (d, is, found)
of_text argument what before settings text d is (Refused answer) said = inl (d, is, said)
