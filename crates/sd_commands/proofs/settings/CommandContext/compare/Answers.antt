use Rattle.sd_commands.proofs.Cited.{answer_of, descriptor_of, inl, inr}
use Rattle.sd_commands.proofs.settings.CommandContext.compare.Goals as goal

pub returns-in-Refused : goal.returns-in-Refused
returns-in-Refused c = inr (rw (c.argument.ensures, c.in-Refused.is) at c.in_ok-part.ensures)

pub returns : goal.returns
returns c = inl (
  descriptor_of c.in-Descriptor.part.descriptor,
  c.in-Descriptor.part.left_out,
  rw (c.argument.ensures, c.in-Descriptor.is) at c.in_ok-part.ensures,
  (answer_of c.in_ok-answer.answer, c.in_ok-note_left_out_sacl.ensures, rw (c.new-last.ensures.items, c.items_from-words.ensures.rest) at c.in_ok-answer.ensures),
)
