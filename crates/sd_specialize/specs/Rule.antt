-- What the entries of a list become: for one question, or for all tokens.
use Rattle.sd_specialize.specs.Context.{context_of}
use Rattle.sd_specialize.specs.Entry.{entry_for}
use Rattle.sd_specialize.specs.Marked.{lent_marks, marked_entry}
use Rattle.sd_specialize.specs.Specialize.{EntryRule}
use Rattle.sd_specialize.specs.declared.rule.Rule.{Rule}
use Rattle.sd_specialize.specs.declared.rule.Rule.TheVariants.{Asked, Marked}

unfoldable pub rule_of : Rule → EntryRule
rule_of (Asked c) = entry_for (context_of c.now)
rule_of (Marked m) = marked_entry (context_of m.context.now) (lent_marks m.marks.now)
