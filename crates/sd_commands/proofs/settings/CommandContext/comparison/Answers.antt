use Rattle.sd_acl.specs.Descriptor.{descriptor_of}
use Rattle.sd_answer.specs.Descendants.{inheritance_lines}
use Rattle.sd_answer.specs.declared.forms.TheConstants.{SAME}
use Rattle.sd_commands.proofs.Cited.{IfOk-weaker, [], answer_of, ap, subst, ◌++◌, ◌∙◌}
use Rattle.sd_line.specs.Line.{form, line_of}
use Rattle.sd_commands.specs.Answer.{IsFound}
use Rattle.sd_commands.proofs.settings.CommandContext.comparison.Goals as goal

pub returns : goal.returns
returns c =
    let old = descriptor_of c.args.old.now in
    let new = descriptor_of c.args.new.now in
    let shown = c.in_ok-append.ensures.items ∙ ap (λ front. front ++ c.in_ok-below.below.items) c.in_ok-lines.ensures in
    let with_below = c.in_ok-push_inheritance.ensures ∙ ap (λ front. front ++ inheritance_lines old.protected new.protected) shown in
    let all = c.in_ok-append-2.ensures.items ∙ ap (λ front. front ++ c.args.last.items) with_below in
    IfOk-weaker c.found.result _ _ (λ answer is. (
      c.in_ok-own.own.items,
      c.in_ok-below.below.items,
      c.in_ok-own.ensures,
      c.in_ok-below.ensures,
      subst (λ lines. IsFound (line_of (form SAME) []) lines (answer_of answer)) all is,
    )) c.found.ensures
