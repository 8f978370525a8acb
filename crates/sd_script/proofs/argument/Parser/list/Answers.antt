-- The descriptor that was found, and what was left out of it.
use Rattle.std.proofs.Common.{arith, inl, rules}
use Rattle.std.proofs.lemmas.Grind.{common_steps}
use Rattle.sd_acl.specs.Descriptor.{descriptor_of}
use Rattle.sd_script.proofs.argument.Parser.list.Goals as goal

pub returns-in_default : goal.returns-in_default
returns-in_default c =
    let part = c.in_ok-descriptor.field-0 in
    inl (
      (descriptor_of part.descriptor, part.left_out),
      c.in_ok-descriptor.ensures.read,
      elim c.in_default.branch [
        | goal.in_default-via-in-None+in_default w ↦ first_of (search rules, grind (arith, common_steps))
        | goal.in_default-via-in_default w ↦ first_of (search rules, grind (arith, common_steps))
        | goal.in_default-via-in-None+in-None-group+then-protected w ↦ first_of (search rules, grind (arith, common_steps))
        | goal.in_default-via-in-None+in-None-group+else-protected+in-Absent-1 w ↦ first_of (search rules, grind (arith, common_steps))
      ],
    )

pub returns-in-None-None-false-List : goal.returns-in-None-None-false-List
returns-in-None-None-false-List c =
    let part = c.in_ok-descriptor.field-0 in
    inl ((descriptor_of part.descriptor, part.left_out), c.in_ok-descriptor.ensures.read, first_of (search rules, grind (arith, common_steps)))
