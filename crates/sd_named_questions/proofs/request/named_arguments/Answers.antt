-- All arguments of `lint` are groups.
use Rattle.sd_named_questions.proofs.request.named_arguments.Goals as goal

pub returns-in-Descriptor-Lint : goal.returns-in-Descriptor-Lint
returns-in-Descriptor-Lint c =
    let field = rw c.in-Descriptor-Lint.is at c.in-Descriptor-Lint.field-0-is in
    rw (c.in-Descriptor-Lint.is, field) c.of_words.ensures.named
