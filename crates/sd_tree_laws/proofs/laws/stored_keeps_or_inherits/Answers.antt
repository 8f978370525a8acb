use Rattle.std.proofs.Common.{Some, ap, ◌++◌}
use Rattle.sd_edit.specs.Inheritance.{handed_on, kept_or_handed}
use Rattle.sd_tree_laws.proofs.laws.stored_keeps_or_inherits.Goals as goal

pub returns-clause-keeps : goal.returns-clause-keeps
returns-clause-keeps c = λ g row own inherited offer above still.
    ap (λ keeps. Some (own ++ kept_or_handed keeps inherited (handed_on g row above))) still

pub returns-clause-inherits : goal.returns-clause-inherits
returns-clause-inherits c = λ g row own inherited offer above other.
    ap (λ keeps. Some (own ++ kept_or_handed keeps inherited (handed_on g row above))) other
