-- A text spells one mask.
use Rattle.sd_commands.proofs.Cited.{arith, nat_tests}
use Rattle.sd_commands.proofs.Commas.{none_of}
use Rattle.sd_commands.proofs.mapping.of_mask_texts.Goals as goal

pub returns-in_err-read-clause-none : goal.returns-in_err-read-clause-none
returns-in_err-read-clause-none c = none_of _ _ _ (λ g are low. let no = c.in_err-read.ensures.spelled g.read are.0 in cc (no))

pub returns-in_err-write-clause-none : goal.returns-in_err-write-clause-none
returns-in_err-write-clause-none c = none_of _ _ _ (λ g are low. let no = c.in_err-write.ensures.spelled g.write are.1 in cc (no))

pub returns-in_err-execute-clause-none : goal.returns-in_err-execute-clause-none
returns-in_err-execute-clause-none c = none_of _ _ _ (λ g are low. let no = c.in_err-execute.ensures.spelled g.execute are.2 in cc (no))

pub returns-in_err-all-clause-none : goal.returns-in_err-all-clause-none
returns-in_err-all-clause-none c = none_of _ _ _ (λ g are low. let no = c.in_err-all.ensures.spelled g.all are.3 in cc (no))

pub returns-clause-none : goal.returns-clause-none
returns-clause-none c = none_of _ _ _ (λ g are low.
    let read = c.in_ok-read.ensures.spelled g.read are.0 in
    let write = c.in_ok-write.ensures.spelled g.write are.1 in
    let execute = c.in_ok-execute.ensures.spelled g.execute are.2 in
    let all = c.in_ok-all.ensures.spelled g.all are.3 in
    grind (arith, nat_tests, read, write, execute, all))
