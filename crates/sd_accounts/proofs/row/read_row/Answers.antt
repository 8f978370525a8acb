use Rattle.std.proofs.Common.{Err, ap, subst, sym, ◌∙◌, ◌≡◌}
use Rattle.sd_accounts.specs.Fault.{AreNoTwoSids, IsNoOneSid, IsNoRow, IsNoSidAndName, incomplete, no_disabled, no_group, no_keyword, no_member, no_primary, no_user}
use Rattle.sd_accounts.specs.Row.{after_word, first_word}
use Rattle.sd_accounts.specs.declared.fault.AccountsFault.TheVariants.{Keyword, Incomplete}
use Rattle.sd_accounts.specs.declared.fault.RowError.TheVariants.{Fault}
use Rattle.sd_accounts.proofs.Faults.{made, none_of, passed_on}
use Rattle.sd_accounts.proofs.row.read_row.Goals as goal

pub returns-in_err-sid-in-user-clause-fault : goal.returns-in_err-sid-in-user-clause-fault
returns-in_err-sid-in-user-clause-fault c = λ fault is.
    let same = ap Err (passed_on c.from_residual.result c.in_err-sid-in-user.field-0.0 (Fault fault) c.from_residual.ensures.1 is) in
    no_user fault (sym c.cut.ensures.before ∙ c.in-user.is) (subst (λ left. IsNoSidAndName left fault) c.cut.ensures.after (c.in_err-sid-in-user.ensures.fault fault same))

pub returns-in_err-sid-in-group-clause-fault : goal.returns-in_err-sid-in-group-clause-fault
returns-in_err-sid-in-group-clause-fault c = λ fault is.
    let same = ap Err (passed_on c.from_residual-in_err-sid-in-group.result c.in_err-sid-in-group.field-0.0 (Fault fault) c.from_residual-in_err-sid-in-group.ensures.1 is) in
    no_group fault (sym c.cut.ensures.before ∙ c.in-group.is) (subst (λ left. IsNoSidAndName left fault) c.cut.ensures.after (c.in_err-sid-in-group.ensures.fault fault same))

pub returns-in_err-group-in-member-clause-fault : goal.returns-in_err-group-in-member-clause-fault
returns-in_err-group-in-member-clause-fault c = λ fault is.
    let same = made c.from_residual-in_err-group-in-member.result c.in_err-group-in-member.field-0.0 fault c.from_residual-in_err-group-in-member.ensures.1 is in
    no_member fault (sym c.cut.ensures.before ∙ c.in-member.is)
    (subst (AreNoTwoSids (after_word c.args.line.now)) same (subst (λ left. AreNoTwoSids left c.in_err-group-in-member.field-0.0) c.cut.ensures.after c.in_err-group-in-member.ensures.fault))

pub returns-in_err-user-in-primary-clause-fault : goal.returns-in_err-user-in-primary-clause-fault
returns-in_err-user-in-primary-clause-fault c = λ fault is.
    let same = made c.from_residual-in_err-user-in-primary.result c.in_err-user-in-primary.field-0.0 fault c.from_residual-in_err-user-in-primary.ensures.1 is in
    no_primary fault (sym c.cut.ensures.before ∙ c.in-primary.is)
    (subst (AreNoTwoSids (after_word c.args.line.now)) same (subst (λ left. AreNoTwoSids left c.in_err-user-in-primary.field-0.0) c.cut.ensures.after c.in_err-user-in-primary.ensures.fault))

pub returns-in_err-user-in-disabled-clause-fault : goal.returns-in_err-user-in-disabled-clause-fault
returns-in_err-user-in-disabled-clause-fault c = λ fault is.
    let same = made c.from_residual-in_err-user-in-disabled.result c.in_err-user-in-disabled.field-0.0 fault c.from_residual-in_err-user-in-disabled.ensures.1 is in
    no_disabled fault (sym c.cut.ensures.before ∙ c.in-disabled.is)
    (subst (IsNoOneSid (after_word c.args.line.now)) same (subst (λ left. IsNoOneSid left c.in_err-user-in-disabled.field-0.0) c.cut.ensures.after c.in_err-user-in-disabled.ensures.fault))

pub returns-in-incomplete-clause-fault : goal.returns-in-incomplete-clause-fault
returns-in-incomplete-clause-fault c = λ fault is.
    let same : Incomplete ≡ fault = cc (is) in
    subst (IsNoRow c.args.line.now) same (incomplete (sym c.cut.ensures.before ∙ c.in-incomplete.is))

pub returns-in_default-clause-fault : goal.returns-in_default-clause-fault
returns-in_default-clause-fault c = λ fault is.
    let same : Keyword ≡ fault = cc (is) in
    let word = c.cut.ensures.before in
    subst (IsNoRow c.args.line.now) same (no_keyword (none_of (first_word c.args.line.now) (λ e. c.in_default.not-user (word ∙ e)) (λ e. c.in_default.not-group (word ∙ e))
    (λ e. c.in_default.not-member (word ∙ e)) (λ e. c.in_default.not-primary (word ∙ e)) (λ e. c.in_default.not-disabled (word ∙ e))
    (λ e. c.in_default.not-incomplete (word ∙ e))))
