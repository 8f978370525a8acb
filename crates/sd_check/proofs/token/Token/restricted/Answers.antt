-- The index is that of the lists' items.
use Rattle.std.proofs.Common.{subst, length}
use Rattle.sd_check.proofs.Cited.{IsIndex, MarksEach}
use Rattle.sd_check.proofs.token.Token.restricted.Goals as goal

pub invariant_of-result : goal.invariant_of-result
invariant_of-result c =
    let heads = c.new-index.result.heads in
    let nexts = c.new-index.result.nexts in (
      subst (λ groups. IsIndex heads nexts groups (length groups)) c.deref.ensures.value c.new-index.ensures.chains,
      c.new-index.ensures.user,
      subst (λ groups. MarksEach heads nexts groups c.args.restricting.items) c.deref.ensures.value
          (subst (λ sids. MarksEach heads nexts c.deref.result.now sids) c.deref-2.ensures.value c.new-index.ensures.marks),
    )
