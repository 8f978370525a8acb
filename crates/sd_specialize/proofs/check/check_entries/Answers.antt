-- Each turn goes on with what the next entry became, or ends with its fault.
use Rattle.std.proofs.Common.{◌≡◌, ◌++◌, ◌∷◌, [], List, Result, Ok, Err, Option, Some, ap, arith, refl, sym, ◌∙◌}
use Rattle.std.proofs.lemmas.Result.{err_from_is_err_and}
use Rattle.std.proofs.lemmas.Iterator.Adapters.{option_map_id}
use Rattle.sd_check.specs.Check.{verdict}
use Rattle.sd_sid.specs.Sid.{SidValue}
use Rattle.sd_specialize.specs.Context.{context_of}
use Rattle.sd_specialize.specs.Entry.{entry_for}
use Rattle.sd_acl.specs.declared.ace.Ace.{Ace}
use Rattle.sd_specialize.specs.Specialize.{entries_for, ◌>>=◌}
use Rattle.sd_specialize.specs.declared.fault.SpecializeFault.{SpecializeFault}
use Rattle.sd_specialize.proofs.Checked.{fails, fits, grown_size, too_large}
use Rattle.sd_specialize.proofs.Lists.{grown}
use Rattle.sd_specialize.proofs.check.check_entries.Goals as goal

pub loop-i-init : goal.loop-i-init
loop-i-init g c = ([], so_far (entries_for (context_of c.args.context.now) 1 c.args.entries.now), c.begin-progress.ensures _, refl, omega arith)
  where
    so_far : (found : Result (List Ace) SpecializeFault) → found ≡ (found >>= λ others. Ok ([] ++ others))
    so_far (Ok es) = refl
    so_far (Err fault) = refl

pub returns-in_err-next-clause-exact : goal.returns-in_err-next-clause-exact
returns-in_err-next-clause-exact g c =
    let p = err_from_is_err_and c.from_residual.result c.from_residual.ensures.1 in
    let asked = c.args.asked.now in
    let so_far = c.loop-i.invariant in
    rw (p.1, p.2) (fails (context_of c.args.context.now) c.args.entries.now asked.owner.now asked.mapping.now asked.token.now asked.asked c.loop-i.i so_far.0
    c.index-entries-i.result c.in_err-next.field-0.0 c.loop-i-test.true c.index-entries-i.is so_far.1 (c.in_err-next.ensures.fault c.in_err-next.field-0.0 refl))

pub overflow_add-size : goal.overflow_add-size
overflow_add-size g c = omega (arith, c.loop-i.invariant.4, c.in_ok-next.ensures.next.4)

pub loop-i-preserved : goal.loop-i-preserved
loop-i-preserved g c =
    let so_far = c.loop-i.invariant in
    let next = c.in_ok-next.ensures.next in (
      so_far.0 ++ next.0 ∷ [],
      grown (entry_for (context_of c.args.context.now)) c.args.entries.now c.loop-i.i c.index-entries-i.result next.0 so_far.0 (so_far.0 ++ next.0 ∷ [])
          c.loop-i-test.true c.index-entries-i.is next.1 so_far.1 refl,
      next.2 so_far.0 so_far.2,
      grown_size so_far.0 next.0 c.loop-i.size c.in_ok-next.entry_size so_far.3 next.3,
      omega (arith, so_far.4, next.4),
    )

pub returns-then-size-gt-MAX_ACL_BYTES-clause-exact : goal.returns-then-size-gt-MAX_ACL_BYTES-clause-exact
returns-then-size-gt-MAX_ACL_BYTES-clause-exact g c =
    let asked = c.args.asked.now in
    let so_far = c.loop-i.invariant in
    ap (λ found. found >>= λ plain. Ok (verdict asked.owner.now (Some plain) asked.mapping.now asked.token.now asked.asked))
    (too_large (context_of c.args.context.now) c.args.entries.now c.loop-i.i so_far.0 c.loop-i.size c.loop-i-test.false so_far.1 so_far.3 c.if-size-gt-MAX_ACL_BYTES.true)

pub returns-clause-exact : goal.returns-clause-exact
returns-clause-exact g c =
    let asked = c.args.asked.now in
    let so_far = c.loop-i.invariant in
    ap (λ found. found >>= λ plain. Ok (verdict asked.owner.now (Some plain) asked.mapping.now asked.token.now asked.asked))
    (fits (context_of c.args.context.now) c.args.entries.now c.loop-i.i so_far.0 c.loop-i.size c.loop-i-test.false so_far.1 so_far.3 c.if-size-gt-MAX_ACL_BYTES.false)
    ∙ ap (λ v. Ok v) (sym (c.verdict.ensures so_far.0 so_far.2
    ∙ ap (λ (owner : Option SidValue). verdict owner (Some so_far.0) asked.mapping.now asked.token.now asked.asked) (option_map_id asked.owner.now)))
