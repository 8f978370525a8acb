-- The rights that are no longer left have their alternatives.
use Rattle.sd_analysis.proofs.Cited.{Access, AllBeyond, HasBase, IsPlain, Some, TokenValue, cond, count_by, false, has_right, holds, is_granted, list_any, not, true, ℕ, ◌&&◌, ◌<◌, ◌≡◌}
use Rattle.sd_analysis.proofs.who_case.Case.accesses.Given as goal

abbrev pub invariant-loop-place : goal.invariant-loop-place
invariant-loop-place l = record {
  exact : (t : TokenValue) (b : ℕ) → IsPlain t → HasBase l.self.base.now t → b < 32
      → list_any (has_right t b) l.accesses.items
      ≡ ((holds l.fn.rights b && not (holds l.left b)) && is_granted l.self.owner.now (Some l.self.entries.now) l.self.mapping.now t b);
  each : (b : ℕ) → b < 32 → count_by (λ (one : Access). holds one.mask b) l.accesses.items ≡ cond (holds l.fn.rights b && not (holds l.left b)) 1 0;
  beyond : AllBeyond l.self.base.now l.accesses.items;
  among : (b : ℕ) → b < 32 → holds l.left b ≡ true → holds l.fn.rights b ≡ true;
  below : (b : ℕ) → b < l.place → holds l.left b ≡ false;
}
