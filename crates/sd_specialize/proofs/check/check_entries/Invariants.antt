-- The entries so far became those that the check has come to, and the size is theirs.
use Rattle.std.proofs.Common.{◌≡◌, ◌≤◌, ◌+◌, ◌*◌, List, nat_eq, not}
use Rattle.sd_acl.specs.Ace.{acl_size_of}
use Rattle.sd_acl.specs.declared.ace.Ace.{Ace}
use Rattle.sd_check.specs.Fold.{asking, IsCheckProgress}
use Rattle.sd_specialize.specs.Context.{context_of}
use Rattle.sd_specialize.proofs.Checked.{Became}
use Rattle.sd_specialize.proofs.check.check_entries.Given as goal

abbrev pub invariant-loop-i : goal.invariant-loop-i
invariant-loop-i g l =
    (seen : List Ace) × Became (context_of l.context) l.entries l.i seen
    × IsCheckProgress (not (nat_eq (denote.Param.value_of (denote.Param.number g.row.BOTH)) 0)) (asking (λ s. s) l.asked) seen l.progress
    × (l.size ≡ acl_size_of seen) × (l.size ≤ 8 + 76 * l.i)
