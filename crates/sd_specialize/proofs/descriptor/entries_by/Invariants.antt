use Rattle.std.proofs.Common.{◌≡◌, ◌+◌, ◌++◌, Ok, drop}
use Rattle.sd_specialize.specs.Rule.{rule_of}
use Rattle.sd_specialize.specs.Specialize.{entries_by, ◌>>=◌}
use Rattle.sd_specialize.proofs.descriptor.entries_by.Given as goal

-- what the entries so far are is in the list, and the rest decides the outcome
abbrev pub invariant-loop-i : goal.invariant-loop-i
invariant-loop-i l =
    entries_by (rule_of l.rule) 1 l.entries
    ≡ (entries_by (rule_of l.rule) (l.i + 1) (drop l.i l.entries) >>= λ others. Ok (l.plain.items ++ others))
