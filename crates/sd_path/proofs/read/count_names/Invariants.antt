use Rattle.sd_path.proofs.Cited.{between_slashes, fault_of, length, ◌+◌, ◌-◌, ◌≡◌}
use Rattle.sd_path.proofs.read.count_names.Given as goal

abbrev pub invariant-loop-before : goal.invariant-loop-before
invariant-loop-before l = record {
  judged : fault_of 128 (between_slashes l.names) ≡ fault_of (128 - l.before) (between_slashes l.rest);
  counted : length (between_slashes l.names) ≡ l.before + length (between_slashes l.rest);
}
