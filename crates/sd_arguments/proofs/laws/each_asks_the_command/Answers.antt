use Rattle.std.proofs.Common.{None}
use Rattle.sd_arguments.specs.CommandLine.{Ask, Each}
use Rattle.sd_arguments.proofs.LawProofs.{asks_the_command}
use Rattle.sd_arguments.proofs.laws.each_asks_the_command.Goals as goal

pub returns : goal.returns
returns c = record {
  each = λ given. asks_the_command (Each given) (λ a b is. cc);
  input = asks_the_command (Ask None) (λ a b is. cc);
}
