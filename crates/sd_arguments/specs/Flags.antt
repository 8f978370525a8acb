-- A command's own options, which stand between it and its arguments.
use Rattle.std.specs.Prelude.{ℕ, Bool, true, if◌then◌else◌, List, [], ◌∷◌, Some, None}
use Rattle.std.specs.Borrow.{Bor}
use Rattle.sd_usage.specs.Table.{flag_named}
use Rattle.sd_usage.specs.declared.row.Command.{Command}
use Rattle.sd_usage.specs.declared.row.Flag.{Flag}
use Rattle.sd_usage.specs.declared.row.Flag.TheVariants.{Ids, Key, Pairs, Zero}
use Rattle.sd_arguments.specs.declared.flags.GivenFlags.{GivenFlags}

abbrev pub is_given : GivenFlags → Flag → Bool
is_given given Ids = given.ids
is_given given Zero = given.zero
is_given given Key = given.key
is_given given Pairs = given.pairs

abbrev pub with_flag : GivenFlags → Flag → GivenFlags
with_flag given Ids = record given { ids = true }
with_flag given Zero = record given { zero = true }
with_flag given Key = record given { key = true }
with_flag given Pairs = record given { pairs = true }

-- those that its arguments begin with, each once, in any order, beside those that are given already, and the arguments
-- after them
abbrev pub flags_in : Command → GivenFlags → List (Bor (List ℕ)) → GivenFlags × List (Bor (List ℕ))
flags_in command given [] = (given, [])
flags_in command given (word ∷ words) =
    elim (flag_named command word.now) [
      | Some flag ↦ if is_given given flag then (given, word ∷ words)
          else flags_in command (with_flag given flag) words
      | None ↦ (given, word ∷ words)
    ]
