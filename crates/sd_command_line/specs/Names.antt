-- A command line that names a file of accounts or a schema file.
use Rattle.std.specs.Prelude.{ℕ, ◌+◌, Bool, List, ◌++◌, take, drop, Option, Some, None, bytes_eq, codes}
use Rattle.std.specs.List.{position_or_len}
use Rattle.std.specs.Option.{option_and_then}
use Rattle.std.specs.Borrow.{Bor}
use Rattle.sd_arguments.specs.CommandLine.{Ask, CommandLineValue, Each, RequestValue, Runs, reading}
use Rattle.sd_arguments.specs.Options.{OptionsValue, given}
use Rattle.sd_usage.specs.declared.row.OptionName.{OptionName}

-- what is asked of a text or of each line, and under which options
abbrev pub request_in : CommandLineValue → Option (OptionsValue × RequestValue)
request_in (Runs options (Ask text request)) = Some (options, request)
request_in (Runs options (Each given request)) = Some (options, request)
request_in line = None

-- the value of the option, as the name of a file, if the words are a command line about a text that gives one
abbrev pub file_given : OptionName → List (Bor (List ℕ)) → Option (List ℕ)
file_given option words = option_and_then (λ asked. given asked.0 option) (option_and_then request_in (reading words))

-- the place of the option, or the end
unfoldable pub is_accounts : List ℕ → Bool
is_accounts word = bytes_eq word (codes "--accounts")

abbrev pub accounts_place : List (Bor (List ℕ)) → ℕ
accounts_place words = position_or_len (λ (word : Bor (List ℕ)). is_accounts word.now) words

-- the words without the option and the name of the file
abbrev pub without_accounts : List (Bor (List ℕ)) → List (Bor (List ℕ))
without_accounts words =
    let place = accounts_place words in take place words ++ drop (place + 2) words
