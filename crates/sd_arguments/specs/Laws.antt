-- What follows from the table of commands and from the parser of a command line.
use Rattle.std.specs.Prelude.{◌≡◌, ℕ, ◌+◌, ◌≤◌, List, [], ◌∷◌, ◌++◌, length, map, Bool, true, false, Option, Some, None}
use Rattle.std.specs.Prelude.{codes}
use Rattle.std.specs.Option.{option_map_or}
use Rattle.std.specs.Borrow.{Bor}
use Rattle.sd_line.specs.Laws.{are_distinct}
use Rattle.sd_usage.specs.declared.row.OptionName.TheVariants.{Domain, Names}
use Rattle.sd_usage.specs.declared.row.DescriptorCommand.{DescriptorCommand}
use Rattle.sd_usage.specs.declared.row.DescriptorCommand.TheVariants.{Why}
use Rattle.sd_usage.specs.declared.row.TextCommand.TheVariants.{Descriptor}
use Rattle.sd_usage.specs.declared.option_table.TheConstants.{OPTIONS}
use Rattle.sd_usage.specs.declared.table.TheConstants.{COMMANDS}
use Rattle.sd_arguments.specs.CommandLine.{CallValue, CommandLineValue, InvocationValue, RequestValue, Ask, Each}
use Rattle.sd_arguments.specs.CommandLine.{Runs, arguments_of_line, reading, request_on, text_request}
use Rattle.sd_arguments.specs.Options.{no_options, with_value}
use Rattle.sd_arguments.specs.declared.flags.GivenFlags.{GivenFlags}

-- no two commands have one name, and no two options
abbrev pub CommandsAreDistinct : Type 0
CommandsAreDistinct = are_distinct (map (λ row. row.0.now) COMMANDS.now) ≡ true

abbrev pub OptionsAreDistinct : Type 0
OptionsAreDistinct = are_distinct (map (λ row. row.0.now) OPTIONS.now) ≡ true

-- whether what was read is help or the version
abbrev pub is_shown : CommandLineValue → Bool
is_shown (Runs options invocation) = false
is_shown line = true

abbrev pub shows : Option CommandLineValue → Bool
shows read = option_map_or is_shown read false

-- help and the version answer two arguments after the program's name at most
abbrev pub HelpStandsAlone : Type 0
HelpStandsAlone = (words : List (Bor (List ℕ))) → shows (reading words) ≡ true → length words ≤ 3

-- after a command's name and `--` each argument is that of its place, whatever its text
abbrev pub DashesKeepTexts : DescriptorCommand → List ℕ → Type 0
DashesKeepTexts question command = (name word dashes sddl user mask : Bor (List ℕ)) (words : List (Bor (List ℕ)))
    → word.now ≡ command → dashes.now ≡ codes "--"
    → reading (name ∷ word ∷ dashes ∷ sddl ∷ user ∷ mask ∷ words) ≡ Some (Runs no_options
    (Ask (Some sddl.now) (record { question = Descriptor question; arguments = user ∷ mask ∷ words })))

-- after `--names`, `--domain` with its SID, `why` and `--` each argument is that of its place, whatever its text
abbrev pub OptionsKeepTexts : Type 0
OptionsKeepTexts = (name option domain sid word dashes sddl user mask : Bor (List ℕ)) (words : List (Bor (List ℕ)))
    → option.now ≡ codes "--names" → domain.now ≡ codes "--domain" → word.now ≡ codes "why" → dashes.now ≡ codes "--"
    → reading (name ∷ option ∷ domain ∷ sid ∷ word ∷ dashes ∷ sddl ∷ user ∷ mask ∷ words) ≡ Some (Runs
    (with_value (with_value no_options Names []) Domain sid.now)
    (Ask (Some sddl.now) (record { question = Descriptor Why; arguments = user ∷ mask ∷ words })))

-- the request with an argument more before its own, where there is one
abbrev pub with_more : List (Bor (List ℕ)) → RequestValue → RequestValue
with_more more request = record request { arguments = more ++ request.arguments }

-- what is asked so of a text, or of two, is what the command asks with them as its first arguments
abbrev pub AsksTheCommand : (RequestValue → InvocationValue) → Type 0
AsksTheCommand Invoked = (pairs : Bool) (call : CallValue) (text : Bor (List ℕ)) (more : List (Bor (List ℕ)))
    (request : RequestValue) → 1 + length more ≡ arguments_of_line pairs
    → text_request pairs Invoked call.command.name call ≡ Some (Invoked request)
    → request_on (record call { arguments = text ∷ (more ++ call.arguments) })
    ≡ Some (Ask (Some text.now) (with_more more request))

-- of each line
abbrev pub EachAsksTheCommand : Type 0
EachAsksTheCommand = (given : GivenFlags) → AsksTheCommand (Each given)

-- of the input
abbrev pub InputAsksTheCommand : Type 0
InputAsksTheCommand = AsksTheCommand (Ask None)
