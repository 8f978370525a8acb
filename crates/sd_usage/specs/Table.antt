-- What the table of commands and options says: which row a text names, and what a command takes.
use denote.Enum.Declared.{tag_of}
use Rattle.std.specs.Prelude.{ℕ, Bool, ◌==◌, ◌||◌, ◌&&◌, nat_le, if◌then◌else◌, List, [], ◌∷◌}
use Rattle.std.specs.Prelude.{Option, Some, None, is_some, false, codes, bytes_eq}
use Rattle.std.specs.List.{list_any}
use Rattle.std.specs.Option.{option_map_or}
use Rattle.sd_usage.specs.contracts.row.OptionName.{the_type}
use Rattle.sd_usage.specs.declared.row.Argument.{Argument}
use Rattle.sd_usage.specs.declared.row.Arguments.{Arguments}
use Rattle.sd_usage.specs.declared.row.Arguments.TheVariants as arguments
use Rattle.sd_usage.specs.declared.row.Command.{Command}
use Rattle.sd_usage.specs.declared.row.Flag.{Flag}
use Rattle.sd_usage.specs.declared.row.Flag.TheVariants.{Ids, Key, Pairs, Zero}
use Rattle.sd_usage.specs.declared.row.Flags.{Flags}
use Rattle.sd_usage.specs.declared.row.Flags.TheVariants as flags
use Rattle.sd_usage.specs.declared.row.OptionName.{OptionName}
use Rattle.sd_usage.specs.declared.row.ProgramOption.{ProgramOption}
use Rattle.sd_usage.specs.declared.option_table.TheConstants.{OPTIONS}
use Rattle.sd_usage.specs.declared.table.TheConstants.{COMMANDS}

-- what the first row has for which the test holds
abbrev pub first_of : {Row Value : Type 0} → (Row → Bool) → (Row → Value) → List Row → Option Value
first_of test value [] = None
first_of test value (row ∷ rows) = if test row then Some (value row) else first_of test value rows

-- the command, and the option, that the text names
unfoldable pub command_named : List ℕ → Option Command
command_named text = first_of (λ row. bytes_eq row.0.now text) (λ row. row.1) COMMANDS.now

unfoldable pub option_named : List ℕ → Option ProgramOption
option_named text = first_of (λ row. bytes_eq row.0.now text) (λ row. row.1) OPTIONS.now

-- an option's place among all of them, from 0, in the order in which the type names them
abbrev pub place : OptionName → ℕ
place option = tag_of the_type option

-- the option may go before the command that the text names
unfoldable pub takes_option : List ℕ → OptionName → Bool
takes_option text option =
    option_map_or (λ options. list_any (λ name. place name == place option) options)
    (first_of (λ row. bytes_eq row.0.now text) (λ row. row.2.now) COMMANDS.now) false

-- how many arguments a command requires
abbrev pub count_of : Arguments → ℕ
count_of arguments.Nothing = 0
count_of (arguments.One first) = 1
count_of (arguments.Two first second) = 2
count_of (arguments.Three first second third) = 3
count_of (arguments.Four first second third fourth) = 4

-- which one at this place, from 0
abbrev pub argument_at : Arguments → ℕ → Option Argument
argument_at arguments.Nothing place = None
argument_at (arguments.One first) place = if place == 0 then Some first else None
argument_at (arguments.Two first second) place =
    if place == 0 then Some first else (if place == 1 then Some second else None)
argument_at (arguments.Three first second third) place =
    if place == 0 then Some first else (if place == 1 then Some second else (if place == 2 then Some third else None))
argument_at (arguments.Four first second third fourth) place =
    if place == 0 then Some first else (if place == 1 then Some second
    else (if place == 2 then Some third else (if place == 3 then Some fourth else None)))

-- it takes so many
abbrev pub takes_count : Command → ℕ → Bool
takes_count command count =
    nat_le (count_of command.arguments) count && (is_some command.repeated || count == count_of command.arguments)

abbrev pub flag_name : Flag → List ℕ
flag_name Ids = codes "--ids"
flag_name Zero = codes "-0"
flag_name Key = codes "--key"
flag_name Pairs = codes "--pairs"

-- the command's own option that the text names
abbrev pub flag_in : Flags → List ℕ → Option Flag
flag_in flags.Nothing text = None
flag_in (flags.One flag) text = if bytes_eq (flag_name flag) text then Some flag else None
flag_in (flags.Three first second third) text =
    if bytes_eq (flag_name first) text then Some first
    else (if bytes_eq (flag_name second) text then Some second
    else (if bytes_eq (flag_name third) text then Some third else None))

abbrev pub flag_named : Command → List ℕ → Option Flag
flag_named command text = flag_in command.flags text
