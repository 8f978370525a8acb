-- Names of the table as texts have them: lists of commands, and how a command is written.
use Rattle.std.specs.Prelude.{ℕ, Bool, true, false, if◌then◌else◌, List, [], ◌∷◌, ◌++◌, Option, Some, None}
use Rattle.std.specs.Prelude.{codes}
use Rattle.sd_usage.specs.Table.{flag_name, takes_option}
use Rattle.sd_usage.specs.declared.names.Commands.{Commands}
use Rattle.sd_usage.specs.declared.names.Commands.TheVariants as commands
use Rattle.sd_usage.specs.declared.row.Argument.{Argument}
use Rattle.sd_usage.specs.declared.row.Argument.TheVariants as names
use Rattle.sd_usage.specs.declared.row.Arguments.{Arguments}
use Rattle.sd_usage.specs.declared.row.Arguments.TheVariants as arguments
use Rattle.sd_usage.specs.declared.row.Command.{Command}
use Rattle.sd_usage.specs.declared.row.CommandName.{CommandName}
use Rattle.sd_usage.specs.declared.row.CommandName.TheVariants.{Ask, Script, Serve, Audit, Each}
use Rattle.sd_usage.specs.declared.row.Flag.{Flag}
use Rattle.sd_usage.specs.declared.row.Flags.{Flags}
use Rattle.sd_usage.specs.declared.row.Flags.TheVariants as flags
use Rattle.sd_usage.specs.declared.table.TheConstants.{COMMANDS}

-- ---- lists of commands

-- what stands between a name and those after it
abbrev pub link : List (List ℕ) → List ℕ
link [] = []
link (name ∷ []) = codes " or "
link (name ∷ next ∷ names) = codes ", "

-- the names, each in quotes
abbrev pub listed : List ℕ → List (List ℕ) → List ℕ
listed quote [] = []
listed quote (name ∷ names) = quote ++ name ++ quote ++ link names ++ listed quote names

abbrev pub answers_text : CommandName → Bool
answers_text (Ask question) = true
answers_text Script = false
answers_text Serve = false
answers_text Audit = false
answers_text Each = false

abbrev pub is_among : Commands → List ℕ → Command → Bool
is_among commands.All name command = true
is_among commands.Answering name command = answers_text command.name
is_among (commands.Taking option) name command = takes_option name option

-- what each row has for which the test holds
abbrev pub each_of : {Row Value : Type 0} → (Row → Bool) → (Row → Value) → List Row → List Value
each_of test value [] = []
each_of test value (row ∷ rows) = if test row then value row ∷ each_of test value rows else each_of test value rows

-- the names of these commands, each in quotes
unfoldable pub listed_commands : Commands → List ℕ → List ℕ
listed_commands commands quote =
    listed quote (each_of (λ row. is_among commands row.0.now row.1) (λ row. row.0.now) COMMANDS.now)

-- ---- how a command is written

abbrev pub argument_name : Argument → List ℕ
argument_name names.Descriptor = codes "SDDL"
argument_name names.Old = codes "OLD"
argument_name names.New = codes "NEW"
argument_name names.Parent = codes "PARENT"
argument_name names.Child = codes "CHILD"
argument_name names.Creator = codes "CREATOR"
argument_name names.Bytes = codes "BYTES"
argument_name names.Tree = codes "TREE"
argument_name names.User = codes "USER"
argument_name names.PrimaryGroup = codes "GROUP"
argument_name names.Mask = codes "MASK"
argument_name names.Sid = codes "SID"
argument_name names.OldSid = codes "OLD"
argument_name names.NewSid = codes "NEW"
argument_name names.Word = codes "WORD"
argument_name names.Group = codes "WORD"
argument_name names.Workers = codes "N"
argument_name names.Command = codes "COMMAND"
argument_name names.CommandArgument = codes "ARG"

abbrev pub flag_text : Flag → List ℕ
flag_text flag = codes " [" ++ flag_name flag ++ codes "]"

abbrev pub flags_text : Flags → List ℕ
flags_text flags.Nothing = []
flags_text (flags.One flag) = flag_text flag
flags_text (flags.Three first second third) = flag_text first ++ (flag_text second ++ flag_text third)

abbrev pub argument_text : Argument → List ℕ
argument_text argument = codes " <" ++ argument_name argument ++ codes ">"

-- the first argument, with the place of a first `--`: before the arguments, and of `each` before those of its command
abbrev pub first_text : Argument → List ℕ
first_text names.Command = argument_text names.Command ++ codes " [--]"
first_text argument = codes " [--]" ++ argument_text argument

abbrev pub arguments_text : Arguments → List ℕ
arguments_text arguments.Nothing = []
arguments_text (arguments.One first) = first_text first
arguments_text (arguments.Two first second) = first_text first ++ argument_text second
arguments_text (arguments.Three first second third) = first_text first ++ argument_text second ++ argument_text third
arguments_text (arguments.Four first second third fourth) =
    first_text first ++ argument_text second ++ argument_text third ++ argument_text fourth

abbrev pub repeated_text : Option Argument → List ℕ
repeated_text None = []
repeated_text (Some argument) = codes " [" ++ argument_name argument ++ codes "]..."

abbrev pub usage_line : List ℕ → Command → List ℕ
usage_line name command = codes "sdstore [OPTIONS] " ++ name ++ flags_text command.flags
    ++ arguments_text command.arguments ++ repeated_text command.repeated
