-- What a command line means, by the table of commands and options: which arguments run a command, with which options,
-- and which ask for help or for the version. Any other arguments are none.
use Rattle.std.specs.Prelude.{◌≡◌, ℕ, List, [], ◌∷◌, ◌+◌, ◌-◌, ◌*◌, length, nat_le, Bool, true, false, not}
use Rattle.std.specs.Prelude.{⊤, ◌||◌, ◌&&◌}
use Rattle.std.specs.Prelude.{if◌then◌else◌, is_some, Option, Some, None, option_map, codes, bytes_eq}
use Rattle.std.specs.Option.{option_and_then, option_map_or, option_or}
use Rattle.std.specs.Borrow.{Bor}
use Rattle.std.specs.Char.{is_ascii_digit}
use Rattle.sd_usage.specs.Table.{command_named, takes_count}
use Rattle.sd_usage.specs.declared.row.Command.{Command}
use Rattle.sd_usage.specs.declared.row.CommandName.{CommandName}
use Rattle.sd_usage.specs.declared.row.CommandName.TheVariants as names
use Rattle.sd_usage.specs.declared.row.OptionName.TheVariants.{Stdin, Whole}
use Rattle.sd_usage.specs.declared.row.DescriptorCommand.TheVariants.{Compare}
use Rattle.sd_usage.specs.declared.row.TextCommand.{TextCommand}
use Rattle.sd_usage.specs.declared.row.TextCommand.TheVariants.{Descriptor, Diff, Types}
use Rattle.sd_arguments.specs.declared.command_line.Call.{Call}
use Rattle.sd_arguments.specs.declared.command_line.ProgramRequest.{ProgramRequest}
use Rattle.sd_arguments.specs.declared.command_line.ProgramRequest.TheVariants as asked
use Rattle.sd_arguments.specs.declared.command_line.CommandLine.{CommandLine}
use Rattle.sd_arguments.specs.declared.command_line.Invocation.{Invocation}
use Rattle.sd_arguments.specs.declared.command_line.Invocation.TheVariants as invocations
use Rattle.sd_arguments.specs.declared.command_line.ScriptRun.{ScriptRun}
use Rattle.sd_arguments.specs.declared.command_line.ScriptRun.TheVariants.{AtOnce, LineByLine, Audit}
use Rattle.sd_arguments.specs.declared.command_line.TextRequest.{TextRequest}
use Rattle.sd_arguments.specs.Flags.{flags_in}
use Rattle.sd_arguments.specs.declared.flags.GivenFlags.{GivenFlags}
use Rattle.sd_arguments.specs.declared.flags.TheConstants.{NO_FLAGS}
use Rattle.sd_arguments.specs.Options.{OptionsValue, go_before, has, no_options, options_in, options_of}

-- a command that answers a text, with its arguments after that
pub record RequestValue : Type 0 where
  pub question : TextCommand
  pub arguments : List (Bor (List ℕ))

abbrev pub request_of : TextRequest → RequestValue
request_of request = record { question = request.question; arguments = request.arguments.now }

-- what a command is asked: the answer to a text, which is the input where none is given; that to each line of the
-- input; or the output of the script that the input is
pub data InvocationValue : Type 0 where
  Ask : Option (List ℕ) → RequestValue → InvocationValue
  Each : GivenFlags → RequestValue → InvocationValue
  Script : ScriptRun → InvocationValue

abbrev pub invocation_of : Invocation → InvocationValue
invocation_of (invocations.Ask text request) = Ask (option_map (λ text. text.now) text) (request_of request)
invocation_of (invocations.Each given request) = Each given (request_of request)
invocation_of (invocations.Script run) = Script run

-- a command line: help on a command or on the program, the version, or what a command is asked under these options
pub data CommandLineValue : Type 0 where
  Help : Option CommandName → CommandLineValue
  Version : CommandLineValue
  Runs : OptionsValue → InvocationValue → CommandLineValue

abbrev pub line_of : OptionsValue → ProgramRequest → CommandLineValue
line_of options (asked.Help command) = Help command
line_of options asked.Version = Version
line_of options (asked.Runs invocation) = Runs options (invocation_of invocation)

abbrev pub command_line_of : CommandLine → CommandLineValue
command_line_of line = line_of (options_of line.options) line.asked

abbrev pub is_help_flag : List ℕ → Bool
is_help_flag word = bytes_eq word (codes "-h") || bytes_eq word (codes "--help")

abbrev pub is_help : List ℕ → Bool
is_help word = bytes_eq word (codes "help")

abbrev pub is_version_flag : List ℕ → Bool
is_version_flag word = bytes_eq word (codes "-V") || bytes_eq word (codes "--version")

-- ---- what follows a command

-- the arguments after a command and its own options: each as it stands, but for a first `--`
abbrev pub arguments_in : List (Bor (List ℕ)) → List (Bor (List ℕ))
arguments_in [] = []
arguments_in (word ∷ words) = if bytes_eq word.now (codes "--") then words else word ∷ words

-- the number that two decimal digits write, where it is one of 1 to 64
abbrev pub count_of : ℕ → ℕ → Option ℕ
count_of tens ones =
    let count = (tens - 48) * 10 + (ones - 48) in
    if is_ascii_digit tens && is_ascii_digit ones && nat_le 1 count && nat_le count 64 then Some count else None

-- a number of workers: 1 to 64, in one or two decimal digits
abbrev pub workers_of : List ℕ → Option ℕ
workers_of [] = None
workers_of (ones ∷ []) = count_of 48 ones
workers_of (tens ∷ ones ∷ []) = count_of tens ones
workers_of (a ∷ b ∷ c ∷ rest) = None

-- ---- a command, and what follows it

-- after these options, with which the words begin
pub record CallValue : Type 0 where
  pub options : OptionsValue
  pub words : List (Bor (List ℕ))
  pub name : List ℕ
  pub command : Command
  pub given : GivenFlags
  pub arguments : List (Bor (List ℕ))

abbrev pub call_of : Call → CallValue
call_of call = record {
  options = options_of call.options;
  words = call.words.now;
  name = call.name.now;
  command = call.command;
  given = call.given;
  arguments = call.arguments.now;
}

-- the command goes only beside `--whole`
abbrev pub is_of_whole : CommandName → Bool
is_of_whole (names.Ask Types) = true
is_of_whole name = false

-- which isn't given
abbrev pub lacks_whole : CallValue → Bool
lacks_whole call = is_of_whole call.command.name && not (has call.options Whole)

-- what it asks for, where each option before it may go there, and none is missing
abbrev pub asks : CallValue → InvocationValue → Option InvocationValue
asks call invocation =
    if go_before call.name call.options call.words && not (lacks_whole call) then Some invocation else None

-- with pairs a line is the first two arguments of its command
abbrev pub arguments_of_line : (pairs : Bool) → ℕ
arguments_of_line pairs = if pairs then 2 else 1

-- the commands of two texts
abbrev pub takes_pairs : TextCommand → Bool
takes_pairs (Descriptor Compare) = true
takes_pairs Diff = true
takes_pairs question = false

-- what it asks of a text, or with pairs of two, that the arguments follow: a command that answers a text, with as many
-- as it takes
abbrev pub request_after : (pairs : Bool) → CommandName → CallValue → Option RequestValue
request_after pairs (names.Ask question) call =
    if not pairs || takes_pairs question
    then (if takes_count call.command (arguments_of_line pairs + length call.arguments)
    then Some (record { question = question; arguments = call.arguments }) else None)
    else None
request_after pairs name call = None

abbrev pub text_request : (pairs : Bool) → (RequestValue → InvocationValue) → CommandName → CallValue
    → Option InvocationValue
text_request pairs Invoked name call =
    option_and_then (λ request. asks call (Invoked request)) (request_after pairs name call)

-- the command that the arguments begin with, its own options, and its arguments
abbrev pub call_in : OptionsValue → (words rest : List (Bor (List ℕ))) → Option CallValue
call_in options words [] = None
call_in options words (name ∷ rest) =
    option_map (λ command. let own = flags_in command NO_FLAGS rest in record {
      options = options;
      words = words;
      name = name.now;
      command = command;
      given = own.0;
      arguments = arguments_in own.1;
    }) (command_named name.now)

-- the audit by as many workers as the word says
abbrev pub audit_by : CallValue → List ℕ → Option InvocationValue
audit_by call word = option_and_then (λ n. asks call (Script (Audit n))) (workers_of word)

-- what the command that these arguments begin with asks of each line
abbrev pub each_by : CallValue → List (Bor (List ℕ)) → Option InvocationValue
each_by call words =
    option_and_then (λ called. text_request call.given.pairs (Each call.given) called.command.name called)
    (call_in call.options call.words words)

-- what a command asks for with these arguments, as many as it takes
abbrev pub request_by : CommandName → CallValue → List (Bor (List ℕ)) → Option InvocationValue
request_by (names.Ask question) call (text ∷ arguments) =
    asks call (Ask (Some text.now) (record { question = question; arguments = arguments }))
request_by names.Script call arguments = asks call (Script AtOnce)
request_by names.Serve call arguments = asks call (Script (LineByLine call.given.ids))
request_by names.Audit call (workers ∷ arguments) = audit_by call workers.now
request_by names.Each call arguments = each_by call arguments
request_by name call arguments = None

abbrev pub request_on : CallValue → Option InvocationValue
request_on call =
    if takes_count call.command (length call.arguments) then request_by call.command.name call call.arguments else None

-- what a command asks for with its arguments, or after `--stdin` what it asks of the input
abbrev pub asked_by : CallValue → Option InvocationValue
asked_by call =
    if has call.options Stdin then text_request false (Ask None) call.command.name call else request_on call

-- the command after the options with which the words begin
abbrev pub first_call : List (Bor (List ℕ)) → Option CallValue
first_call words = option_and_then (λ read. call_in read.0 words read.1) (options_in no_options words)

-- ---- help and the version

-- the help on the command that the text names
abbrev pub help_on : List ℕ → Option CommandLineValue
help_on word = option_map (λ command. Help (Some command.name)) (command_named word)

-- the help or the version that the arguments ask for, one or two
abbrev pub shown_by : List (Bor (List ℕ)) → Option CommandLineValue
shown_by [] = None
shown_by (word ∷ []) =
    if is_help_flag word.now || is_help word.now then Some (Help None)
    else (if is_version_flag word.now then Some Version
    else None)
shown_by (word ∷ next ∷ []) =
    if is_help word.now then (if is_help next.now then Some (Help None) else help_on next.now)
    else (if is_help_flag next.now then help_on word.now
    else None)
shown_by (word ∷ next ∷ other ∷ words) = None

-- ---- the command line

-- what the command after the options asks for
abbrev pub run_by : List (Bor (List ℕ)) → Option CommandLineValue
run_by words = option_and_then (λ call. option_map (Runs call.options) (asked_by call)) (first_call words)

-- what the arguments after the program's name ask for
abbrev pub asked_by_words : List (Bor (List ℕ)) → Option CommandLineValue
asked_by_words words = option_or (shown_by words) (run_by words)

-- what all of them ask for, where they are a command line
abbrev pub reading : List (Bor (List ℕ)) → Option CommandLineValue
reading [] = None
reading (name ∷ words) = asked_by_words words

-- the arguments aren't a command line
abbrev pub IsUnread : List (Bor (List ℕ)) → Type 0
IsUnread words = reading words ≡ None

-- whether it is answered from the input: a script, or a question of the input or of each of its lines
abbrev pub uses_input : CommandLineValue → Bool
uses_input (Runs options (Ask text request)) = not (is_some text)
uses_input (Runs options invocation) = true
uses_input line = false

-- the arguments ask for what is answered from the input
abbrev pub asks_input : List (Bor (List ℕ)) → Bool
asks_input words = option_map_or uses_input (reading words) false

-- it is an audit
abbrev pub IsAudit : CommandLineValue → Type 0
IsAudit (Runs options (Script (Audit workers))) = ⊤
IsAudit line = ⊥
