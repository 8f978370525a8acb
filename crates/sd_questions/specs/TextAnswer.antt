-- The answer to a question: of a text, of the input, or of each of its lines.
use Rattle.std.specs.Prelude.{◌≡◌, ◌⊎◌, ℕ, ◌==◌, Bool, true, false, ◌&&◌, MatchBool, List, [], ◌∷◌, ◌++◌, length}
use Rattle.std.specs.Prelude.{Option, Some, None, IfSome, if◌then◌else◌, MatchResult, Result, codes}
use Rattle.std.specs.Borrow.{Bor}
use Rattle.std.specs.Str.{IsUtf8}
use Rattle.sd_answer.specs.VerdictLines.{fault_line}
use Rattle.sd_answer.specs.Word.{texts}
use Rattle.sd_lines.specs.Answers.{PrintsAndLeaves}
use Rattle.sd_lines.specs.Decoder.{decoded}
use Rattle.sd_lines.specs.declared.ending.Ending.TheVariants as endings
use Rattle.sd_lines.specs.declared.form.Form.{Form}
use Rattle.sd_line.specs.Line.{LineOf, text_line}
use Rattle.sd_line.specs.Printed.{TagOf, printed}
use Rattle.sd_line.specs.declared.print.Style.{Style}
use Rattle.sd_text.specs.Alias.{in_domain}
use Rattle.sd_usage.specs.declared.row.DescriptorCommand.TheVariants as about
use Rattle.sd_usage.specs.declared.row.TextCommand.{TextCommand}
use Rattle.sd_usage.specs.declared.row.TextCommand.TheVariants.{Descriptor, Diff, Heir, Show, Types}
use Rattle.sd_usage.specs.declared.row.HeirCommand.TheVariants as heirs
use Rattle.sd_commands.specs.Answer.{AnswerValue, IsFault}
use Rattle.sd_commands.specs.CommandAnswer.{AnswersQuestion, argument}
use Rattle.sd_commands.specs.Concern.{IsConcernReason}
use Rattle.sd_commands.specs.Diagnostic.{told_line, IsSidReason}
use Rattle.sd_commands.specs.Escaped.{escaped}
use Rattle.sd_commands.specs.declared.command_answer.Outcome.{Outcome}
use Rattle.sd_commands.specs.declared.command_answer.Outcome.TheVariants.{Fault}
use Rattle.sd_commands.specs.declared.settings.Settings.{Settings}
use Rattle.sd_arguments.specs.CommandLine.{RequestValue}
use Rattle.sd_arguments.specs.Options.{OptionsValue, GivesSettings, style_of}
use Rattle.sd_arguments.specs.declared.flags.GivenFlags.{GivenFlags}
use Rattle.sd_arguments.specs.declared.options.BadValue.{BadValue}
use Rattle.sd_arguments.specs.declared.options.BadValue.TheVariants.{NoAccounts, NoConcern, NoDomain, NoEdits, NoLogon}
use Rattle.sd_arguments.specs.declared.options.BadValue.TheVariants.{NoMapping, NoNodes, NoSelf, NoType}
use Rattle.sd_questions.specs.Each.{after_tab, before_tab, has_key, has_tab, outcome_of_lines, told_of_lines, with_line}
use Rattle.sd_questions.specs.Input.{is_blank, is_utf16, without_end}

-- ---- values of options that aren't read

-- the value of an option isn't read
abbrev pub IsBadOption : List ℕ → List ℕ → AnswerValue → Type 0
IsBadOption name reason answer = IsFault (fault_line name) (told_line (codes "--" ++ name) reason) answer

abbrev pub IsBadValue : BadValue → AnswerValue → Type 0
IsBadValue (NoDomain text points) answer =
    (reason : List ℕ) × IsSidReason points (in_domain None)
    (codes "no domain: S-1-5-21 and three numbers, as S-1-5-21-1-2-3") text.now reason
    × IsBadOption (codes "domain") reason answer
IsBadValue NoAccounts answer = IsBadOption (codes "accounts") (codes "the file isn't read here") answer
IsBadValue NoMapping answer = IsBadOption (codes "mapping")
    (codes "no such mapping: file, folder, share, ds, key, service, scm, printer, process, section, token, or R,W,X,A")
    answer
IsBadValue NoLogon answer = IsBadOption (codes "logon")
    (codes "no such logon: interactive, network, batch, service, anonymous") answer
IsBadValue (NoConcern text known points) answer =
    (reason : List ℕ) × IsConcernReason points known text.now reason
    × IsBadOption (codes "concern") (codes "\"" ++ escaped text.now ++ codes "\": " ++ reason) answer
IsBadValue (NoType text) answer = IsBadOption (codes "type") (codes "\"" ++ escaped text.now
    ++ codes "\": no object type: a GUID, as bf9679c0-0de6-11d0-a285-00aa003049e2") answer
IsBadValue (NoSelf text known points) answer =
    (reason : List ℕ) × IsSidReason points known (codes "no SID") text.now reason
    × IsBadOption (codes "self") reason answer
IsBadValue NoNodes answer = IsBadOption (codes "nodes") (codes "no number of nodes, 1 to 16777216") answer
IsBadValue NoEdits answer = IsBadOption (codes "edits") (codes "no number of edits, 0 to 4294967296") answer

-- ---- questions that have an answer

-- which of two texts is blank
abbrev pub blank_of : (name text other_name other : List ℕ) → Option (List ℕ)
blank_of name text other_name other =
    if is_blank text then Some name else (if is_blank other then Some other_name else None)

-- which of the descriptors is blank, of a command that needs them
abbrev pub blank_name : TextCommand → List ℕ → List (Bor (List ℕ)) → Option (List ℕ)
blank_name (Descriptor about.Compare) text arguments =
    blank_of (codes "OLD") text (codes "NEW") (argument arguments 0)
blank_name Diff text arguments = blank_of (codes "OLD") text (codes "NEW") (argument arguments 0)
blank_name (Heir heirs.Create) text arguments = if is_blank text then Some (codes "PARENT") else None
blank_name (Heir question) text arguments = blank_of (codes "CHILD") text (codes "PARENT") (argument arguments 0)
blank_name question text arguments = None

abbrev pub asks_who : TextCommand → Bool
asks_who (Descriptor about.Who) = true
asks_who question = false

-- where the answer has no line, that is said: no right was asked for
abbrev pub IsSaid : Bool → AnswerValue → AnswerValue → Type 0
IsSaid true plain answer =
    IsFault (fault_line (codes "mask")) (told_line (codes "MASK") (codes "no right is asked for")) answer
IsSaid false plain answer = answer ≡ plain

-- a blank text isn't compared; or else the command's answer to the text, but `who` of no right is a fault
abbrev pub AnswersWith : Option (List ℕ) → Settings → RequestValue → List ℕ → AnswerValue → Type 0
AnswersWith (Some name) settings request text answer =
    IsFault (fault_line (codes "blank")) (told_line name (codes "blank")) answer
AnswersWith None settings request text answer =
    (plain : AnswerValue) × AnswersQuestion settings request.question text request.arguments plain
    × IsSaid (asks_who request.question && length plain.lines == 0) plain answer

abbrev pub AnswersText : Settings → RequestValue → List ℕ → AnswerValue → Type 0
AnswersText settings request text answer =
    AnswersWith (blank_name request.question text request.arguments) settings request text answer

-- the other answer, and advice after what standard error is told otherwise, which rows of tests show
abbrev pub Advising : (AnswerValue → Type 0) → AnswerValue → Type 0
Advising Answers answer = (plain : AnswerValue) × (advice : List ℕ) × Answers plain
    × (answer ≡ record plain { told = plain.told ++ advice })

-- ---- the text that an input is

-- the input is no text that a command answers
abbrev pub IsInputFault : List ℕ → List ℕ → AnswerValue → Type 0
IsInputFault name reason answer = IsFault (fault_line name) (told_line (codes "standard input") reason) answer

-- the command's answer to the text of an input, but a blank one is a fault. What is no character in it isn't UTF-8
abbrev pub AnswersInput : Settings → RequestValue → List ℕ → AnswerValue → Type 0
AnswersInput settings request input answer =
    let text = without_end (decoded input) in
    (IsUtf8 text × MatchBool (is_blank text)
    (IsInputFault (codes "blank") (codes "blank") answer)
    (Advising (AnswersText settings request text) answer))
    ⊎ ((IsUtf8 text → ⊥) × MatchBool (is_utf16 input)
    (IsInputFault (codes "utf16") (codes "not UTF-16") answer)
    (IsInputFault (codes "utf8") (codes "not UTF-8") answer))

-- ---- one answer

-- what answers a text, or without one the input where it is known, under these settings
abbrev pub AnswersUnder : Option (List ℕ) → Option (List ℕ) → RequestValue → Settings → AnswerValue → Type 0
AnswersUnder input (Some text) request settings answer = Advising (AnswersText settings request text) answer
AnswersUnder input None request settings answer =
    (text : List ℕ) × IfSome input (λ bytes. text ≡ bytes) × AnswersInput settings request text answer

-- what answers a text, or without one the input where it is known, under what the options say
abbrev pub AnswersOnce : Option (List ℕ) → OptionsValue → Option (List ℕ) → RequestValue → AnswerValue → Type 0
AnswersOnce input options text request answer =
    (said : Result Settings BadValue) × GivesSettings options said × MatchResult said
    (λ settings. AnswersUnder input text request settings answer) (λ bad. Advising (IsBadValue bad) answer)

-- ---- of each line

-- the answer to a text is the one command's, but a blank one is a fault
abbrev pub AnswersOne : Result Settings BadValue → RequestValue → List ℕ → AnswerValue → Type 0
AnswersOne settings request text answer =
    MatchBool (is_blank text) (IsFault (fault_line (codes "blank")) [] answer)
    (MatchResult settings (λ said. AnswersText said request text answer) (λ bad. IsBadValue bad answer))

-- the answer to a text before a tab, with what stands after that as the next argument; without a tab it is a fault
abbrev pub AnswersPair : Result Settings BadValue → RequestValue → List ℕ → AnswerValue → Type 0
AnswersPair settings request text answer = MatchBool (has_tab text)
    ((arguments : List (Bor (List ℕ))) × (texts arguments ≡ after_tab text ∷ texts request.arguments)
    × AnswersOne settings (record request { arguments = arguments }) (before_tab text) answer)
    (IsFault (fault_line (codes "pair")) [] answer)

abbrev pub AnswersUtf8 : (pairs : Bool) → Result Settings BadValue → RequestValue → List ℕ → AnswerValue → Type 0
AnswersUtf8 true settings request text answer = AnswersPair settings request text answer
AnswersUtf8 false settings request text answer = AnswersOne settings request text answer

-- no text is told of a line that is too long
abbrev pub AnswersTold : (pairs : Bool) → Result Settings BadValue → RequestValue → Option (List ℕ) → AnswerValue
    → Type 0
AnswersTold pairs settings request None answer = IsFault (fault_line (codes "long")) [] answer
AnswersTold pairs settings request (Some text) answer =
    (IsUtf8 text × AnswersUtf8 pairs settings request text answer)
    ⊎ ((IsUtf8 text → ⊥) × IsFault (fault_line (codes "utf8")) [] answer)

-- what follows each answer: an empty line, where an answer may have several lines
abbrev pub after_answer : TextCommand → List LineOf
after_answer (Descriptor about.Why) = text_line [] ∷ []
after_answer (Descriptor about.Who) = text_line [] ∷ []
after_answer (Descriptor about.Compare) = text_line [] ∷ []
after_answer (Descriptor about.Lint) = text_line [] ∷ []
after_answer Types = text_line [] ∷ []
after_answer Show = text_line [] ∷ []
after_answer Diff = text_line [] ∷ []
after_answer (Heir heirs.Stale) = text_line [] ∷ []
after_answer question = []

-- the lines of a line's answer, and what came of it
abbrev pub AnswersLine : (pairs : Bool) → Result Settings BadValue → RequestValue → Option (List ℕ) → List LineOf
    → Outcome → Type 0
AnswersLine pairs settings request told lines outcome =
    (answer : AnswerValue) × AnswersTold pairs settings request told answer
    × (lines ≡ answer.lines ++ after_answer request.question) × (outcome ≡ answer.outcome)

-- where lines have keys, the same of one that is a key, a tab and a text, with the key as the tag of the text's answer;
-- one without a key is a fault
abbrev pub AnswersLineIn : (keys pairs : Bool) → Result Settings BadValue → RequestValue → Option (List ℕ) → TagOf
    → List LineOf → Outcome → Type 0
AnswersLineIn true pairs settings request (Some line) tag lines outcome = MatchBool (has_key line)
    ((tag ≡ Some (codes "key", 9, before_tab line))
    × AnswersLine pairs settings request (Some (after_tab line)) lines outcome)
    ((tag ≡ None) × (lines ≡ fault_line (codes "key") ∷ after_answer request.question) × (outcome ≡ Fault))
AnswersLineIn keys pairs settings request told tag lines outcome =
    (tag ≡ None) × AnswersLine pairs settings request told lines outcome

-- what is printed of a line's answer, in this style, and the worst outcome of the lines up to this one
abbrev pub AnswersNext : GivenFlags → Style → Result Settings BadValue → RequestValue → Option Outcome
    → Option (List ℕ) → List ℕ → Option Outcome → Type 0
AnswersNext given style settings request before told text after =
    (tag : TagOf) × (lines : List LineOf) × (outcome : Outcome)
    × AnswersLineIn given.key given.pairs settings request told tag lines outcome
    × (text ≡ printed style tag lines) × (after ≡ with_line before outcome)

-- the lines of an input, each of which a zero byte or a line feed ends. One that is too long is answered too
abbrev pub form_of : Bool → Form
form_of zero = record {
  ending = if zero then endings.Zero else endings.Feed;
  skips_mark = true;
  stops_at_long = false;
  line_by_line = false;
}

-- what is printed of an answer, what standard error is told beside it, and what came of it
pub record PrintedAnswer : Type 0 where
  pub printed : List ℕ
  pub told : List ℕ
  pub outcome : Outcome

abbrev pub printed_as : Style → AnswerValue → PrintedAnswer
printed_as style answer = record {
  printed = printed style None answer.lines;
  told = answer.told;
  outcome = answer.outcome;
}

-- the lines' answers, one after the other, all under the same settings; the worst of what came of them, and a fault
-- where there is none
abbrev pub AnswersEach : OptionsValue → GivenFlags → RequestValue → Option (List ℕ) → PrintedAnswer → Type 0
AnswersEach options given request input answer =
    (settings : Result Settings BadValue) × GivesSettings options settings
    × (text : List ℕ) × (last : Option Outcome) × IfSome input (λ bytes. text ≡ bytes)
    × PrintsAndLeaves (form_of given.zero) (AnswersNext given (style_of options) settings request) None text
    answer.printed last
    × ((advice : List ℕ) × (answer.told ≡ told_of_lines last advice)) × (answer.outcome ≡ outcome_of_lines last)
