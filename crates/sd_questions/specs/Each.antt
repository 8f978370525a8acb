-- What comes of the lines of `each`: what their parts are, and how all were answered.
use Rattle.std.specs.Prelude.{ℕ, ◌+◌, ◌==◌, nat_lt, Bool, not, ◌&&◌, List, length, take, drop, codes}
use Rattle.std.specs.Prelude.{Option, Some, None}
use Rattle.std.specs.List.{list_any, position_or_len}
use Rattle.std.specs.Option.{unwrap_or}
use Rattle.sd_commands.specs.Answer.{or_worse}
use Rattle.sd_commands.specs.Diagnostic.{told_line}
use Rattle.sd_commands.specs.declared.command_answer.Outcome.{Outcome}
use Rattle.sd_commands.specs.declared.command_answer.Outcome.TheVariants.{Fault}

-- ---- parts

-- the place of the first tab, or the end
abbrev pub tab_place : List ℕ → ℕ
tab_place text = position_or_len (λ b. b == 9) text

abbrev pub has_tab : List ℕ → Bool
has_tab text = nat_lt (tab_place text) (length text)

-- what stands before it, as a key or OLD, and after it
abbrev pub before_tab : List ℕ → List ℕ
before_tab text = take (tab_place text) text

abbrev pub after_tab : List ℕ → List ℕ
after_tab text = drop (tab_place text + 1) text

-- a key is there: a tab ends it, and no line feed is in it
abbrev pub has_key : List ℕ → Bool
has_key line = has_tab line && not (list_any (λ b. b == 10) (before_tab line))

-- ---- what comes of all

-- the worst outcome of the lines, if there was one, and of one line more
abbrev pub with_line : Option Outcome → Outcome → Option Outcome
with_line None outcome = Some outcome
with_line (Some lines) outcome = Some (or_worse lines outcome)

-- an input without a line is a fault too, and standard error says so
abbrev pub outcome_of_lines : Option Outcome → Outcome
outcome_of_lines lines = unwrap_or lines Fault

abbrev pub no_line_note : List ℕ
no_line_note = told_line (codes "standard input") (codes "no line")

-- what standard error says of the lines: that there is none, or else advice on the question, which rows of tests show
abbrev pub told_of_lines : Option Outcome → List ℕ → List ℕ
told_of_lines None advice = no_line_note
told_of_lines (Some outcome) advice = advice
