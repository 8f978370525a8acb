-- What stands between two parts of an input. No public contract names it.
use Rattle.std.specs.Prelude.{◌≡◌, ◌&&◌, nat_lt, Bool, ℕ, List, [], ◌++◌, length, take, Option}
use Rattle.std.specs.Io.KnownBytes.{Appends, Consumes, IsAtEnd}
use Rattle.sd_lines.specs.declared.error.RunError.{RunError}
use Rattle.sd_lines.specs.declared.input.TheConstants.{MAX_INPUT_BYTES}
use Rattle.sd_lines.specs.Answers.{Answering, AreAnswered, Prints, of_form}
use Rattle.sd_lines.specs.Lines.{HasNoEnd, IsEnded, lines_in, text_of}
use Rattle.sd_lines.specs.Output.{LeavesAnswers}
use Rattle.sd_lines.specs.declared.form.Form.{Form}
use Rattle.sd_lines.specs.declared.form.TheConstants.{KEPT_BYTES}

-- the line is too long, and that ends the run
abbrev pub ends_run : Form → List ℕ → Bool
ends_run form line = form.stops_at_long && nat_lt MAX_INPUT_BYTES (length line)

-- of a text that ends with this rest the lines that ended are answered, of whose answers the last aren't written yet,
-- and a line has begun. Whatever more lines are answered by comes after them
pub record Answered {State : Type 0} (form : Form) (Answer : Answering State) (old : State) (start : Option (List ℕ))
    (text : List ℕ) (new : State) (line unwritten : List ℕ) (now : Option (List ℕ)) (rest : List ℕ) : Type 0 where
  pub ended : List ℕ
  pub begun : List ℕ
  pub written : List ℕ
  pub parts : text ≡ ended ++ (begun ++ rest)
  pub whole : IsEnded form.ending ended
  pub unended : HasNoEnd form.ending begun
  pub kept : line ≡ take KEPT_BYTES begun
  pub appended : Appends start now written
  pub advances : (more back : List ℕ) (last : State)
      → AreAnswered (of_form form Answer) new (lines_in form.ending more) back last
      → AreAnswered (of_form form Answer) old (lines_in form.ending (ended ++ more)) (written ++ (unwritten ++ back))
      last

-- whatever was answered before, the lines that end in the bytes before the rest are too
abbrev pub Continues : {State : Type 0} → Form → Answering State
    → State → List ℕ → List ℕ → Option (List ℕ) → List ℕ → State → List ℕ → List ℕ → Option (List ℕ) → List ℕ → Type 0
Continues {State} form Answer state line unwritten now bytes new next pending after rest =
    (old : State) (start : Option (List ℕ)) (text more : List ℕ)
    → Answered form Answer old start text state line unwritten now (bytes ++ more)
    → Answered form Answer old start text new next pending after (rest ++ more)

-- what is left by an error in these bytes, whatever was answered before and comes after them
abbrev pub Stops : {State : Type 0} → Form → Answering State
    → State → List ℕ → Option (List ℕ) → List ℕ → Option (List ℕ) → RunError → Type 0
Stops {State} form Answer state line now bytes after error =
    (old : State) (start input left : Option (List ℕ)) (read more : List ℕ)
    → Answered form Answer old start (text_of form read) state line [] now (bytes ++ more)
    → Consumes input left read → LeavesAnswers form (Prints form Answer old) input left start after error

-- the input ends with these bytes, and whatever was answered before, this is left
abbrev pub EndsWith : {State : Type 0} → Form → Answering State → State → List ℕ → Option (List ℕ) → List ℕ
    → (State → Option (List ℕ) → Option (List ℕ) → Option (List ℕ) → Type 0) → Type 0
EndsWith {State} form Answer state line now bytes Leaves =
    (old : State) (start input left : Option (List ℕ)) (read : List ℕ)
    → Answered form Answer old start (text_of form read) state line [] now bytes
    → Consumes input left read → IsAtEnd left → Leaves old start input left
