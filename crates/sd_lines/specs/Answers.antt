-- What the lines of an input are answered by.
use Rattle.std.specs.Prelude.{◌≡◌, ℕ, List, [], ◌∷◌, ◌++◌, Option}
use Rattle.sd_lines.specs.Lines.{asked_of, lines_in, lines_of}
use Rattle.sd_lines.specs.declared.form.Form.{Form}

-- one line after the other: what each prints, and the state that it leaves for the next
abbrev pub AreAnswered : {State : Type 0} → (State → List ℕ → List ℕ → State → Type 0)
    → State → List (List ℕ) → List ℕ → State → Type 0
AreAnswered IsNext old [] printed last = (printed ≡ []) × (last ≡ old)
AreAnswered {State} IsNext old (line ∷ lines) printed last =
    (first : List ℕ) × (between : State) × (rest : List ℕ)
    × IsNext old line first between × AreAnswered IsNext between lines rest last × (printed ≡ first ++ rest)

-- ---- by what answers a line's text, or that it has none

abbrev pub Answering : Type 0 → Type 1
Answering State = State → Option (List ℕ) → List ℕ → State → Type 0

abbrev pub of_form : {State : Type 0} → Form → Answering State → State → List ℕ → List ℕ → State → Type 0
of_form form Answer old line printed new = Answer old (asked_of form line) printed new

-- the answers to all lines of the input, and the state after the last
abbrev pub PrintsAndLeaves : {State : Type 0} → Form → Answering State → State → List ℕ → List ℕ → State → Type 0
PrintsAndLeaves form Answer old input printed last =
    AreAnswered (of_form form Answer) old (lines_of form input) printed last

-- the answers to all lines of a text
abbrev pub Prints : {State : Type 0} → Form → Answering State → State → List ℕ → List ℕ → Type 0
Prints {State} form Answer old text printed =
    (last : State) × AreAnswered (of_form form Answer) old (lines_in form.ending text) printed last
