-- What a run over an input leaves in a writer whose bytes are known, by what inputs print.
use Rattle.std.specs.Prelude.{◌≡◌, ⊤, ◌⊎◌, ℕ, true, List, [], ◌++◌, Option, IfSome}
use Rattle.std.specs.Io.KnownBytes.{Appends, Consumes, IsAtEnd, Keeps}
use Rattle.sd_lines.specs.Streams.{AppendsBeginning}
use Rattle.sd_lines.specs.declared.error.RunError.{RunError}
use Rattle.sd_lines.specs.declared.error.RunError.TheVariants.{Read, TooLong, Write, Memory, Thread}
use Rattle.sd_lines.specs.Lines.{HasNoEnd, IsEnded, IsLong, text_of}
use Rattle.sd_lines.specs.declared.form.Form.{Form}

-- the output of the input that a reader gives, which is its bytes where they are known
abbrev pub IsOutput : (List ℕ → List ℕ → Type 0) → Option (List ℕ) → List ℕ → Type 0
IsOutput prints input printed = (text : List ℕ) × IfSome input (λ bytes. text ≡ bytes) × prints text printed

-- known bytes grow by the whole output
pub record AppendsOutput (prints : List ℕ → List ℕ → Type 0) (input old new : Option (List ℕ)) : Type 0 where
  pub printed : List ℕ
  pub output : IsOutput prints input printed
  pub appended : Appends old new printed

-- ---- of a whole input that is answered at its end

-- known bytes grow by a prefix of the output
pub record AppendsPartOfOutput (prints : List ℕ → List ℕ → Type 0) (input old new : Option (List ℕ)) : Type 0 where
  pub printed : List ℕ
  pub output : IsOutput prints input printed
  pub beginning : AppendsBeginning old new printed

-- nothing was written before an error, but for a write's own
abbrev pub LeavesOutput : (List ℕ → List ℕ → Type 0) → Option (List ℕ) → Option (List ℕ) → Option (List ℕ)
    → RunError → Type 0
LeavesOutput prints input old new Write = AppendsPartOfOutput prints input old new
LeavesOutput prints input old new error = Keeps old new

-- ---- of lines that are answered as they end

-- of the text of what was read the lines that ended are answered, and what came after them isn't
pub record AnswersEnded (prints : List ℕ → List ℕ → Type 0) (form : Form) (Behind : List ℕ → Type 0)
    (input left old new : Option (List ℕ)) : Type 0 where
  pub read : List ℕ
  pub ended : List ℕ
  pub behind : List ℕ
  pub printed : List ℕ
  pub consumed : Consumes input left read
  pub parts : text_of form read ≡ ended ++ behind
  pub whole : IsEnded form.ending ended
  pub rest : Behind behind
  pub output : prints ended printed
  pub appended : Appends old new printed

-- a prefix of the answers to the text of what was read of the input, up to the end of a line or to its own end
pub record AnswersPart (prints : List ℕ → List ℕ → Type 0) (form : Form)
    (input left old new : Option (List ℕ)) : Type 0 where
  pub read : List ℕ
  pub text : List ℕ
  pub behind : List ℕ
  pub printed : List ℕ
  pub consumed : Consumes input left read
  pub parts : text_of form read ≡ text ++ behind
  pub whole : IsEnded form.ending text ⊎ (IsAtEnd left × (behind ≡ []))
  pub output : prints text printed
  pub beginning : AppendsBeginning old new printed

-- what a run leaves that ended by an error, by what texts print. The reader failed in a line that hadn't ended
abbrev pub LeavesAnswers : Form → (List ℕ → List ℕ → Type 0)
    → Option (List ℕ) → Option (List ℕ) → Option (List ℕ) → Option (List ℕ) → RunError → Type 0
LeavesAnswers form prints input left old new Read =
    AnswersEnded prints form (HasNoEnd form.ending) input left old new
LeavesAnswers form prints input left old new TooLong =
    (form.stops_at_long ≡ true) × AnswersEnded prints form (IsLong form.ending) input left old new
LeavesAnswers form prints input left old new Write = AnswersPart prints form input left old new
LeavesAnswers form prints input left old new Memory =
    AnswersEnded prints form (λ behind. ⊤) input left old new
LeavesAnswers form prints input left old new Thread = ⊥
