-- The arguments after a command's text.
use Rattle.std.specs.Prelude.{◌⊎◌, ℕ, List, [], slice_get, codes}
use Rattle.std.specs.Option.{option_map_or}
use Rattle.std.specs.Borrow.{Bor}
use Rattle.sd_sid.specs.Sid.{SidValue}
use Rattle.sd_text.specs.Fault.{StandsIn}
use Rattle.sd_text.specs.Grammar.{Spells}
use Rattle.sd_text.specs.Sid.{sid_text_in}
use Rattle.sd_text.specs.declared.fault.TextError.{TextError}
use Rattle.sd_commands.specs.Answer.{AnswerValue, IsFaultOf}
use Rattle.sd_commands.specs.declared.settings.Settings.{Settings}

-- the argument at the place, empty where there is none
abbrev pub argument : List (Bor (List ℕ)) → ℕ → List ℕ
argument arguments place = option_map_or (λ text. text.now) (slice_get arguments place) []

-- what is answered of the SID that the argument of this name is, or its first fault
abbrev pub AnswersOfSid : List ℕ → Settings → List ℕ → (SidValue → AnswerValue → Type 0) → AnswerValue → Type 0
AnswersOfSid name settings text Answers answer =
    ((sid : SidValue) × Spells (sid_text_in settings.aliases) text sid × Answers sid answer)
    ⊎ ((error : TextError) × StandsIn (sid_text_in settings.aliases) text error
    × IsFaultOf settings (codes "sid") name text error answer)
