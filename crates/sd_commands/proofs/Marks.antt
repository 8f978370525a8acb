-- Whom rights are granted to, where markers stand for conditions.
use Rattle.sd_commands.proofs.Cited.{List, [], ◌∷◌, false, length, map, refl, ℕ, ◌≡◌, ◌==◌}
use Rattle.std.specs.Borrow.{Bor}
use Rattle.sd_acl.specs.Descriptor.{DescriptorValue}
use Rattle.sd_sid.specs.Sid.{SidValue}
use Rattle.sd_check.specs.declared.token.GroupState.{GroupState}
use Rattle.sd_line.specs.Line.{LineOf}
use Rattle.sd_whole.specs.declared.ace.TypedAce.{TypedAce}
use Rattle.sd_specialize.specs.Marked.{lent_marks}
use Rattle.sd_commands.specs.Analysis.{AreWhoLines}
use Rattle.sd_commands.specs.Answer.{AnswerValue, AreDoneBut}
use Rattle.sd_commands.specs.CommandAnswer.{PrintsWho}
use Rattle.sd_commands.specs.Conditions.{hides, shown_by, texts_of}
use Rattle.sd_commands.specs.SidTexts.{shown_line}
use Rattle.sd_commands.specs.declared.settings.Settings.{Settings}

-- where there is a marker, each line is shown
pub where_marked : (settings : Settings) (marks : List (Bor TypedAce)) (lines : List LineOf) → (length marks == 0) ≡ false
    → shown_by settings (lent_marks marks) lines ≡ map (shown_line (texts_of settings (lent_marks marks))) lines
where_marked settings [] lines some = absurd cc
where_marked settings (m ∷ marks) lines some = refl

pub printed : (settings : Settings) (marks : List TypedAce) (left_out : List LineOf) (asked : ℕ) (d : DescriptorValue)
    (base : List (SidValue × GroupState)) (answer : AnswerValue) (lines : List LineOf) → hides marks base ≡ false
    → AreWhoLines settings asked d base lines → AreDoneBut left_out (shown_by settings marks lines) answer
    → PrintsWho settings marks left_out asked d base answer
printed settings marks left_out asked d base answer lines none are done = rw none (lines, are, done)
