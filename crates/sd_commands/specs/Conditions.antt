-- Conditions in lines: in the place of a marker, which stands for them, whom they are asked of and what they ask.
use Rattle.std.specs.Prelude.{ℕ, ◌+◌, Bool, true, false, List, [], ◌∷◌, ◌++◌, Option, Some, None, codes, map}
use Rattle.std.specs.Prelude.{if◌then◌else◌}
use Rattle.std.specs.List.{list_any}
use Rattle.hex.specs.Hex.{encode_lower}
use Rattle.sd_sid.specs.Sid.{SidValue, same_sid}
use Rattle.sd_check.specs.declared.token.GroupState.{GroupState}
use Rattle.sd_line.specs.Line.{LineOf}
use Rattle.sd_line.specs.Printed.{marked_text}
use Rattle.sd_line.specs.declared.line.SidMark.{SidMark}
use Rattle.sd_whole.specs.declared.ace.TypedAce.{TypedAce}
use Rattle.sd_whole_text.specs.Data.{condition_in}
use Rattle.sd_specialize.specs.Entry.{trustee}
use Rattle.sd_specialize.specs.Marked.{is_deny, is_marker, marker}
use Rattle.sd_commands.specs.SidTexts.{TextsOf, shown_line}
use Rattle.sd_commands.specs.WholeVerdict.{everyone_context}
use Rattle.sd_commands.specs.declared.settings.Settings.{Settings}

-- the condition's text, or its bytes where it has none
abbrev pub condition_word : Option (List ℕ) → List ℕ → List ℕ
condition_word (Some text) bytes = text
condition_word None bytes = codes "an unknown condition " ++ encode_lower bytes

-- an allow is for who has the SID where the condition is true, a deny where it isn't false ([MS-DTYP] 2.5.3.1.5)
abbrev pub ending : Bool → List ℕ
ending true = codes " isn't false"
ending false = []

abbrev pub condition_text : Settings → SidMark → TypedAce → List ℕ
condition_text settings state e = ((marked_text (trustee (everyone_context settings) e.sid, state) ++ codes " if ")
    ++ condition_word (condition_in e.trailing) e.trailing) ++ ending (is_deny e.kind)

-- what stands in the place of a SID in this state that is one of their markers, from this number on
abbrev pub text_from : Settings → ℕ → List TypedAce → SidValue → SidMark → Option (List ℕ)
text_from settings n [] sid state = None
text_from settings n (e ∷ es) sid state =
    if same_sid (marker n) sid then Some (condition_text settings state e) else text_from settings (n + 1) es sid state

-- ---- in a line

abbrev pub texts_of : Settings → List TypedAce → TextsOf
texts_of settings marks = record { has = is_marker; text = text_from settings 0 marks }

-- without conditions lines stand as they are
abbrev pub shown_by : Settings → List TypedAce → List LineOf → List LineOf
shown_by settings [] lines = lines
shown_by settings (m ∷ marks) lines = map (shown_line (texts_of settings (m ∷ marks))) lines

-- ---- a base

-- a SID of it is a marker, which no token has
abbrev pub hides : List TypedAce → List (SidValue × GroupState) → Bool
hides [] base = false
hides (m ∷ marks) base = list_any (λ (group : SidValue × GroupState). is_marker group.0) base
