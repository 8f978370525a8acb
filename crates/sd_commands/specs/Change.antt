-- What `replace`, `remove`, `protect` and `unprotect` answer: the descriptor after the change.
use Rattle.std.specs.Prelude.{◌⊎◌, ℕ, Bool, true, false, MatchBool, List, [], ◌++◌, Option, Some, None, codes}
use Rattle.std.specs.Borrow.{Bor}
use Rattle.std.specs.Option.{option_and_then}
use Rattle.sd_sid.specs.Sid.{SidValue}
use Rattle.sd_line.specs.Line.{text_line}
use Rattle.sd_answer.specs.VerdictLines.{fault_line}
use Rattle.sd_change.specs.Change.{IsTooLargeAcl, acl_of, concerns, descriptor_after}
use Rattle.sd_change.specs.Inside.{first_inside}
use Rattle.sd_change.specs.Occurrence.{is_trustee}
use Rattle.sd_change.specs.declared.change.Change.{Change}
use Rattle.sd_change.specs.declared.change.Change.TheVariants.{Replace, Remove, Protect, Unprotect}
use Rattle.sd_change.specs.declared.change.Inherited.TheVariants.{Kept}
use Rattle.sd_change.specs.declared.inside.EntryPlace.{EntryPlace}
use Rattle.sd_usage.specs.declared.row.ChangeCommand.{ChangeCommand}
use Rattle.sd_usage.specs.declared.row.ChangeCommand.TheVariants as commands
use Rattle.sd_whole.specs.declared.descriptor.WholeDescriptor.{WholeDescriptor}
use Rattle.sd_whole_text.specs.declared.no_text.AclKind.{AclKind}
use Rattle.sd_commands.specs.Answer.{AnswerValue, AnswersFit, IsDone, IsFault, Telling}
use Rattle.sd_commands.specs.Argument.{AnswersOfSid, argument}
use Rattle.sd_commands.specs.Diagnostic.{told_line}
use Rattle.sd_commands.specs.Required.{missing_dacl}
use Rattle.sd_commands.specs.Whole.{PrintsWhole, acl_name, entry_place}
use Rattle.sd_commands.specs.WholeText.{AnswersOfWhole}
use Rattle.sd_commands.specs.declared.settings.Settings.{Settings}

-- ---- what a change leaves

-- the SID that a change takes away
abbrev pub taken_sid : Change → Option SidValue
taken_sid (Replace old new) = Some old
taken_sid (Remove sid) = Some sid
taken_sid (Protect inherited) = None
taken_sid Unprotect = None

-- the first entry that has it in its data, where no change reaches it
abbrev pub place_left : Change → WholeDescriptor → Option EntryPlace
place_left change d = option_and_then (λ sid. first_inside sid d) (taken_sid change)

abbrev pub inside_reason : EntryPlace → List ℕ
inside_reason place =
    codes "the SID is in the condition, the claim or the bytes of an entry" ++ entry_place place.acl place.entry

-- that is a fault: the SID would stay there
abbrev pub AnswersUnlessInside : Option EntryPlace → (AnswerValue → Type 0) → AnswerValue → Type 0
AnswersUnlessInside None Answers = Answers
AnswersUnlessInside (Some place) Answers =
    IsFault (fault_line (codes "inside")) (told_line (codes "SDDL") (inside_reason place))

-- a removed SID stays the owner or the group
abbrev pub stays_note : List ℕ → Bool → List ℕ
stays_note who true = told_line (codes "SDDL") (codes "the SID stays the " ++ who)
stays_note who false = []

abbrev pub trustees_note : Change → WholeDescriptor → List ℕ
trustees_note (Replace old new) d = []
trustees_note (Remove sid) d =
    stays_note (codes "owner") (is_trustee sid d.owner) ++ stays_note (codes "group") (is_trustee sid d.group)
trustees_note (Protect inherited) d = []
trustees_note Unprotect d = []

-- ---- the answer

abbrev pub room_reason : AclKind → List ℕ
room_reason kind = codes "the " ++ acl_name kind ++ codes " would take more than 65535 bytes"

-- a list has no room for its entries after the change
abbrev pub IsNoRoom : Change → WholeDescriptor → AnswerValue → Type 0
IsNoRoom change d answer = (kind : AclKind) × IsTooLargeAcl change kind (acl_of kind d)
    × IsFault (fault_line (codes "noroom")) (told_line (codes "SDDL") (room_reason kind)) answer

-- the text of the descriptor after the change, or that a list has no room
abbrev pub AnswersAfter : Settings → Change → WholeDescriptor → AnswerValue → Type 0
AnswersAfter settings change d answer =
    PrintsWhole (codes "SDDL") settings (descriptor_after change d) answer ⊎ IsNoRoom change d answer

-- a text that the change doesn't concern, as it is, where its descriptor doesn't lack the list that is required
abbrev pub AnswersAsGiven : Settings → List ℕ → WholeDescriptor → AnswerValue → Type 0
AnswersAsGiven settings text d =
    AnswersFit (codes "SDDL") (missing_dacl settings.require_dacl d.dacl) (IsDone (text_line text))

abbrev pub AnswersConcerned : Settings → List ℕ → Change → WholeDescriptor → AnswerValue → Type 0
AnswersConcerned settings text change d answer = MatchBool (concerns change d)
    (AnswersAfter settings change d answer) (AnswersAsGiven settings text d answer)

-- what is answered of a change of the descriptor that the text is
abbrev pub AnswersChanged : Settings → List ℕ → WholeDescriptor → Change → AnswerValue → Type 0
AnswersChanged settings text d change = AnswersUnlessInside (place_left change d)
    (Telling (trustees_note change d) (AnswersConcerned settings text change d))

-- ---- commands

-- the arguments are the SID that is replaced, and the one in its place
abbrev pub AnswersReplacementOf : Settings → List ℕ → List (Bor (List ℕ)) → WholeDescriptor → SidValue → AnswerValue
    → Type 0
AnswersReplacementOf settings text arguments d old = AnswersOfSid (codes "NEW") settings (argument arguments 1)
    (λ new. AnswersChanged settings text d (Replace old new))

abbrev pub AnswersReplacement : Settings → List ℕ → List (Bor (List ℕ)) → WholeDescriptor → AnswerValue → Type 0
AnswersReplacement settings text arguments d = AnswersOfSid (codes "OLD") settings (argument arguments 0)
    (AnswersReplacementOf settings text arguments d)

-- the argument is the SID whose entries go
abbrev pub AnswersRemoval : Settings → List ℕ → List (Bor (List ℕ)) → WholeDescriptor → AnswerValue → Type 0
AnswersRemoval settings text arguments d = AnswersOfSid (codes "SID") settings (argument arguments 0)
    (λ sid. AnswersChanged settings text d (Remove sid))

-- what a command answers of the descriptor that the text is, where these are the arguments after it
abbrev pub AnswersChangeOf : Settings → ChangeCommand → List ℕ → List (Bor (List ℕ)) → WholeDescriptor → AnswerValue
    → Type 0
AnswersChangeOf settings commands.Replace text arguments d = AnswersReplacement settings text arguments d
AnswersChangeOf settings commands.Remove text arguments d = AnswersRemoval settings text arguments d
AnswersChangeOf settings commands.Protect text arguments d = AnswersChanged settings text d (Protect Kept)
AnswersChangeOf settings commands.Unprotect text arguments d = AnswersChanged settings text d Unprotect

abbrev pub AnswersChange : Settings → ChangeCommand → List ℕ → List (Bor (List ℕ)) → AnswerValue → Type 0
AnswersChange settings question text arguments =
    AnswersOfWhole (codes "SDDL") settings text (AnswersChangeOf settings question text arguments)
