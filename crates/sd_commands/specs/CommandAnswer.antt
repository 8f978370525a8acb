-- What a command about a descriptor answers, and whether it did what was asked for. The arguments are read from left to
-- right, and the answer is the fault of the first that is invalid.
use Rattle.std.specs.Prelude.{◌≡◌, ◌⊎◌, ℕ, Bool, false, not, ◌&&◌, ◌||◌, MatchBool, List, [], ◌∷◌, ◌++◌, codes}
use Rattle.std.specs.Prelude.{Option, Some, None, drop, option_map}
use Rattle.std.specs.Prelude.{slice_get}
use Rattle.std.specs.Option.{option_map_or}
use Rattle.std.specs.Borrow.{Bor}
use Rattle.hex.specs.Hex.{encode_lower}
use Rattle.sd_sid.specs.Sid.{SidValue}
use Rattle.sd_acl.specs.Descriptor.{DescriptorValue, descriptor_of}
use Rattle.sd_text.specs.Fault.{StandsIn}
use Rattle.sd_text.specs.Grammar.{Spells}
use Rattle.sd_text.specs.Sid.{sid_text_in}
use Rattle.sd_text.specs.declared.fault.TextError.{TextError}
use Rattle.sd_text.specs.declared.fault.TextFault.{TextFault}
use Rattle.sd_wire.specs.Writing.{wire_of}
use Rattle.sd_check.specs.Check.{verdict, dacl_entries}
use Rattle.sd_check.specs.Token.{TokenValue}
use Rattle.sd_line.specs.Line.{LineOf, form, line_of, text_line}
use Rattle.sd_line.specs.declared.line.Value.TheVariants as values
use Rattle.sd_answer.specs.VerdictLines.{verdict_line, fault_line, sddl_fault_line}
use Rattle.sd_answer.specs.declared.forms.TheConstants.{SAME}
use Rattle.sd_client.specs.Client.{ClientValue}
use Rattle.sd_client.specs.Word.{IsClient, IsFirstNoClientWord}
use Rattle.sd_analysis.specs.Compare.{AreGains}
use Rattle.sd_analysis.specs.declared.compare_report.Change.{Change}
use Rattle.sd_check.specs.declared.token.GroupState.{GroupState}
use Rattle.sd_answer.specs.Compare.{gains_and_losses}
use Rattle.sd_answer.specs.Descendants.{inheritance_lines}
use Rattle.sd_line.specs.Mask.{IsMaskErrorIn, IsMaskIn}
use Rattle.sd_answer.specs.Parts.{parts_in}
use Rattle.sd_line.specs.Request.{requested}
use Rattle.sd_line.specs.Rights.{rights_line}
use Rattle.sd_answer.specs.Why.{why_lines}
use Rattle.sd_answer.specs.Word.{AreGroups, IsFirstNoGroup, IsFirstNoWord, IsToken, texts}
use Rattle.sd_commands.specs.Analysis.{AreWhoLines}
pub use Rattle.sd_commands.specs.Argument.{AnswersOfSid, argument}
use Rattle.sd_commands.specs.Change.{AnswersChange}
use Rattle.sd_commands.specs.Heir.{AnswersHeir}
use Rattle.sd_commands.specs.Logon.{fits_logon, words_for}
use Rattle.sd_commands.specs.Object.{leaves_out, looked_at}
use Rattle.sd_commands.specs.Labels.{label_changes}
use Rattle.sd_commands.specs.Limits.{ChangeHasLimits, sacl_left_out}
use Rattle.sd_commands.specs.ObjectTypes.{ChangeHasTypes, NotingTypes, has_types, is_of_whole, types_left_out}
use Rattle.sd_commands.specs.ObjectTypes.{types_note}
use Rattle.sd_commands.specs.Required.{missing_dacl}
use Rattle.sd_usage.specs.declared.row.TextCommand.{TextCommand}
use Rattle.sd_usage.specs.declared.row.TextCommand.TheVariants as questions
use Rattle.sd_commands.specs.Findings.{AnswersFindings}
use Rattle.sd_commands.specs.Nodes.{tree_in}
use Rattle.sd_commands.specs.Sort.{move_notes, sorted_descriptor}
use Rattle.sd_commands.specs.Types.{AnswersOfTree, AreNodeVerdicts, NodesValue}
use Rattle.sd_types.specs.Tree.{chains_in, chains_of}
use Rattle.sd_commands.specs.Diagnostic.{all_but_label, all_left_out, object_note, sddl_fault_text, told_line}
use Rattle.sd_commands.specs.Diagnostic.{word_argument, IsStateReason, IsWordReason}
use Rattle.sd_usage.specs.declared.row.DescriptorCommand.{DescriptorCommand}
use Rattle.sd_usage.specs.declared.row.DescriptorCommand.TheVariants as about
use Rattle.sd_commands.specs.declared.command_answer.Outcome.TheVariants.{Done}
use Rattle.sd_commands.specs.declared.descriptor.Given.{Given}
use Rattle.sd_commands.specs.declared.descriptor.Given.TheVariants as givens
use Rattle.sd_commands.specs.declared.nodes.NodesAsked.{NodesAsked}
use Rattle.sd_commands.specs.declared.settings.Settings.{Settings}
use Rattle.sd_commands.specs.declared.verdict.Form.{Form}
use Rattle.sd_commands.specs.declared.verdict.Subject.{Subject}
use Rattle.sd_commands.specs.declared.verdict.Subject.TheVariants as subjects
use Rattle.sd_commands.specs.declared.verdict.Form.TheVariants.{Short, Explained}
use Rattle.sd_commands.specs.Answer.{value_line, AnswerValue, answer_of, IsAnswer, AreDone, AreDoneBut, IsDone, IsFault}
use Rattle.sd_commands.specs.Answer.{AnswersFit, IsFaultOf, IsFound, Noting, Telling, IsMissingDacl, descriptor_line}
use Rattle.sd_commands.specs.Chain.{types_of}
use Rattle.sd_commands.specs.Conditions.{hides, shown_by}
use Rattle.sd_commands.specs.ForEveryone.{AnswersOfEveryone, compared_as, marks_of}
use Rattle.sd_commands.specs.Handed.{AreDescendantLines, ChildrenAreLeftOut, HandedValue, children_left_out}
use Rattle.sd_commands.specs.Handed.{handed_in, handed_or}
use Rattle.sd_acl.specs.declared.descriptor.DaclOf.TheVariants.{Absent}
use Rattle.sd_specialize.specs.Everyone.{conditional_fault}
use Rattle.sd_specialize.specs.Marked.{conditionals, unmarked_place}
use Rattle.sd_whole.specs.declared.ace.TypedAce.{TypedAce}
use Rattle.sd_commands.specs.FromBinary.{AnswersFromBinary}
use Rattle.sd_commands.specs.Whole.{IsEntryFault, takes_whole}
use Rattle.sd_commands.specs.WholeLint.{AnswersWholeFindings}
use Rattle.sd_commands.specs.WholeText.{AnswersOfWhole, AnswersWholeText}
use Rattle.sd_commands.specs.WholeVerdict.{IsUndecided, IsWholeVerdict, everyone_context, verdict_outcome}
use Rattle.sd_whole.specs.declared.descriptor.WholeDescriptor.{WholeDescriptor}
use Rattle.sd_whole.specs.declared.plain.OddEntry.{OddEntry}
use Rattle.sd_show.specs.Diff.{changes}
use Rattle.sd_show.specs.Show.{shown}
use Rattle.sd_whole_parse.specs.Part.{IsOddPart, IsPart, IsPartFault}

-- what is answered of the mask that a text is, or its first fault
abbrev pub AnswersOfMask : Settings → List ℕ → (ℕ → AnswerValue → Type 0) → AnswerValue → Type 0
AnswersOfMask settings mask Answers answer =
    ((asked : ℕ) × IsMaskIn settings.spelling mask asked × Answers asked answer)
    ⊎ ((error : TextError) × IsMaskErrorIn settings.spelling mask error
    × IsFaultOf settings (codes "mask") (codes "MASK") mask error answer)

-- the word at the place is the first that is none, for this reason
abbrev pub IsTokenFault : ℕ → List ℕ → List ℕ → AnswerValue → Type 0
IsTokenFault place word reason = IsFault (fault_line (codes "token")) (told_line (word_argument place word) reason)

-- ---- a descriptor's text

-- the argument of this name isn't taken: the answer is the first fault of its text, an entry that no question takes, or
-- that its descriptor lacks a list
abbrev pub IsRefusedArgument : List ℕ → Settings → List ℕ → AnswerValue → Type 0
IsRefusedArgument argument settings written answer =
    ((fault : TextFault) × (place : ℕ) × IsPartFault settings.aliases settings.whole written fault place
    × IsFault (sddl_fault_line fault place)
    (told_line argument (sddl_fault_text settings.points written fault place)) answer)
    ⊎ ((odd : OddEntry) × IsOddPart settings.aliases settings.whole written odd × IsEntryFault argument odd answer)
    ⊎ ((d : DescriptorValue) × (left_out : Bool) × (missing : List ℕ)
    × IsPart settings.aliases settings.whole written d left_out
    × (missing_dacl settings.require_dacl d.dacl ≡ Some missing)
    × Noting argument left_out (IsMissingDacl argument missing) answer)

-- the argument is this descriptor, and it is taken
abbrev pub IsTaken : Settings → List ℕ → DescriptorValue → Bool → Type 0
IsTaken settings written d left_out = IsPart settings.aliases settings.whole written d left_out
    × (missing_dacl settings.require_dacl d.dacl ≡ None)

-- what the argument of this name is
abbrev pub IsGiven : List ℕ → Settings → List ℕ → Given → Type 0
IsGiven argument settings written (givens.Descriptor part) =
    IsTaken settings written (descriptor_of part.descriptor) part.left_out
IsGiven argument settings written (givens.Refused answer) = IsRefusedArgument argument settings written
    (answer_of answer)

-- what is answered of the descriptor that the argument of this name is, or that it is none that is taken
abbrev pub AnswersOfArgument : List ℕ → Settings → List ℕ → (DescriptorValue → AnswerValue → Type 0) → AnswerValue
    → Type 0
AnswersOfArgument argument settings written Answers answer =
    ((d : DescriptorValue) × (left_out : Bool) × IsTaken settings written d left_out
    × Noting argument left_out (Answers d) answer)
    ⊎ IsRefusedArgument argument settings written answer

-- ---- verdicts

-- the descriptor that a verdict is on: a plain one, or under `--whole` all of it, also for each of these nodes
pub data Judged : Type 0 where
  Plain : DescriptorValue → Judged
  Whole : WholeDescriptor → Option NodesValue → Judged

abbrev pub nodes_value : NodesAsked → NodesValue
nodes_value asked = record { nodes = asked.nodes.items; tree = chains_in asked.tree }

abbrev pub nodes_of : Option (Bor NodesAsked) → Option NodesValue
nodes_of asked = option_map (λ asked. nodes_value asked.now) asked

abbrev pub judged_of : Subject → Judged
judged_of (subjects.Plain d) = Plain (descriptor_of d.now)
judged_of (subjects.Whole d) = Whole d.now None
judged_of (subjects.Nodes d asked) = Whole d.now (Some (nodes_value asked.now))

-- the verdict's line, or with it the reasons
abbrev pub form_lines : Settings → Form → DescriptorValue → TokenValue → ℕ → List LineOf
form_lines settings Short d token asked =
    verdict_line (verdict d.owner (dacl_entries d.dacl) settings.mapping token asked) ∷ []
form_lines settings Explained d token asked = why_lines settings.mapping d token asked

-- the answer is the verdict, in this form
abbrev pub IsVerdict : Settings → Form → DescriptorValue → TokenValue → ℕ → AnswerValue → Type 0
IsVerdict settings form d token asked answer =
    IsAnswer (form_lines settings form d token asked) []
    (verdict_outcome (verdict d.owner (dacl_entries d.dacl) settings.mapping token asked)) answer

-- the first of the words that is none, and why
abbrev pub IsFirstFault : (List (List ℕ) → ℕ → Type 0) → (List ℕ → List ℕ → Type 0) → List (Bor (List ℕ)) → AnswerValue
    → Type 0
IsFirstFault IsFirst IsReason words answer =
    (place : ℕ) × IsFirst (texts words) place
    × (reason : List ℕ) × IsReason (argument words place) reason
    × IsTokenFault place (argument words place) reason answer

abbrev pub IsWordFault : Settings → List (Bor (List ℕ)) → AnswerValue → Type 0
IsWordFault settings =
    IsFirstFault (IsFirstNoWord settings.aliases) (IsWordReason settings.points settings.aliases)

abbrev pub IsGroupFault : Settings → List (Bor (List ℕ)) → AnswerValue → Type 0
IsGroupFault settings =
    IsFirstFault (IsFirstNoGroup settings.aliases) (IsStateReason settings.points settings.aliases)

abbrev pub IsClientFault : Settings → List (Bor (List ℕ)) → AnswerValue → Type 0
IsClientFault settings =
    IsFirstFault (IsFirstNoClientWord settings.aliases) (IsWordReason settings.points settings.aliases)

-- the answer is the verdict on the descriptor, or that on each of these nodes
abbrev pub AreVerdictsOn : Settings → Form → WholeDescriptor → Option NodesValue → ClientValue → ℕ → AnswerValue
    → Type 0
AreVerdictsOn settings form d None client asked = IsWholeVerdict settings form d client asked
AreVerdictsOn settings form d (Some nodes) client asked = AreNodeVerdicts settings nodes d client asked

-- the words make who asks, for whom this is the verdict; or one of them is no word
abbrev pub AnswersWords : Settings → Form → Judged → SidValue → ℕ → List (Bor (List ℕ)) → AnswerValue → Type 0
AnswersWords settings form (Plain d) user asked words answer =
    ((token : TokenValue) × IsToken settings.aliases user (texts words) token
    × IsVerdict settings form d token asked answer)
    ⊎ IsWordFault settings words answer
AnswersWords settings form (Whole d nodes) user asked words answer =
    ((client : ClientValue) × IsClient settings.aliases user (texts words) client
    × AreVerdictsOn settings form d nodes client asked answer)
    ⊎ IsClientFault settings words answer

-- so do the words with the groups of the logon behind them
abbrev pub AnswersWithLogon : Settings → Form → Judged → SidValue → ℕ → List (Bor (List ℕ)) → AnswerValue → Type 0
AnswersWithLogon settings form on user asked words answer =
    (all : List (Bor (List ℕ))) × (texts all ≡ words_for settings.logon (texts words))
    × AnswersWords settings form on user asked all answer

-- what is answered of a user whose mask and words these arguments are: the mask asks for rights of the settings' kind
abbrev pub AnswersMask : Settings → Form → List (Bor (List ℕ)) → Judged → SidValue → AnswerValue → Type 0
AnswersMask settings form arguments on user = AnswersOfMask settings (argument arguments 1)
    (λ asked. AnswersWithLogon settings form on user (requested settings.kind asked) (drop 2 arguments))

-- what is answered of any user: who can't have logged on as is said is a fault
abbrev pub AnswersFitting : Settings → Form → List (Bor (List ℕ)) → Judged → SidValue → AnswerValue → Type 0
AnswersFitting settings form arguments on user answer = MatchBool (fits_logon settings.logon user)
    (AnswersMask settings form arguments on user answer)
    (IsFault (fault_line (codes "sid")) (told_line (codes "USER") (codes "no anonymous user")) answer)

-- the arguments are the user, the mask and words
abbrev pub AnswersUser : Settings → Form → List (Bor (List ℕ)) → Judged → AnswerValue → Type 0
AnswersUser settings form arguments on = AnswersOfSid (codes "USER") settings (argument arguments 0)
    (AnswersFitting settings form arguments on)

-- what is answered of all that the text is, where it doesn't lack the list that is required
abbrev pub AnswersWholeUser : Settings → Form → List ℕ → List (Bor (List ℕ)) → AnswerValue → Type 0
AnswersWholeUser settings form text arguments = AnswersOfWhole (codes "SDDL") settings text
    (λ d. AnswersFit (codes "SDDL") (missing_dacl settings.require_dacl d.dacl)
    (AnswersUser settings form arguments (Whole d None)))

-- ---- verdicts on the nodes of a tree of object types

-- the arguments are the tree, the user, the mask and words
abbrev pub AnswersTypesOn : Settings → List (Bor (List ℕ)) → WholeDescriptor → AnswerValue → Type 0
AnswersTypesOn settings arguments d = AnswersOfTree (tree_in (argument arguments 0)) (λ nodes.
    AnswersUser settings Short (drop 1 arguments) (Whole d (Some (record { nodes = nodes; tree = chains_of nodes }))))

-- what is answered of all that the text is, where it doesn't lack the list that is required
abbrev pub AnswersTypes : Settings → List ℕ → List (Bor (List ℕ)) → AnswerValue → Type 0
AnswersTypes settings text arguments = AnswersOfWhole (codes "SDDL") settings text
    (λ d. AnswersFit (codes "SDDL") (missing_dacl settings.require_dacl d.dacl) (AnswersTypesOn settings arguments d))

-- ---- other forms

-- a descriptor whose DACL is put in canonical order; standard error says what moved
abbrev pub IsSorted : Settings → DescriptorValue → AnswerValue → Type 0
IsSorted settings d = IsAnswer (descriptor_line (sorted_descriptor d) ∷ [])
    (move_notes settings.spelling d.dacl) Done

-- ---- whom rights are granted to, and changes

-- the words are a base, of which this is answered; or one of them is no group
abbrev pub AnswersOfBase : Settings → List (Bor (List ℕ)) → (List (SidValue × GroupState) → AnswerValue → Type 0)
    → AnswerValue → Type 0
AnswersOfBase settings words Answers answer =
    ((base : List (SidValue × GroupState)) × AreGroups settings.aliases (texts words) base × Answers base answer)
    ⊎ IsGroupFault settings words answer

-- a SID of the base is a marker
abbrev pub IsHidden : AnswerValue → Type 0
IsHidden = IsFault (fault_line (codes "token"))
    (told_line (codes "GROUP") (codes "its authority is that of conditions"))

-- what is answered for a base of which no SID is a marker, or that one is
abbrev pub AnswersUnhidden : List TypedAce → List (SidValue × GroupState) → (AnswerValue → Type 0) → AnswerValue
    → Type 0
AnswersUnhidden marks base Answers answer = MatchBool (hides marks base) (IsHidden answer) (Answers answer)

-- whom the rights are granted to, with conditions in the place of markers, and what of it is left out
abbrev pub PrintsWho : Settings → List TypedAce → List LineOf → ℕ → DescriptorValue → List (SidValue × GroupState)
    → AnswerValue → Type 0
PrintsWho settings marks left_out asked d base = AnswersUnhidden marks base
    (λ answer. (lines : List LineOf) × AreWhoLines settings asked d base lines
    × AreDoneBut left_out (shown_by settings marks lines) answer)

abbrev pub AnswersWho : Settings → List TypedAce → List LineOf → List (Bor (List ℕ)) → DescriptorValue → AnswerValue
    → Type 0
AnswersWho settings marks left_out arguments d = AnswersOfMask settings (argument arguments 0)
    (λ asked. AnswersOfBase settings (drop 1 arguments) (PrintsWho settings marks left_out asked d))

-- what tokens gain and lose of the object itself
abbrev pub AreOwnChanges : Settings → DescriptorValue → DescriptorValue → List (SidValue × GroupState) → List LineOf
    → Type 0
AreOwnChanges settings old new base lines =
    (gained : List Change) × (lost : List Change)
    × AreGains settings.mapping base (parts_in old) (parts_in new) gained
    × AreGains settings.mapping base (parts_in new) (parts_in old) lost
    × (lines ≡ gains_and_losses None (parts_in old) (parts_in new) gained lost)

-- what tokens gain and lose, with conditions in the place of markers, whether the list inherits where it did not, and
-- these lines; or that nothing of it changes
abbrev pub PrintsComparison : Settings → List TypedAce → HandedValue → List LineOf → DescriptorValue → DescriptorValue
    → List (SidValue × GroupState) → AnswerValue → Type 0
PrintsComparison settings marks handed last old new base answer =
    (own : List LineOf) × (below : List LineOf) × AreOwnChanges settings old new base own
    × AreDescendantLines settings handed base below
    × IsFound (line_of (form SAME) [])
    (((shown_by settings marks own ++ below) ++ inheritance_lines old.protected new.protected) ++ last) answer

-- what tokens gain and lose by the descriptors as they are looked at
abbrev pub PrintsSeen : Settings → List TypedAce → Option HandedValue → List LineOf → DescriptorValue → DescriptorValue
    → List (SidValue × GroupState) → AnswerValue → Type 0
PrintsSeen settings marks handed last old new base =
    PrintsComparison settings marks (handed_or handed marks old new) last old new base

-- and whether something was left out of them
abbrev pub AnswersComparison : Settings → List TypedAce → Option HandedValue → List LineOf → DescriptorValue
    → DescriptorValue → List (SidValue × GroupState) → AnswerValue → Type 0
AnswersComparison settings marks handed last old new base = AnswersUnhidden (handed_or handed marks old new).marks base
    (Telling (object_note (leaves_out settings.object old || leaves_out settings.object new))
    (PrintsSeen settings marks handed last (looked_at settings.object old) (looked_at settings.object new) base))

-- ---- whole descriptors in words

-- all that the descriptor has
abbrev pub AnswersShow : Settings → List ℕ → AnswerValue → Type 0
AnswersShow settings text = AnswersOfWhole (codes "SDDL") settings text (λ d. AreDone (shown d))

-- what differs, or that nothing does
abbrev pub PrintsDiff : WholeDescriptor → WholeDescriptor → AnswerValue → Type 0
PrintsDiff old new = IsFound (line_of (form SAME) []) (changes old new)

abbrev pub AnswersDiffFrom : Settings → WholeDescriptor → List ℕ → AnswerValue → Type 0
AnswersDiffFrom settings old new =
    AnswersOfWhole (codes "NEW") settings new (PrintsDiff old)

abbrev pub AnswersDiff : Settings → List ℕ → List ℕ → AnswerValue → Type 0
AnswersDiff settings old new = AnswersOfWhole (codes "OLD") settings old (λ d. AnswersDiffFrom settings d new)

-- ---- rights

-- the mask's rights by name
abbrev pub AnswersRights : Settings → List ℕ → AnswerValue → Type 0
AnswersRights settings mask = AnswersOfMask settings mask (λ asked. IsDone (rights_line settings.kind asked))

-- the SID in full
abbrev pub AnswersSid : Settings → List ℕ → AnswerValue → Type 0
AnswersSid settings text = AnswersOfSid (codes "SID") settings text (λ sid. IsDone (value_line (values.Sid sid)))

-- ---- commands

-- what is answered of a descriptor, where these are the arguments after it: the user, the mask and words; the mask and
-- a base; the new descriptor and a base; or a base
abbrev pub AnswersOn : Settings → DescriptorCommand → List (Bor (List ℕ)) → DescriptorValue → AnswerValue → Type 0
AnswersOn settings about.Verdict arguments d = AnswersUser settings Short arguments (Plain d)
AnswersOn settings about.Why arguments d = AnswersUser settings Explained arguments (Plain d)
AnswersOn settings about.Who arguments d = AnswersWho settings [] [] arguments d
AnswersOn settings about.Compare arguments old = AnswersOfArgument (codes "NEW") settings (argument arguments 0)
    (λ new. AnswersOfBase settings (drop 1 arguments) (AnswersComparison settings [] None [] old new))
AnswersOn settings about.Lint arguments d = AnswersOfBase settings arguments (AnswersFindings settings d)
AnswersOn settings about.Print arguments d = IsDone (descriptor_line d)
AnswersOn settings about.Sort arguments d = IsSorted settings d
-- the self-relative form in hexadecimal
AnswersOn settings about.ToBinary arguments d = IsDone (text_line (encode_lower (wire_of d)))

-- the name of the argument that a command's descriptor is
abbrev pub descriptor_name : DescriptorCommand → List ℕ
descriptor_name about.Compare = codes "OLD"
descriptor_name question = codes "SDDL"

-- what a command answers of the plain descriptor that its text is
abbrev pub AnswersPlainly : Settings → DescriptorCommand → List ℕ → List (Bor (List ℕ)) → AnswerValue → Type 0
AnswersPlainly settings question text arguments =
    AnswersOfArgument (descriptor_name question) settings text (AnswersOn settings question arguments)

-- what `who` answers: where an entry has a condition, if that is met; and of the whole object alone types are left out
abbrev pub AnswersWhoOfWhole : Settings → List ℕ → List (Bor (List ℕ)) → AnswerValue → Type 0
AnswersWhoOfWhole settings text arguments = AnswersOfEveryone (codes "SDDL") all_left_out Absent settings text
    (λ whole d. NotingTypes settings (has_types false whole.dacl && is_of_whole (types_of settings.chain))
    (λ left_out. AnswersWho settings (conditionals whole.dacl) left_out arguments d))

-- what `lint` answers of the object itself, for the object types asked about: of the whole object alone types are left
-- out
abbrev pub AnswersLintOfWhole : Settings → List ℕ → List (Bor (List ℕ)) → AnswerValue → Type 0
AnswersLintOfWhole settings text words = AnswersOfEveryone (codes "SDDL") all_left_out Absent settings text
    (λ whole d. NotingTypes settings (has_types false whole.dacl) (λ left_out. AnswersOfBase settings words (λ base.
    AnswersUnhidden (conditionals whole.dacl) base (AnswersWholeFindings settings whole left_out d base))))

-- what is answered where each condition of this argument can have a marker; or the first that can't is refused
abbrev pub AnswersUnlessUnmarked : List ℕ → Option ℕ → (AnswerValue → Type 0) → AnswerValue → Type 0
AnswersUnlessUnmarked argument None Answers = Answers
AnswersUnlessUnmarked argument (Some place) Answers = IsUndecided argument (conditional_fault place)

-- whether the label is another, and what of the SACLs, of types and of children is left out
abbrev pub AreLastLines : Settings → (depends : Bool) → (is_left : Bool) → (old new : WholeDescriptor) → List LineOf
    → Type 0
AreLastLines settings depends is_left old new lines =
    (limited : Bool) × ChangeHasLimits limited (not settings.object) old new
    × (lines ≡ ((label_changes old new ++ sacl_left_out limited) ++ types_left_out settings depends)
    ++ children_left_out (not settings.object && is_left))

-- what `compare` answers of two, by one list of markers, with copies for each
abbrev pub AnswersCompareMarked : Settings → (old : WholeDescriptor) → DescriptorValue → (new : WholeDescriptor)
    → DescriptorValue → List (Bor (List ℕ)) → AnswerValue → Type 0
AnswersCompareMarked settings old plain_old new plain_new words answer =
    (is_left : Bool) × ChildrenAreLeftOut is_left old.dacl new.dacl
    × (depends : Bool) × ChangeHasTypes depends (not settings.object) old new
    × (last : List LineOf) × AreLastLines settings depends is_left old new last
    × Telling (types_note settings depends) (AnswersOfBase settings words (AnswersComparison settings
    (marks_of old.dacl new.dacl) (handed_in settings is_left old.dacl new.dacl) last
    (compared_as settings old new plain_old) (compared_as settings old new plain_new))) answer

-- that, where neither has a SID that is a marker of the other's conditions
abbrev pub AnswersCompareOfBoth : Settings → (old : WholeDescriptor) → DescriptorValue → (new : WholeDescriptor)
    → DescriptorValue → List (Bor (List ℕ)) → AnswerValue → Type 0
AnswersCompareOfBoth settings old plain_old new plain_new words =
    AnswersUnlessUnmarked (codes "NEW") (unmarked_place (everyone_context settings) old new)
    (AnswersUnlessUnmarked (codes "OLD") (unmarked_place (everyone_context settings) new old)
    (AnswersCompareMarked settings old plain_old new plain_new words))

-- what it answers of OLD
abbrev pub AnswersCompareTo : Settings → WholeDescriptor → DescriptorValue → List (Bor (List ℕ)) → AnswerValue → Type 0
AnswersCompareTo settings old plain_old arguments =
    AnswersOfEveryone (codes "NEW") all_but_label old.dacl settings (argument arguments 0)
    (λ new plain_new. AnswersCompareOfBoth settings old plain_old new plain_new (drop 1 arguments))

-- what it answers
abbrev pub AnswersCompareOfWhole : Settings → List ℕ → List (Bor (List ℕ)) → AnswerValue → Type 0
AnswersCompareOfWhole settings text arguments =
    AnswersOfEveryone (codes "OLD") all_but_label Absent settings text
    (λ old plain_old. AnswersCompareTo settings old plain_old arguments)

-- what a command answers of all that the text is: a verdict, whom rights are granted to, who gains and loses some, what
-- is doubtful, or what is printed, sorted or written
abbrev pub AnswersWholly : Settings → DescriptorCommand → List ℕ → List (Bor (List ℕ)) → AnswerValue → Type 0
AnswersWholly settings about.Who text arguments = AnswersWhoOfWhole settings text arguments
AnswersWholly settings about.Compare text arguments = AnswersCompareOfWhole settings text arguments
AnswersWholly settings about.Lint text arguments = AnswersLintOfWhole settings text arguments
AnswersWholly settings about.Verdict text arguments = AnswersWholeUser settings Short text arguments
AnswersWholly settings about.Why text arguments = AnswersWholeUser settings Explained text arguments
AnswersWholly settings question text arguments = AnswersWholeText settings question text

-- what a command about a descriptor answers to its text and the arguments after it: under `--whole` some look at all of
-- the descriptor, and others at its plain part
abbrev pub AnswersDescriptor : Settings → DescriptorCommand → List ℕ → List (Bor (List ℕ)) → AnswerValue → Type 0
AnswersDescriptor settings question text arguments answer =
    MatchBool (settings.whole && takes_whole settings.below settings.object question)
    (AnswersWholly settings question text arguments answer) (AnswersPlainly settings question text arguments answer)

-- what a command answers to a text and the arguments after it
abbrev pub AnswersQuestion : Settings → TextCommand → List ℕ → List (Bor (List ℕ)) → AnswerValue → Type 0
AnswersQuestion settings (questions.Descriptor question) text arguments =
    AnswersDescriptor settings question text arguments
AnswersQuestion settings questions.FromBinary text arguments = AnswersFromBinary settings text
AnswersQuestion settings questions.Show text arguments = AnswersShow settings text
AnswersQuestion settings questions.Diff text arguments = AnswersDiff settings text (argument arguments 0)
AnswersQuestion settings questions.Types text arguments = AnswersTypes settings text arguments
AnswersQuestion settings (questions.Change question) text arguments = AnswersChange settings question text arguments
AnswersQuestion settings (questions.Heir question) text arguments = AnswersHeir question settings text arguments
AnswersQuestion settings questions.Rights text arguments = AnswersRights settings text
AnswersQuestion settings questions.Sid text arguments = AnswersSid settings text
