-- To whom `why` grants nothing: a user who has no SID that an allow entry speaks of, and that isn't the owner.
use Rattle.std.proofs.Common.{ℕ, ◌≡◌, ◌++◌, ◌+◌, ◌∙◌, ◌⊎◌, ◌&&◌, ◌||◌, not, List, [], ◌∷◌, Bool, true, false, cond, drop, filter, length, map, Option, Some, None, is_some, ap, inl, inr, refl, subst, sym, codes, arith}
use Rattle.std.proofs.lemmas.Bool.{true≢false}
use Rattle.std.proofs.lemmas.List.{append-nil}
use Rattle.std.proofs.lemmas.List.Elements.{Contains-append_cases, Contains-append_left, Contains-append_right, Contains-get_or}
use Rattle.std.specs.Borrow.{Bor}
use Rattle.std.specs.List.{AllByRecursion, Contains, list_any}
use Rattle.std.specs.Prelude.{MatchBool, bit_or}
use Rattle.sd_sid.specs.Sid.{SidValue, owner_rights, same_sid}
use Rattle.sd_acl.specs.Ace.{is_allow, is_inherit_only}
use Rattle.sd_acl.specs.Dacl.{Dacl}
use Rattle.sd_acl.specs.Descriptor.{DescriptorValue}
use Rattle.sd_acl.specs.declared.ace.Ace.{Ace}
use Rattle.sd_acl.specs.declared.ace.AceKind.TheVariants.{Allow}
use Rattle.sd_acl.specs.declared.descriptor.DaclOf.TheVariants.{List as Entries}
use Rattle.sd_analysis.specs.Sufficient.{entries_or_none}
use Rattle.sd_check.specs.Check.{dacl_entries, stands_for_subject, subject, verdict}
use Rattle.sd_check.specs.Token.{TokenValue, stands_for}
use Rattle.sd_check.specs.declared.verdict.Verdict.{Verdict}
use Rattle.sd_check.specs.declared.verdict.Verdict.TheVariants.{Granted, Denied, Reserved, EmptyRequest}
use Rattle.sd_explain.specs.Parts.{reason_in}
use Rattle.sd_explain.specs.Reasons.{reasons_of}
use Rattle.sd_text.proofs.Engine.{no_fault, one_value}
use Rattle.sd_text.specs.Canon.{full_canon}
use Rattle.sd_text.specs.Fault.{StandsIn}
use Rattle.sd_text.specs.Grammar.{Spells}
use Rattle.sd_text.specs.Rights.{mask_text}
use Rattle.sd_text.specs.Sddl.{sddl_in}
use Rattle.sd_text.specs.Sid.{sid_text_in}
use Rattle.sd_text.specs.declared.fault.TextError.{TextError}
use Rattle.sd_text.specs.declared.fault.TextError.TheVariants.{Fault, Memory}
use Rattle.sd_line.specs.Line.{LineOf, is_of}
use Rattle.sd_line.specs.Mask.{AreJoined, IsErrorFrom, IsMaskErrorIn, IsMaskIn, IsWordErrorAt, IsWordMask, rights_word}
use Rattle.sd_line.specs.Request.{requested}
use Rattle.sd_line.specs.declared.names.ObjectKind.{ObjectKind}
use Rattle.sd_line.specs.declared.spelling.Spelling.{Spelling}
use Rattle.sd_line.specs.declared.spelling.Spelling.TheVariants.{Number, Names}
use Rattle.sd_answer.proofs.OneToken.{token_one, token_or_none}
use Rattle.sd_answer.proofs.Words.{not_spelled}
use Rattle.sd_answer.specs.Why.{part_lines, why_lines}
use Rattle.sd_answer.specs.Word.{IsToken, texts, token_of}
use Rattle.sd_answer.specs.declared.forms.TheConstants.{LABEL_ALONE}
use Rattle.sd_accounts.specs.Groups.{AreGroupsOf, Belongs, directly, further}
use Rattle.sd_accounts.specs.Row.{AccountRow}
use Rattle.sd_named.specs.Arguments.{AreAdded, AreOfAccount, added, added_texts, group_text, is_said, logon_groups, starts}
use Rattle.sd_named.specs.declared.word.Role.TheVariants as roles
use Rattle.sd_usage.specs.declared.row.DescriptorCommand.TheVariants.{Why}
use Rattle.sd_usage.specs.declared.row.TextCommand.TheVariants.{Descriptor}
use Rattle.sd_commands.specs.Answer.{AnswerValue, IsFaultOf, IsTold}
use Rattle.sd_commands.specs.CommandAnswer.{AnswersOn, AnswersPlainly, AnswersQuestion, AnswersWholly, IsRefusedArgument, IsWordFault, argument}
use Rattle.sd_commands.specs.Logon.{fits_logon, words_for}
use Rattle.sd_commands.specs.Required.{missing_dacl}
use Rattle.sd_commands.specs.Whole.{takes_whole}
use Rattle.sd_commands.specs.WholeVerdict.{verdict_outcome}
use Rattle.sd_commands.specs.declared.command_answer.Outcome.TheVariants as outcomes
use Rattle.sd_commands.specs.declared.logon.Logon.{Logon}
use Rattle.sd_commands.specs.declared.settings.Settings.{Settings}
use Rattle.sd_whole_parse.specs.Part.{IsPart, IsPartFault}
use Rattle.sd_people.proofs.Denied.{IsNotAllowed, IsOutside, part_lines_denied, why_leaves_nothing}
use Rattle.sd_people.proofs.Spelled.{full_spelled}
use Rattle.sd_people.proofs.Tokens.{IsUnwanted, all_from, are_sids, enabled_word, has_no_privileges, stands_for_none, words_of}
use Rattle.sd_people.specs.Passed.{GrantsNothing, Speaks}

-- ---- a mask has a value or an error

word_or_error : (kind : Option ObjectKind) (start : ℕ) (word : List ℕ) (mask : ℕ) (error : TextError) → IsWordMask kind word mask → IsWordErrorAt kind start word error → ⊥
word_or_error kind start word mask (Fault fault place) (inl is) (within, none, has, at) = (let never : Some mask ≡ None = sym is ∙ none in cc)
word_or_error kind start word mask (Fault fault place) (inr (none, spells)) (within, none_too, has, at) = no_fault rights_word word mask fault within spells has
word_or_error kind start word mask Memory is at = at

joined_or_error : (kind : Option ObjectKind) (bits start mask : ℕ) (words : List (List ℕ)) (error : TextError) → AreJoined kind bits words mask → IsErrorFrom kind start words error → ⊥
joined_or_error kind bits start mask [] error joined is = is
joined_or_error kind bits start mask (word ∷ words) error (one, is, rest) (inl at) = word_or_error kind start word one error is at
joined_or_error kind bits start mask (word ∷ words) error (one, is, rest) (inr (before, after)) =
    joined_or_error kind (bit_or bits one) (start + (length word + 1)) mask words error rest after

mask_or_error : (spelling : Spelling) (text : List ℕ) (mask : ℕ) (error : TextError) → IsMaskIn spelling text mask → IsMaskErrorIn spelling text error → (error ≡ Memory → ⊥) → ⊥
mask_or_error Number text mask (Fault fault place) is bad told = no_fault mask_text text mask fault place is bad
mask_or_error Number text mask Memory is bad told = told refl
mask_or_error (Names kind) [] mask error is bad told = bad
mask_or_error (Names kind) (c ∷ text) mask error is bad told = joined_or_error kind 0 0 mask _ error is bad

-- ---- arguments

module _ (user mask : List ℕ) (groups : List (List ℕ)) where
  abbrev pub AreThree : List (Bor (List ℕ)) → Type 0
  AreThree arguments = (argument arguments 0 ≡ user) × (argument arguments 1 ≡ mask) × (texts (drop 2 arguments) ≡ groups)

  pub are_three : (arguments : List (Bor (List ℕ))) → texts arguments ≡ user ∷ mask ∷ groups → AreThree arguments
  are_three [] e = absurd cc
  are_three (a ∷ []) e = absurd cc
  are_three (a ∷ b ∷ rest) e = (cc, cc, cc)

-- ---- the groups of a user without words

pub no_belongs : (rows : List AccountRow) (sid : SidValue) → Belongs rows [] sid → ⊥
no_belongs rows _ (directly start group at in') = omega (arith, at.1)
no_belongs rows _ (further between group belongs in') = no_belongs rows between belongs

no_groups : (rows : List AccountRow) (groups : List SidValue) → AreGroupsOf rows [] groups → groups ≡ []
no_groups rows [] are = refl
no_groups rows (sid ∷ groups) are = absurd (no_belongs rows sid ((are.each sid).0 (Contains-get_or (sid ∷ groups) 0 sid (omega arith))))

all_kept : (P : SidValue → Type 0) (p : SidValue → Bool) (sids : List SidValue) → AllByRecursion P sids → AllByRecursion P (filter p sids)
all_kept P p [] all = tt
all_kept P p (sid ∷ sids) all = by (p sid) (all_kept P p sids all.1)
  where
    by : (b : Bool) → AllByRecursion P (filter p sids) → AllByRecursion P (cond b (sid ∷ filter p sids) (filter p sids))
    by true rest = (all.0, rest)
    by false rest = rest

module _ (rows : List AccountRow) (user : SidValue) (wanted : List SidValue)
    (none : (sid : SidValue) → Contains (starts false user []) sid ⊎ Belongs rows (starts false user []) sid → IsUnwanted wanted sid) where
  -- the texts are those of SIDs, none of which is wanted
  abbrev AreOfUnwanted : List (List ℕ) → Type 0
  AreOfUnwanted groups = (sids : List SidValue) × (groups ≡ map (group_text roles.Enabled) sids) × AllByRecursion (IsUnwanted wanted) sids

  own : IsUnwanted wanted user
  own = none user (inl (Contains-get_or (starts false user []) 0 user (omega arith)))

  of_unwanted : (groups : List (List ℕ)) → AreAdded rows false user [] groups → AreOfUnwanted groups
  of_unwanted groups are = (sids, same, all_kept (IsUnwanted wanted) (λ sid. not (is_said roles.Enabled [] sid || list_any (same_sid sid) [])) (logon_groups false user ++ are.groups) (all_from (IsUnwanted wanted) (logon_groups false user ++ are.groups) each))
    where
      sids : List SidValue
      sids = added roles.Enabled [] (logon_groups false user ++ are.groups) []

      denied : are.denied ≡ []
      denied = no_groups rows are.denied are.are_denied

      of_device : are.of_device ≡ []
      of_device = no_groups rows are.of_device are.are_of_device

      same : groups ≡ map (group_text roles.Enabled) (added roles.Enabled [] (logon_groups false user ++ are.groups) [])
      same =
          let front = added_texts roles.Enabled [] (logon_groups false user ++ are.groups) [] in
          let others = logon_groups false user ++ are.groups in
          are.are_texts
          ∙ ap (λ (gs : List SidValue). front ++ (added_texts roles.DenyOnly [] gs others ++ added_texts roles.Device [] are.of_device [])) denied
          ∙ ap (λ (gs : List SidValue). front ++ added_texts roles.Device [] gs []) of_device ∙ append-nil front

      each : (sid : SidValue) → Contains (logon_groups false user ++ are.groups) sid → IsUnwanted wanted sid
      each sid at = elim (Contains-append_cases (logon_groups false user) are.groups sid at) [
        | inl logged ↦ none sid (inl (Contains-append_right (user ∷ []) _ sid (Contains-append_left (logon_groups false user) [] sid logged)))
        | inr group ↦ none sid (inr ((are.are_groups.each sid).0 group))
      ]

-- ---- the answer

no_fault_said : (one : Verdict) → verdict_outcome one ≡ outcomes.Fault → ⊥
no_fault_said (Granted mask) e = cc
no_fault_said (Denied mask) e = cc
no_fault_said (Reserved mask) e = cc
no_fault_said EmptyRequest e = cc

missing_none : (b : Bool) (es : List Ace) (missing : List ℕ) → missing_dacl b (Entries es) ≡ Some missing → ⊥
missing_none true es missing e = cc
missing_none false es missing e = cc

told_fault : (settings : Settings) (what name text : List ℕ) (error : TextError) (answer : AnswerValue) → IsFaultOf settings what name text error answer → error ≡ Memory → ⊥
told_fault settings what name text error answer is e = subst (λ (x : TextError). IsFaultOf settings what name text x answer) e is

at_true : {A : Type 0} (B : Type 0) (b : Bool) → b ≡ true → MatchBool b A B → A
at_true B true e is = is
at_true B false e is = absurd (true≢false (sym e))

module _ (settings : Settings) (text mask : List ℕ) (wanted : List SidValue) (is : Speaks settings text mask wanted) (user : SidValue) (own : IsUnwanted wanted user)
    (sids : List SidValue) (all : AllByRecursion (IsUnwanted wanted) sids) where
  stands_not : (sid : SidValue) → Contains wanted sid → stands_for (token_of user (map enabled_word sids)) Allow sid ≡ false
  stands_not sid here = stands_for_none sid wanted here user sids own all

  owner_not : (owner : Option SidValue) → ((sid : SidValue) → owner ≡ Some sid → Contains wanted sid) → stands_for_subject (token_of user (map enabled_word sids)) Allow owner ≡ false
  owner_not None here = refl
  owner_not (Some sid) here = stands_not sid (here sid refl)

  subject_not : (owner : Option SidValue) → ((sid : SidValue) → owner ≡ Some sid → Contains wanted sid) → (sid : SidValue) → Contains wanted sid
      → stands_for_subject (token_of user (map enabled_word sids)) Allow (subject owner sid) ≡ false
  subject_not owner here sid at = by (same_sid sid owner_rights)
    where
      by : (b : Bool) → stands_for_subject (token_of user (map enabled_word sids)) Allow (cond b owner (Some sid)) ≡ false
      by true = owner_not owner here
      by false = stands_not sid at

  not_allowed : (es : List Ace) → AllByRecursion (λ (e : Ace). (not (is_inherit_only e) && is_allow e.kind) ≡ true → Contains wanted e.sid) es
      → AllByRecursion (IsNotAllowed is.descriptor.owner (token_of user (map enabled_word sids))) es
  not_allowed [] each = tt
  not_allowed (e ∷ es) each = (λ effective. subject_not is.descriptor.owner is.owner e.sid (each.0 effective), not_allowed es each.1)

  outside : IsOutside is.descriptor.owner is.entries (token_of user (map enabled_word sids))
  outside = record {
    entries = not_allowed is.entries is.allowed;
    no_owner = owner_not is.descriptor.owner is.owner;
    privileges = has_no_privileges user sids;
  }

  verdict_nothing : (asked : ℕ) (inner : AnswerValue)
      → (inner.lines ≡ why_lines settings.mapping is.descriptor (token_of user (map enabled_word sids)) asked) × (inner.told ≡ [])
      × (inner.outcome ≡ verdict_outcome (verdict is.descriptor.owner (dacl_entries is.descriptor.dacl) settings.mapping (token_of user (map enabled_word sids)) asked))
      → GrantsNothing inner
  verdict_nothing asked inner (lines, told, outcome) = record {
    done = λ fault. no_fault_said _ (sym outcome ∙ fault);
    none = subst (λ (ls : List LineOf). AllByRecursion (λ l. is_of (codes "granted") l ≡ false) (drop 1 ls)) (sym lines) denied;
    whole = ap (list_any (is_of LABEL_ALONE.0.now)) lines ∙ why_leaves_nothing _ _ _ _;
  }
    where
      denied : AllByRecursion (λ l. is_of (codes "granted") l ≡ false)
          (part_lines is.descriptor.owner (entries_or_none (dacl_entries is.descriptor.dacl))
          (reason_in (reasons_of is.descriptor.owner (dacl_entries is.descriptor.dacl) settings.mapping (token_of user (map enabled_word sids)) asked)) 32)
      denied =
          subst (λ (dacl : Dacl). AllByRecursion (λ l. is_of (codes "granted") l ≡ false)
          (part_lines is.descriptor.owner (entries_or_none (dacl_entries dacl))
          (reason_in (reasons_of is.descriptor.owner (dacl_entries dacl) settings.mapping (token_of user (map enabled_word sids)) asked)) 32))
          (sym is.list)
          (part_lines_denied is.descriptor.owner (token_of user (map enabled_word sids)) settings.mapping is.entries outside asked 32 (omega arith))

  -- the words make this token
  of_words : {P : TokenValue → Type 0} (words : List (Bor (List ℕ))) (inner : AnswerValue) → texts words ≡ map (group_text roles.Enabled) sids
      → ((token : TokenValue) × IsToken settings.aliases user (texts words) token × P token) ⊎ IsWordFault settings words inner → P (token_of user (map enabled_word sids))
  of_words {P} words inner same answers = by answers
    where
      is_token : IsToken settings.aliases user (texts words) (token_of user (map enabled_word sids))
      is_token = subst (λ (ts : List (List ℕ)). IsToken settings.aliases user ts (token_of user (map enabled_word sids))) (sym same)
          (map enabled_word sids, words_of settings.aliases sids (are_sids wanted sids all), refl)

      by : ((token : TokenValue) × IsToken settings.aliases user (texts words) token × P token) ⊎ IsWordFault settings words inner → P (token_of user (map enabled_word sids))
      by (inl (other, is_other, has)) = subst P (token_one settings.aliases user (texts words) other (token_of user (map enabled_word sids)) is_other is_token) has
      by (inr fault) = absurd (token_or_none settings.aliases user (texts words) (token_of user (map enabled_word sids)) fault.0 is_token fault.1)

  module _ (arguments : List (Bor (List ℕ))) (are : AreThree (full_canon user) mask (map (group_text roles.Enabled) sids) arguments) where
    of_mask : {P : ℕ → Type 0} (inner : AnswerValue)
        → ((asked : ℕ) × IsMaskIn settings.spelling (argument arguments 1) asked × P asked)
        ⊎ ((error : TextError) × IsMaskErrorIn settings.spelling (argument arguments 1) error
        × IsFaultOf settings (codes "mask") (codes "MASK") (argument arguments 1) error inner) → (asked : ℕ) × P asked
    of_mask inner (inl (asked, is_mask, has)) = (asked, has)
    of_mask inner (inr (error, is_error, fault)) =
        absurd (mask_or_error settings.spelling (argument arguments 1) is.is_mask.0 error
        (subst (λ (t : List ℕ). IsMaskIn settings.spelling t is.is_mask.0) (sym are.1) is.is_mask.1) is_error
        (told_fault settings (codes "mask") (codes "MASK") (argument arguments 1) error inner fault))

    spelled : Spells (sid_text_in settings.aliases) (argument arguments 0) user
    spelled = subst (λ (t : List ℕ). Spells (sid_text_in settings.aliases) t user) (sym are.0) (full_spelled settings.aliases user own.0)

    of_sid : {P : SidValue → Type 0} (inner : AnswerValue)
        → ((sid : SidValue) × Spells (sid_text_in settings.aliases) (argument arguments 0) sid × P sid)
        ⊎ ((error : TextError) × StandsIn (sid_text_in settings.aliases) (argument arguments 0) error
        × IsFaultOf settings (codes "sid") (codes "USER") (argument arguments 0) error inner) → P user
    of_sid {P} inner (inl (sid, spells, has)) = subst P (one_value (sid_text_in settings.aliases) (argument arguments 0) sid user spells spelled) has
    of_sid {P} inner (inr (error, stands, fault)) =
        absurd (not_spelled (sid_text_in settings.aliases) (argument arguments 0) error stands
        (told_fault settings (codes "sid") (codes "USER") (argument arguments 0) error inner fault) user spelled)

    fits : fits_logon settings.logon user ≡ true
    fits = ap (λ (l : Option Logon). fits_logon l user) is.logon

    user_nothing : (inner : AnswerValue) → AnswersOn settings Why arguments is.descriptor inner → GrantsNothing inner
    user_nothing inner answers =
        let mask = of_mask inner (at_true _ (fits_logon settings.logon user) fits (of_sid inner answers)) in
        let words = mask.1 in
        verdict_nothing (requested settings.kind mask.0) inner
        (of_words words.0 inner (words.1 ∙ ap (λ (l : Option Logon). words_for l (texts (drop 2 arguments))) is.logon ∙ are.2) words.2)

    one_descriptor : (other : DescriptorValue) (left : Bool) → IsPart settings.aliases settings.whole text other left → other ≡ is.descriptor
    one_descriptor other left part =
        let plain : Spells (sddl_in settings.aliases) text other × (left ≡ false) = subst (λ (w : Bool). IsPart settings.aliases w text other left) is.whole part in
        one_value (sddl_in settings.aliases) text other is.descriptor plain.0 is.spells

    told_nothing : (note : List ℕ) (inner answer : AnswerValue) → IsTold note inner answer → GrantsNothing inner → GrantsNothing answer
    unfolding IsTold
    told_nothing note inner answer told nothing = subst GrantsNothing (sym told) (record { done = nothing.done; none = nothing.none; whole = nothing.whole })

    refused_not : (answer : AnswerValue) → IsRefusedArgument (codes "SDDL") settings text answer → ⊥
    refused_not answer (inl (fault, place, bad, said)) =
        no_fault (sddl_in settings.aliases) text is.descriptor fault place is.spells (subst (λ (w : Bool). IsPartFault settings.aliases w text fault place) is.whole bad)
    refused_not answer (inr (inl (odd, bad, said))) = true≢false (sym bad.0 ∙ is.whole)
    refused_not answer (inr (inr (other, left, missing, part, lacks, said))) =
        missing_none settings.require_dacl is.entries missing
        (ap (λ (dacl : Dacl). missing_dacl settings.require_dacl dacl) (sym is.list ∙ ap (λ (x : DescriptorValue). x.dacl) (sym (one_descriptor other left part))) ∙ lacks)

    plainly_nothing : (answer : AnswerValue) → AnswersPlainly settings Why text arguments answer → GrantsNothing answer
    plainly_nothing answer (inl (other, left, taken, (inner, told, answers))) =
        told_nothing _ inner answer told
        (user_nothing inner (subst (λ (x : DescriptorValue). AnswersOn settings Why arguments x inner) (one_descriptor other left taken.0) answers))
    plainly_nothing answer (inr refused) = absurd (refused_not answer refused)

    question_nothing : (answer : AnswerValue) → AnswersQuestion settings (Descriptor Why) text arguments answer → GrantsNothing answer
    question_nothing answer answers = plainly_nothing answer (subst (λ (w : Bool). MatchBool (w && takes_whole settings.below settings.object Why)
        (AnswersWholly settings Why text arguments answer) (AnswersPlainly settings Why text arguments answer)) is.whole answers)

-- a user who has none of the wanted SIDs is granted nothing, whatever `why` answers
pub passed : (rows : List AccountRow) (settings : Settings) (text mask : List ℕ) (wanted : List SidValue) (user : SidValue) → Speaks settings text mask wanted
    → ((sid : SidValue) → Contains (starts false user []) sid ⊎ Belongs rows (starts false user []) sid → IsUnwanted wanted sid)
    → (arguments : List (Bor (List ℕ))) → AreOfAccount rows (is_some settings.logon) user mask [] (texts arguments)
    → (answer : AnswerValue) → AnswersQuestion settings (Descriptor Why) text arguments answer → GrantsNothing answer
passed rows settings text mask wanted user is none arguments are answer answers =
    let of : AreOfAccount rows false user mask [] (texts arguments) = subst (λ (l : Option Logon). AreOfAccount rows (is_some l) user mask [] (texts arguments)) is.logon are in
    let groups = of_unwanted rows user wanted none of.groups of.are_groups in
    question_nothing settings text mask wanted is user (own rows user wanted none) groups.0 groups.2 arguments
    (are_three (full_canon user) mask (map (group_text roles.Enabled) groups.0) arguments (of.texts ∙ ap (λ (gs : List (List ℕ)). full_canon user ∷ mask ∷ gs) groups.1)) answer answers
