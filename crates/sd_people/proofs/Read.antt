-- What is read once and said of a user's token is what `why` answers of the user's texts, which are never printed.
use Rattle.std.proofs.Common.{ℕ, ◌≡◌, ◌++◌, ◌+◌, ◌∙◌, ◌&&◌, ◌||◌, List, [], ◌∷◌, Bool, true, false, drop, fold, map, Option, is_some, ap, inl, refl, subst, sym, arith}
use Rattle.std.proofs.lemmas.Bool.{true≢false}
use Rattle.std.proofs.lemmas.List.{append-nil, append_assoc}
use Rattle.std.specs.Borrow.{Bor}
use Rattle.std.specs.List.{AllByRecursion, IsDistinct}
use Rattle.std.specs.Prelude.{MatchBool}
use Rattle.sd_sid.specs.Sid.{IsSid, SidValue}
use Rattle.sd_acl.specs.Descriptor.{descriptor_of}
use Rattle.sd_check.specs.Token.{TokenValue}
use Rattle.sd_check.specs.declared.token.GroupState.{GroupState}
use Rattle.sd_text.specs.Canon.{full_canon}
use Rattle.sd_text.specs.Grammar.{Spells}
use Rattle.sd_text.specs.Sid.{sid_text_in}
use Rattle.sd_line.specs.Mask.{IsMaskIn}
use Rattle.sd_answer.specs.Word.{IsToken, texts, token_of, with_word}
use Rattle.sd_accounts.specs.Groups.{AreGroupsOf}
use Rattle.sd_accounts.specs.Row.{AccountRow}
use Rattle.sd_named.specs.Arguments.{AreAdded, AreOfAccount, added, added_texts, group_text, logon_groups, starts}
use Rattle.sd_named.specs.declared.word.NamedWord.{NamedWord}
use Rattle.sd_named.specs.declared.word.Role.TheVariants as roles
use Rattle.sd_usage.specs.declared.row.DescriptorCommand.TheVariants.{Why}
use Rattle.sd_usage.specs.declared.row.TextCommand.TheVariants.{Descriptor}
use Rattle.sd_commands.specs.Answer.{AnswerValue, IsTold}
use Rattle.sd_commands.specs.CommandAnswer.{AnswersOn, AnswersPlainly, AnswersQuestion, AnswersWholly, argument}
use Rattle.sd_commands.specs.Logon.{fits_logon, words_for}
use Rattle.sd_commands.specs.Whole.{takes_whole}
use Rattle.sd_commands.specs.declared.logon.Logon.{Logon}
use Rattle.sd_commands.specs.declared.settings.Settings.{Settings}
use Rattle.sd_whole_parse.specs.Part.{IsPart}
use Rattle.sd_people.proofs.Passed.{AreThree, are_three, no_belongs}
use Rattle.sd_people.proofs.Spelled.{full_spelled}
use Rattle.sd_people.proofs.Tokens.{enabled_word, words_of}
use Rattle.sd_people.specs.People.{IsWhy}
use Rattle.sd_people.specs.Reading.{IsReadingOf, SaysWhy, enabled, token_with}
use Rattle.sd_people.specs.declared.reading.Reading.{Reading}

-- ---- the token

folded : (sids : List SidValue) (t : TokenValue) → fold with_word t (map enabled_word sids) ≡ record t { groups = t.groups ++ map enabled sids }
folded [] t = ap (λ (gs : List (SidValue × GroupState)). record t { groups = gs }) (sym (append-nil t.groups))
folded (sid ∷ sids) t =
    folded sids (with_word t (enabled_word sid))
    ∙ ap (λ (gs : List (SidValue × GroupState)). record t { groups = gs }) (append_assoc t.groups (enabled sid ∷ []) (map enabled sids))

same_token : (user : SidValue) (sids : List SidValue) → token_with user sids ≡ token_of user (map enabled_word sids)
same_token user sids = sym (folded sids (token_with user []))

-- ---- texts

abbrev lent_text : List ℕ → Bor (List ℕ)
lent_text text = record { ref_ptr = (0, 0); now = text }

abbrev lent_texts : List (List ℕ) → List (Bor (List ℕ))
lent_texts all = map lent_text all

their_texts : (all : List (List ℕ)) → texts (lent_texts all) ≡ all
their_texts [] = refl
their_texts (text ∷ all) = ap (λ (ts : List (List ℕ)). text ∷ ts) (their_texts all)

-- ---- the answer

when_true : {A : Type 0} (B : Type 0) (b : Bool) → b ≡ true → A → MatchBool b A B
when_true B true is a = a
when_true B false is a = absurd (true≢false (sym is))

module _ (settings : Settings) (text mask : List ℕ) (reading : Reading) (is : IsReadingOf settings text mask reading) (user : SidValue) (own : IsSid user)
    (sids : List SidValue) (all : AllByRecursion IsSid sids) (answer : AnswerValue) (says : SaysWhy settings reading (token_with user sids) answer) where
  fits : fits_logon settings.logon user ≡ true
  fits = ap (λ (l : Option Logon). fits_logon l user) is.logon

  part : IsPart settings.aliases settings.whole text (descriptor_of reading.descriptor) false
  part = subst (λ (w : Bool). IsPart settings.aliases w text (descriptor_of reading.descriptor) false) (sym is.whole) (is.spells, refl)

  module _ (arguments : List (Bor (List ℕ))) (are : AreThree (full_canon user) mask (map (group_text roles.Enabled) sids) arguments) where
    spelled : Spells (sid_text_in settings.aliases) (argument arguments 0) user
    spelled = subst (λ (t : List ℕ). Spells (sid_text_in settings.aliases) t user) (sym are.0) (full_spelled settings.aliases user own)

    mask_read : IsMaskIn settings.spelling (argument arguments 1) reading.asked
    mask_read = subst (λ (t : List ℕ). IsMaskIn settings.spelling t reading.asked) (sym are.1) is.is_mask

    no_more_words : texts (drop 2 arguments) ≡ words_for settings.logon (texts (drop 2 arguments))
    no_more_words = sym (ap (λ (l : Option Logon). words_for l (texts (drop 2 arguments))) is.logon)

    is_token : IsToken settings.aliases user (texts (drop 2 arguments)) (token_with user sids)
    is_token = subst (λ (ts : List (List ℕ)). IsToken settings.aliases user ts (token_with user sids)) (sym are.2)
        (map enabled_word sids, words_of settings.aliases sids all, same_token user sids)

    on_user : AnswersOn settings Why arguments (descriptor_of reading.descriptor) answer
    on_user =
        inl (user, spelled, when_true _ (fits_logon settings.logon user) fits (inl (reading.asked, mask_read, (drop 2 arguments, no_more_words, inl (token_with user sids, is_token, says)))))

    plainly : AnswersPlainly settings Why text arguments answer
    unfolding IsTold
    plainly = inl (descriptor_of reading.descriptor, false, (part, is.taken), (answer, refl, on_user))

    pub answered : AnswersQuestion settings (Descriptor Why) text arguments answer
    answered = subst (λ (w : Bool). MatchBool (w && takes_whole settings.below settings.object Why)
        (AnswersWholly settings Why text arguments answer) (AnswersPlainly settings Why text arguments answer)) (sym is.whole) plainly

-- ---- the groups of a user without words

all_added : (sids : List SidValue) → added roles.Enabled [] sids [] ≡ sids
all_added [] = refl
all_added (sid ∷ sids) = ap (λ (ss : List SidValue). sid ∷ ss) (all_added sids)

of_nobody : (rows : List AccountRow) → AreGroupsOf rows [] []
unfolding IsDistinct
of_nobody rows = record { each = λ sid. (λ at. absurd (omega (arith, at.1)), λ belongs. absurd (no_belongs rows sid belongs)); once = tt }

are_added : (rows : List AccountRow) (user : SidValue) (groups : List SidValue) → AreGroupsOf rows (starts false user []) groups
    → AreAdded rows false user [] (map (group_text roles.Enabled) (logon_groups false user ++ groups))
are_added rows user groups are = record {
  groups = groups;
  are_groups = are;
  denied = [];
  are_denied = of_nobody rows;
  of_device = [];
  are_of_device = of_nobody rows;
  are_texts = ap (map (group_text roles.Enabled)) (sym (all_added (logon_groups false user ++ groups)))
      ∙ sym (append-nil (added_texts roles.Enabled [] (logon_groups false user ++ groups) []));
}

module _ (rows : List AccountRow) (settings : Settings) (text mask : List ℕ) (reading : Reading) (is : IsReadingOf settings text mask reading) (user : SidValue) (own : IsSid user)
    (groups : List SidValue) (are : AreGroupsOf rows (starts false user []) groups) (all : AllByRecursion IsSid (logon_groups false user ++ groups)) where
  abbrev group_texts : List (List ℕ)
  group_texts = map (group_text roles.Enabled) (logon_groups false user ++ groups)

  abbrev written : List (List ℕ)
  written = full_canon user ∷ mask ∷ group_texts

  of_account : AreOfAccount rows false user mask [] (texts (lent_texts written))
  of_account = record { groups = group_texts; are_groups = are_added rows user groups are; texts = their_texts written }

  pub is_why : (answer : AnswerValue) → SaysWhy settings reading (token_with user (logon_groups false user ++ groups)) answer → IsWhy rows settings text mask [] user answer
  is_why answer says = record {
    arguments = lent_texts written;
    are_of = subst (λ (l : Option Logon). AreOfAccount rows (is_some l) user mask [] (texts (lent_texts written))) (sym is.logon) of_account;
    answers = answered settings text mask reading is user own (logon_groups false user ++ groups) all answer says (lent_texts written)
        (are_three (full_canon user) mask group_texts (lent_texts written) (their_texts written));
  }

pub why_read : (rows : List AccountRow) (settings : Settings) (text mask : List ℕ) (words : List NamedWord) (reading : Reading) (user : SidValue) (from logged groups : List SidValue)
    (token : TokenValue) (answer : AnswerValue) → words ≡ [] → IsReadingOf settings text mask reading → from ≡ starts false user words → logged ≡ drop 1 from
    → AreGroupsOf rows from groups → IsSid user → AllByRecursion IsSid (logged ++ groups) → token ≡ token_with user (logged ++ groups) → SaysWhy settings reading token answer
    → IsWhy rows settings text mask words user answer
why_read rows settings text mask words reading user from logged groups token answer empty is starting after are own all made says =
    let same : from ≡ starts false user [] = starting ∙ ap (λ (ws : List NamedWord). starts false user ws) empty in
    let logon : logged ≡ logon_groups false user = after ∙ ap (λ (ss : List SidValue). drop 1 ss) same ∙ append-nil (logon_groups false user) in
    let of_logon = subst (λ (ss : List SidValue). AllByRecursion IsSid (ss ++ groups)) logon all in
    let own_token : token ≡ token_with user (logon_groups false user ++ groups) = made ∙ ap (λ (ss : List SidValue). token_with user (ss ++ groups)) logon in
    subst (λ (ws : List NamedWord). IsWhy rows settings text mask ws user answer) (sym empty)
    (is_why rows settings text mask reading is user own groups (subst (λ (ss : List SidValue). AreGroupsOf rows ss groups) same are) of_logon answer
    (subst (λ (t : TokenValue). SaysWhy settings reading t answer) own_token says))
