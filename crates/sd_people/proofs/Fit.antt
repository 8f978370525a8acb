-- The users who are passed over, by what the search says; and whom it is for.
use Rattle.std.proofs.Common.{ℕ, ◌≡◌, ◌++◌, ◌+◌, ◌<◌, ◌∙◌, ◌&&◌, not, List, [], ◌∷◌, Bool, arith, true, false, Option, Some, None, ap, get_or, is_some, length, refl, subst, sym, take}
use Rattle.std.proofs.lemmas.List.{append_assoc, take_more}
use Rattle.std.proofs.lemmas.List.Elements.{Contains-append_left, Contains-append_right, Contains-get_or, Contains-push, filter_map-append}
use Rattle.std.specs.List.{AllByRecursion, Contains, cons_option, filter_map}
use Rattle.std.specs.Option.{option_to_list}
use Rattle.std.specs.Prelude.{if◌then◌else◌, IfNone}
use Rattle.sd_sid.specs.Sid.{SidValue}
use Rattle.sd_acl.specs.Ace.{is_allow, is_inherit_only}
use Rattle.sd_acl.specs.declared.ace.Ace.{Ace}
use Rattle.sd_accounts.specs.Row.{AccountRow}
use Rattle.sd_accounts.specs.Search.{searched, wanted_by}
use Rattle.sd_accounts.specs.Wanted.{HasNone}
use Rattle.sd_accounts.specs.declared.search.Search.{Search}
use Rattle.sd_answer.specs.Word.{texts}
use Rattle.sd_commands.specs.declared.logon.Logon.{Logon}
use Rattle.sd_commands.specs.declared.settings.Settings.{Settings}
use Rattle.sd_named.specs.Arguments.{AreOfAccount, starts}
use Rattle.sd_named.specs.declared.word.NamedWord.{NamedWord}
use Rattle.sd_people.specs.Asked.{Changed, EachAsked, Granted}
use Rattle.sd_people.specs.Passed.{IsFit, allowed_sid, subjects}
use Rattle.sd_people.specs.People.{IsGrantedNothing}
use Rattle.sd_people.proofs.Passed.{passed}

pub passed_over : (rows : List AccountRow) (settings : Settings) (words : List NamedWord) (user : SidValue) (search : Search) (all : List SidValue)
    → all ≡ starts (is_some settings.logon) user words → HasNone (searched search) (wanted_by search) all
    → (each : EachAsked) → IsFit rows settings words each (Some search) → IsGrantedNothing rows settings words each user
passed_over rows settings words user search all are none (Changed old new) fit = absurd fit
passed_over rows settings words user search all are none (Granted text mask) fit = λ answer why.
    let same : all ≡ starts false user [] =
    are ∙ ap (λ (ws : List NamedWord). starts (is_some settings.logon) user ws) fit.0 ∙ ap (λ (l : Option Logon). starts (is_some l) user []) fit.2.logon in
    let has : HasNone rows (wanted_by search) (starts false user []) =
    subst (λ (ss : List SidValue). HasNone rows (wanted_by search) ss) same
    (subst (λ (rs : List AccountRow). HasNone rs (wanted_by search) all) fit.1 none) in
    passed rows settings text mask (wanted_by search) user fit.2 has why.arguments
    (subst (λ (ws : List NamedWord). AreOfAccount rows (is_some settings.logon) user mask ws (texts why.arguments)) fit.0 why.are_of) answer why.answers

pub none_found : {A : Type 0} (found : Option A) {P Q : Type 0} → (P → Q) → IfNone found P → IfNone found Q
none_found None more is = more is
none_found (Some one) more is = is

-- ---- whom the search is for

last_one : (o : Option SidValue) → cons_option o [] ≡ option_to_list o
last_one None = refl
last_one (Some sid) = refl

pub subject_more : (owner : Option SidValue) (entries : List Ace) (i : ℕ) (e : Ace) (o : Option SidValue) (old new : List SidValue) → i < length entries → e ≡ get_or entries i e
    → old ≡ subjects owner (take i entries) → o ≡ allowed_sid e → new ≡ old ++ option_to_list o → new ≡ subjects owner (take (i + 1) entries)
subject_more owner entries i e o old new low is before allowed more =
    more ∙ ap (λ (l : List SidValue). l ++ option_to_list o) before
    ∙ append_assoc (option_to_list owner) (filter_map allowed_sid (take i entries)) (option_to_list o)
    ∙ ap (λ (l : List SidValue). option_to_list owner ++ (filter_map allowed_sid (take i entries) ++ l))
    (ap option_to_list (allowed ∙ ap allowed_sid is) ∙ sym (last_one (allowed_sid (get_or entries i e))))
    ∙ ap (λ (l : List SidValue). option_to_list owner ++ l) (sym (filter_map-append allowed_sid (take i entries) (get_or entries i e ∷ [])))
    ∙ ap (subjects owner) (sym (take_more entries i e low))

pub owner_wanted : (owner : Option SidValue) (entries : List Ace) (sid : SidValue) → owner ≡ Some sid → Contains (subjects owner entries) sid
owner_wanted None entries sid is = absurd cc
owner_wanted (Some one) entries sid is =
    let same : one ≡ sid = cc in
    Contains-append_left (one ∷ []) (filter_map allowed_sid entries) sid (subst (Contains (one ∷ [])) same (Contains-push [] one))

kept_in : (o : Option SidValue) (sids : List SidValue) (sid : SidValue) → Contains sids sid → Contains (cons_option o sids) sid
kept_in None sids sid at = at
kept_in (Some one) sids sid at = Contains-append_right (one ∷ []) sids sid at

allowed_wanted : (wanted : List SidValue) (entries : List Ace) → ((sid : SidValue) → Contains (filter_map allowed_sid entries) sid → Contains wanted sid)
    → AllByRecursion (λ (e : Ace). (not (is_inherit_only e) && is_allow e.kind) ≡ true → Contains wanted e.sid) entries
allowed_wanted wanted [] into = tt
allowed_wanted wanted (e ∷ entries) into = (
  λ effective. into e.sid (subst (λ (b : Bool). Contains (cons_option (if b then Some e.sid else None) (filter_map allowed_sid entries)) e.sid) (sym effective)
      (Contains-get_or (e.sid ∷ filter_map allowed_sid entries) 0 e.sid (omega arith))),
  allowed_wanted wanted entries (λ sid at. into sid (kept_in (allowed_sid e) (filter_map allowed_sid entries) sid at)),
)

pub all_wanted : (owner : Option SidValue) (entries : List Ace) (wanted : List SidValue) → ((sid : SidValue) → Contains (subjects owner entries) sid → Contains wanted sid)
    → AllByRecursion (λ (e : Ace). (not (is_inherit_only e) && is_allow e.kind) ≡ true → Contains wanted e.sid) entries
all_wanted owner entries wanted into =
    allowed_wanted wanted entries (λ sid at. into sid (Contains-append_right (option_to_list owner) (filter_map allowed_sid entries) sid at))

pub not_there : {A : Type 0} (one : Option A) → is_some one ≡ false → one ≡ None
not_there None e = refl
not_there (Some one) e = absurd cc
