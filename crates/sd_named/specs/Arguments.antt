-- The arguments of a command, where accounts are known: SIDs in the place of names, and the groups that a user has.
use Rattle.std.specs.Prelude.{◌≡◌, ℕ, Bool, true, false, not, ◌&&◌, ◌||◌, ◌==◌, List, [], ◌∷◌, ◌++◌, filter, map}
use Rattle.std.specs.Prelude.{Option, Some, None, if◌then◌else◌, slice_get, string_bytes}
use Rattle.std.specs.Borrow.{Bor}
use Rattle.std.specs.List.{filter_map, list_any}
use Rattle.std.specs.Option.{option_map_or}
use Rattle.sd_sid.specs.Sid.{SidValue, same_sid}
use Rattle.sd_text.specs.Canon.{full_canon}
use Rattle.sd_text.specs.declared.alias.Aliases.{Aliases}
use Rattle.sd_answer.specs.Word.{AreEach}
use Rattle.sd_accounts.specs.Groups.{AreGroupsOf}
use Rattle.sd_accounts.specs.Names.{is_disabled, is_user}
use Rattle.sd_accounts.specs.Row.{AccountRow}
use Rattle.sd_named.specs.Trustee.{Means, MeansNone}
use Rattle.sd_named.specs.Word.{HasNoAccount, IsNamedWord, ending_of}
use Rattle.sd_named.specs.declared.word.NamedWord.{NamedWord}
use Rattle.sd_named.specs.declared.word.Role.{Role}
use Rattle.sd_named.specs.declared.word.Role.TheVariants.{Enabled, DenyOnly, Restricting, Device}
use Rattle.sd_named.specs.declared.arguments.NamedError.{NamedError}
use Rattle.sd_named.specs.declared.arguments.NamedError.TheVariants.{User, Word, NoUser, Disabled, Memory}
use Rattle.sd_named.specs.declared.word.WordError.TheVariants.{NoAccount}

-- ---- what a user is by logging on ([MS-DTYP] 2.4.2.4)

abbrev pub everyone : SidValue
everyone = record { authority = 1; subs = 0 ∷ [] }

abbrev pub authenticated_users : SidValue
authenticated_users = record { authority = 5; subs = 11 ∷ [] }

abbrev pub anonymous : SidValue
anonymous = record { authority = 5; subs = 7 ∷ [] }

-- a domain's or a machine's guest, S-1-5-21-.-.-.-501
abbrev pub are_guest : List ℕ → Bool
are_guest (first ∷ a ∷ b ∷ c ∷ last ∷ []) = first == 21 && last == 501
are_guest subs = false

abbrev pub is_guest : SidValue → Bool
is_guest user = user.authority == 5 && are_guest user.subs

-- Everyone and Authenticated Users; a guest isn't the second, and who is anonymous neither
abbrev pub logged_on : SidValue → List SidValue
logged_on user = if same_sid user anonymous then []
    else if is_guest user then everyone ∷ []
    else everyone ∷ authenticated_users ∷ []

-- those that are added: none where the words have the groups of a logon
abbrev pub logon_groups : (has_logon : Bool) → SidValue → List SidValue
logon_groups true user = []
logon_groups false user = logged_on user

-- ---- words

-- the texts are these words, one for one
abbrev pub AreNamedWords : List AccountRow → Aliases → List (List ℕ) → List NamedWord → Type 0
AreNamedWords rows known = AreEach (IsNamedWord rows known)

abbrev pub word_text : NamedWord → List ℕ
word_text word = string_bytes word.text

-- the roles of groups that are added
abbrev pub are_alike : Role → Role → Bool
are_alike Enabled Enabled = true
are_alike DenyOnly DenyOnly = true
are_alike Device Device = true
are_alike one other = false

-- the SIDs that words give in the role
abbrev pub sid_as : Role → NamedWord → Option SidValue
sid_as role word = if are_alike role word.role then word.sid else None

abbrev pub sids_as : Role → List NamedWord → List SidValue
sids_as role words = filter_map (sid_as role) words

-- ---- groups

-- a word in the second role says how the token or, where the first is that of a device's groups, the device has its SID
abbrev pub decides : Role → Role → Bool
decides Device role = are_alike Device role
decides added Restricting = false
decides added Device = false
decides added role = true

abbrev pub is_of : SidValue → NamedWord → Bool
is_of sid word = option_map_or (λ (own : SidValue). same_sid own sid) word.sid false

abbrev pub is_said : Role → List NamedWord → SidValue → Bool
is_said role words sid = list_any (λ (word : NamedWord). decides role word.role && is_of sid word) words

-- these groups are added in the role: those of which no word speaks, and that aren't among the others
abbrev pub added : Role → List NamedWord → (groups others : List SidValue) → List SidValue
added role words groups others = filter (λ sid. not (is_said role words sid || list_any (same_sid sid) others)) groups

abbrev pub group_text : Role → SidValue → List ℕ
group_text role sid = full_canon sid ++ ending_of role

abbrev pub added_texts : Role → List NamedWord → (groups others : List SidValue) → List (List ℕ)
added_texts role words groups others = map (group_text role) (added role words groups others)

-- from these SIDs a user's groups are reached: its own, those of its logon, and those that the words give it
abbrev pub starts : (has_logon : Bool) → SidValue → List NamedWord → List SidValue
starts has_logon user words = user ∷ (logon_groups has_logon user ++ sids_as Enabled words)

-- the words of the groups that are added: of the user's groups; of those that are reached from its groups for denies
-- alone, which are for denies alone too unless they are the user's; and of those that are reached from the device's
pub record AreAdded (rows : List AccountRow) (has_logon : Bool) (user : SidValue) (words : List NamedWord)
    (texts : List (List ℕ)) : Type 0 where
  pub groups : List SidValue
  pub are_groups : AreGroupsOf rows (starts has_logon user words) groups
  pub denied : List SidValue
  pub are_denied : AreGroupsOf rows (sids_as DenyOnly words) denied
  pub of_device : List SidValue
  pub are_of_device : AreGroupsOf rows (sids_as Device words) of_device
  pub are_texts : texts
      ≡ added_texts Enabled words (logon_groups has_logon user ++ groups) []
      ++ (added_texts DenyOnly words denied (logon_groups has_logon user ++ groups)
      ++ added_texts Device words of_device [])

-- ---- who asks

-- the user has an account, which isn't disabled
abbrev pub MayLogOn : List AccountRow → SidValue → Type 0
MayLogOn rows user = (is_user rows user ≡ true) × (is_disabled rows user ≡ false)

-- of an account's user, a mask and words: the user's SID, the mask as it stands, the words, and the groups that are
-- added
pub record AreOfAccount (rows : List AccountRow) (has_logon : Bool) (user : SidValue) (mask : List ℕ)
    (words : List NamedWord) (named : List (List ℕ)) : Type 0 where
  pub groups : List (List ℕ)
  pub are_groups : AreAdded rows has_logon user words groups
  pub texts : named ≡ full_canon user ∷ mask ∷ (map word_text words ++ groups)

-- of whom the text means, who may log on
pub record AreOfUser (rows : List AccountRow) (known : Aliases) (has_logon : Bool)
    (user mask : List ℕ) (words named : List (List ℕ)) : Type 0 where
  pub sid : SidValue
  pub means : Means rows known user sid
  pub may_log_on : MayLogOn rows sid
  pub ones : List NamedWord
  pub are_words : AreNamedWords rows known words ones
  pub are_of : AreOfAccount rows has_logon sid mask ones named

-- words alone
pub record AreOfWords (rows : List AccountRow) (known : Aliases) (words named : List (List ℕ)) : Type 0 where
  pub ones : List NamedWord
  pub are_words : AreNamedWords rows known words ones
  pub texts : named ≡ map word_text ones

-- ---- faults

-- the word at the place is nobody's, or may be that of two; or memory was refused
abbrev pub IsWordsError : List AccountRow → Aliases → List (Bor (List ℕ)) → NamedError → Type 0
IsWordsError rows known words (Word place error) = (word : Bor (List ℕ)) × (slice_get words place ≡ Some word)
    × HasNoAccount rows known word.now (NoAccount error)
IsWordsError rows known words Memory = Unit {0}
IsWordsError rows known words error = ⊥

-- why arguments about a user can't be named
abbrev pub IsUserError : List AccountRow → Aliases → List ℕ → List (Bor (List ℕ)) → NamedError → Type 0
IsUserError rows known user words (User error) = MeansNone rows known user error
IsUserError rows known user words NoUser = (sid : SidValue) × Means rows known user sid × (is_user rows sid ≡ false)
IsUserError rows known user words Disabled =
    (sid : SidValue) × Means rows known user sid × (is_disabled rows sid ≡ true)
IsUserError rows known user words error = IsWordsError rows known words error
