-- A question with SIDs in the place of the names of accounts, in which a user has the groups of its account.
use Rattle.std.specs.Prelude.{◌≡◌, ℕ, Bool, true, false, MatchBool, List, [], ◌∷◌, Option, Some, None, is_some}
use Rattle.sd_text.specs.declared.alias.Aliases.{Aliases}
use Rattle.sd_answer.specs.Word.{texts}
use Rattle.sd_accounts.specs.Row.{AccountRow}
use Rattle.sd_named.specs.Arguments.{AreOfUser, AreOfWords}
use Rattle.sd_named.specs.Sddl.{IsNamedSddl}
use Rattle.sd_usage.specs.declared.row.DescriptorCommand.TheVariants as about
use Rattle.sd_usage.specs.declared.row.TextCommand.{TextCommand}
use Rattle.sd_usage.specs.declared.row.TextCommand.TheVariants.{Descriptor, Types}
use Rattle.sd_commands.specs.Logon.{words_for}
use Rattle.sd_commands.specs.declared.logon.Logon.{Logon}
use Rattle.sd_commands.specs.declared.settings.Settings.{Settings}
use Rattle.sd_arguments.specs.CommandLine.{RequestValue}

-- ---- texts

-- the command's text is a descriptor's
abbrev pub has_sddl : TextCommand → Bool
has_sddl (Descriptor question) = true
has_sddl Types = true
has_sddl question = false

-- in a descriptor's text SIDs stand in the place of names; any other stands as it is
abbrev pub IsText : List AccountRow → Aliases → (is_sddl : Bool) → List ℕ → List ℕ → Type 0
IsText rows known true text own = IsNamedSddl rows known text own
IsText rows known false text own = own ≡ text

-- a command's text, if it has one
abbrev pub IsGiven : List AccountRow → Aliases → TextCommand → Option (List ℕ) → Option (List ℕ) → Type 0
IsGiven rows known question (Some text) (Some own) = IsText rows known (has_sddl question) text own
IsGiven rows known question text own = own ≡ text

-- ---- arguments

-- the arguments USER MASK WORD.., with the groups of a logon that is given behind the words
abbrev pub AreOfVerdict : List AccountRow → Aliases → Option Logon → List (List ℕ) → List (List ℕ) → Type 0
AreOfVerdict rows known logon (user ∷ mask ∷ words) named =
    AreOfUser rows known (is_some logon) user mask (words_for logon words) named
AreOfVerdict rows known logon arguments named = named ≡ arguments

-- the arguments TREE USER MASK WORD.., of which the first names nobody
abbrev pub AreOfTypes : List AccountRow → Aliases → Option Logon → List (List ℕ) → List (List ℕ) → Type 0
AreOfTypes rows known logon [] named = named ≡ []
AreOfTypes rows known logon (tree ∷ arguments) named = (rest : List (List ℕ))
    × AreOfVerdict rows known logon arguments rest × (named ≡ tree ∷ rest)

-- one argument, which may be a descriptor's text, and words
abbrev pub AreOfRest : List AccountRow → Aliases → (is_sddl : Bool) → List (List ℕ) → List (List ℕ) → Type 0
AreOfRest rows known is_sddl (first ∷ words) named = (own : List ℕ) × (rest : List (List ℕ))
    × IsText rows known is_sddl first own × AreOfWords rows known words rest × (named ≡ own ∷ rest)
AreOfRest rows known is_sddl arguments named = named ≡ arguments

-- the arguments of `compare`: NEW and words, and of lines that are pairs the words alone
abbrev pub AreOfCompare : List AccountRow → Aliases → (pairs : Bool) → List (List ℕ) → List (List ℕ) → Type 0
AreOfCompare rows known true = AreOfWords rows known
AreOfCompare rows known false = AreOfRest rows known true

-- the arguments of a command after its text, or after a pair, with SIDs in the place of names
abbrev pub AreNamed : List AccountRow → Aliases → Option Logon → (pairs : Bool) → TextCommand → List (List ℕ)
    → List (List ℕ) → Type 0
AreNamed rows known logon pairs (Descriptor about.Verdict) = AreOfVerdict rows known logon
AreNamed rows known logon pairs (Descriptor about.Why) = AreOfVerdict rows known logon
AreNamed rows known logon pairs Types = AreOfTypes rows known logon
AreNamed rows known logon pairs (Descriptor about.Who) = AreOfRest rows known false
AreNamed rows known logon pairs (Descriptor about.Compare) = AreOfCompare rows known pairs
AreNamed rows known logon pairs (Descriptor about.Lint) = AreOfWords rows known
AreNamed rows known logon pairs question = λ arguments named. named ≡ arguments

-- the question of a text and of arguments with SIDs in the place of names
pub record IsNamedRequest (rows : List AccountRow) (settings : Settings) (text : Option (List ℕ)) (pairs : Bool)
    (request : RequestValue) (own_text : Option (List ℕ)) (own : RequestValue) : Type 0 where
  pub question : own.question ≡ request.question
  pub is_given : IsGiven rows settings.aliases request.question text own_text
  pub are_named : AreNamed rows settings.aliases settings.logon pairs request.question
      (texts request.arguments) (texts own.arguments)
