-- The words that say who asks ([MS-DTYP] 2.5.2): those of a token, groups of the device, levels and claims.
use Rattle.std.specs.Prelude.{◌≡◌, ℕ, min, List, [], ◌∷◌, ◌++◌, drop, fold, map, Option, Some, None, option_map}
use Rattle.std.specs.Prelude.{unwrap_or, codes, if◌then◌else◌}
use Rattle.sd_sid.specs.Sid.{SidValue}
use Rattle.sd_text.specs.Finding.{find}
use Rattle.sd_text.specs.Grammar.{begins}
use Rattle.sd_text.specs.declared.alias.Aliases.{Aliases}
use Rattle.sd_check.specs.declared.token.GroupState.TheVariants.{Enabled}
use Rattle.sd_claim.specs.Claim.{ClaimValue}
use Rattle.sd_answer.specs.Word.{AreEach, Ended, IsFirstNone, IsWord, Or, token_of, with_word}
use Rattle.sd_answer.specs.declared.word.Word.{Word}
use Rattle.sd_answer.specs.declared.word.Word.TheVariants as words
use Rattle.sd_client.specs.Claim.{claim_said}
use Rattle.sd_client.specs.Client.{ClientValue}
use Rattle.sd_client.specs.Level.{label_level, level_text}
use Rattle.sd_client.specs.Whole.{all_of}
use Rattle.sd_client.specs.declared.word.ClientWord.{ClientWord}
use Rattle.sd_client.specs.declared.word.ClientWord.TheVariants.{Token, DeviceGroup, Level, Claim}
use Rattle.sd_client.specs.declared.word.Holder.{Holder}
use Rattle.sd_client.specs.declared.word.Holder.TheVariants.{Local, User, Device}

-- ---- words

-- the level or the claim that a text is: after `level=`, of either case, a level, and in no other text
abbrev pub said : Aliases → List ℕ → Option ClientWord
said known text =
    if begins text (codes "level=") then option_map Level (all_of (find level_text (drop 6 text)))
    else option_map (λ (claim : Holder × ClaimValue). Claim claim.0 claim.1) (claim_said known text)

-- the text is this word: of a token, or else a group of the device, or else a level or a claim
abbrev pub IsClientWord : Aliases → List ℕ → ClientWord → Type 0
IsClientWord known text =
    Or (λ word. (of_token : Word) × IsWord known text of_token × (word ≡ Token of_token))
    (Or (Ended known text (codes "=device") DeviceGroup)
    (λ word. said known text ≡ Some word))

-- ---- levels

-- the level that a word says; a group S-1-16-LEVEL says one, whatever its state
abbrev pub level_in : ClientWord → Option ℕ
level_in (Token (words.Group sid state)) = label_level sid
level_in (Level level) = Some level
level_in _ = None

abbrev pub lower : Option ℕ → Option ℕ → Option ℕ
lower None other = other
lower (Some one) None = Some one
lower (Some one) (Some other) = Some (min one other)

-- the lowest level that the words say, or Medium where they say none
abbrev pub level_of : List ClientWord → ℕ
level_of said = unwrap_or (fold lower None (map level_in said)) 8192

-- ---- clients

-- a client of a user and a level, with nothing else
abbrev pub nothing : SidValue → ℕ → ClientValue
nothing user level = record {
  token = token_of user [];
  device_groups = [];
  local = [];
  user = [];
  device = [];
  level = level;
}

-- the client with a claim
abbrev pub with_claim : ClientValue → Holder → ClaimValue → ClientValue
with_claim c Local claim = record c { local = c.local ++ claim ∷ [] }
with_claim c User claim = record c { user = c.user ++ claim ∷ [] }
with_claim c Device claim = record c { device = c.device ++ claim ∷ [] }

-- the client with what a word says, but for its level
abbrev pub with_client_word : ClientValue → ClientWord → ClientValue
with_client_word c (Token word) = record c { token = with_word c.token word }
with_client_word c (DeviceGroup sid) = record c { device_groups = c.device_groups ++ (sid, Enabled) ∷ [] }
with_client_word c (Level level) = c
with_client_word c (Claim holder claim) = with_claim c holder claim

-- the client of a user and words
abbrev pub client_of : SidValue → List ClientWord → ClientValue
client_of user said = fold with_client_word (nothing user (level_of said)) said

-- the client of a user and of the words that the texts are
abbrev pub IsClient : Aliases → SidValue → List (List ℕ) → ClientValue → Type 0
IsClient known user texts client =
    (said : List ClientWord) × AreEach (IsClientWord known) texts said × (client ≡ client_of user said)

-- the text at the place is the first that is no word
abbrev pub IsFirstNoClientWord : Aliases → List (List ℕ) → ℕ → Type 0
IsFirstNoClientWord known = IsFirstNone (IsClientWord known)
