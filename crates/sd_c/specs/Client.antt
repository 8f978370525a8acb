-- Clients that handles keep: who asks about whole descriptors ([MS-DTYP] 2.5.2), of bytes and words.
use Rattle.std.specs.Prelude.{◌≡◌, ◌⊎◌, ℕ, ◌<◌, ◌==◌, List, [], ◌∷◌, ◌++◌, length, Option, Ok, Err}
use Rattle.std.specs.List.{slice_split}
use Rattle.std.specs.Str.{IsUtf8}
use Rattle.sd_sid.specs.Sid.{SidValue}
use Rattle.sd_sid.specs.SidBytes.{sid_reading}
use Rattle.sd_text.specs.Alias.{in_domain}
use Rattle.sd_text.specs.declared.alias.Aliases.{Aliases}
use Rattle.sd_text.specs.declared.domain.Domain.{Domain}
use Rattle.sd_client.specs.Client.{ClientValue}
use Rattle.sd_client.specs.Word.{IsClient, IsFirstNoClientWord}
use Rattle.sd_c.specs.declared.call_answer.CheckAnswer.{CheckAnswer}
use Rattle.sd_c.specs.declared.handle.Handle.{Handle}
use Rattle.sd_c.specs.declared.handle.kept.Kept.{Kept}
use Rattle.sd_c.specs.declared.stop.NotRead.{NotRead}
use Rattle.sd_c.specs.declared.stop.NotRead.TheVariants.{ClientHandle, DomainSid, NoDomain, WordsUtf8, Unended, NoWord}
use Rattle.sd_c.specs.declared.stop.Stop.{Stop}
use Rattle.sd_c.specs.declared.stop.Stop.TheVariants as stops
use Rattle.sd_c.specs.CallAnswer.{not_read, unread, why_not}
use Rattle.sd_c.specs.InDomain.{IsDomainArgument, IsOfNoDomain}
use Rattle.sd_c.specs.Kept.{Keeps, client_in}
use Rattle.sd_c.specs.Request.{of_user}
use Rattle.sd_c.specs.Written.{IsNotUtf8}

-- ---- words

-- what is before, between and after the zero bytes of a text
abbrev pub parts_of : List ℕ → List (List ℕ)
parts_of = slice_split (λ b. b == 0)

-- the words of a text, with a zero byte after each: nothing is after the last one
abbrev pub AreWords : List ℕ → List (List ℕ) → Type 0
AreWords text words = parts_of text ≡ words ++ [] ∷ []

-- after the last zero byte there is something
abbrev pub IsUnended : List ℕ → Type 0
IsUnended text =
    (words : List (List ℕ)) × (last : List ℕ) × (parts_of text ≡ words ++ last ∷ []) × (0 < length last)

-- ---- who asks

-- the client of a user and of the words in a text
abbrev pub IsClientSaid : Aliases → SidValue → List ℕ → ClientValue → Type 0
IsClientSaid known user text client =
    (words : List (List ℕ)) × AreWords text words × IsClient known user words client

-- bytes of a domain, if there are some, start with its SID, and those of the user with this one
abbrev pub AreNamed : List ℕ → List ℕ → Option Domain → SidValue → Type 0
AreNamed domain user known sid = IsDomainArgument domain known × (of_user (sid_reading user) ≡ Ok sid)

-- the client of a user's bytes and of a text's words, whose SIDs may have the aliases of the domain, if one is given
abbrev pub IsClientOf : List ℕ → List ℕ → List ℕ → ClientValue → Type 0
IsClientOf domain user text client =
    (known : Option Domain) × (sid : SidValue) × AreNamed domain user known sid
    × IsUtf8 text × IsClientSaid (in_domain known) sid text client

-- ---- refusals, each of the first argument that is refused

-- bytes of a domain don't start with a SID, or with none of a domain
abbrev pub RefusesDomainBytes : List ℕ → NotRead → Type 0
RefusesDomainBytes domain (DomainSid fault) = (0 < length domain) × (sid_reading domain ≡ Err fault)
RefusesDomainBytes domain NoDomain = (0 < length domain) × IsOfNoDomain domain
RefusesDomainBytes domain _ = ⊥

-- the last word of the text has no end, or this one is the first that says nothing of a client
abbrev pub RefusesWords : Aliases → List ℕ → Stop → Type 0
RefusesWords known text stops.Memory = Unit {0}
RefusesWords known text (stops.NotRead Unended) = IsUnended text
RefusesWords known text (stops.NotRead (NoWord at)) =
    (words : List (List ℕ)) × AreWords text words × IsFirstNoClientWord known words at
RefusesWords known text (stops.NotRead _) = ⊥

-- the text isn't UTF-8 from there on, or its words are refused
abbrev pub RefusesWordsText : Aliases → List ℕ → Stop → Type 0
RefusesWordsText known text (stops.NotRead (WordsUtf8 at)) = IsNotUtf8 text at
RefusesWordsText known text why = IsUtf8 text × RefusesWords known text why

abbrev pub RefusesClient : List ℕ → List ℕ → List ℕ → Stop → Type 0
RefusesClient domain user text why =
    ((fault : NotRead) × (why ≡ stops.NotRead fault) × RefusesDomainBytes domain fault)
    ⊎ ((known : Option Domain) × (fault : NotRead) × (why ≡ stops.NotRead fault) × IsDomainArgument domain known
    × (of_user (sid_reading user) ≡ Err fault))
    ⊎ ((known : Option Domain) × (sid : SidValue) × AreNamed domain user known sid
    × RefusesWordsText (in_domain known) text why)

-- ---- the handle afterwards

-- an empty handle keeps the client of the arguments, or nothing for a reason that holds; one in use is unchanged
abbrev pub KeepsClient : List ℕ → List ℕ → List ℕ → Handle → Handle → CheckAnswer → Type 0
KeepsClient domain user text old new answer =
    ((kept : Kept) × (client : ClientValue) × (old.is_there ≡ 0) × IsClientOf domain user text client
    × (client_in kept ≡ Ok client) × Keeps new kept × (answer ≡ unread 0 0 0 0))
    ⊎ ((why : Stop) × (old.is_there ≡ 0) × RefusesClient domain user text why × (new ≡ old) × (answer ≡ why_not why))
    ⊎ ((old.is_there ≡ 1) × (new ≡ old) × (answer ≡ not_read ClientHandle))
