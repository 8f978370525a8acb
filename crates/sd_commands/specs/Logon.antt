-- The value of `--logon`: which groups Windows adds to a token by how its user logged on ([MS-DTYP] 2.4.2.4): Everyone,
-- Authenticated Users and This Organization, and the group of that kind of logon; LOCAL where it is at the machine.
use Rattle.std.specs.Prelude.{◌≡◌, ℕ, Bool, true, List, [], ◌∷◌, ◌++◌, if◌then◌else◌, Option, Some, None, codes}
use Rattle.std.specs.Prelude.{bytes_eq}
use Rattle.sd_sid.specs.Sid.{SidValue, same_sid}
use Rattle.sd_analysis.specs.Risks.{anonymous}
use Rattle.sd_commands.specs.declared.logon.Logon.{Logon}
use Rattle.sd_commands.specs.declared.logon.Logon.TheVariants.{Interactive, Network, Batch, Service, Anonymous}

abbrev pub logon_named : List ℕ → Option Logon
logon_named text =
    if bytes_eq text (codes "interactive") then Some Interactive
    else (if bytes_eq text (codes "network") then Some Network
    else (if bytes_eq text (codes "batch") then Some Batch
    else (if bytes_eq text (codes "service") then Some Service
    else (if bytes_eq text (codes "anonymous") then Some Anonymous
    else None))))

-- of each user with an account
abbrev pub of_each : List (List ℕ) → List (List ℕ)
of_each more = codes "S-1-1-0" ∷ codes "S-1-5-11" ∷ codes "S-1-5-15" ∷ more

abbrev pub group_texts : Logon → List (List ℕ)
group_texts Interactive = of_each (codes "S-1-5-4" ∷ codes "S-1-2-0" ∷ [])
group_texts Network = of_each (codes "S-1-5-2" ∷ [])
group_texts Batch = of_each (codes "S-1-5-3" ∷ codes "S-1-2-0" ∷ [])
group_texts Service = of_each (codes "S-1-5-6" ∷ codes "S-1-2-0" ∷ [])
group_texts Anonymous = codes "S-1-5-2" ∷ []

-- the words of a token, and then the groups of the logon, if one is given
abbrev pub words_for : Option Logon → List (List ℕ) → List (List ℕ)
words_for None words = words
words_for (Some logon) words = words ++ group_texts logon

-- the user can have logged on so: without an account Anonymous alone
abbrev pub fits_logon : Option Logon → SidValue → Bool
fits_logon (Some Anonymous) user = same_sid user anonymous
fits_logon logon user = true

-- without the option nothing is added
abbrev pub GivesLogon : Option (List ℕ) → Option Logon → Type 0
GivesLogon None logon = logon ≡ None
GivesLogon (Some text) None = ⊥
GivesLogon (Some text) (Some logon) = logon_named text ≡ Some logon

-- the text is there, and names no kind of logon
abbrev pub GivesNoLogon : Option (List ℕ) → Type 0
GivesNoLogon None = ⊥
GivesNoLogon (Some text) = logon_named text ≡ None
