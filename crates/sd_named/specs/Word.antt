-- The words that say which groups a token has, where accounts are known: a trustee, with an ending that says how.
use Rattle.std.specs.Prelude.{◌≡◌, ◌⊎◌, ℕ, ◌==◌, Bool, true, false, ◌||◌, List, [], ◌∷◌, ◌++◌, Some, None}
use Rattle.std.specs.Prelude.{bytes_eq, codes, string_bytes}
use Rattle.std.specs.List.{AllByRecursion, list_any}
use Rattle.sd_sid.specs.Sid.{SidValue}
use Rattle.sd_text.specs.Canon.{full_canon}
use Rattle.sd_text.specs.declared.alias.Aliases.{Aliases}
use Rattle.sd_accounts.specs.Row.{AccountRow}
use Rattle.sd_named.specs.Trustee.{Means, MeansNone}
use Rattle.sd_named.specs.declared.word.NamedWord.{NamedWord}
use Rattle.sd_named.specs.declared.word.Role.{Role}
use Rattle.sd_named.specs.declared.word.Role.TheVariants.{Enabled, DenyOnly, Disabled, Restricting, Device}
use Rattle.sd_named.specs.declared.word.WordError.{WordError}
use Rattle.sd_named.specs.declared.word.WordError.TheVariants.{NoAccount, Memory}

-- the ending of a word in the role
abbrev pub ending_of : Role → List ℕ
ending_of Enabled = []
ending_of DenyOnly = codes "=deny"
ending_of Disabled = codes "=off"
ending_of Restricting = codes "=restrict"
ending_of Device = codes "=device"

-- the roles that have an ending
abbrev pub ended : List Role
ended = DenyOnly ∷ Disabled ∷ Restricting ∷ Device ∷ []

-- this is before the ending of the word's role: of an enabled group all of it, where it has none of the endings
abbrev pub IsCut : List ℕ → (front : List ℕ) → Role → Type 0
IsCut word front Enabled = (front ≡ word)
    × AllByRecursion (λ role. (before : List ℕ) → word ≡ before ++ ending_of role → ⊥) ended
IsCut word front role = word ≡ front ++ ending_of role

-- what isn't of a trustee: `user=deny`, which says how the user counts; and what begins with `+` or `@`, or has a `=`
-- before the ending, as a privilege, a claim or a level has
abbrev pub begins_by_sign : List ℕ → Bool
begins_by_sign [] = false
begins_by_sign (b ∷ bs) = (b == 43) || (b == 64)

abbrev pub is_other : (word front : List ℕ) → Bool
is_other word front = bytes_eq word (codes "user=deny") || (begins_by_sign front || list_any (λ b. b == 61) front)

-- the word is this one: another word as it stands, of nobody; that of a trustee with the SID in full, in its role
abbrev pub IsNamedWord : List AccountRow → Aliases → List ℕ → NamedWord → Type 0
IsNamedWord rows known word named = (front : List ℕ) × IsCut word front named.role
    × (((is_other word front ≡ true) × (string_bytes named.text ≡ word) × (named.sid ≡ None))
    ⊎ ((is_other word front ≡ false) × (sid : SidValue) × Means rows known front sid
    × (string_bytes named.text ≡ full_canon sid ++ ending_of named.role) × (named.sid ≡ Some sid)))

-- the word's trustee is nobody, or may be two
abbrev pub HasNoAccount : List AccountRow → Aliases → List ℕ → WordError → Type 0
HasNoAccount rows known word (NoAccount error) = (front : List ℕ) × (role : Role) × IsCut word front role
    × (is_other word front ≡ false) × MeansNone rows known front error
HasNoAccount rows known word Memory = Unit {0}
