-- The names of accounts, and what the rows say of one account.
use Rattle.std.specs.Prelude.{◌≡◌, ◌⊎◌, ℕ, Bool, false, List, [], ◌∷◌, map, Option, Some, None, Contains}
use Rattle.std.specs.Prelude.{if◌then◌else◌}
use Rattle.std.specs.Char.{to_ascii_lowercase}
use Rattle.std.specs.List.{list_any}
use Rattle.sd_sid.specs.Sid.{SidValue, same_sid}
use Rattle.sd_accounts.specs.Row.{AccountRow, User, Group, Member, Primary, Disabled, after, before}

-- two texts differ at most in the case of ASCII letters
abbrev pub AreAlike : List ℕ → List ℕ → Type 0
AreAlike one two = map to_ascii_lowercase one ≡ map to_ascii_lowercase two

-- the text has no domain: no `\` and no `@`
abbrev pub IsBare : List ℕ → Type 0
IsBare text = (after 92 text ≡ None) × (after 64 text ≡ None)

-- the text is what follows the first `\` of the name: of DOMAIN\text
abbrev pub FollowsDomain : List ℕ → List ℕ → Type 0
FollowsDomain text name = (account : List ℕ) × (after 92 name ≡ Some account) × AreAlike text account

-- the text is what precedes the first `@` of the name: of text@domain
abbrev pub PrecedesDomain : List ℕ → List ℕ → Type 0
PrecedesDomain text name = ((domain : List ℕ) × (after 64 name ≡ Some domain)) × AreAlike text (before 64 name)

-- the text names an account of this name: it is alike, or it has no domain and is the name without its domain
abbrev pub NamesAs : List ℕ → List ℕ → Type 0
NamesAs text name = AreAlike text name ⊎ (IsBare text × (FollowsDomain text name ⊎ PrecedesDomain text name))

-- the row gives this SID a name by which the text names it
abbrev pub IsNamedIn : AccountRow → List ℕ → SidValue → Type 0
IsNamedIn (User s name) text sid = (s ≡ sid) × NamesAs text name
IsNamedIn (Group s name) text sid = (s ≡ sid) × NamesAs text name
IsNamedIn (Member group member) text sid = ⊥
IsNamedIn (Primary user group) text sid = ⊥
IsNamedIn (Disabled user) text sid = ⊥

-- the text names the account of this SID
abbrev pub IsNamed : List AccountRow → List ℕ → SidValue → Type 0
IsNamed rows text sid = (row : AccountRow) × Contains rows row × IsNamedIn row text sid

-- the text names no account; this account and no other; or two accounts
abbrev pub NamesNone : List AccountRow → List ℕ → Type 0
NamesNone rows text = (sid : SidValue) → IsNamed rows text sid → ⊥

abbrev pub NamesOne : List AccountRow → List ℕ → SidValue → Type 0
NamesOne rows text sid = IsNamed rows text sid × ((other : SidValue) → IsNamed rows text other → other ≡ sid)

abbrev pub NamesTwo : List AccountRow → List ℕ → Type 0
NamesTwo rows text = (one : SidValue) × (two : SidValue) × IsNamed rows text one × IsNamed rows text two
    × (one ≡ two → ⊥)

-- whether the row says that this SID is of a user; that its account is disabled
abbrev pub says_user : SidValue → AccountRow → Bool
says_user sid (User s name) = same_sid s sid
says_user sid (Group s name) = false
says_user sid (Member group member) = false
says_user sid (Primary user group) = false
says_user sid (Disabled user) = false

abbrev pub says_disabled : SidValue → AccountRow → Bool
says_disabled sid (User s name) = false
says_disabled sid (Group s name) = false
says_disabled sid (Member group member) = false
says_disabled sid (Primary user group) = false
says_disabled sid (Disabled user) = same_sid user sid

-- whether the SID is of a user; whether its account is disabled
abbrev pub is_user : List AccountRow → SidValue → Bool
is_user rows sid = list_any (says_user sid) rows

abbrev pub is_disabled : List AccountRow → SidValue → Bool
is_disabled rows sid = list_any (says_disabled sid) rows

-- the name that the row gives the SID
abbrev pub name_in : SidValue → AccountRow → Option (List ℕ)
name_in sid (User s name) = if same_sid s sid then Some name else None
name_in sid (Group s name) = if same_sid s sid then Some name else None
name_in sid (Member group member) = None
name_in sid (Primary user group) = None
name_in sid (Disabled user) = None

-- the name if there is one, or else this
abbrev pub or_else : Option (List ℕ) → Option (List ℕ) → Option (List ℕ)
or_else None other = other
or_else (Some name) other = Some name

-- the first name that the rows give the SID
abbrev pub first_name : List AccountRow → SidValue → Option (List ℕ)
first_name [] sid = None
first_name (row ∷ rows) sid = or_else (name_in sid row) (first_name rows sid)
