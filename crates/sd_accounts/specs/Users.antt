-- The users that may log on.
use Rattle.std.specs.Prelude.{◌≡◌, ℕ, Bool, false, not, List, [], ◌∷◌, map, Option, Some, None, if◌then◌else◌}
use Rattle.std.specs.Borrow.{Bor}
use Rattle.std.specs.HashSet.{HashSet, contains_by}
use Rattle.std.specs.List.{filter}
use Rattle.sd_sid.specs.Sid.{SidValue, same_sid}
use Rattle.sd_accounts.specs.Names.{is_disabled}
use Rattle.sd_accounts.specs.Row.{AccountRow, User, Group, Member, Primary, Disabled}

-- whether the last `user` row, if there is one, gives a name to this user
abbrev pub is_last : Option SidValue → SidValue → Bool
is_last None sid = false
is_last (Some last) sid = same_sid last sid

-- the users of the rows in the file's order, each with its name; a row that gives a further name to the user of the
-- last `user` row is passed over
abbrev pub user_rows : Option SidValue → List AccountRow → List (SidValue × List ℕ)
user_rows last [] = []
user_rows last (User sid name ∷ rows) =
    if is_last last sid then user_rows last rows else (sid, name) ∷ user_rows (Some sid) rows
user_rows last (Group sid name ∷ rows) = user_rows last rows
user_rows last (Member group member ∷ rows) = user_rows last rows
user_rows last (Primary user group ∷ rows) = user_rows last rows
user_rows last (Disabled user ∷ rows) = user_rows last rows

-- those whose account isn't disabled
abbrev pub users_of : List AccountRow → List (SidValue × List ℕ)
users_of rows = filter (λ user. not (is_disabled rows user.0)) (user_rows None rows)

-- the user of a row with its name, unless it is the last user
abbrev pub user_after : Option SidValue → AccountRow → Option (SidValue × List ℕ)
user_after last (User sid name) = if is_last last sid then None else Some (sid, name)
user_after last (Group sid name) = None
user_after last (Member group member) = None
user_after last (Primary user group) = None
user_after last (Disabled user) = None

-- a borrowed user with its name, as what it is
abbrev pub lent_user : Bor SidValue × Bor (List ℕ) → SidValue × List ℕ
lent_user user = (user.0.now, user.1.now)

-- users with borrowed names, as what they are
abbrev pub named_user : SidValue × Bor (List ℕ) → SidValue × List ℕ
named_user user = (user.0, user.1.now)

abbrev pub named : List (SidValue × Bor (List ℕ)) → List (SidValue × List ℕ)
named users = map named_user users

-- the set has a SID if its account is disabled, and no other
abbrev pub AreDisabled : {S : Type 0} → HashSet SidValue S → List AccountRow → Type 0
AreDisabled sids rows = (sid : SidValue) → contains_by (same_sid sid) sids ≡ is_disabled rows sid
