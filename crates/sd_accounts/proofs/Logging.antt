-- The users that may log on, row by row.
use Rattle.std.proofs.Common.{◌≡◌, ◌++◌, ◌+◌, ◌<◌, ◌∙◌, ℕ, List, [], ◌∷◌, Bool, true, false, Option, Some, None, get_or, length, drop, refl, ap, sym}
use Rattle.std.proofs.lemmas.List.{append_assoc, drop_more, map-append}
use Rattle.std.specs.Borrow.{Bor}
use Rattle.std.specs.List.{filter}
use Rattle.std.specs.Prelude.{Err, Ok, Result, if◌then◌else◌, not}
use Rattle.std.specs.Result.{is_err, is_ok}
use Rattle.sd_sid.specs.Sid.{SidValue}
use Rattle.sd_accounts.specs.Kept.{all_rows, row_of}
use Rattle.sd_accounts.specs.Row.{AccountRow, User, Group, Member, Primary, Disabled}
use Rattle.sd_accounts.specs.Users.{is_last, named, named_user, user_after, user_rows}
use Rattle.sd_accounts.specs.declared.row.Row.{Row}

-- the users whose accounts aren't off
abbrev pub enabled : (SidValue → Bool) → List (SidValue × List ℕ) → List (SidValue × List ℕ)
enabled off users = filter (λ user. not (off user.0)) users

-- what is there after a step that didn't fail
pub if_ok : {A E B : Type 0} (answer : Result A E) (now more old : B) → false ≡ is_err answer → now ≡ (if is_ok answer then more else old) → now ≡ more
if_ok (Ok x) now more old no_err is = is
if_ok (Err e) now more old no_err is = cc

taken : {A B : Type 0} (test : Bool) (one other : A) (all less : B) → (if test then None else Some one) ≡ Some other → (if test then less else all) ≡ all
taken true one other all less some = cc
taken false one other all less some = refl

same_user : {A : Type 0} (test : Bool) (one other : A) → (if test then None else Some one) ≡ Some other → one ≡ other
same_user true one other some = cc
same_user false one other some = cc

-- a row that gives a further user
one_after : (last : Option SidValue) (row : AccountRow) (rows : List AccountRow) (user : SidValue × List ℕ) → user_after last row ≡ Some user
    → user_rows last (row ∷ rows) ≡ user ∷ user_rows (Some user.0) rows
one_after last (User sid name) rows user some =
    taken (is_last last sid) (sid, name) user ((sid, name) ∷ user_rows (Some sid) rows) (user_rows last rows) some
    ∙ ap (λ (u : SidValue × List ℕ). u ∷ user_rows (Some u.0) rows) (same_user (is_last last sid) (sid, name) user some)
one_after last (Group sid name) rows user some = cc
one_after last (Member group member) rows user some = cc
one_after last (Primary one group) rows user some = cc
one_after last (Disabled one) rows user some = cc

rows_left : (rows : List Row) (i : ℕ) (row : Row) → i < length rows → row ≡ get_or rows i row → all_rows (drop i rows) ≡ row_of row ∷ all_rows (drop (i + 1) rows)
rows_left rows i row low is = ap all_rows (drop_more rows i row low ∙ ap (λ r. r ∷ drop (i + 1) rows) (sym is))

module _ (off : SidValue → Bool) where
  -- the users so far, and after them those of the rows to come
  abbrev pub whole : List (SidValue × Bor (List ℕ)) → Option SidValue → List AccountRow → List (SidValue × List ℕ)
  whole users last rows = named users ++ enabled off (user_rows last rows)

  -- a further user, who is off; and one who is not
  pub whole_omits : (users : List (SidValue × Bor (List ℕ))) (last : Option SidValue) (rows : List Row) (i : ℕ) (row : Row) (user : SidValue × List ℕ) → i < length rows
      → row ≡ get_or rows i row → user_after last (row_of row) ≡ Some user → off user.0 ≡ true
      → whole users (Some user.0) (all_rows (drop (i + 1) rows)) ≡ whole users last (all_rows (drop i rows))
  whole_omits users last rows i row user low is some out =
      let left = user_rows (Some user.0) (all_rows (drop (i + 1) rows)) in
      ap (λ us. named users ++ us) (sym (ap (λ rs. enabled off (user_rows last rs)) (rows_left rows i row low is)
      ∙ ap (enabled off) (one_after last (row_of row) (all_rows (drop (i + 1) rows)) user some)
      ∙ ap (λ b. if not b then user ∷ enabled off left else enabled off left) out))

  pub whole_adds : (users : List (SidValue × Bor (List ℕ))) (last : Option SidValue) (rows : List Row) (i : ℕ) (row : Row) (one : SidValue × Bor (List ℕ)) → i < length rows
      → row ≡ get_or rows i row → user_after last (row_of row) ≡ Some (named_user one) → off one.0 ≡ false
      → whole (users ++ one ∷ []) (Some one.0) (all_rows (drop (i + 1) rows)) ≡ whole users last (all_rows (drop i rows))
  whole_adds users last rows i row one low is some on =
      let left = user_rows (Some one.0) (all_rows (drop (i + 1) rows)) in
      ap (λ us. us ++ enabled off left) (map-append named_user users (one ∷ []))
      ∙ append_assoc (named users) (named_user one ∷ []) (enabled off left)
      ∙ ap (λ us. named users ++ us) (sym (ap (λ rs. enabled off (user_rows last rs)) (rows_left rows i row low is)
      ∙ ap (enabled off) (one_after last (row_of row) (all_rows (drop (i + 1) rows)) (named_user one) some)
      ∙ ap (λ b. if not b then named_user one ∷ enabled off left else enabled off left) on))
