-- Who is named, and the first name: row by row.
use Rattle.std.proofs.Common.{◌≡◌, ◌++◌, ◌+◌, ◌<◌, ◌≤◌, ◌∙◌, ◌⊎◌, inl, inr, ℕ, List, [], ◌∷◌, Bool, Option, Some, None, length, take, drop, get_or, refl, ap, sym, subst}
use Rattle.std.proofs.lemmas.List.{map-append, take_all, take_more, take-append-drop}
use Rattle.std.proofs.lemmas.List.Elements.{Contains-append_left, Contains-push, Contains-push_cases}
use Rattle.std.specs.List.{Contains, list_any}
use Rattle.std.specs.Option.{ok_or}
use Rattle.std.specs.Prelude.{Err, IfOk, Result, ◌||◌}
use Rattle.sd_accounts.specs.declared.names.NameError.{NameError}
use Rattle.sd_accounts.specs.declared.names.NameError.TheVariants.{Unknown}
use Rattle.sd_sid.specs.Sid.{SidValue}
use Rattle.sd_accounts.specs.Found.{FindsNext, FindsTwo, IsFound}
use Rattle.sd_accounts.specs.Kept.{all_rows, row_of}
use Rattle.sd_accounts.specs.Names.{IsNamed, IsNamedIn, NamesNone, NamesOne, NamesTwo, first_name, name_in, or_else}
use Rattle.sd_accounts.specs.Row.{AccountRow, User, Group, Member, Primary, Disabled}
use Rattle.sd_accounts.specs.declared.row.Row.{Row}

-- a test of what the rows say
pub any_of : (test : AccountRow → Bool) (rows : List Row) → list_any (λ row. test (row_of row)) rows ≡ list_any test (all_rows rows)
any_of test [] = refl
any_of test (row ∷ rows) = ap (λ b. test (row_of row) || b) (any_of test rows)

-- ---- one row more

pub rows_more : (rows : List Row) (i : ℕ) (row : Row) → i < length rows → row ≡ get_or rows i row → all_rows (take (i + 1) rows) ≡ all_rows (take i rows) ++ row_of row ∷ []
rows_more rows i row low is = ap all_rows (take_more rows i row low ∙ ap (λ r. take i rows ++ r ∷ []) (sym is)) ∙ map-append row_of (take i rows) (row ∷ [])

front_of : (rows : List Row) (i : ℕ) (one : AccountRow) → Contains (all_rows (take i rows)) one → Contains (all_rows rows) one
front_of rows i one at =
    subst (λ l. Contains l one) (sym (map-append row_of (take i rows) (drop i rows)) ∙ ap all_rows (take-append-drop i rows)) (Contains-append_left (all_rows (take i rows)) (all_rows (drop i rows)) one at)

module _ (text : List ℕ) where
  named_to : (rows : List AccountRow) (row : AccountRow) (sid : SidValue) → IsNamed rows text sid ⊎ IsNamedIn row text sid → IsNamed (rows ++ row ∷ []) text sid
  named_to rows row sid (inl (one, at, named)) = (one, Contains-append_left rows (row ∷ []) one at, named)
  named_to rows row sid (inr named) = (row, Contains-push rows row, named)

  named_from : (rows : List AccountRow) (row : AccountRow) (sid : SidValue) → IsNamed (rows ++ row ∷ []) text sid → IsNamed rows text sid ⊎ IsNamedIn row text sid
  named_from rows row sid (one, at, named) = elim (Contains-push_cases rows row one at) [
    | inl before ↦ inl (one, before, named)
    | inr same ↦ inr (subst (λ r. IsNamedIn r text sid) (sym same) named)
  ]

  -- a row names one SID
  one_named : (row : AccountRow) (one two : SidValue) → IsNamedIn row text one → IsNamedIn row text two → two ≡ one
  one_named (User s name) one two first second = sym second.0 ∙ first.0
  one_named (Group s name) one two first second = sym second.0 ∙ first.0
  one_named (Member group member) one two first second = absurd first
  one_named (Primary user group) one two first second = absurd first
  one_named (Disabled user) one two first second = absurd first

  still_found : (rows : List AccountRow) (row : AccountRow) (old : Option SidValue) → IsFound rows text old → ((sid : SidValue) → IsNamedIn row text sid → ⊥) → IsFound (rows ++ row ∷ []) text old
  still_found rows row None found none = λ sid named. elim (named_from rows row sid named) [ inl before ↦ found sid before | inr now ↦ none sid now ]
  still_found rows row (Some s) found none = (
    named_to rows row s (inl found.0),
    λ other named. elim (named_from rows row other named) [ inl before ↦ found.1 other before | inr now ↦ absurd (none other now) ],
  )

  only_found : (rows : List AccountRow) (old : Option SidValue) (sid other : SidValue) → IsFound rows text old → (old ≡ None) ⊎ (old ≡ Some sid) → IsNamed rows text other → other ≡ sid
  only_found rows old sid other found (inl was) named = absurd (subst (IsFound rows text) was found other named)
  only_found rows old sid other found (inr was) named = (subst (IsFound rows text) was found).1 other named

  found_next : (rows : List AccountRow) (row : AccountRow) (old new : Option SidValue) → IsFound rows text old → FindsNext row text old new → IsFound (rows ++ row ∷ []) text new
  found_next rows row old new found (inl (sid, named, was, now)) = subst (IsFound (rows ++ row ∷ []) text) (sym now) (
    named_to rows row sid (inr named),
    λ other is. elim (named_from rows row other is) [ inl before ↦ only_found rows old sid other found was before | inr also ↦ one_named row sid other named also ],
  )
  found_next rows row old new found (inr (none, same)) = subst (IsFound (rows ++ row ∷ []) text) (sym same) (still_found rows row old found none)

  -- who is named after one more row
  pub found_more : (rows : List Row) (i : ℕ) (row : Row) (old new : Option SidValue) → i < length rows → row ≡ get_or rows i row → IsFound (all_rows (take i rows)) text old
      → FindsNext (row_of row) text old new → IsFound (all_rows (take (i + 1) rows)) text new
  found_more rows i row old new low is found next = subst (λ l. IsFound l text new) (sym (rows_more rows i row low is)) (found_next (all_rows (take i rows)) (row_of row) old new found next)

  pub found_all : (rows : List Row) (i : ℕ) (found : Option SidValue) → length rows ≤ i → IsFound (all_rows (take i rows)) text found → IsFound (all_rows rows) text found
  found_all rows i found over is = subst (λ l. IsFound (all_rows l) text found) (take_all i rows over) is

  -- two are named
  pub found_two : (rows : List Row) (i : ℕ) (row : Row) (old : Option SidValue) → i < length rows → row ≡ get_or rows i row → IsFound (all_rows (take i rows)) text old
      → FindsTwo (row_of row) text old → NamesTwo (all_rows rows) text
  found_two rows i row old low is found (sid, other, named, was, differ) =
      let one = subst (IsFound (all_rows (take i rows)) text) was found in
      let here : Contains (all_rows (take (i + 1) rows)) (row_of row) =
      subst (λ l. Contains l (row_of row)) (sym (rows_more rows i row low is)) (Contains-push (all_rows (take i rows)) (row_of row)) in
      (other, sid, (one.0.0, front_of rows i one.0.0 one.0.1, one.0.2), (row_of row, front_of rows (i + 1) (row_of row) here, named), differ)

  -- the answer
  pub one_or : (rows : List AccountRow) (found : Option SidValue) (answer : Result SidValue NameError) → IsFound rows text found → answer ≡ ok_or found Unknown → IfOk answer (NamesOne rows text)
  one_or rows None answer is same = subst (λ a. IfOk a (NamesOne rows text)) (sym same) tt
  one_or rows (Some sid) answer is same = subst (λ a. IfOk a (NamesOne rows text)) (sym same) is

  pub none_or : (rows : List AccountRow) (found : Option SidValue) (answer : Result SidValue NameError) → IsFound rows text found → answer ≡ ok_or found Unknown → answer ≡ Err Unknown → NamesNone rows text
  none_or rows None answer is same unknown = is
  none_or rows (Some sid) answer is same unknown = cc (same, unknown)

-- ---- the first name

or_else_in_turn : (a b c : Option (List ℕ)) → or_else (or_else a b) c ≡ or_else a (or_else b c)
or_else_in_turn None b c = refl
or_else_in_turn (Some name) b c = refl

first_name-append : (xs ys : List AccountRow) (sid : SidValue) → first_name (xs ++ ys) sid ≡ or_else (first_name xs sid) (first_name ys sid)
first_name-append [] ys sid = refl
first_name-append (x ∷ xs) ys sid = ap (or_else (name_in sid x)) (first_name-append xs ys sid) ∙ sym (or_else_in_turn (name_in sid x) (first_name xs sid) (first_name ys sid))

-- one row more
pub name_more : (rows : List Row) (i : ℕ) (row : Row) (sid : SidValue) (name : Option (List ℕ)) → i < length rows → row ≡ get_or rows i row
    → first_name (all_rows (take i rows)) sid ≡ None → name_in sid (row_of row) ≡ name → first_name (all_rows (take (i + 1) rows)) sid ≡ or_else name None
name_more rows i row sid name low is before now =
    ap (λ l. first_name l sid) (rows_more rows i row low is) ∙ first_name-append (all_rows (take i rows)) (row_of row ∷ []) sid
    ∙ ap (λ b. or_else b (or_else (name_in sid (row_of row)) None)) before ∙ ap (λ n. or_else n None) now

-- the row that gives the first name
pub name_found : (rows : List Row) (i : ℕ) (row : Row) (sid : SidValue) (name : List ℕ) → i < length rows → row ≡ get_or rows i row
    → first_name (all_rows (take i rows)) sid ≡ None → name_in sid (row_of row) ≡ Some name → first_name (all_rows rows) sid ≡ Some name
name_found rows i row sid name low is before now =
    ap (λ l. first_name l sid) (ap all_rows (sym (take-append-drop (i + 1) rows)) ∙ map-append row_of (take (i + 1) rows) (drop (i + 1) rows))
    ∙ first_name-append (all_rows (take (i + 1) rows)) (all_rows (drop (i + 1) rows)) sid
    ∙ ap (λ n. or_else n (first_name (all_rows (drop (i + 1) rows)) sid)) (name_more rows i row sid (Some name) low is before now)
