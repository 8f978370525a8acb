-- The SIDs of the disabled accounts, row by row.
use Rattle.std.proofs.Common.{◌≡◌, ◌+◌, ◌<◌, ◌∙◌, ℕ, List, [], ◌∷◌, Bool, true, false, cond, get_or, length, take, refl, ap, sym}
use Rattle.std.proofs.Math.Bool.{or-false, or-true}
use Rattle.std.proofs.lemmas.List.Folds.{list_any-append}
use Rattle.std.specs.HashSet.{HashSet, Updates, contains, contains_by}
use Rattle.std.specs.Prelude.{◌||◌}
use Rattle.sd_sid.specs.Sid.{SidValue, same_sid}
use Rattle.sd_accounts.specs.Kept.{all_rows, row_of}
use Rattle.sd_accounts.specs.Names.{is_disabled, says_disabled}
use Rattle.sd_accounts.specs.Row.{AccountRow}
use Rattle.sd_accounts.specs.Users.{AreDisabled}
use Rattle.sd_accounts.specs.declared.row.Row.{Row}
use Rattle.sd_accounts.specs.declared.row.Row.TheVariants as kept
use Rattle.sd_accounts.proofs.Found.{rows_more}
use Rattle.sd_accounts.proofs.Sids.{sid_eq, sid_eq-same, sid_test}

-- one row more disables an account if it did, or the row says so
one_more : (rows : List Row) (i : ℕ) (row : Row) (sid : SidValue) → i < length rows → row ≡ get_or rows i row
    → is_disabled (all_rows (take (i + 1) rows)) sid ≡ (is_disabled (all_rows (take i rows)) sid || says_disabled sid (row_of row))
one_more rows i row sid low is =
    ap (λ l. is_disabled l sid) (rows_more rows i row low is) ∙ list_any-append (says_disabled sid) (all_rows (take i rows)) (row_of row ∷ [])
    ∙ ap (λ b. is_disabled (all_rows (take i rows)) sid || b) (or-false (says_disabled sid (row_of row)))

chosen : (b a x : Bool) → a ≡ x → cond b true a ≡ (x || b)
chosen true a x same = sym (or-true x)
chosen false a x same = same ∙ sym (or-false x)

none_said : (row : Row) → ((user : SidValue) → row ≡ kept.Disabled user → ⊥) → (sid : SidValue) → says_disabled sid (row_of row) ≡ false
none_said (kept.User s name) other sid = refl
none_said (kept.Group s name) other sid = refl
none_said (kept.Member group member) other sid = refl
none_said (kept.Primary user group) other sid = refl
none_said (kept.Disabled user) other sid = absurd (other user refl)

module _ {S : Type 0} where
  -- the set has a SID by either test
  pub either_test : (sids : HashSet SidValue S) (sid : SidValue) → contains sid_eq sids sid ≡ contains_by (same_sid sid) sids
  either_test sids sid = ap (λ test. contains_by test sids) (sid_test sid)

  -- a row that disables an account, whose SID is put into the set
  pub more_disabled : (old new : HashSet SidValue S) (rows : List Row) (i : ℕ) (row : Row) (user : SidValue) → i < length rows → row ≡ get_or rows i row
      → AreDisabled old (all_rows (take i rows)) → row ≡ kept.Disabled user → Updates sid_eq old new user true → AreDisabled new (all_rows (take (i + 1) rows))
  more_disabled old new rows i row user low is before says put sid =
      let here : says_disabled sid (row_of row) ≡ sid_eq user sid = ap (λ r. says_disabled sid (row_of r)) says ∙ sym (sid_eq-same user sid) in
      let front = is_disabled (all_rows (take i rows)) sid in
      sym (either_test new sid) ∙ put.0 sid ∙ chosen (sid_eq user sid) (contains sid_eq old sid) front (either_test old sid ∙ before sid)
      ∙ sym (one_more rows i row sid low is ∙ ap (λ b. front || b) here)

  -- a row that disables none
  pub none_more : (old : HashSet SidValue S) (rows : List Row) (i : ℕ) (row : Row) → i < length rows → row ≡ get_or rows i row
      → AreDisabled old (all_rows (take i rows)) → ((user : SidValue) → row ≡ kept.Disabled user → ⊥) → AreDisabled old (all_rows (take (i + 1) rows))
  none_more old rows i row low is before other sid =
      let front = is_disabled (all_rows (take i rows)) sid in
      before sid ∙ sym (one_more rows i row sid low is ∙ ap (λ b. front || b) (none_said row other sid) ∙ or-false front)

  -- the set tells whether an account is disabled
  pub told : (sids : HashSet SidValue S) (rows : List AccountRow) (sid : SidValue) (answer test : Bool) → AreDisabled sids rows → answer ≡ contains sid_eq sids sid → answer ≡ test
      → is_disabled rows sid ≡ test
  told sids rows sid answer test are here is = sym (are sid) ∙ sym (either_test sids sid) ∙ sym here ∙ is
