-- The names that are kept.
use Rattle.std.proofs.Common.{◌≡◌, ◌++◌, ◌+◌, ◌<◌, ◌≤◌, ◌∙◌, ◌⊎◌, arith, ℕ, Bool, true, false, List, [], ◌∷◌, Option, Some, None, Contains, ap, cond, get_or, inl, inr, is_some, length, refl, subst, sym, take}
use Rattle.std.proofs.lemmas.Bool.{true≢false}
use Rattle.std.proofs.lemmas.List.{take_all, take_more}
use Rattle.std.proofs.lemmas.List.Elements.{Contains-push_cases}
use Rattle.std.specs.Map.{lookup}
use Rattle.std.specs.HashMap.{HashMap, Updates, get, get_by}
use Rattle.sd_sid.specs.Sid.{SidValue, same_sid}
use Rattle.sd_text.specs.declared.alias.Aliases.{Aliases}
use Rattle.sd_accounts.specs.Row.{AccountRow}
use Rattle.sd_accounts.proofs.Sids.{sid_eq, sid_eq-true, sid_eq-itself, sid_test}
use Rattle.sd_people.specs.Names.{AreNames, AreRight, IsKept, IsShownAs, Kept, kept_in, kept_name, name_kept}

module _ {S : Type 0} where
  -- of each of the SIDs something is kept
  abbrev pub AreKept : HashMap SidValue Kept S → List SidValue → Type 0
  AreKept names sids = (sid : SidValue) → Contains sids sid → IsKept names sid

  -- what is found at a SID, by either test
  pub found : (names : HashMap SidValue Kept S) (sid : SidValue) → get sid_eq names sid ≡ kept_in names sid
  found names sid = ap (λ test. get_by test names) (sid_test sid)

  -- nothing is kept of no SID
  pub none_kept : (names : HashMap SidValue Kept S) → AreKept names []
  none_kept names sid at = absurd (omega arith)

  -- where nothing is kept that is right
  pub right_of_none : (rows : List AccountRow) (known : Aliases) (names : HashMap SidValue Kept S) → names.entries ≡ [] → AreRight rows known names
  right_of_none rows known names empty sid name here =
      let none : kept_in names sid ≡ None = ap (λ es. lookup (same_sid sid) es) empty in
      let never : None ≡ Some name = sym none ∙ here in cc

  -- where a SID is found, something is kept of it
  pub is_kept : (names : HashMap SidValue Kept S) (sid : SidValue) → is_some (get sid_eq names sid) ≡ true → IsKept names sid
  is_kept names sid some = by (kept_in names sid) refl (ap is_some (sym (found names sid)) ∙ some)
    where
      by : (name : Option Kept) → kept_in names sid ≡ name → is_some name ≡ true → IsKept names sid
      by None e is = absurd (true≢false (sym is))
      by (Some name) e is = (name, e)

  module _ (old new : HashMap SidValue Kept S) (sid : SidValue) (name : Kept) (put : Updates sid_eq old new sid (Some name)) where
    after : (other : SidValue) → kept_in new other ≡ cond (sid_eq sid other) (Some name) (kept_in old other)
    after other = sym (found new other) ∙ put.0 other ∙ ap (cond (sid_eq sid other) (Some name)) (found old other)

    -- what is put is kept
    pub put_kept : IsKept new sid
    put_kept = (name, after sid ∙ ap (λ b. cond b (Some name) (kept_in old sid)) (sid_eq-itself sid))

    -- and what was kept still is
    pub still_kept : (other : SidValue) → IsKept old other → IsKept new other
    still_kept other was = by (sid_eq sid other) refl
      where
        by : (b : Bool) → sid_eq sid other ≡ b → IsKept new other
        by true e = (name, after other ∙ ap (λ b. cond b (Some name) (kept_in old other)) e)
        by false e = (was.0, after other ∙ ap (λ b. cond b (Some name) (kept_in old other)) e ∙ was.1)

    -- what is kept stays right
    pub still_right : (rows : List AccountRow) (known : Aliases) → IsShownAs rows known sid (name_kept name) → AreRight rows known old → AreRight rows known new
    still_right rows known shown right other one here = by (sid_eq sid other) refl
      where
        by : (b : Bool) → sid_eq sid other ≡ b → IsShownAs rows known other (name_kept one)
        by true e =
            let same : Some name ≡ Some one = sym (after other ∙ ap (λ b. cond b (Some name) (kept_in old other)) e) ∙ here in
            let is : name ≡ one = cc in
            subst (λ n. IsShownAs rows known other (name_kept n)) is (subst (λ s. IsShownAs rows known s (name_kept name)) (sid_eq-true sid other e) shown)
        by false e = right other one (sym (after other ∙ ap (λ b. cond b (Some name) (kept_in old other)) e) ∙ here)

  -- of one SID more something is kept
  pub one_more : (old new : HashMap SidValue Kept S) (sids : List SidValue) (i : ℕ) (sid : SidValue) → i < length sids → sid ≡ get_or sids i sid
      → AreKept old (take i sids) → IsKept new sid → ((other : SidValue) → IsKept old other → IsKept new other) → AreKept new (take (i + 1) sids)
  one_more old new sids i sid low is before kept still other at =
      let taken = take_more sids i sid low ∙ ap (λ s. take i sids ++ s ∷ []) (sym is) in
      by (Contains-push_cases (take i sids) sid other (subst (λ l. Contains l other) taken at))
    where
      by : Contains (take i sids) other ⊎ (sid ≡ other) → IsKept new other
      by (inl was) = still other (before other was)
      by (inr same) = subst (IsKept new) same kept

  -- of the SIDs so far, where these are all
  pub all_kept : (names : HashMap SidValue Kept S) (sids : List SidValue) (i : ℕ) → length sids ≤ i → AreKept names (take i sids) → AreKept names sids
  all_kept names sids i all kept = subst (AreKept names) (take_all i sids all) kept

  -- what is kept, where it is right, are names of the SIDs
  pub names_right : (rows : List AccountRow) (known : Aliases) (names : HashMap SidValue Kept S) (sids : List SidValue) → AreRight rows known names → AreKept names sids
      → AreNames rows known (λ sid. kept_name (kept_in names sid)) sids
  names_right rows known names sids right kept sid at =
      let one = kept sid at in
      subst (IsShownAs rows known sid) (sym (ap kept_name one.1)) (right sid one.0 one.1)
