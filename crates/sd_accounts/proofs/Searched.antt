-- A search for wanted SIDs: what one has by further groups, and from which groups none is reached.
use Rattle.std.proofs.Common.{◌≡◌, ◌∙◌, ◌+◌, ◌<◌, ◌≤◌, ◌⊎◌, ℕ, inl, inr, List, [], ◌∷◌, Bool, true, false, length, nat_eq, not, take, get_or, refl, replicate, set, ap, sym, subst, ◌||◌, arith}
use Rattle.std.proofs.lemmas.List.{get_or-replicate, get_or-set_other, get_or_past, length-replicate, take_all}
use Rattle.std.proofs.lemmas.List.Elements.{Contains-append_cases, Contains-get_or, Contains-push}
use Rattle.std.proofs.lemmas.Bool.{cases_lt, eq-eqb, eqb-true, true≢false}
use Rattle.std.proofs.lemmas.Map.Views.{Contains-from_any}
use Rattle.std.specs.Bool.{Decides}
use Rattle.std.specs.List.{Contains, list_any}
use Rattle.sd_sid.specs.Sid.{IsSid, SidValue, same_sid}
use Rattle.sd_accounts.specs.Groups.{AreGroupsOf, Belongs, IsIn, directly, further}
use Rattle.sd_accounts.specs.Index.{direct_groups, sid_at, sids_at}
use Rattle.sd_accounts.specs.Row.{AccountRow}
use Rattle.sd_accounts.specs.Walk.{Extends, IsStart}
use Rattle.sd_accounts.specs.Wanted.{AreNowhere, AreUnwanted, Has, HasNone, HasWanted, IsOneWanted, Keeps, LeadNowhere, NoneAbove}
use Rattle.sd_accounts.proofs.Direct.{in_direct, nothing_in, only_one}
use Rattle.sd_accounts.proofs.Indexed.{from_map}
use Rattle.sd_accounts.proofs.Sids.{sid_eq, sid_eq-itself, sid_eq-same, sid_eq-true}
use Rattle.sd_accounts.proofs.Walked.{more_from, more_to, of_take, was_or_passes}

pub itself : (sid : SidValue) → Contains (sid ∷ []) sid
itself sid = Contains-push [] sid

-- ---- what a set finds

pub found_in : (sid : SidValue) (sids : List SidValue) → list_any (sid_eq sid) sids ≡ true → Contains sids sid
found_in sid sids found = Contains-from_any sid_eq-true sid sids found

pub in_found : (sid : SidValue) (sids : List SidValue) → Contains sids sid → list_any (sid_eq sid) sids ≡ true
in_found sid [] at = absurd (nothing_in sid at)
in_found sid (one ∷ sids) at = by (sid_eq sid one) refl (Contains-append_cases (one ∷ []) sids sid at) (in_found sid sids)
  where
    by : (b : Bool) → sid_eq sid one ≡ b → Contains (one ∷ []) sid ⊎ Contains sids sid → (Contains sids sid → list_any (sid_eq sid) sids ≡ true)
        → (b || list_any (sid_eq sid) sids) ≡ true
    by true e either rest = refl
    by false e (inl here) rest = absurd (true≢false (sym (sid_eq-itself sid) ∙ ap (sid_eq sid) (sym (only_one one sid here)) ∙ e))
    by false e (inr there) rest = rest there

-- by either comparison
pub any_same : (sid : SidValue) (sids : List SidValue) → list_any (sid_eq sid) sids ≡ list_any (same_sid sid) sids
any_same sid sids = ap (λ test. list_any test sids) (λ i one. sid_eq-same sid one i)

pub found_same : (sid : SidValue) (sids : List SidValue) → list_any (same_sid sid) sids ≡ true → Contains sids sid
found_same sid sids found = found_in sid sids (any_same sid sids ∙ found)

pub same_found : (sid : SidValue) (sids : List SidValue) → Contains sids sid → list_any (same_sid sid) sids ≡ true
same_found sid sids at = sym (any_same sid sids) ∙ in_found sid sids at

-- SIDs that were added
pub added_sound : (sids old new : List SidValue) (i : ℕ) → Extends (Contains (take i sids)) old new → (sid : SidValue) → Contains new sid → Contains old sid ⊎ Contains sids sid
added_sound sids old new i added sid at = elim (was_or_passes added sid at) [ inl was ↦ inl was | inr is ↦ inr (of_take sids i sid is) ]

pub all_added : (sids old new : List SidValue) (i : ℕ) → length sids ≤ i → Extends (Contains (take i sids)) old new → (sid : SidValue) → Contains sids sid → Contains new sid
all_added sids old new i over added sid at = added.all sid (subst (λ l. Contains l sid) (sym (take_all i sids over)) at)

pub added_to_none : (sids : List SidValue) (sid : SidValue) → Contains [] sid ⊎ Contains sids sid → Contains sids sid
added_to_none sids sid (inl none) = absurd (nothing_in sid none)
added_to_none sids sid (inr at) = at

-- ---- what one has by what one has

-- ---- what is kept

none_at : (n k : ℕ) → get_or (replicate n false) k false ≡ false
none_at n k = elim (cases_lt k n) [
  | inl low ↦ get_or-replicate n k false false low
  | inr over ↦ get_or_past (replicate n false) k false (omega (arith, over, length-replicate n false))
]

not_false : (b : Bool) → not b ≡ false → b ≡ true
not_false true is = refl
not_false false is = absurd (true≢false is)

closed_at : (nowhere : List Bool) (numbers : List ℕ) (number : ℕ) → list_any (λ n. not (get_or nowhere n false)) numbers ≡ false → Contains numbers number
    → not (get_or nowhere number false) ≡ false
closed_at nowhere [] number closed at = absurd (nothing_in number at)
closed_at nowhere (n ∷ numbers) number closed at =
    by (not (get_or nowhere n false)) refl closed (closed_at nowhere numbers number) (Contains-append_cases (n ∷ []) numbers number at)
  where
    by : (b : Bool) → not (get_or nowhere n false) ≡ b → (b || list_any (λ m. not (get_or nowhere m false)) numbers) ≡ false
        → (list_any (λ m. not (get_or nowhere m false)) numbers ≡ false → Contains numbers number → not (get_or nowhere number false) ≡ false)
        → Contains (n ∷ []) number ⊎ Contains numbers number → not (get_or nowhere number false) ≡ false
    by true is held rest either = absurd (true≢false held)
    by false is held rest (inl here) = subst (λ m. not (get_or nowhere m false) ≡ false) (only_one n number here) is
    by false is held rest (inr there) = rest held there

pub keeps_nothing : (all sids : List SidValue) (old : List Bool) → Keeps all sids old old
keeps_nothing all sids old k held = inl held

-- the SIDs so far, and one more, whose number it is, if it has one
pub keeps_same : (all sids : List SidValue) (old new : List Bool) (i : ℕ) (one : SidValue) → i < length sids → Keeps all (take i sids) old new
    → Keeps all (take (i + 1) sids) old new
keeps_same all sids old new i one low before k held = elim (before k held) [
  | inl was ↦ inl was
  | inr at ↦ inr (more_to sids i one (sid_at all k) low (inl at))
]

pub keeps_more : (all sids : List SidValue) (old mid : List Bool) (i number : ℕ) (one : SidValue) → i < length sids → one ≡ get_or sids i one
    → sid_at all number ≡ one → Keeps all (take i sids) old mid → Keeps all (take (i + 1) sids) old (set mid number true)
keeps_more all sids old mid i number one low is same before k held = by (nat_eq k number) refl
  where
    by : (b : Bool) → nat_eq k number ≡ b → (get_or old k false ≡ true) ⊎ Contains (take (i + 1) sids) (sid_at all k)
    by true at = inr (more_to sids i one (sid_at all k) low (inr (sym is ∙ sym same ∙ ap (sid_at all) (sym (eqb-true k number at)))))
    by false other =
        keeps_same all sids old mid i one low before k (sym (get_or-set_other mid number k true false (λ at. true≢false (sym (eq-eqb k number at) ∙ other))) ∙ held)

pub keeps_all : (all sids : List SidValue) (old new : List Bool) (i : ℕ) → length sids ≤ i → Keeps all (take i sids) old new → Keeps all sids old new
keeps_all all sids old new i over before = subst (λ l. Keeps all l old new) (take_all i sids over) before

module _ (rows : List AccountRow) where
  beyond : (starts others : List SidValue) → ((sid : SidValue) → Contains others sid → Has rows starts sid) → (sid : SidValue) → Belongs rows others sid → Belongs rows starts sid
  beyond starts others all _ (directly start group at in') = by (all start at)
    where
      by : Has rows starts start → Belongs rows starts group
      by (inl there) = directly start group there in'
      by (inr belongs) = further start group belongs in'
  beyond starts others all _ (further between group belongs in') = further between group (beyond starts others all between belongs) in'

  pub still_has : (starts others : List SidValue) → ((sid : SidValue) → Contains others sid → Has rows starts sid) → (sid : SidValue) → Has rows others sid → Has rows starts sid
  still_has starts others all sid (inl at) = all sid at
  still_has starts others all sid (inr belongs) = inr (beyond starts others all sid belongs)

  -- one belongs to a group by one in which a start directly is
  abbrev pub First : List SidValue → SidValue → Type 0
  First starts sid = (group : SidValue) × IsStart rows starts group × Has rows (group ∷ []) sid

  pub first_step : (starts : List SidValue) (sid : SidValue) → Belongs rows starts sid → First starts sid
  first_step starts _ (directly start group at in') = (group, (start, at, in'), inl (itself group))
  first_step starts _ (further between group belongs in') = by (first_step starts between belongs)
    where
      one : (first : SidValue) → Has rows (first ∷ []) between → Has rows (first ∷ []) group
      one first (inl at) = inr (directly between group at in')
      one first (inr more) = inr (further between group more in')

      by : First starts between → First starts group
      by (first, start, has) = (first, start, one first has)

  module _ (wanted : List SidValue) where
    -- ---- a walk from SIDs

    pub found_among : (fresh sids : List SidValue) → ((sid : SidValue) → Contains sids sid → Has rows fresh sid) → IsOneWanted wanted sids → HasWanted rows wanted fresh
    found_among fresh sids all (sid, is, at) = (sid, is, all sid at)

    pub none_by_walk : (fresh groups : List SidValue) → AreUnwanted wanted fresh → AreGroupsOf rows fresh groups → AreUnwanted wanted groups → HasNone rows wanted fresh
    none_by_walk fresh groups own are others sid (inl at) = own sid at
    none_by_walk fresh groups own are others sid (inr belongs) = others sid ((are.each sid).1 belongs)

    -- who has one of these alone has no more than who has all
    pub nowhere_from : (fresh sids : List SidValue) → HasNone rows wanted fresh → ((sid : SidValue) → Contains sids sid → Has rows fresh sid) → LeadNowhere rows wanted sids
    nowhere_from fresh sids none all sid at one has =
        none one (still_has fresh (sid ∷ []) (λ s here. subst (Has rows fresh) (only_one sid s here) (all sid at)) one has)

    -- ---- by the groups in which a start directly is

    pub none_by_starts : (starts : List SidValue) → AreUnwanted wanted starts → NoneAbove rows wanted starts → HasNone rows wanted starts
    none_by_starts starts own none sid (inl at) = own sid at
    none_by_starts starts own none sid (inr belongs) = by (first_step starts sid belongs)
      where
        by : First starts sid → IsSid sid × (Contains wanted sid → ⊥)
        by (group, start, has) = none group start sid has

    pub above_nobody : (starts : List SidValue) → NoneAbove rows wanted (take 0 starts)
    above_nobody starts group start = absurd (nothing_in start.0 start.1)

    pub above_more : (starts : List SidValue) (i : ℕ) (one : SidValue) → i < length starts → one ≡ get_or starts i one → NoneAbove rows wanted (take i starts)
        → ((group : SidValue) → IsIn rows one group → HasNone rows wanted (group ∷ [])) → NoneAbove rows wanted (take (i + 1) starts)
    above_more starts i one low is before none group (start, at, in') = elim (more_from starts i one start low at) [
      | inl was ↦ before group (start, was, in')
      | inr same ↦ none group (subst (λ s. IsIn rows s group) (sym (is ∙ same)) in')
    ]

    pub above_all : (starts : List SidValue) (i : ℕ) → length starts ≤ i → NoneAbove rows wanted (take i starts) → NoneAbove rows wanted starts
    above_all starts i over before = subst (NoneAbove rows wanted) (take_all i starts over) before

    -- ---- what is kept

    pub still_nowhere : (all sids : List SidValue) (old new : List Bool) → AreNowhere rows wanted all old → Keeps all sids old new → LeadNowhere rows wanted sids
        → AreNowhere rows wanted all new
    still_nowhere all sids old new kept keeps nowhere k held = elim (keeps k held) [
      | inl was ↦ kept k was
      | inr at ↦ nowhere (sid_at all k) at
    ]

    pub nothing_kept : (all : List SidValue) (n : ℕ) → AreNowhere rows wanted all (replicate n false)
    nothing_kept all n k held = absurd (true≢false (sym held ∙ none_at n k))

    -- none of the numbers is open
    pub kept_above : (all : List SidValue) (nowhere : List Bool) (numbers : List ℕ) (member : SidValue) → AreNowhere rows wanted all nowhere
        → list_any (λ number. not (get_or nowhere number false)) numbers ≡ false → sids_at all numbers ≡ direct_groups rows member
        → (group : SidValue) → IsIn rows member group → HasNone rows wanted (group ∷ [])
    kept_above all nowhere numbers member kept closed are group in' =
        by (from_map (sid_at all) numbers group (subst (λ l. Contains l group) (sym are) (in_direct rows member group in')))
      where
        by : ((number : ℕ) × Contains numbers number × (sid_at all number ≡ group)) → HasNone rows wanted (group ∷ [])
        by (number, at, same) =
            subst (λ g. HasNone rows wanted (g ∷ [])) same (kept number (not_false (get_or nowhere number false) (closed_at nowhere numbers number closed at)))

-- ---- wanted ones

module _ (wanted sids : List SidValue) where
  pub unwanted_more : (i : ℕ) (one : SidValue) (b : Bool) → i < length sids → one ≡ get_or sids i one → AreUnwanted wanted (take i sids)
      → Decides b (Contains wanted one) → IsSid one → b ≡ false → AreUnwanted wanted (take (i + 1) sids)
  unwanted_more i one b low is before decides known not sid at = by (more_from sids i one sid low at)
    where
      by : Contains (take i sids) sid ⊎ (get_or sids i one ≡ sid) → IsSid sid × (Contains wanted sid → ⊥)
      by (inl was) = before sid was
      by (inr same) =
          subst (λ s. IsSid s × (Contains wanted s → ⊥)) (is ∙ same)
          (known, λ here. (let held : b ≡ true = decides.1 here in let never : false ≡ true = sym not ∙ held in cc))

  pub unwanted_all : (i : ℕ) → length sids ≤ i → AreUnwanted wanted (take i sids) → AreUnwanted wanted sids
  unwanted_all i over before = subst (AreUnwanted wanted) (take_all i sids over) before

  pub wanted_at : (i : ℕ) (one : SidValue) → i < length sids → one ≡ get_or sids i one → Contains wanted one → IsOneWanted wanted sids
  wanted_at i one low is here = (one, here, subst (Contains sids) (sym is) (Contains-get_or sids i one low))

pub none_unwanted : (wanted sids : List SidValue) → AreUnwanted wanted (take 0 sids)
none_unwanted wanted sids sid at = absurd (nothing_in sid at)
