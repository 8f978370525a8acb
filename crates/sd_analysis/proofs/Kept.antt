-- The SIDs of a pass that decide: with these alone it shows what it showed.
use Rattle.sd_analysis.proofs.Cited.{Ace, AceKind, AllByRecursion, Allow, Bool, Deny, List, MappingValue, None, Option, Parts, SidValue, Some, [], about, allowed_sids, and_from, and_parts, ap, arith, cond, cons_option, denied_sids, false, false≢true, filter_map, first, inl, inr, is_allow, is_allowed_by, is_among, is_inherit_only, is_named, is_of_kind, list_any, list_any-append, lists, nat_lt, not, not_from_false, option_to_list, or_left, or_right, refl, same_sid, same_sid-itself, subject, subject_if, sym, true, ℕ, ◌&&◌, ◌||◌, ◌∙◌, ◌∷◌, ◌≡◌, ◌⊎◌}
use Rattle.sd_analysis.proofs.Narrowed.{IsLess, IsIn, allow_decides, none_allowed}

is_allow-Allow : (kind : AceKind) → is_allow kind ≡ true → kind ≡ Allow
is_allow-Allow kind h = grind arith

is_allow-Deny : (kind : AceKind) → is_allow kind ≡ false → kind ≡ Deny
is_allow-Deny kind h = grind arith

pub about_some : (stands : AceKind → SidValue → Bool) (kind : AceKind) (who : Option SidValue) → about stands kind who ≡ true
    → (s : SidValue) × ((who ≡ Some s) × (stands kind s ≡ true))
about_some stands kind None h = absurd (false≢true h)
about_some stands kind (Some s) h = (s, (refl, h))

-- ---- lists of subjects

abbrev passes_if_some : {X : Type 0} → (X → Bool) → Option X → Bool
passes_if_some test None = false
passes_if_some test (Some x) = test x

any_cons_option : {X : Type 0} (test : X → Bool) (o : Option X) (xs : List X) → list_any test (cons_option o xs) ≡ (passes_if_some test o || list_any test xs)
any_cons_option test None xs = refl
any_cons_option test (Some x) xs = refl

pub any_filter_map : {X Y : Type 0} (test : Y → Bool) (h : X → Option Y) (xs : List X)
    → list_any test (filter_map h xs) ≡ list_any (λ x. passes_if_some test (h x)) xs
any_filter_map test h [] = refl
any_filter_map test h (x ∷ xs) =
    any_cons_option test (h x) (filter_map h xs) ∙ ap (λ b. passes_if_some test (h x) || b) (any_filter_map test h xs)

-- the subject of an entry of the list is among the subjects
pub subject_among : (allows : Bool) (owner : Option SidValue) (es : List Ace) (e : Ace) (s : SidValue) → IsIn e es
    → not (is_inherit_only e) ≡ true → is_of_kind allows e.kind ≡ true → subject owner e.sid ≡ Some s
    → is_among (filter_map (subject_if allows owner) es) s ≡ true
subject_among allows owner es e s is_in effective kind is =
    any_filter_map (λ one. same_sid one s) (subject_if allows owner) es
    ∙ is_in (λ x. passes_if_some (λ one. same_sid one s) (subject_if allows owner x))
    (ap (λ c. passes_if_some (λ one. same_sid one s) (cond c (subject owner e.sid) None)) (and_from _ _ effective kind)
    ∙ ap (passes_if_some (λ one. same_sid one s)) is ∙ same_sid-itself s)

-- ---- fewer SIDs

-- of the SIDs that the descriptor names, it stands now for none that it did not stand for
abbrev pub IsWithin : Parts → (AceKind → SidValue → Bool) → (AceKind → SidValue → Bool) → Type 0
IsWithin parts before now = (kind : AceKind) (s : SidValue) → is_named parts s ≡ true → now kind s ≡ true → before kind s ≡ true

pub about_less : (before now : AceKind → SidValue → Bool) (kind : AceKind) (who : Option SidValue)
    → ((s : SidValue) → who ≡ Some s → now kind s ≡ true → before kind s ≡ true)
    → about now kind who ≡ true → about before kind who ≡ true
about_less before now kind who h j = grind arith

pub owner_named : (owner : Option SidValue) (dacl : Option (List Ace)) (s : SidValue) → owner ≡ Some s → is_named (record { owner = owner; dacl = dacl }) s ≡ true
owner_named owner dacl s h = grind (arith, same_sid-itself)

-- of whom an entry speaks, the descriptor names
pub subject_named : (owner : Option SidValue) (es : List Ace) (e : Ace) (s : SidValue) → IsIn e es → subject owner e.sid ≡ Some s
    → is_named (record { owner = owner; dacl = Some es }) s ≡ true
subject_named owner es e s is_in is = grind (arith, same_sid-itself, is_in (λ x. same_sid x.sid s))

all_less : (before now : AceKind → SidValue → Bool) (es : List Ace) → ((e : Ace) → IsIn e es → IsLess before now e) → AllByRecursion (IsLess before now) es
all_less before now [] h = tt
all_less before now (e ∷ es) h = (
  h e (λ test passes. or_left (test e) (list_any test es) passes),
  all_less before now es (λ x is_in. h x (λ test passes. or_right (test e) (list_any test es) (is_in test passes))),
)

module _ (g : MappingValue) (owner : Option SidValue) (stands : AceKind → SidValue → Bool) (b : ℕ) where
  less_within : (es : List Ace) (now : AceKind → SidValue → Bool) → IsWithin (record { owner = owner; dacl = Some es }) stands now
      → AllByRecursion (IsLess (λ kind s. about stands kind (subject owner s)) (λ kind s. about now kind (subject owner s))) es
  less_within es now within = all_less _ _ es (λ e is_in. about_less stands now e.kind (subject owner e.sid)
      (λ s is. within e.kind s (subject_named owner es e s is_in is)))

  -- the SID through which a descriptor's DACL grants the bit, or any other where there is no list
  pub keeps_listed : (other : SidValue) (dacl : Option (List Ace)) → lists g (record { owner = owner; dacl = dacl }) stands b ≡ true
      → (s : SidValue)
      × ((is_among (allowed_sids other (record { owner = owner; dacl = dacl })) s ≡ true)
      × (((s ≡ other) ⊎ (stands Allow s ≡ true))
      × ((now : AceKind → SidValue → Bool) → IsWithin (record { owner = owner; dacl = dacl }) stands now → now Allow s ≡ true
      → lists g (record { owner = owner; dacl = dacl }) now b ≡ true)))
  keeps_listed other None h = (other, (or_left _ _ (same_sid-itself other), (inl refl, λ now within is. h)))
  keeps_listed other (Some es) h =
      let who : AceKind → SidValue → Bool = λ kind s. about stands kind (subject owner s) in
      let parts = and_parts (nat_lt b 21) (is_allowed_by (first g who es b)) h in
      let found = allow_decides g who b es (first g who es b) refl parts.1 in
      let e = found.0 in
      let kind = is_allow-Allow e.kind found.1.0 in
      let some = about_some stands e.kind (subject owner e.sid) found.1.1.applies in
      let s = some.0 in (
        s,
        (
          or_right (same_sid other s) _ (list_any-append (λ one. same_sid one s) (option_to_list owner) (filter_map (subject_if true owner) es)
              ∙ or_right (is_among (option_to_list owner) s) _ (subject_among true owner es e s found.1.1.is_in found.1.1.effective found.1.0 some.1.0)),
          (
            inr (sym (ap (λ k. stands k s) kind) ∙ some.1.1),
            λ now within is. and_from _ _ parts.0 (ap is_allowed_by (found.1.1.still (λ kind s. about now kind (subject owner s)) (less_within es now within)
                (ap (about now e.kind) some.1.0 ∙ ap (λ k. now k s) kind ∙ is)) ∙ found.1.0),
          ),
        ),
      )

  -- and the SID through which it denies it, if any
  pub keeps_unlisted : (dacl : Option (List Ace)) → nat_lt b 21 ≡ true → lists g (record { owner = owner; dacl = dacl }) stands b ≡ false
      → (denied : Option SidValue)
      × (((s : SidValue) → denied ≡ Some s → (is_among (denied_sids (record { owner = owner; dacl = dacl })) s ≡ true) × (stands Deny s ≡ true))
      × ((now : AceKind → SidValue → Bool) → IsWithin (record { owner = owner; dacl = dacl }) stands now
      → ((s : SidValue) → denied ≡ Some s → now Deny s ≡ true)
      → lists g (record { owner = owner; dacl = dacl }) now b ≡ false))
  keeps_unlisted None low h = absurd (false≢true (sym h ∙ low))
  keeps_unlisted (Some es) low h =
      let who : AceKind → SidValue → Bool = λ kind s. about stands kind (subject owner s) in
      let refused : is_allowed_by (first g who es b) ≡ false = sym (ap (λ x. x && is_allowed_by (first g who es b)) low) ∙ h in
      elim (none_allowed g who b es (first g who es b) refl refused) [
        | inl none ↦ (
          None,
          (
            (λ s is. absurd cc),
            λ now within is.
                ap (λ o. nat_lt b 21 && is_allowed_by o) (none (λ kind s. about now kind (subject owner s)) (less_within es now within))
                ∙ ap (λ x. x && false) low,
          ),
        )
        | inr found ↦
            let e = found.0 in
            let kind = is_allow-Deny e.kind found.1.0 in
            let some = about_some stands e.kind (subject owner e.sid) found.1.1.applies in (
              Some some.0,
              (
                (λ s is. let same : some.0 ≡ s = cc in (
                  ap (is_among (filter_map (subject_if false owner) es)) (sym same)
                      ∙ subject_among false owner es e some.0 found.1.1.is_in found.1.1.effective (not_from_false _ found.1.0) some.1.0,
                  ap (stands Deny) (sym same) ∙ sym (ap (λ k. stands k some.0) kind) ∙ some.1.1,
                )),
                λ now within is.
                    ap (λ o. nat_lt b 21 && is_allowed_by o) (found.1.1.still (λ kind s. about now kind (subject owner s)) (less_within es now within)
                    (ap (about now e.kind) some.1.0 ∙ ap (λ k. now k some.0) kind ∙ is some.0 refl))
                    ∙ ap (λ x. x && is_allow e.kind) low ∙ found.1.0,
              ),
            )
      ]
