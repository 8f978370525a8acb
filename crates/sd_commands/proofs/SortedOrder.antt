-- A sorted list is in canonical order and takes as many bytes as before, and one that is in that order stays as it is.
use Rattle.sd_commands.proofs.Cited.{Ace, Bool, CanonicalStays, IsPermutation-filter_both, List, SortedIsCanonical, [], ace_size, acl_size_of, allows, any-filter_same, arith, canonical_order, denies, deny_behind_allow, explicit_behind_inherited, false, filter, filter-append, is_explicit, is_inherited, list_any, list_any-IsPermutation, nat_tests, not, not-not, not-true, refl, sorted, sum_by-append, sum_by-filter_both, sym, ◌&&◌, ◌++◌, ◌||◌, ◌∙◌, ◌∷◌, ◌≡◌}
use Rattle.std.proofs.lemmas.List.{append-nil}

-- in a part by the test none fails it; where none does, all is such a part
passes : (q : Ace → Bool) (es : List Ace) → list_any (λ e. not (q e)) (filter q es) ≡ false
passes q = any-filter_same (λ e. not (q e)) q false (λ e is. not-true (q e) is)

all_pass : (q : Ace → Bool) (es : List Ace) → list_any (λ e. not (q e)) es ≡ false
    → (filter q es ≡ es) × (filter (λ e. not (q e)) es ≡ [])
all_pass q [] none = (refl, refl)
all_pass q (e ∷ es) none = let more = all_pass q es in grind (arith, nat_tests, more)

-- ---- a test F for what fails p behind what passes it

module _ (p : Ace → Bool) (F : List Ace → Bool) (none : F [] ≡ false)
    (step : (e : Ace) (es : List Ace) → F (e ∷ es) ≡ ((p e && list_any (λ x. not (p x)) es) || F es)) where
  behind_both : (front back : List Ace) → list_any (λ e. not (not (p e))) front ≡ false → list_any (λ e. not (p e)) back ≡ false
      → F (front ++ back) ≡ false
  behind_both [] [] first last = none
  behind_both [] (e ∷ back) first last = let more = behind_both [] back refl in grind (arith, nat_tests, more, step)
  behind_both (e ∷ front) back first last = let more = behind_both front back in grind (arith, nat_tests, more, step)

  parts_stay : (es : List Ace) → F es ≡ false → filter (λ e. not (p e)) es ++ filter p es ≡ es
  parts_stay [] is = refl
  parts_stay (e ∷ es) is =
      let more = parts_stay es in let all = all_pass p es in grind (arith, nat_tests, more, all, step)

-- ---- the order

pub sorted_canonical : SortedIsCanonical
sorted_canonical es =
    let explicit = filter is_explicit es in
    let front = canonical_order explicit in
    let back = filter is_inherited es in
    let alone : list_any (λ e. not (is_explicit e)) front ≡ false =
    sym (list_any-IsPermutation _ explicit front (IsPermutation-filter_both denies allows (λ e. sym (not-not (allows e))) explicit))
    ∙ passes is_explicit es in
    let origin = behind_both is_inherited explicit_behind_inherited refl (λ _ _. refl) front back alone (passes is_inherited es) in
    let kind = behind_both allows deny_behind_allow refl (λ _ _. refl) (filter denies explicit) (filter allows explicit) (passes denies explicit) (passes allows explicit) in
    let own = filter-append is_explicit front back in
    let early = all_pass is_explicit front alone in
    let late = all_pass is_inherited back (passes is_inherited es) in
    grind (arith, nat_tests, append-nil {A = Ace}, origin, kind, own, early, late)

pub canonical_stays : CanonicalStays
canonical_stays es is =
    let kind = parts_stay allows deny_behind_allow refl (λ _ _. refl) (filter is_explicit es) in
    let origin = parts_stay is_inherited explicit_behind_inherited refl (λ _ _. refl) es in
    grind (arith, nat_tests, kind, origin)

-- ---- the size

pub sorted_size : (es : List Ace) → acl_size_of (sorted es) ≡ acl_size_of es
sorted_size es =
    let explicit = filter is_explicit es in
    omega (arith, sum_by-append ace_size (canonical_order explicit) (filter is_inherited es), sum_by-append ace_size (filter denies explicit) (filter allows explicit), sum_by-filter_both allows denies (λ e. refl) ace_size explicit, sum_by-filter_both is_inherited is_explicit (λ e. refl) ace_size es)
