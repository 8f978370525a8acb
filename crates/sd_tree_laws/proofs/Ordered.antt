-- The order of a list: what putting a list in order keeps, and when a list is in order.
use Rattle.sd_tree_laws.proofs.Cited.{Ace, Bool, List, [], allows, and-false, and_from, ap, append-nil, ap₂, bit_and, canonical_order, cases_Bool, cond, denies, deny_behind_allow, explicit_behind_inherited, explicit_entries, explicit_entry, false, filter, filter-append, holds, holds-and, inl, inr, is_canonical, is_explicit, is_inherited, list_any, list_any-append, not, or_from, or_parts, refl, true, ℕ, ◌&&◌, ◌++◌, ◌∙◌, ◌∷◌, ◌≡◌}

-- ---- filters and tests

any_filter : (p q : Ace → Bool) (es : List Ace) → list_any p es ≡ false → list_any p (filter q es) ≡ false
any_filter p q [] h = refl
any_filter p q (e ∷ es) h =
    let parts = or_parts (p e) (list_any p es) h in
    elim (q e) as (λ b. list_any p (cond b (e ∷ filter q es) (filter q es)) ≡ false) [
      | true ↦ or_from (p e) (list_any p (filter q es)) parts.0 (any_filter p q es parts.1)
      | false ↦ any_filter p q es parts.1
    ]

-- ---- when a list is in order

-- the explicit entries in front, and the inherited ones behind
parted : (own inherited : List Ace) → list_any is_inherited own ≡ false → list_any is_explicit inherited ≡ false
    → explicit_behind_inherited (own ++ inherited) ≡ false
parted [] [] h k = refl
parted [] (e ∷ es) h k =
    let parts = or_parts (is_explicit e) (list_any is_explicit es) k in
    or_from (is_inherited e && list_any is_explicit es) (explicit_behind_inherited es)
    (ap (λ b. is_inherited e && b) parts.1 ∙ and-false (is_inherited e)) (parted [] es refl parts.1)
parted (e ∷ own) inherited h k =
    let parts = or_parts (is_inherited e) (list_any is_inherited own) h in
    or_from (is_inherited e && list_any is_explicit (own ++ inherited)) (explicit_behind_inherited (own ++ inherited))
    (ap (λ b. b && list_any is_explicit (own ++ inherited)) parts.0) (parted own inherited parts.1 k)

-- a filter keeps all that doesn't fail its test, and nothing that does
pub filter_whole : (p q : Ace → Bool) → ((e : Ace) → q e ≡ false → p e ≡ true) → (es : List Ace) → list_any q es ≡ false → filter p es ≡ es
filter_whole p q passes [] h = refl
filter_whole p q passes (e ∷ es) h =
    let parts = or_parts (q e) (list_any q es) h in
    ap (λ b. cond b (e ∷ filter p es) (filter p es)) (passes e parts.0) ∙ ap (λ rest. e ∷ rest) (filter_whole p q passes es parts.1)

pub filter_none : (p : Ace → Bool) (es : List Ace) → list_any p es ≡ false → filter p es ≡ []
filter_none p [] h = refl
filter_none p (e ∷ es) h =
    let parts = or_parts (p e) (list_any p es) h in
    ap (λ b. cond b (e ∷ filter p es) (filter p es)) parts.0 ∙ filter_none p es parts.1

-- the explicit ones of such a list are those in front
pub explicit_front : (own inherited : List Ace) → list_any is_inherited own ≡ false → list_any is_explicit inherited ≡ false
    → filter is_explicit (own ++ inherited) ≡ own
explicit_front own inherited h k =
    filter-append is_explicit own inherited ∙ ap₂ (λ xs ys. xs ++ ys) (filter_whole is_explicit is_inherited (λ e no. ap not no) own h) (filter_none is_explicit inherited k) ∙ append-nil own

pub canonical_parts : (own inherited : List Ace) → list_any is_inherited own ≡ false → deny_behind_allow own ≡ false → list_any is_explicit inherited ≡ false
    → is_canonical (own ++ inherited) ≡ true
canonical_parts own inherited explicit ordered behind =
    and_from _ _ (ap not (parted own inherited explicit behind))
    (ap (λ es. not (deny_behind_allow es)) (explicit_front own inherited explicit behind) ∙ ap not ordered)

-- ---- the canonical order

pub no_deny : (es : List Ace) → list_any denies (filter allows es) ≡ false
no_deny [] = refl
no_deny (e ∷ es) =
    elim (cases_Bool (allows e)) [
      | inl allow ↦ rw allow (or_from (denies e) (list_any denies (filter allows es)) (ap not allow) (no_deny es))
      | inr deny ↦ rw deny (no_deny es)
    ]

pub no_allow : (es : List Ace) → list_any allows (filter denies es) ≡ false
no_allow [] = refl
no_allow (e ∷ es) =
    elim (cases_Bool (allows e)) [
      | inl allow ↦ rw allow (no_allow es)
      | inr deny ↦ rw deny (or_from (allows e) (list_any allows (filter denies es)) deny (no_allow es))
    ]

ordered_when : (front back : List Ace) → list_any allows front ≡ false → list_any denies back ≡ false → deny_behind_allow (front ++ back) ≡ false
ordered_when [] [] h k = refl
ordered_when [] (e ∷ es) h k =
    let parts = or_parts (denies e) (list_any denies es) k in
    or_from (allows e && list_any denies es) (deny_behind_allow es)
    (ap (λ b. allows e && b) parts.1 ∙ and-false (allows e)) (ordered_when [] es refl parts.1)
ordered_when (e ∷ front) back h k =
    let parts = or_parts (allows e) (list_any allows front) h in
    or_from (allows e && list_any denies (front ++ back)) (deny_behind_allow (front ++ back))
    (ap (λ b. b && list_any denies (front ++ back)) parts.0) (ordered_when front back parts.1 k)

pub ordered_canonical : (es : List Ace) → deny_behind_allow (canonical_order es) ≡ false
ordered_canonical es = ordered_when (filter denies es) (filter allows es) (no_allow es) (no_deny es)

-- ---- the explicit form of entries

pub flag_kept : (f kept b : ℕ) → holds kept b ≡ true → holds (bit_and f kept) b ≡ holds f b
flag_kept f kept b h = holds-and f kept b ∙ ap (λ x. holds f b && x) h ∙ and_true (holds f b)
  where
    and_true : (b : Bool) → (b && true) ≡ b
    and_true true = refl
    and_true false = refl

pub not_inherited : (es : List Ace) → list_any is_inherited (explicit_entries es) ≡ false
not_inherited [] = refl
not_inherited (e ∷ es) =
    or_from (is_inherited (explicit_entry e)) (list_any is_inherited (explicit_entries es))
    (holds-and e.flags.0 0xEF 4 ∙ and-false (holds e.flags.0 4)) (not_inherited es)

-- a list put in order of explicit entries is explicit and in order
pub kept_explicit : (es : List Ace) → list_any is_inherited (canonical_order (explicit_entries es)) ≡ false
kept_explicit es =
    list_any-append is_inherited (filter denies (explicit_entries es)) (filter allows (explicit_entries es))
    ∙ or_from _ _ (any_filter is_inherited denies (explicit_entries es) (not_inherited es)) (any_filter is_inherited allows (explicit_entries es) (not_inherited es))
