-- That putting a list in canonical order grants nothing more.
use Rattle.sd_tree_laws.proofs.Cited.{Ace, Bool, List, None, Option, OrderGrantsNothing, OrderKeepsOwnersLimit, Some, [], allows, and_from, and_parts, ap, canonical_order, cases_Bool, cond, decides, denies, false, false≢true, filter, find-append, first, inl, inr, is_allowed_by, is_inherit_only, list_any, list_any-append, nat_lt, not, option_or, or_assoc, owner_rights, refl, same_sid, sym, true, ◌&&◌, ◌++◌, ◌||◌, ◌∙◌, ◌∷◌, ◌≡◌}
use Rattle.std.proofs.Common.{find}

-- ---- the first entry of a list that passes a test

module _ (p : Ace → Bool) where
  found : (e : Ace) (es : List Ace) → p e ≡ true → find p (e ∷ es) ≡ Some e
  found e es h = rw h refl

  passed_over : (e : Ace) (es : List Ace) → p e ≡ false → find p (e ∷ es) ≡ find p es
  passed_over e es h = rw h refl

  -- among denies none is found that allows
  no_deny_allows : (es : List Ace) → is_allowed_by (find p (filter denies es)) ≡ false
  no_deny_allows [] = refl
  no_deny_allows (e ∷ es) = elim (cases_Bool (allows e)) [
    | inl allow ↦ rw allow (no_deny_allows es)
    | inr deny ↦ rw deny (elim (cases_Bool (p e)) [
      | inl here ↦ ap is_allowed_by (found e (filter denies es) here) ∙ deny
      | inr later ↦ ap is_allowed_by (passed_over e (filter denies es) later) ∙ no_deny_allows es
    ])
  ]

  none_or_deny : (o rest : Option Ace) → is_allowed_by o ≡ false → is_allowed_by (option_or o rest) ≡ true → o ≡ None
  none_or_deny None rest h k = refl
  none_or_deny (Some e) rest h k = absurd (false≢true (sym h ∙ k))

  -- where no deny passes, what is found among the allows is found in the whole
  found_among_allows : (es : List Ace) → find p (filter denies es) ≡ None → find p (filter allows es) ≡ find p es
  found_among_allows [] h = refl
  found_among_allows (e ∷ es) h = elim (cases_Bool (allows e)) [
    | inl allow ↦
        let rest = found_among_allows es (rw allow at h) in
        rw allow (ap (cond (p e) (Some e)) rest)
    | inr deny ↦ elim (cases_Bool (p e)) [
      | inl here ↦ absurd (let is : find p (e ∷ filter denies es) ≡ None = rw deny at h in let other = found e (filter denies es) here in cc)
      | inr later ↦
          let is : find p (filter denies es) ≡ None = sym (passed_over e (filter denies es) later) ∙ (rw deny at h) in
          rw deny (found_among_allows es is ∙ sym (passed_over e es later))
    ]
  ]

  -- what allows in the canonical order allows in the list's own
  pub allowed_before : (es : List Ace) → is_allowed_by (find p (canonical_order es)) ≡ true → is_allowed_by (find p es) ≡ true
  allowed_before es h =
      let split = find-append p (filter denies es) (filter allows es) in
      let h2 : is_allowed_by (option_or (find p (filter denies es)) (find p (filter allows es))) ≡ true = ap is_allowed_by (sym split) ∙ h in
      let none = none_or_deny (find p (filter denies es)) (find p (filter allows es)) (no_deny_allows es) h2 in
      ap is_allowed_by (sym (found_among_allows es none))
      ∙ sym (ap (λ o. is_allowed_by (option_or o (find p (filter allows es)))) none) ∙ h2

  or_later : (o a b : Option Ace) → (is_allowed_by a ≡ true → is_allowed_by b ≡ true) → is_allowed_by (option_or o a) ≡ true → is_allowed_by (option_or o b) ≡ true
  or_later None a b more h = more h
  or_later (Some e) a b more h = h

  -- and so behind a list that stays as it is
  pub allowed_behind : (front es : List Ace) → is_allowed_by (find p (front ++ canonical_order es)) ≡ true → is_allowed_by (find p (front ++ es)) ≡ true
  allowed_behind front es h =
      ap is_allowed_by (find-append p front es)
      ∙ or_later (find p front) (find p (canonical_order es)) (find p es) (allowed_before es) (ap is_allowed_by (sym (find-append p front (canonical_order es))) ∙ h)

-- ---- tests of the whole list

swapped : (a b c : Bool) → (a || (b || c)) ≡ (b || (a || c))
swapped true true c = refl
swapped true false c = refl
swapped false b c = refl

pub any_canonical : (p : Ace → Bool) (es : List Ace) → list_any p (canonical_order es) ≡ list_any p es
any_canonical p es = list_any-append p (filter denies es) (filter allows es) ∙ both es
  where
    both : (es : List Ace) → (list_any p (filter denies es) || list_any p (filter allows es)) ≡ list_any p es
    both [] = refl
    both (e ∷ es) = elim (cases_Bool (allows e)) [
      | inl allow ↦ rw allow (swapped (list_any p (filter denies es)) (p e) (list_any p (filter allows es)) ∙ ap (λ b. p e || b) (both es))
      | inr deny ↦ rw deny (or_assoc (p e) (list_any p (filter denies es)) (list_any p (filter allows es)) ∙ ap (λ b. p e || b) (both es))
    ]

-- ---- the laws

pub order_grants_nothing : OrderGrantsNothing
order_grants_nothing g who es b h =
    let parts = and_parts (nat_lt b 21) (is_allowed_by (first g who (canonical_order es) b)) h in
    and_from _ _ parts.0 (allowed_before (decides g who b) es parts.1)

pub order_keeps_owners_limit : OrderKeepsOwnersLimit
order_keeps_owners_limit es = any_canonical (λ e. not (is_inherit_only e) && same_sid e.sid owner_rights) es
