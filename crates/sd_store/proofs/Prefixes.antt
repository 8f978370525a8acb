-- Beginnings of lists.
use Rattle.sd_store.proofs.Cited.{Comparable, IsPrefix, List, [], ap, append-nil, append_assoc, arith, inl, inr, length, length-append, refl, subst, sym, ◌++◌, ◌∙◌, ◌∷◌, ◌≡◌, ◌≤◌}

module _ {A : Type 0} where
  pub prefix_self : (xs : List A) → IsPrefix xs xs
  prefix_self xs = ([], append-nil xs)

  pub prefix_append : (xs ys : List A) → IsPrefix xs (xs ++ ys)
  prefix_append xs ys = (ys, refl)

  pub prefix_trans : (xs ys zs : List A) → IsPrefix xs ys → IsPrefix ys zs → IsPrefix xs zs
  prefix_trans xs ys zs p q = (p.0 ++ q.0, sym (append_assoc xs p.0 q.0) ∙ (ap (λ w. w ++ q.0) p.1 ∙ q.1))

  pub prefix_length : (xs ys : List A) → IsPrefix xs ys → length xs ≤ length ys
  prefix_length xs ys p = omega (arith, sym (ap length p.1) ∙ length-append xs p.0)

  -- a beginning as long as the whole is the whole
  pub prefix_whole : (xs ys : List A) → IsPrefix xs ys → length ys ≤ length xs → xs ≡ ys
  prefix_whole [] [] p le = refl
  prefix_whole [] (y ∷ ys) p le = absurd (omega arith)
  prefix_whole (x ∷ xs) [] p le = absurd (cc (p.1))
  prefix_whole (x ∷ xs) (y ∷ ys) p le =
      let rest = prefix_whole xs ys (p.0, cc (p.1)) (omega arith) in cc (p.1, rest)

  -- of two lists of which one begins the other, the shorter begins the longer
  pub shorter_begins : (xs ys : List A) → Comparable xs ys → length xs ≤ length ys → IsPrefix xs ys
  shorter_begins xs ys c le = elim c [
    | inl p ↦ p
    | inr p ↦ subst (λ zs. IsPrefix zs ys) (prefix_whole ys xs p le) (prefix_self ys)
  ]

  pub turned : (xs ys : List A) → Comparable xs ys → Comparable ys xs
  turned xs ys c = elim c [ inl p ↦ inr p | inr p ↦ inl p ]
