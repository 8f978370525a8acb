-- A text that is cut at the first of its separators.
use Rattle.sd_line.proofs.Cited.{Bor, IfNone, IfSome, List, MatchOption, None, Option, Some, [], after_first, arith, before_first, drop, fails_before_first, length, position_or_len, slice_split, slice_split_first, slice_split_none, take, ℕ, ◌+◌, ◌<◌, ◌==◌, ◌∷◌, ◌≡◌, ◌≤◌}

module _ (separator : ℕ) where
  abbrev pub IsCut : List ℕ → Option (Bor (List ℕ) × Bor (List ℕ)) → Type 0
  IsCut text r = MatchOption r
      (position_or_len (λ b. b == separator) text ≡ length text)
      (λ x. (position_or_len (λ b. b == separator) text < length text) × (x.0.now ≡ before_first (λ b. b == separator) text) × (x.1.now ≡ after_first (λ b. b == separator) text))

  pub some_cut : (text : List ℕ) (r : Option (Bor (List ℕ) × Bor (List ℕ))) → IsCut text r
      → IfSome r (λ parts. slice_split (λ b. b == separator) text ≡ parts.0.now ∷ slice_split (λ b. b == separator) parts.1.now)
  some_cut text (Some parts) h = rw (h.1, h.2) (slice_split_first (λ b. b == separator) text 0 h.0)
  some_cut text None h = tt

  pub none_cut : (text : List ℕ) (r : Option (Bor (List ℕ) × Bor (List ℕ))) → IsCut text r → IfNone r (slice_split (λ b. b == separator) text ≡ text ∷ [])
  none_cut text (Some parts) h = tt
  none_cut text None h = slice_split_none (λ b. b == separator) text (λ k d low. fails_before_first (λ b. b == separator) text k d (omega (arith, h, low)))

  -- a text with the separator, by the place of the first
  pub split_at : (text : List ℕ) (len : ℕ) → len ≡ position_or_len (λ b. b == separator) text → len < length text
      → slice_split (λ b. b == separator) text ≡ take len text ∷ slice_split (λ b. b == separator) (drop (len + 1) text)
  split_at text len is less = rw is (slice_split_first (λ b. b == separator) text 0 (rw is at less))

  -- a text without one
  pub split_nowhere : (text : List ℕ) → length text ≤ position_or_len (λ b. b == separator) text → slice_split (λ b. b == separator) text ≡ text ∷ []
  split_nowhere text h = slice_split_none (λ b. b == separator) text (λ k d low. fails_before_first (λ b. b == separator) text k d (omega (arith, h, low)))
