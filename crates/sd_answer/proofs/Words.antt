-- Texts that are no SID and no word, and texts that are groups or words one for one.
use Rattle.sd_answer.proofs.Cited.{AreEach, Bor, Fault, Grammar, IsFirstNone, List, Memory, Or, Spells, StandsIn, TextError, [], ap, arith, bytes_decides, bytes_eq, false≢true, get_or, inl, inr, length, list_any, no_fault, refl, suc, sym, take, take_more, texts, zero, ℕ, ◌++◌, ◌+◌, ◌<◌, ◌∙◌, ◌∷◌, ◌≡◌}
use Rattle.std.specs.Prelude.{Bool, false, ◌||◌}

-- a text whose fault is told spells nothing
pub not_spelled : {A : Type 0} (grammar : Grammar A) (text : List ℕ) (e : TextError)
    → StandsIn grammar text e → (e ≡ Memory → ⊥) → (a : A) → Spells grammar text a → ⊥
not_spelled grammar text (Fault fault place) stands told a spelled = no_fault grammar text a fault place spelled stands
not_spelled grammar text Memory stands told a spelled = told refl

-- texts that the test tells apart are two
pub apart : (xs ys : List ℕ) → bytes_eq xs ys ≡ false → xs ≡ ys → ⊥
apart xs ys h e = false≢true (sym h ∙ (bytes_decides xs ys).1 e)

-- what neither reading gives
pub neither : {A : Type 0} (First Second : A → Type 0) → ((one : A) → First one → ⊥) → ((one : A) → Second one → ⊥) → (one : A) → Or First Second one → ⊥
neither First Second first second one (inl is) = first one is
neither First Second first second one (inr is) = second one is.1

-- a test of lent texts
pub list_any-texts : (test : List ℕ → Bool) (lent : List (Bor (List ℕ))) → list_any (λ (text : Bor (List ℕ)). test text.now) lent ≡ list_any test (texts lent)
list_any-texts test [] = refl
list_any-texts test (text ∷ lent) = ap (λ b. test text.now || b) (list_any-texts test lent)

-- ---- one for one

module _ {A : Type 0} (Is : List ℕ → A → Type 0) where
  AreEach-push : (front : List (Bor (List ℕ))) (ones : List A) (text : Bor (List ℕ)) (one : A)
      → AreEach Is (texts front) ones → Is text.now one → AreEach Is (texts (front ++ text ∷ [])) (ones ++ one ∷ [])
  AreEach-push [] ones text one are is = rw are (is, refl)
  AreEach-push (t ∷ front) [] text one are is = absurd are
  AreEach-push (t ∷ front) (o ∷ ones) text one are is = (are.0, AreEach-push front ones text one are.1 is)

  -- one more
  pub AreEach-more : (lent : List (Bor (List ℕ))) (i : ℕ) (d : Bor (List ℕ)) (ones new : List A) (one : A) → i < length lent
      → AreEach Is (texts (take i lent)) ones → Is (get_or lent i d).now one → new ≡ ones ++ one ∷ [] → AreEach Is (texts (take (i + 1) lent)) new
  AreEach-more lent i d ones new one low are is more =
      rw (more, take_more lent i d low) (AreEach-push (take i lent) ones (get_or lent i d) one are is)

  -- a text that is none, at its place, where those before it are some
  pub first_none_at : (lent : List (Bor (List ℕ))) (i : ℕ) (d : Bor (List ℕ)) (ones : List A) → i < length lent
      → AreEach Is (texts (take i lent)) ones → ((one : A) → Is (get_or lent i d).now one → ⊥) → IsFirstNone Is (texts lent) i
  first_none_at [] i d ones low are none = absurd (omega arith)
  first_none_at (text ∷ lent) zero d ones low are none = none
  first_none_at (text ∷ lent) (suc i) d [] low are none = absurd are
  first_none_at (text ∷ lent) (suc i) d (one ∷ ones) low are none = ((one, are.0), first_none_at lent i d ones (omega arith) are.1 none)
