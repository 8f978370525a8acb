-- A pass with fewer SIDs: what decided still decides where its SID is kept.
use Rattle.sd_analysis.proofs.Cited.{Ace, AceKind, AllByRecursion, Bool, List, MappingValue, None, Option, SidValue, Some, [], and_parts, ap, arith, cases_Bool, decides, false, false≢true, find, first, holds, inl, inr, is_allow, is_allowed_by, is_inherit_only, list_any, mapped, not, or_left, or_right, refl, sym, true, ℕ, ◌&&◌, ◌∙◌, ◌∷◌, ◌≡◌, ◌⊎◌}

-- an entry that applies now applied before
abbrev pub IsLess : (AceKind → SidValue → Bool) → (AceKind → SidValue → Bool) → Ace → Type 0
IsLess before now e = now e.kind e.sid ≡ true → before e.kind e.sid ≡ true

less : (effective before now held : Bool) → (now ≡ true → before ≡ true) → ((effective && before) && held) ≡ false → ((effective && now) && held) ≡ false
less effective before now held h j = grind arith

kept : (effective before now held : Bool) → now ≡ true → ((effective && before) && held) ≡ true → ((effective && now) && held) ≡ true
kept effective before now held h j = grind arith

find_here : {X : Type 0} (p : X → Bool) (x : X) (xs : List X) → p x ≡ true → find p (x ∷ xs) ≡ Some x
find_here p x xs h = rw h refl

find_next : {X : Type 0} (p : X → Bool) (x : X) (xs : List X) → p x ≡ false → find p (x ∷ xs) ≡ find p xs
find_next p x xs h = rw h refl

-- the entry passes whatever test some element passes only if it is in the list
abbrev pub IsIn : Ace → List Ace → Type 0
IsIn e es = (test : Ace → Bool) → test e ≡ true → list_any test es ≡ true

module _ (g : MappingValue) (who : AceKind → SidValue → Bool) (b : ℕ) where
  -- the entry that decides, and that it still does where fewer apply, but it does
  pub record Decides (es : List Ace) (e : Ace) : Type 0 where
    pub is_in : IsIn e es
    pub effective : not (is_inherit_only e) ≡ true
    pub applies : who e.kind e.sid ≡ true
    pub was : first g who es b ≡ Some e
    pub still : (now : AceKind → SidValue → Bool) → AllByRecursion (IsLess who now) es → now e.kind e.sid ≡ true → first g now es b ≡ Some e

  none_still : (es : List Ace) → first g who es b ≡ None → (now : AceKind → SidValue → Bool) → AllByRecursion (IsLess who now) es → first g now es b ≡ None
  none_still [] h now less_all = refl
  none_still (e ∷ es) h now less_all = elim (cases_Bool (decides g who b e)) [
    | inl here ↦ absurd (let eq : Some e ≡ None = sym (find_here (decides g who b) e es here) ∙ h in cc)
    | inr not_here ↦
        find_next (decides g now b) e es (less (not (is_inherit_only e)) (who e.kind e.sid) (now e.kind e.sid) (holds (mapped g e.mask) b) less_all.0 not_here)
        ∙ none_still es (sym (find_next (decides g who b) e es not_here) ∙ h) now less_all.1
  ]

  some_decides : (es : List Ace) (o : Option Ace) → first g who es b ≡ o → (e : Ace) → o ≡ Some e → Decides es e
  some_decides [] o h e is = absurd (let eq : None ≡ Some e = h ∙ is in cc)
  some_decides (x ∷ es) o h e is = elim (cases_Bool (decides g who b x)) [
    | inl here ↦
        let same : Some x ≡ Some e = sym (find_here (decides g who b) x es here) ∙ h ∙ is in
        let eq : x ≡ e = cc in
        let outer = and_parts (not (is_inherit_only x) && who x.kind x.sid) (holds (mapped g x.mask) b) here in
        let inner = and_parts (not (is_inherit_only x)) (who x.kind x.sid) outer.0 in
        record {
          is_in = λ test passes. or_left (test x) (list_any test es) (ap test eq ∙ passes);
          effective = sym (ap (λ y. not (is_inherit_only y)) eq) ∙ inner.0;
          applies = sym (ap (λ (y : Ace). who y.kind y.sid) eq) ∙ inner.1;
          was = h ∙ is;
          still = λ now less_all applies_now.
              find_here (decides g now b) x es
              (kept (not (is_inherit_only x)) (who x.kind x.sid) (now x.kind x.sid) (holds (mapped g x.mask) b)
              (ap (λ (y : Ace). now y.kind y.sid) eq ∙ applies_now) here)
              ∙ same;
        }
    | inr not_here ↦
        let rest = some_decides es o (sym (find_next (decides g who b) x es not_here) ∙ h) e is in
        record {
          is_in = λ test passes. or_right (test x) (list_any test es) (rest.is_in test passes);
          effective = rest.effective;
          applies = rest.applies;
          was = h ∙ is;
          still = λ now less_all applies_now.
              find_next (decides g now b) x es
              (less (not (is_inherit_only x)) (who x.kind x.sid) (now x.kind x.sid) (holds (mapped g x.mask) b) less_all.0 not_here)
              ∙ rest.still now less_all.1 applies_now;
        }
  ]

  -- an allow that decides
  pub allow_decides : (es : List Ace) (o : Option Ace) → first g who es b ≡ o → is_allowed_by o ≡ true
      → (e : Ace) × ((is_allow e.kind ≡ true) × Decides es e)
  allow_decides es None h allowed = absurd (false≢true allowed)
  allow_decides es (Some e) h allowed = (e, (allowed, some_decides es (Some e) h e refl))

  -- and what decides where nothing is allowed: a deny, or nothing
  pub none_allowed : (es : List Ace) (o : Option Ace) → first g who es b ≡ o → is_allowed_by o ≡ false
      → ((now : AceKind → SidValue → Bool) → AllByRecursion (IsLess who now) es → first g now es b ≡ None)
      ⊎ ((e : Ace) × ((is_allow e.kind ≡ false) × Decides es e))
  none_allowed es None h denied = inl (none_still es h)
  none_allowed es (Some e) h denied = inr (e, (denied, some_decides es (Some e) h e refl))
