-- Where an entry may begin: what follows a part has no more `(` than the text.
use Rattle.std.proofs.Common.{List, Ok, Some, [], arith, drop, false, inl, inr, length, refl, sym, take, true, ℕ, ◌++◌, ◌+◌, ◌∷◌, ◌≡◌}
use Rattle.std.specs.Prelude.{Bool, codes, nat_lt, ◌==◌, ◌||◌}
use Rattle.std.specs.Char.{eq_ignore_ascii_case}
use Rattle.std.proofs.lemmas.Bool.{eqb-true, ltb-false}
use Rattle.std.proofs.lemmas.List.{take-append-drop}
use Rattle.std.proofs.lemmas.List.Folds.{list_any-append}
use Rattle.sd_text.proofs.Engine.{find_spells}
use Rattle.sd_text.proofs.Parts.{chosen, name_is, went}
use Rattle.sd_text.specs.Finding.{find}
use Rattle.sd_text.specs.Grammar.{Grammar, Items, Name, and_then, begins, choose, many, named, number, one_of, refused, spells, value, word}
use Rattle.sd_whole_parse.specs.Finding.{has_opening}
use Rattle.sd_whole_parse.specs.Spaces.{after_spaces, at_entry, space_len}

-- what follows has a `(` only if the text has one
abbrev pub Kept : List ℕ → List ℕ → Type 0
Kept text behind = has_opening behind ≡ true → has_opening text ≡ true

or_right : (a b : Bool) → b ≡ true → (a || b) ≡ true
or_right true b e = refl
or_right false b e = e

pub kept_behind : (front behind : List ℕ) → Kept (front ++ behind) behind
kept_behind front behind opens = rw (list_any-append (λ byte. byte == 40) front behind) (or_right (has_opening front) (has_opening behind) opens)

pub kept_drop : (n : ℕ) (text : List ℕ) → Kept text (drop n text)
kept_drop n text opens = subst_text (take-append-drop n text) (kept_behind (take n text) (drop n text) opens)
  where
    subst_text : {front text : List ℕ} → front ≡ text → has_opening front ≡ true → has_opening text ≡ true
    subst_text same opens = rw (sym same) opens

-- a `(` itself
pub is_opening : (c : ℕ) → eq_ignore_ascii_case c 40 ≡ true → (c == 40) ≡ true
is_opening c e =
    elim (went (nat_lt c 65)) [
      | inl h ↦ rw h at e
      | inr h ↦ elim (went (nat_lt c 91)) [
        | inl k ↦ absurd (let same = eqb-true (c + 32) 40 (rw (h, k) at e) in let far = ltb-false c 65 h in omega arith)
        | inr k ↦ rw (h, k) at e
      ]
    ]

pub opening_there : (text : List ℕ) → begins text (codes "(") ≡ true → has_opening text ≡ true
opening_there [] e = absurd cc
opening_there (c ∷ text) e = rw (is_opening c e) refl

module _ {A : Type 0} where
  named_kept : (names : List (Name A)) (text : List ℕ) (a : A) (behind : List ℕ) → named names text ≡ Some (a, behind) → Kept text behind
  named_kept [] text a behind e = absurd cc
  named_kept (name ∷ names) text a behind e =
      elim (chosen (begins text name.letters) _ _ _ e) [
        | inl h ↦ rw (sym (name_is name.stands_for a (drop (length name.letters) text) behind h.1).1) (kept_drop (length name.letters) text)
        | inr h ↦ named_kept names text a behind h.1
      ]

items_kept : {A B : Type 0} (names : List (Name B)) (item : List A → B → Grammar A) → ((before : List A) (b : B) (text : List ℕ) (a : A) (behind : List ℕ) → spells (item before b) text a behind → Kept text behind)
    → (before : List A) (text : List ℕ) (xs : List A) (behind : List ℕ) → Items names (λ earlier c. spells (item earlier c)) before text xs behind → Kept text behind
items_kept names item one before text [] behind is opens = rw (sym is) opens
items_kept names item one before text (x ∷ xs) behind is opens =
    named_kept names text is.0 is.1 is.3 (one before is.0 is.1 x is.2 is.4 (items_kept names item one (before ++ x ∷ []) is.2 xs behind is.5 opens))

spelled_kept : {A : Type 0} (g : Grammar A) (text : List ℕ) (a : A) (behind : List ℕ) → spells g text a behind → Kept text behind
spelled_kept (value b) text a behind s opens = rw (sym s.1) opens
spelled_kept (refused f) text a behind s opens = absurd s
spelled_kept (choose test p q) text a behind s opens = elim s [ inl h ↦ spelled_kept p text a behind h.1 opens | inr h ↦ spelled_kept q text a behind h.1 opens ]
spelled_kept (and_then p next) text a behind s opens = spelled_kept p text s.0 s.1 s.2 (spelled_kept (next s.0) s.1 a behind s.3 opens)
spelled_kept (word letters) text a behind s opens = kept_drop (length letters) text (rw s.1 at opens)
spelled_kept (number head radix limit) text a behind s opens = kept_drop head text (rw s.1.parts (kept_behind s.0 behind opens))
spelled_kept (one_of names p) text a behind s opens = elim s [ inl h ↦ named_kept names text a behind h opens | inr h ↦ spelled_kept p text a behind h.1 opens ]
spelled_kept (many names item) text xs behind s opens = items_kept names item (λ before b. spelled_kept (item before b)) [] text xs behind s.0 opens

-- so it is with what follows a value that was found
pub found_kept : {A : Type 0} (g : Grammar A) (text : List ℕ) (a : A) (behind : List ℕ) → find g text ≡ Ok (a, behind) → Kept text behind
found_kept g text a behind e = spelled_kept g text a behind (find_spells g text a behind e)

-- with the spaces before an entry no `(` goes
pub kept_at_entry : (text : List ℕ) → Kept text (at_entry text)
kept_at_entry text opens =
    elim (went (begins (after_spaces text) (codes "("))) [
      | inl h ↦ kept_drop (space_len text) text (rw h at opens)
      | inr h ↦ rw h at opens
    ]
