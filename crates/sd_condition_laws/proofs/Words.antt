-- A name without a prefix is parsed as no word that stands before its operand.
use Rattle.std.proofs.Common.{Bool, List, None, [], arith, codes, cond, false, inl, inr, length, refl, true, ℕ, ◌++◌, ◌+◌, ◌∷◌, ◌≡◌}
use Rattle.std.proofs.lemmas.Bool.{and_left, and_parts, and_right, cases_Bool, ne_eqb, or_parts}
use Rattle.std.proofs.lemmas.Bool.Decides.{nat_tests}
use Rattle.std.specs.Char.{eq_ignore_ascii_case}
use Rattle.std.specs.List.{list_all, list_any, prefix_len}
use Rattle.std.specs.Prelude.{not, ◌&&◌, ◌==◌}
use Rattle.std.specs.Str.{str_eq_ignore_ascii_case}
use Rattle.sd_condition_parse.specs.Operator.{exists_words, is_word, member_words, worded}
use Rattle.sd_condition_text.specs.Attribute.{is_opening_word, is_plain}
use Rattle.sd_text.specs.Grammar.{Name, begins}

same_case : (c l : ℕ) → is_plain l ≡ true → is_plain c ≡ false → eq_ignore_ascii_case c l ≡ false
same_case c l plain other = grind (arith, nat_tests)

no_first : (b : Bool) (n : ℕ) → cond b (1 + n) 0 ≡ 0 → b ≡ false
no_first true n e = absurd (omega arith)
no_first false n e = refl

-- no word begins behind a name
no_more : (rest : List ℕ) (l : ℕ) (letters : List ℕ) → prefix_len is_plain rest ≡ 0 → is_plain l ≡ true → begins rest (l ∷ letters) ≡ false
no_more [] l letters none plain = refl
no_more (c ∷ rest) l [] none plain = same_case c l plain (no_first (is_plain c) (prefix_len is_plain rest) none)
no_more (c ∷ rest) l (m ∷ letters) none plain = and_left (eq_ignore_ascii_case c l) (begins rest (m ∷ letters)) (same_case c l plain (no_first (is_plain c) (prefix_len is_plain rest) none))

-- a name goes on behind the word
goes_on : (c : ℕ) (name rest : List ℕ) → is_plain c ≡ true → (prefix_len is_plain ((c ∷ name) ++ rest) == 0) ≡ false
goes_on c name rest plain = rw plain (ne_eqb (1 + prefix_len is_plain (name ++ rest)) 0 (λ (e : 1 + prefix_len is_plain (name ++ rest) ≡ 0). omega arith))

-- a name is no word from which it differs, letter by letter
no_word : (name rest : List ℕ) (l : ℕ) (letters : List ℕ) → list_all is_plain name ≡ true → list_all is_plain (l ∷ letters) ≡ true → prefix_len is_plain rest ≡ 0
    → str_eq_ignore_ascii_case name (l ∷ letters) ≡ false → is_word (name ++ rest) (l ∷ letters) ≡ false
no_word [] rest l letters plain of_words none other = and_left (begins rest (l ∷ letters)) _ (no_more rest l letters none (and_parts (is_plain l) (list_all is_plain letters) of_words).0)
no_word (c ∷ []) rest l [] plain of_words none other =
    elim (cases_Bool (eq_ignore_ascii_case c l)) [
      | inl h ↦ absurd (let no : true ≡ false = rw h at other in cc)
      | inr h ↦ and_left (eq_ignore_ascii_case c l) _ h
    ]
no_word (c ∷ d ∷ name) rest l [] plain of_words none other =
    let later = and_parts (is_plain c) (list_all is_plain (d ∷ name)) plain in
    and_right (eq_ignore_ascii_case c l) _ (goes_on d name rest (and_parts (is_plain d) (list_all is_plain name) later.1).0)
no_word (c ∷ name) rest l (m ∷ letters) plain of_words none other =
    let more = (and_parts (is_plain c) (list_all is_plain name) plain).1 in
    let words = (and_parts (is_plain l) (list_all is_plain (m ∷ letters)) of_words).1 in
    elim (cases_Bool (eq_ignore_ascii_case c l)) [
      | inl h ↦
          let still : str_eq_ignore_ascii_case name (m ∷ letters) ≡ false = rw h at other in
          rw h (no_word name rest m letters more words none still)
      | inr h ↦ rw h refl
    ]

-- the letters of a word: one at least
abbrev is_spelled : List ℕ → Bool
is_spelled letters = not (length letters == 0) && list_all is_plain letters

not_this : (name rest letters : List ℕ) → list_all is_plain name ≡ true → prefix_len is_plain rest ≡ 0 → is_spelled letters ≡ true → str_eq_ignore_ascii_case name letters ≡ false → is_word (name ++ rest) letters ≡ false
not_this name rest [] plain none spelled other = absurd cc
not_this name rest (l ∷ letters) plain none spelled other =
    no_word name rest l letters plain (and_parts (not (length (l ∷ letters) == 0)) (list_all is_plain (l ∷ letters)) spelled).1 none other

no_name : {A : Type 0} (names : List (Name A)) (name rest : List ℕ) → list_all is_plain name ≡ true → prefix_len is_plain rest ≡ 0
    → list_all (λ word. is_spelled word.letters) names ≡ true → list_any (λ word. str_eq_ignore_ascii_case name word.letters) names ≡ false → worded names (name ++ rest) ≡ None
no_name [] name rest plain none spelled other = refl
no_name (word ∷ names) name rest plain none spelled other =
    let letters = and_parts (is_spelled word.letters) (list_all (λ w. is_spelled w.letters) names) spelled in
    let differ = or_parts (str_eq_ignore_ascii_case name word.letters) (list_any (λ w. str_eq_ignore_ascii_case name w.letters) names) other in
    rw (not_this name rest word.letters plain none letters.0 differ.0) (no_name names name rest plain none letters.1 differ.1)

pub no_word_stands : (name rest : List ℕ) → list_all is_plain name ≡ true → prefix_len is_plain rest ≡ 0 → is_opening_word name ≡ false
    → (worded exists_words (name ++ rest) ≡ None) × (worded member_words (name ++ rest) ≡ None)
no_word_stands name rest plain none other =
    let same : List ℕ → Bool = λ word. str_eq_ignore_ascii_case name word in
    let first = or_parts (same (codes "Exists")) _ other in
    let second = or_parts (same (codes "Not_Exists")) _ first.1 in
    (no_name exists_words name rest plain none refl (rw (first.0, second.0) refl), no_name member_words name rest plain none refl second.1)
