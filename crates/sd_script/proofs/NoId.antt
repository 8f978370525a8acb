-- A line whose first word is no id is no command, nor is one that expects an answer.
use Rattle.sd_script.proofs.Cited.{Bool, IsAnswered, LineOf, LineRequest, List, NoCommandWithoutAnId, None, Notation, Ok, Option, Session, [], and_parts, ap, arith, asked_of, bytes_eq, bytes_eq-Decides, cases_Bool, cases_lt, codes, command_named, command_of, expects, fails_before_first, false, false_from_ne_true, if◌then◌else◌, inl, inr, is_empty, is_id, is_open, is_silent, length, line_asks, list_all, list_any, names, option_map, refl, script_options_of, slice_split_first, slice_split_none, sym, take, take_all, true, value_named, word_len, words_of, ℕ, ◌==◌, ◌∙◌, ◌∷◌, ◌≡◌}

-- a word that is no id is none of a table of ids
beside_none : {A : Type 0} (word : List ℕ) (rows : List (List ℕ × A)) → list_all (λ (row : List ℕ × A). is_id row.0) rows ≡ true
    → is_id word ≡ false → value_named word rows ≡ None
beside_none word [] ids none = refl
beside_none {A} word (row ∷ rows) ids none =
    let both = and_parts (is_id row.0) (list_all (λ (row : List ℕ × A). is_id row.0) rows) ids in
    elim (cases_Bool (bytes_eq word row.0)) [
      | inl same ↦ absurd (cc ((bytes_eq-Decides word row.0).0 same, none, both.0))
      | inr other ↦ rw other (beside_none word rows both.1 none)
    ]

-- the first of a line's words
first_word : (line : List ℕ) → (words : List (List ℕ)) × (words_of line ≡ take (word_len line) line ∷ words)
first_word line = elim (cases_lt (word_len line) (length line)) [
  | inl low ↦ (_, slice_split_first (λ b. b == 0x20) line 0 low)
  | inr long ↦ (
    [],
    slice_split_none (λ b. b == 0x20) line (λ k d low. fails_before_first (λ b. b == 0x20) line k d (omega (arith, low, long)))
        ∙ ap (λ word. word ∷ []) (sym (take_all (word_len line) line long)),
  )
]

neither : {A : Type 0} (test : Bool) (other : Option A) → other ≡ None → (if test then None else other) ≡ None
neither true other is = refl
neither false other is = is

-- the first word isn't the name of a command
abbrev NamesNothing : List ℕ → Type 0
NamesNothing line = command_named (take (word_len line) line) ≡ None

no_command : (line : List ℕ) → NamesNothing line → command_of (words_of line) ≡ None
no_command line none =
    let (words, first) = first_word line in
    rw first (neither (list_any is_empty (take (word_len line) line ∷ words)) _ (ap (option_map (λ name. (name, words))) none))

-- so it asks for nothing
asks_nothing : (notation : Notation) (is_open : Bool) (line : List ℕ) (asked : LineRequest)
    → NamesNothing line → line_asks notation is_open line (Ok asked) → ⊥
asks_nothing notation is_open line asked none (inl (utf8, asks)) = absurd (cc (rw (no_command line none) at asks))
asks_nothing notation is_open line asked none (inr (other, is)) = absurd (cc is)

-- a line that expects an answer asks for nothing
pub asks_and_expects_nothing : (notation : Notation) (is_open : Bool) (line : List ℕ) (asked : LineRequest)
    → line_asks notation is_open line (Ok asked) → expects line ≡ false
asks_and_expects_nothing notation is_open line asked asks = false_from_ne_true (expects line) (λ is.
    let word = (bytes_eq-Decides (take (word_len line) line) (codes "expect")).0 is in
    asks_nothing notation is_open line asked (rw word refl) asks)

-- ---- a line whose first word is no id

unchanged : (old new : Session) (line : List ℕ) (answer : List LineOf)
    → is_id (take (word_len line) line) ≡ false → IsAnswered old line answer new → new ≡ old
unchanged old new line answer none answered = elim (cases_Bool (is_silent line)) [
  | inl silent ↦ let said = rw silent at answered in said.1
  | inr loud ↦ let said = rw loud at answered in elim said.1 [
    | inl (asked, asks, done) ↦
        absurd (asks_nothing (script_options_of old).notation (is_open old) line asked (beside_none (take (word_len line) line) names refl none) asks)
    | inr (fault, asks, is, same) ↦ same
  ]
]

pub no_command_without_an_id : NoCommandWithoutAnId
no_command_without_an_id style old new line text none next =
    let whole : asked_of line ≡ line = rw none refl in
    let answered = rw whole at next.1.answered in
    elim (cases_Bool (expects line)) [
      | inl expecting ↦ let met = rw expecting at answered in met.1
      | inr other ↦ let said = rw other at answered in unchanged old.session new.session line next.0 none said.0
    ]
