-- The words of a mask: those that are left after some whose bits are joined, and a text that is one mask at most.
use Rattle.sd_line.proofs.Cited.{AreJoined, Err, Fault, IfErr, IfOk, IsErrOf, IsErrorFrom, IsMaskIn, IsWordErrorAt, IsWordMask, List, MatchResult, Memory, Names, ObjectKind, Ok, Option, Result, TextError, [], ap, between_pluses, bit_or, false, inl, inr, length, no_fault, one_value, rights_word, subst, sym, ℕ, ◌+◌, ◌==◌, ◌∙◌, ◌∷◌, ◌≡◌}

module _ (kind : Option ObjectKind) where
  -- ---- a text is one mask at most

  pub one_word : (word : List ℕ) (a b : ℕ) → IsWordMask kind word a → IsWordMask kind word b → a ≡ b
  one_word word a b (inl x) (inl y) = let same = sym x ∙ y in cc (same)
  one_word word a b (inl x) (inr y) = absurd (let no = sym x ∙ y.0 in cc (no))
  one_word word a b (inr x) (inl y) = absurd (let no = sym x.0 ∙ y in cc (no))
  one_word word a b (inr x) (inr y) = one_value rights_word word a b x.1 y.1

  pub one_joined : (bits : ℕ) (words : List (List ℕ)) (a b : ℕ) → AreJoined kind bits words a → AreJoined kind bits words b → a ≡ b
  one_joined bits [] a b x y = x ∙ sym y
  one_joined bits (word ∷ words) a b x y =
      let same = one_word word x.0 y.0 x.1 y.1 in
      one_joined (bit_or bits y.0) words a b (subst (λ m. AreJoined kind (bit_or bits m) words a) same x.2) y.2

  word_or_error : (start : ℕ) (word : List ℕ) (mask : ℕ) (error : TextError) → IsWordMask kind word mask → IsWordErrorAt kind start word error → ⊥
  word_or_error start word mask (Fault fault place) (inl x) y = let no = sym x ∙ y.1 in cc (no)
  word_or_error start word mask (Fault fault place) (inr x) y = no_fault rights_word word mask fault y.0 x.1 y.2
  word_or_error start word mask Memory x y = y

  joined_or_error : (bits start : ℕ) (words : List (List ℕ)) (mask : ℕ) (error : TextError) → AreJoined kind bits words mask
      → IsErrorFrom kind start words error → ⊥
  joined_or_error bits start [] mask error x y = y
  joined_or_error bits start (word ∷ words) mask error x (inl y) = word_or_error start word x.0 error x.1 y
  joined_or_error bits start (word ∷ words) mask error x (inr y) =
      joined_or_error (bit_or bits x.0) (start + (length word + 1)) words mask error x.2 y.1

  pub joined_only : (text : List ℕ) (r : Result ℕ TextError) → (length text == 0) ≡ false → IfOk r (AreJoined kind 0 (between_pluses text))
      → IfErr r (IsErrorFrom kind 0 (between_pluses text)) → (mask : ℕ) → IsMaskIn (Names kind) text mask → r ≡ Ok mask
  joined_only [] r some value fault mask is = absurd (cc (some))
  joined_only (c ∷ text) (Ok a) some value fault mask is = ap Ok (one_joined 0 (between_pluses (c ∷ text)) a mask value is)
  joined_only (c ∷ text) (Err error) some value fault mask is = absurd (joined_or_error 0 0 (between_pluses (c ∷ text)) mask error is fault)

  -- no word's error is one of memory
  no_memory : (start : ℕ) (words : List (List ℕ)) → IsErrorFrom kind start words Memory → ⊥
  no_memory start [] is = is
  no_memory start (word ∷ words) is = elim is [ inl here ↦ here | inr later ↦ no_memory (start + (length word + 1)) words later.1 ]

  pub never_memory : (r : Result ℕ TextError) (words : List (List ℕ)) → IfErr r (IsErrorFrom kind 0 words) → IsErrOf r Memory → ⊥
  never_memory (Ok m) words h is = cc
  never_memory (Err (Fault f p)) words h is = cc
  never_memory (Err Memory) words h is = no_memory 0 words h

  -- ---- the words that are left

  -- what these words are, after these bits, the first at this offset
  abbrev pub Gives : ℕ → ℕ → List (List ℕ) → Result ℕ TextError → Type 0
  Gives bits start words r = MatchResult r (AreJoined kind bits words) (IsErrorFrom kind start words)

  pub gives_more : (bits start m : ℕ) (word : List ℕ) (words : List (List ℕ)) (r : Result ℕ TextError) → IsWordMask kind word m
      → Gives (bit_or bits m) (start + (length word + 1)) words r → Gives bits start (word ∷ words) r
  gives_more bits start m word words (Ok mask) is more = (m, is, more)
  gives_more bits start m word words (Err error) is more = inr ((m, is), more)

  -- the rest begins at this offset, and what it is with these bits the text is
  pub record Left (text : List ℕ) (bits start : ℕ) (rest : List ℕ) : Type 0 where
    pub place : start + length rest ≡ length text
    pub gives : (r : Result ℕ TextError) → Gives bits start (between_pluses rest) r → Gives 0 0 (between_pluses text) r
