-- Words that are put before a text.
use Rattle.std.proofs.Common.{List, [], ap, append_assoc, ℕ, ◌++◌, ◌∙◌, ◌∷◌, ◌≡◌}
use Rattle.std.proofs.lemmas.List.{reverse-append}
use Rattle.std.specs.Borrow.{Bor}
use Rattle.std.specs.List.{flat_map}
use Rattle.sd_condition_text.specs.Growing.{words_text}

pub last_word : (words : List (Bor (List ℕ))) (word : Bor (List ℕ)) → words_text (words ++ word ∷ []) ≡ word.now ++ words_text words
last_word words word = ap (λ (all : List (Bor (List ℕ))). flat_map (λ each. each.now) all) (reverse-append words (word ∷ []))

pub word_before : (words : List (Bor (List ℕ))) (word : Bor (List ℕ)) (rest : List ℕ) → words_text (words ++ word ∷ []) ++ rest ≡ word.now ++ (words_text words ++ rest)
word_before words word rest = ap (λ (text : List ℕ). text ++ rest) (last_word words word) ∙ append_assoc word.now (words_text words) rest
