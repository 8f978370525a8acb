-- Words that are cut at a place.
use Rattle.std.proofs.Common.{◌≡◌, ◌∙◌, ◌-◌, ℕ, List, min, Ok, Err, Result, ap, arith, drop, length, length-drop, sym, take}
use Rattle.std.proofs.lemmas.List.{drop-map, drop_min, take-map, take_all, take_min}
use Rattle.std.specs.Borrow.{Bor}
use Rattle.sd_answer.specs.Word.{texts}
use Rattle.sd_schema.specs.Row.{SchemaRow}
use Rattle.sd_schema.specs.Words.{IsWordError, option_words, tree_words, with_guids}
use Rattle.sd_schema.specs.declared.words.WordError.{WordError}
use Rattle.sd_schema.specs.declared.words.WordError.TheVariants as word_error

front : (tree m : ℕ) (words : List (Bor (List ℕ))) → m ≡ min tree (length words) → texts (take m words) ≡ take tree (texts words)
front tree m words is = ap (λ n. texts (take n words)) is ∙ ap texts (take_min tree words) ∙ sym (take-map (λ (word : Bor (List ℕ)). word.now) tree words)

back : (tree m : ℕ) (words : List (Bor (List ℕ))) → m ≡ min tree (length words) → texts (take (length words - m) (drop m words)) ≡ drop tree (texts words)
back tree m words is =
    ap texts (take_all (length words - m) (drop m words) (omega (arith, length-drop m words)) ∙ ap (λ n. drop n words) is ∙ drop_min tree words)
    ∙ sym (drop-map (λ (word : Bor (List ℕ)). word.now) tree words)

module _ (rows : List SchemaRow) (tree m : ℕ) (words : List (Bor (List ℕ))) (is : m ≡ min tree (length words)) where
  front_bad : (error : WordError) → option_words rows (texts (take m words)) ≡ Err error → with_guids rows tree (texts words) ≡ Err error
  front_bad error bad =
      ap (λ (found : Result (List (List ℕ)) WordError). elim found [ Ok more ↦ tree_words rows more (drop tree (texts words)) | Err error ↦ Err error ])
      (ap (option_words rows) (sym (front tree m words is)) ∙ bad)

  -- the words up to the place are these
  pub front_done : (begun : List (List ℕ)) → option_words rows (texts (take m words)) ≡ Ok begun
      → with_guids rows tree (texts words) ≡ tree_words rows begun (texts (take (length words - m) (drop m words)))
  front_done begun done =
      ap (λ (found : Result (List (List ℕ)) WordError). elim found [ Ok more ↦ tree_words rows more (drop tree (texts words)) | Err error ↦ Err error ])
      (ap (option_words rows) (sym (front tree m words is)) ∙ done)
      ∙ ap (tree_words rows begun) (sym (back tree m words is))

  -- the words up to the place have this fault, unless memory runs out
  pub bad_front : (error : WordError) → IsWordError (option_words rows (texts (take m words))) error → IsWordError (with_guids rows tree (texts words)) error
  bad_front (word_error.«Type» place fault) bad = front_bad (word_error.«Type» place fault) bad
  bad_front (word_error.Node place fault) bad = front_bad (word_error.Node place fault) bad
  bad_front word_error.Memory bad = bad
