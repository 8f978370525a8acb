-- The parts of a text, of which the last one is taken off.
use Rattle.std.proofs.Common.{List, Option, Some, None, [], arith, ap, length, map, sym, ℕ, ◌+◌, ◌++◌, ◌∷◌, ◌∙◌, ◌==◌, ◌≡◌}
use Rattle.std.proofs.lemmas.List.{length-map, map-append}
use Rattle.std.proofs.lemmas.List.Splits.{length-slice_split}
use Rattle.std.specs.Borrow.{Bor}
use Rattle.std.specs.List.{slice_split}
use Rattle.sd_c.specs.Client.{parts_of}
use Rattle.sd_answer.specs.Word.{texts as texts_of}

-- a text has a part
pub has_parts : (text : List ℕ) (parts : List (Bor (List ℕ))) → texts_of parts ≡ parts_of text → length parts ≡ 0 → ⊥
has_parts text parts same none =
    let some = length-slice_split (λ (b : ℕ). b == 0) text in
    let here : length (texts_of parts) ≡ length parts = length-map parts (λ (t : Bor (List ℕ)). t.now) in
    omega (arith, some, ap length same, here, none)

-- the words, and then the last part
pub before_last : (text : List ℕ) (parts words : List (Bor (List ℕ))) (last : Bor (List ℕ)) → texts_of parts ≡ parts_of text
    → parts ≡ words ++ last ∷ [] → parts_of text ≡ texts_of words ++ last.now ∷ []
before_last text parts words last same cut = sym same ∙ ap texts_of cut ∙ map-append (λ (t : Bor (List ℕ)). t.now) words (last ∷ [])
