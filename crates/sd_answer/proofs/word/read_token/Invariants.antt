-- The words so far are those of the texts so far, and make the token so far.
use Rattle.sd_answer.proofs.Cited.{AreEach, IsWord, List, Word, parts_token, take, texts, token_of, ◌≡◌}
use Rattle.sd_answer.proofs.word.read_token.Given as goal

abbrev pub invariant-loop-place : goal.invariant-loop-place
invariant-loop-place l =
    (words : List Word) × AreEach (IsWord l.known) (texts (take l.place l.texts)) words × (parts_token l.parts ≡ token_of l.fn.user words)
