-- Texts that are no word of a token and no group of a device.
use Rattle.std.proofs.Common.{Err, List, None, Ok, Option, Result, Some, codes, inr, sym, ℕ, ◌≡◌}
use Rattle.std.specs.Prelude.{IfNone, IfOk, IfSome}
use Rattle.sd_sid.specs.Sid.{SidValue}
use Rattle.sd_text.specs.declared.alias.Aliases.{Aliases}
use Rattle.sd_answer.proofs.Words.{neither}
use Rattle.sd_answer.specs.Word.{IsSidBefore, IsWord}
use Rattle.sd_answer.specs.declared.word.Word.{Word}
use Rattle.sd_client.specs.Word.{IsClientWord, said}
use Rattle.sd_client.specs.declared.word.ClientWord.{ClientWord}

module _ {E : Type 0} (known : Aliases) (text : List ℕ) (no_token : (word : Word) → IsWord known text word → ⊥)
    (no_group : (sid : SidValue) → IsSidBefore known text (codes "=device") sid → ⊥) where
  -- a level or a claim is the word
  pub last_word : (r : Result (Option ClientWord) E) → IfOk r (λ word. word ≡ said known text)
      → IfOk r (λ found. IfSome found (IsClientWord known text))
  last_word (Ok (Some word)) h = inr (λ one is. no_token is.0 is.1, inr (λ one is. no_group is.0 is.1, sym h))
  last_word (Ok None) h = tt
  last_word (Err e) h = tt

  -- without one there is no word
  pub no_word : (r : Result (Option ClientWord) E) → IfOk r (λ word. word ≡ said known text)
      → IfOk r (λ found. IfNone found ((word : ClientWord) → IsClientWord known text word → ⊥))
  no_word (Ok (Some word)) h = tt
  no_word (Ok None) h =
      neither _ _ (λ one is. no_token is.0 is.1) (neither _ _ (λ one is. no_group is.0 is.1) (λ word is. cc (h, is)))
  no_word (Err e) h = tt
