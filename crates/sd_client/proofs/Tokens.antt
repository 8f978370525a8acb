-- Words that are all of a token.
use Rattle.std.proofs.Common.{List, [], ◌∷◌, ◌≡◌, ℕ, ap, fold, inl, inr, map, refl, sym, ◌∙◌}
use Rattle.sd_sid.specs.Sid.{SidValue}
use Rattle.sd_text.specs.declared.alias.Aliases.{Aliases}
use Rattle.sd_answer.proofs.OneToken.{token_one}
use Rattle.sd_answer.specs.Word.{AreEach, IsWord, token_of, with_word}
use Rattle.sd_answer.specs.declared.word.Word.{Word}
use Rattle.sd_client.specs.Client.{ClientValue}
use Rattle.sd_client.specs.Laws.{ClientsOfTokens, IsTokenAlone}
use Rattle.sd_client.specs.Word.{IsClientWord, client_of, with_client_word}
use Rattle.sd_client.specs.declared.word.ClientWord.{ClientWord}
use Rattle.sd_client.specs.declared.word.ClientWord.TheVariants.{Token}

-- the words of texts that are all words of a token are words of a token
abbrev AllOfTokens : Aliases → List (List ℕ) → List ClientWord → Type 0
AllOfTokens known texts said = (words : List Word) × AreEach (IsWord known) texts words × (said ≡ map Token words)

all_of_tokens : (known : Aliases) (texts : List (List ℕ)) (words : List Word) (said : List ClientWord)
    → AreEach (IsWord known) texts words → AreEach (IsClientWord known) texts said → AllOfTokens known texts said
all_of_tokens known [] words said are_words are_said = ([], refl, are_said)
all_of_tokens known (text ∷ texts) [] said are_words are_said = absurd are_words
all_of_tokens known (text ∷ texts) (word ∷ words) [] are_words are_said = absurd are_said
all_of_tokens known (text ∷ texts) (word ∷ words) (one ∷ said) are_words are_said =
    let rest = all_of_tokens known texts words said are_words.1 are_said.1 in
    elim are_said.0 [
      | inl is ↦ (is.0 ∷ rest.0, (is.1, rest.1), cc (is.2, rest.2))
      | inr is ↦ absurd (is.0 (Token word) (word, are_words.0, refl))
    ]

-- what words of a token add
added : (c : ClientValue) (words : List Word)
    → fold with_client_word c (map Token words) ≡ record c { token = fold with_word c.token words }
added c [] = refl
added c (word ∷ words) = added (with_client_word c (Token word)) words

alone : (user : SidValue) (words : List Word) → IsTokenAlone (client_of user (map Token words)) (token_of user words)
alone user words = rw (added _ words) (record { token = refl; device_groups = refl; local = refl; user = refl; device = refl })

pub clients_of_tokens : ClientsOfTokens
clients_of_tokens known user texts token client is_token is_client =
    let words = all_of_tokens known texts is_token.0 is_client.0 is_token.1 is_client.1 in
    let same : client ≡ client_of user (map Token words.0) = is_client.2 ∙ ap (client_of user) words.2 in
    let one : token_of user words.0 ≡ token = token_one known user texts (token_of user words.0) token (words.0, words.1, refl) is_token in
    rw (same, sym one) (alone user words.0)
