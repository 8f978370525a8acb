-- No word before the place is the option, and it stands there, or the words end.
use Rattle.std.proofs.Common.{Bor, List, [], arith, false, get_or, length, refl, sym, ℕ, ◌<◌, ◌∙◌, ◌∷◌, ◌≡◌}
use Rattle.std.proofs.lemmas.List.Sums.{position_or_len_is}
use Rattle.sd_command_line.specs.Names.{accounts_place, is_accounts}
use Rattle.sd_command_line.proofs.names.accounts_place.Goals as goal

pub returns-then-is_accounts-clause-place : goal.returns-then-is_accounts-clause-place
returns-then-is_accounts-clause-place c =
    sym (position_or_len_is (λ (word : Bor (List ℕ)). is_accounts word.now) c.args.words.now c.loop-place.place _ (omega arith)
    (λ k low. c.loop-place.invariant k _ low) (λ low. sym c.is_accounts.ensures ∙ c.if-is_accounts.true))

-- none of the words is
at_end : (words : List (Bor (List ℕ))) → ((k : ℕ) (d : Bor (List ℕ)) → k < length words → is_accounts (get_or words k d).now ≡ false)
    → length words ≡ accounts_place words
at_end [] none = refl
at_end (word ∷ words) none =
    sym (position_or_len_is (λ (one : Bor (List ℕ)). is_accounts one.now) (word ∷ words) (length (word ∷ words)) word (omega arith)
    (λ k low. none k word low) (λ low. absurd (omega arith)))

pub returns-clause-place : goal.returns-clause-place
returns-clause-place c = at_end c.args.words.now (λ k d low. c.loop-place.invariant k d (omega arith))
