-- The text so far, and then that of the rest, is the text of the bytes.
use Rattle.sd_lines.proofs.Cited.{List, length, utf16_text, ℕ, ◌++◌, ◌≡◌}
use Rattle.sd_lines.proofs.utf16.ByteOrder.decode.Given as goal

abbrev pub invariant-chars : goal.invariant-chars
invariant-chars l = (added : List ℕ) × (l.text.items ≡ l.initial.text.items ++ added)
    × ((more : List ℕ) → utf16_text l.self (l.initial.rest ++ more) ≡ added ++ utf16_text l.self (l.rest ++ more))

abbrev pub decreases-chars : goal.decreases-chars
decreases-chars l = length l.rest
