-- Where the character begins that a byte is of, and how many characters before it are shown.
use Rattle.sd_commands.proofs.Cited.{IsCharBoundary-end, IsLastBoundary, List, arith, cases_lt, drop, floor_char_boundary_is, le-leb, length, length-drop, lt-leb, start_of, take, take_all, ℕ, ⊎_elim, ◌-◌, ◌≡◌}

-- the last place up to the byte at which the text may be cut
pub start_is : (text : List ℕ) (place kept : ℕ) → IsLastBoundary text place kept → start_of text place ≡ kept
start_is text place kept last = ⊎_elim
    (λ within. rw (lt-leb (length text) place within) (floor_char_boundary_is text place kept within last))
    (λ behind. rw (le-leb (length text) place behind) (⊎_elim
    (λ low. absurd (last.2 (length text) low behind (IsCharBoundary-end text)))
    (λ high. omega (arith, high, last.1.0))
    (cases_lt kept (length text))))
    (cases_lt place (length text))

-- no more than 30 are left
pub last_shown : (cs : List ℕ) → take 30 (drop (length cs - 30) cs) ≡ drop (length cs - 30) cs
last_shown cs = take_all 30 _ (omega (arith, length-drop (length cs - 30) cs))
