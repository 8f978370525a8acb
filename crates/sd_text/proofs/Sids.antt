-- Reading the sub-authorities of a SID.
use Rattle.sd_text.proofs.Cited.{Err, List, Ok, TextFault, [], arith, begins, codes, dash, drop, false, find, get_or, le-ltb, length, lt-ltb, ne_eqb, refl, sid_of, sub, suc, take, true, zero, ℕ, ◌<◌, ◌^◌, ◌∷◌, ◌≡◌, ◌≤◌}
use Rattle.sd_text.specs.Sid.{subs_of}
use Rattle.sd_text.proofs.Loops.{Reaches, item_last, item_fault}

-- these sub-authorities have been read, and this is behind them
abbrev pub SubsReach : List ℕ → List ℕ → List ℕ → Type 0
SubsReach start subs rest = Reaches dash (λ before u. sub (length before)) start subs rest

pub subs_end : (authority : ℕ) {start subs rest : List ℕ} → begins start (codes "-") ≡ true → SubsReach start subs rest → begins rest (codes "-") ≡ false → find (subs_of authority) start ≡ Ok (record { authority = authority; subs = subs }, rest)
unfolding subs_of
subs_end authority first reached ends = rw (first, item_last reached ends) refl

pub subs_fault : (authority : ℕ) {start subs rest : List ℕ} {d : TextFault × List ℕ} → begins start (codes "-") ≡ true → SubsReach start subs rest → begins rest (codes "-") ≡ true → find (sub (length subs)) (drop 1 rest) ≡ Err d → find (subs_of authority) start ≡ Err d
unfolding subs_of
subs_fault authority first reached stands fails = rw (first, item_fault reached stands fails) refl

-- a SID is made of an authority and sub-authorities in their bounds
pub sid_made : (authority : ℕ) (subs : List ℕ) → authority < 2 ^ 48 → 0 < length subs → length subs ≤ 15 → sid_of authority subs ≡ Ok (record { authority = authority; subs = subs })
sid_made authority subs low some few = rw (ne_eqb (length subs) 0 (omega arith), le-ltb 15 (length subs) few, lt-ltb authority (2 ^ 48) low) refl

-- a dash stood before the first sub-authority
pub at_least_one : (count : ℕ) (rest : List ℕ) → (count ≡ 0 → begins rest (codes "-") ≡ true) → begins rest (codes "-") ≡ false → 0 < count
at_least_one zero rest some ends = absurd (let stands = some refl in cc)
at_least_one (suc count) rest some ends = omega arith

-- the first five of fifteen
pub front_of_five : (subs : List ℕ) → length subs ≡ 15 → take 5 subs ≡ get_or subs 0 0 ∷ get_or subs 1 0 ∷ get_or subs 2 0 ∷ get_or subs 3 0 ∷ get_or subs 4 0 ∷ []
front_of_five [] room = absurd (omega arith)
front_of_five (a ∷ []) room = absurd (omega arith)
front_of_five (a ∷ b ∷ []) room = absurd (omega arith)
front_of_five (a ∷ b ∷ c ∷ []) room = absurd (omega arith)
front_of_five (a ∷ b ∷ c ∷ d ∷ []) room = absurd (omega arith)
front_of_five (a ∷ b ∷ c ∷ d ∷ e ∷ subs) room = refl
