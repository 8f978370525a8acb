-- What a parser that allocates returns.
use Rattle.std.specs.Prelude.{◌≡◌, ℕ, List, Result, Ok, Err}
use Rattle.sd_text.specs.Finding.{Found}
use Rattle.sd_claim_text.specs.declared.error.ClaimError.{ClaimError}
use Rattle.sd_claim_text.specs.declared.error.ClaimError.TheVariants.{Fault, Memory}

-- it returns what is found, its value seen by view, and leaves the text after it, or stops at the fault; or memory runs
-- out
abbrev pub GivesOrMemory : {X A : Type 0} → (X → A) → Result X ClaimError → List ℕ → Found A → Type 0
GivesOrMemory view (Ok x) rest found = found ≡ Ok (view x, rest)
GivesOrMemory view (Err (Fault fault)) rest found = found ≡ Err (fault, rest)
GivesOrMemory view (Err Memory) rest found = Unit {0}
