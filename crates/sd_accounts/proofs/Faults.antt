-- The faults of lines.
use Rattle.std.proofs.Common.{◌≡◌, ℕ, zero, suc, List, Result, Err, codes, sym, subst, arith}
use Rattle.std.specs.List.{Contains}
use Rattle.std.specs.Prelude.{IsErrAnd}
use Rattle.sd_accounts.specs.Fault.{keywords}
use Rattle.sd_accounts.specs.declared.fault.AccountsFault.{AccountsFault}
use Rattle.sd_accounts.specs.declared.fault.RowError.{RowError}
use Rattle.sd_accounts.specs.declared.fault.RowError.TheVariants.{Fault}

-- the error that is passed on is this one
pub passed_on : {A E : Type 0} (r : Result A E) (e d : E) → IsErrAnd r (λ x. x ≡ e) → r ≡ Err d → e ≡ d
passed_on r e d gives is = sym (subst (λ s. IsErrAnd s (λ x. x ≡ e)) is gives)

-- the fault that is made an error is this one
pub made : {A : Type 0} (r : Result A RowError) (kind fault : AccountsFault) → IsErrAnd r (λ d. d ≡ Fault kind) → r ≡ Err (Fault fault) → kind ≡ fault
made r kind fault gives is = let same = passed_on r (Fault kind) (Fault fault) gives is in cc

-- a word that is none of the six
pub none_of : (word : List ℕ) → (word ≡ codes "user" → ⊥) → (word ≡ codes "group" → ⊥) → (word ≡ codes "member" → ⊥) → (word ≡ codes "primary" → ⊥)
    → (word ≡ codes "disabled" → ⊥) → (word ≡ codes "incomplete" → ⊥) → Contains keywords word → ⊥
none_of word a b c d e f (zero, low, at) = a (sym at)
none_of word a b c d e f (suc zero, low, at) = b (sym at)
none_of word a b c d e f (suc (suc zero), low, at) = c (sym at)
none_of word a b c d e f (suc (suc (suc zero)), low, at) = d (sym at)
none_of word a b c d e f (suc (suc (suc (suc zero))), low, at) = e (sym at)
none_of word a b c d e f (suc (suc (suc (suc (suc zero)))), low, at) = f (sym at)
none_of word a b c d e f (suc (suc (suc (suc (suc (suc k))))), low, at) = omega arith
