-- What a part of the data is parsed as: something or nothing, unless memory runs out.
use Rattle.std.specs.Prelude.{◌≡◌, Option, Some, None, Result, Ok, Err}
use Rattle.sd_data.specs.declared.refusal.Refusal.{Refusal}
use Rattle.sd_data.specs.declared.refusal.Refusal.TheVariants.{Memory, Malformed}

infixl 10 ◌>>=◌
-- one parse after another: where one finds nothing, nor do both
abbrev pub ◌>>=◌ : {A B : Type 0} → Option A → (A → Option B) → Option B
None >>= f = None
(Some x) >>= f = f x

-- a refusal is that the parse finds nothing, or that memory runs out
abbrev pub Fails : {A : Type 0} → Refusal → Option A → Type 0
Fails Memory read = Unit {0}
Fails Malformed read = read ≡ None

-- what a function returns is what the parse finds, unless memory runs out
abbrev pub Gives : {A : Type 0} → Result A Refusal → Option A → Type 0
Gives (Ok x) read = read ≡ Some x
Gives (Err e) read = Fails e read
