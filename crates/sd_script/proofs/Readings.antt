-- Arguments that are parsed one after another, where memory may be wanted.
use Rattle.sd_script.proofs.Cited.{Arguments, Asks, Err, Fault, IsErrAnd, LineFault, LineRequest, LineStop, Memory, None, Notation, Ok, Option, Parses, Reading, Result, Some, UnlessMemory, Value, inl, inr, reading, refl, ◌≡◌, ◌⊎◌, ◌▸◌}

-- each argument is parsed to a value, up to the first that stops
abbrev pub Takes : Notation → Arguments → Result (Option LineRequest) LineStop → Type 0
Takes notation (Asks asked) r = r ≡ Ok (Some asked)
Takes notation (argument ▸ next) r =
    ((value : Value argument) × reading notation argument (Ok value) × Takes notation (next value) r)
    ⊎ ((stop : LineStop) × UnlessMemory (reading notation argument) (Err stop) × IsErrAnd r (λ told. told ≡ stop))

pub takes : (notation : Notation) (arguments : Arguments) (r : Result (Option LineRequest) LineStop) → Takes notation arguments r → Parses notation (Some arguments) r
takes notation (Asks asked) r is = rw is refl
takes notation (argument ▸ next) (Ok (Some asked)) (inl (value, read, more)) = inl (value, read, takes notation (next value) (Ok (Some asked)) more)
takes notation (argument ▸ next) (Ok None) (inl (value, read, more)) = takes notation (next value) (Ok None) more
takes notation (argument ▸ next) (Err (Fault fault)) (inl (value, read, more)) = inl (value, read, takes notation (next value) (Err (Fault fault)) more)
takes notation (argument ▸ next) (Err (Fault fault)) (inr (stop, read, is)) = inr (fault, rw (← is) at read, refl)
takes notation (argument ▸ next) (Err Memory) more = tt
takes notation (argument ▸ next) (Ok a) (inr (stop, read, none)) = absurd none

-- what is read in one way is read in another
pub UnlessMemory-weaker : {A : Type 0} (P Q : Reading A) (r : Result A LineStop)
    → ((read : Result A LineFault) → P read → Q read) → UnlessMemory P r → UnlessMemory Q r
UnlessMemory-weaker P Q (Ok a) weaker read = weaker (Ok a) read
UnlessMemory-weaker P Q (Err (Fault fault)) weaker read = weaker (Err fault) read
UnlessMemory-weaker P Q (Err Memory) weaker read = tt
