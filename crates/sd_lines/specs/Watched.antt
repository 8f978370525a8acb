-- What a clause reads of a watched stream.
use Rattle.std.specs.Prelude.{ℕ, Bool, true, ◌&&◌, nat_eq, nat_lt, List, length, Result, Ok, Err}
use Rattle.sd_lines.specs.declared.watched.Watched.{Watched}

-- the stream that calls are passed to
abbrev pub inner_of : {T : Type 0} → Watched T → T
inner_of watched = watched.inner

-- whether a call to it has failed
abbrev pub has_failed : {T : Type 0} → Watched T → Bool
has_failed watched = watched.failed

-- a write that failed, or was given at least one byte and took none
abbrev pub is_lost : {E : Type 0} → Result ℕ E → List ℕ → Bool
is_lost (Ok taken) text = nat_eq taken 0 && nat_lt 0 (length text)
is_lost (Err error) text = true
