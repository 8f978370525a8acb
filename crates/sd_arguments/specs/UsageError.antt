-- What standard error gets where the arguments are no command line.
use Rattle.std.specs.Prelude.{◌≡◌, ℕ, ◌-◌, ◌==◌, if◌then◌else◌, List, [], ◌++◌, length, Result, Ok, Err, codes}
use Rattle.std.specs.Prelude.{Option, Some, None, slice_get}
use Rattle.std.specs.Option.{option_map_or}
use Rattle.std.specs.Fmt.{decimal}
use Rattle.std.specs.Borrow.{Bor}
use Rattle.sd_commands.specs.Escaped.{escaped}
use Rattle.sd_commands.specs.Diagnostic.{told_line}
use Rattle.sd_arguments.specs.declared.usage_error.UsageError.{UsageError}

-- what is parsed, where no mistake is in it
abbrev pub accepted : {T U : Type 0} → (T → U) → Result T UsageError → Option U
accepted value (Ok x) = Some (value x)
accepted value (Err usage_error) = None

-- the argument from which on there are so many
abbrev pub word_at : List (Bor (List ℕ)) → ℕ → List ℕ
word_at words left = option_map_or (λ word. word.now) (slice_get words (length words - left)) []

-- which argument it is, counted from 1 since the first word is the program's name, and its text, if it is there
abbrev pub place_text : List (Bor (List ℕ)) → ℕ → List ℕ
place_text words left = codes "argument " ++ decimal (length words - left)
    ++ (if left == 0 then [] else codes ", \"" ++ escaped (word_at words left) ++ codes "\"")

-- a message names an argument, and says something of it
abbrev pub IsMessage : List (Bor (List ℕ)) → List ℕ → Type 0
IsMessage words message =
    (left : ℕ) × (what : List ℕ) × (message ≡ told_line (place_text words left) what)
