-- What all of a text is.
use Rattle.std.specs.Prelude.{◌==◌, length, Option, Some, None, Ok, Err, if◌then◌else◌}
use Rattle.sd_text.specs.Finding.{Found}

-- what is found, if no text is left after it
abbrev pub all_of : {A : Type 0} → Found A → Option A
all_of (Ok x) = if length x.1 == 0 then Some x.0 else None
all_of (Err e) = None
