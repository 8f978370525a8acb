-- Spaces before an entry, as schemas of directories have them: the standard's grammar has none.
use Rattle.std.specs.Prelude.{ℕ, not, ◌==◌, List, drop, Ok, codes, if◌then◌else◌}
use Rattle.std.specs.List.{position_or_len}
use Rattle.sd_text.specs.Finding.{Found}
use Rattle.sd_text.specs.Grammar.{begins}

-- how many spaces the text begins with
abbrev pub space_len : List ℕ → ℕ
space_len text = position_or_len (λ byte. not (byte == 0x20)) text

-- the text without them
abbrev pub after_spaces : List ℕ → List ℕ
after_spaces text = drop (space_len text) text

-- without those before an entry, which begins with a `(`
abbrev pub at_entry : List ℕ → List ℕ
at_entry text = if begins (after_spaces text) (codes "(") then after_spaces text else text

abbrev pub to_entry : List ℕ → Found (Unit {0})
to_entry text = Ok (tt, at_entry text)
