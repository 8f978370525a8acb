-- Lines with ids: a line is an id and what it asks, and each line of its answer has the id.
use Rattle.std.specs.Prelude.{ℕ, Bool, not, ◌&&◌, List, take, drop, if◌then◌else◌}
use Rattle.std.specs.Char.{is_ascii_graphic}
use Rattle.std.specs.List.{list_all}
use Rattle.sd_script.specs.Expect.{head_len}
use Rattle.sd_script.specs.Lines.{is_silent, word_len}

-- a word is an id: it isn't empty, doesn't begin with `#`, and has printable ASCII characters alone
abbrev pub is_id : List ℕ → Bool
is_id word = not (is_silent word) && list_all is_ascii_graphic word

-- the first word of a line is an id
abbrev pub has_id : List ℕ → Bool
has_id line = is_id (take (word_len line) line)

-- the bytes of a line's id and of the space after it; none where the first word is no id
abbrev pub tag_len : List ℕ → ℕ
tag_len line = if has_id line then head_len line else 0

-- what is asked
abbrev pub asked_of : List ℕ → List ℕ
asked_of line = drop (tag_len line) line
