-- The lines of an input.
use Rattle.std.specs.Prelude.{◌≡◌, ◌⊎◌, ℕ, ◌<◌, ◌==◌, nat_le, false, ◌||◌, if◌then◌else◌, All, List}
use Rattle.std.specs.Prelude.{[], ◌∷◌, ◌++◌, length, Option, Some, None}
use Rattle.std.specs.List.{slice_split}
use Rattle.std.specs.Str.Lines.{lines_of_parts, strip_carriage_return}
use Rattle.sd_lines.specs.Decoder.{decoded}
use Rattle.sd_lines.specs.declared.input.TheConstants.{MAX_INPUT_BYTES}
use Rattle.sd_lines.specs.declared.ending.Ending.{Ending}
use Rattle.sd_lines.specs.declared.ending.Ending.TheVariants.{Feed, Zero}
use Rattle.sd_lines.specs.declared.form.Form.{Form}

-- the byte that ends a line
abbrev pub end_byte : Ending → ℕ
end_byte Feed = 10
end_byte Zero = 0

-- the line that had these bytes before its end: one carriage return before a line feed is no part of it
abbrev pub ended_line : Ending → List ℕ → List ℕ
ended_line Feed part = strip_carriage_return part
ended_line Zero part = part

-- the lines in the parts between ends, as std's `lines` has them: an empty last part is no line
abbrev pub lines_between : Ending → List (List ℕ) → List (List ℕ)
lines_between Feed parts = lines_of_parts parts
lines_between Zero [] = []
lines_between Zero (last ∷ []) = if length last == 0 then [] else last ∷ []
lines_between Zero (part ∷ next ∷ parts) = part ∷ lines_between Zero (next ∷ parts)

abbrev pub lines_in : Ending → List ℕ → List (List ℕ)
lines_in ending text = lines_between ending (slice_split (λ b. b == end_byte ending) text)

-- the text of an input: its bytes, or what they are by the byte order mark that it begins with
abbrev pub text_of : Form → List ℕ → List ℕ
text_of form input = if form.skips_mark then decoded input else input

-- the lines of an input
abbrev pub lines_of : Form → List ℕ → List (List ℕ)
lines_of form input = lines_in form.ending (text_of form input)

-- what is asked of a line: its text; none of one that is too long and doesn't end the run
abbrev pub asked_of : Form → List ℕ → Option (List ℕ)
asked_of form line = if form.stops_at_long || nat_le (length line) MAX_INPUT_BYTES then Some line else None

-- no line ends in the bytes
abbrev pub HasNoEnd : Ending → List ℕ → Type 0
HasNoEnd ending bytes = All (λ b. (b == end_byte ending) ≡ false) bytes

-- each line of the text has its end
abbrev pub IsEnded : Ending → List ℕ → Type 0
IsEnded ending text = (text ≡ []) ⊎ ((front : List ℕ) × (text ≡ front ++ end_byte ending ∷ []))

-- more than the longest line, without an end
abbrev pub IsLong : Ending → List ℕ → Type 0
IsLong ending bytes =
    (line : List ℕ) × (more : List ℕ) × (bytes ≡ line ++ more) × HasNoEnd ending line × (MAX_INPUT_BYTES < length line)
