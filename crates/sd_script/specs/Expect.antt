-- Lines that expect an answer: the whole answer of the last line that has one.
use Rattle.std.specs.Prelude.{ℕ, ◌+◌, ◌-◌, Bool, true, false, ◌==◌, ◌||◌, List, [], ◌∷◌, Option, Some, if◌then◌else◌}
use Rattle.std.specs.Prelude.{codes, bytes_eq, drop, length, min, slice_index, take}
use Rattle.std.specs.List.{flat_map}
use Rattle.std.specs.Option.{option_map_or}
use Rattle.sd_answer.specs.VerdictLines.{fault_line}
use Rattle.sd_line.specs.Line.{LineOf}
use Rattle.sd_line.specs.Printed.{lines_text}
use Rattle.sd_line.specs.declared.spelling.Spelling.{Spelling}
use Rattle.sd_script.specs.Lines.{is_silent, word_len}
use Rattle.sd_script.specs.Reply.{ok_line}

-- the line expects the last answer: its first word is `expect`
abbrev pub expects : List ℕ → Bool
expects text = bytes_eq (take (word_len text) text) (codes "expect")

-- or whom a node grants rights
abbrev pub is_expectation : List ℕ → Bool
is_expectation text = expects text || bytes_eq (take (word_len text) text) (codes "expect-only")

-- the bytes of the first word and of the space after it
abbrev pub head_len : List ℕ → ℕ
head_len text = min (length text) (word_len text + 1)

-- the answer that it expects: all that comes after the word and a space
abbrev pub expected_in : List ℕ → List ℕ
expected_in text = drop (head_len text) text

-- the text without the line feed at its end
abbrev pub without_feed : List ℕ → List ℕ
without_feed text = if slice_index text (length text - 1) == 10 then take (length text - 1) text else text

-- the text of an answer without the end of its last line, and without the empty line that ends several
abbrev pub lines_of : List ℕ → List ℕ
lines_of text = without_feed (without_feed text)

-- a line feed is spelled `\n`, and `\` is spelled `\\`
abbrev pub spelled_byte : ℕ → List ℕ
spelled_byte b = if b == 10 then 0x5C ∷ 0x6E ∷ [] else (if b == 0x5C then 0x5C ∷ 0x5C ∷ [] else b ∷ [])

-- how an answer is expected: all its lines in one
abbrev pub spelled : List ℕ → List ℕ
spelled text = flat_map spelled_byte (lines_of text)

-- the last answer once a line is answered, which has none if it is silent
abbrev pub last_after : List ℕ → List LineOf → Option (List LineOf) → Option (List LineOf)
last_after text answer before = if is_silent text then before else Some answer

-- the last answer is the expected one; where no line was answered, none is
abbrev pub is_met : Spelling → Option (List LineOf) → List ℕ → Bool
is_met spelling last text =
    option_map_or (λ answer. bytes_eq (spelled (lines_text spelling answer)) (expected_in text)) last false

abbrev pub expect_line : (is_met : Bool) → LineOf
expect_line true = ok_line []
expect_line false = fault_line (codes "expect")
