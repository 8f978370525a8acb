-- What is counted of a script's lines, beside what they are answered by.
use Rattle.std.specs.Prelude.{ℕ, ◌+◌, ◌-◌, ◌^◌, Bool, false, not, ◌&&◌, ◌||◌, ◌==◌, nat_eq, List, [], ◌∷◌, min}
use Rattle.std.specs.Prelude.{Option, Some, None, if◌then◌else◌, codes}
use Rattle.std.specs.List.{starts_with}
use Rattle.std.specs.Option.{option_or}
use Rattle.sd_line.specs.Line.{LineOf, is_of, says}
use Rattle.sd_script.specs.Expect.{is_expectation}
use Rattle.sd_script.specs.Lines.{is_silent}
use Rattle.sd_script.specs.declared.script_counts.ScriptCounts.{ScriptCounts}

abbrev pub no_lines : ScriptCounts
no_lines = record {
  lines = 0;
  carried_out = 0;
  first_fault = None;
  first_difference = None;
  first_reordered = None;
  expected = 0;
  unmet = 0;
  first_unmet = None;
  begins_with_mark = false;
  begins_as_utf16 = false;
}

-- the answer has a first line, and this holds of it
abbrev pub first_is : (LineOf → Bool) → List LineOf → Bool
first_is test [] = false
first_is test (first ∷ more) = test first

-- the answer is a fault or a refusal
abbrev pub tells_fault : List LineOf → Bool
tells_fault answer = first_is (λ l. is_of (codes "fault") l || is_of (codes "refused") l) answer

-- the answer is `ok` or `opened` with this word
abbrev pub is_ok_and : List ℕ → List LineOf → Bool
is_ok_and word answer = first_is (λ l. (is_of (codes "ok") l || is_of (codes "opened") l) && says word l) answer

-- the answer says that a node differs from the text of its descriptor: something of it was left out, or an imported
-- node inherits otherwise than it did
abbrev pub tells_difference : List LineOf → Bool
tells_difference answer = is_ok_and (codes "differs") answer

-- the answer says that the own entries of an imported node were put in another order
abbrev pub tells_order : List LineOf → Bool
tells_order answer = is_ok_and (codes "reordered") answer

-- UTF-8's byte order mark
abbrev pub has_mark : List ℕ → Bool
has_mark text = starts_with nat_eq text (0xEF ∷ 0xBB ∷ 0xBF ∷ [])

-- UTF-16's byte order mark, of either order
abbrev pub has_utf16_mark : List ℕ → Bool
has_utf16_mark (a ∷ b ∷ rest) = (a == 0xFF && b == 0xFE) || (a == 0xFE && b == 0xFF)
has_utf16_mark text = false

-- of the first four bytes the first and third are zero, or the second and fourth
abbrev pub alternates_with_zero : List ℕ → Bool
alternates_with_zero (a ∷ b ∷ c ∷ d ∷ rest) = (a == 0 && c == 0) || (b == 0 && d == 0)
alternates_with_zero text = false

-- the text begins as UTF-16 does
abbrev pub is_utf16 : List ℕ → Bool
is_utf16 text = has_utf16_mark text || alternates_with_zero text

-- the line was carried out: it asks for something, which is neither a fault nor refused
abbrev pub is_carried_out : List ℕ → List LineOf → Bool
is_carried_out text answer = not (is_silent text) && not (tells_fault answer)

-- the line expects an answer, and isn't answered by it
abbrev pub is_unmet : List ℕ → List LineOf → Bool
is_unmet text answer = is_expectation text && tells_fault answer

-- one more, as far as 64 bits count
abbrev pub one_more : ℕ → ℕ
one_more n = min (n + 1) (2 ^ 64 - 1)

abbrev pub one_more_where : Bool → ℕ → ℕ
one_more_where holds n = if holds then one_more n else n

-- the next line's number
abbrev pub next_number : ScriptCounts → ℕ
next_number t = one_more t.lines

-- the line where this holds of it, if none was before it
abbrev pub first_of : Option ℕ → Bool → ℕ → Option ℕ
first_of before holds number = option_or before (if holds then Some number else None)

-- this holds of the first line: of one before, or of this one where there was none
abbrev pub begins : ScriptCounts → Bool → Bool → Bool
begins t before holds = before || (t.lines == 0 && holds)

-- with one line more, and what it is answered by
abbrev pub tallied : List ℕ → List LineOf → ScriptCounts → ScriptCounts
tallied text answer t = record {
  lines = next_number t;
  carried_out = one_more_where (is_carried_out text answer) t.carried_out;
  first_fault = first_of t.first_fault (tells_fault answer) (next_number t);
  first_difference = first_of t.first_difference (tells_difference answer) (next_number t);
  first_reordered = first_of t.first_reordered (tells_order answer) (next_number t);
  expected = one_more_where (is_expectation text) t.expected;
  unmet = one_more_where (is_unmet text answer) t.unmet;
  first_unmet = first_of t.first_unmet (is_unmet text answer) (next_number t);
  begins_with_mark = begins t t.begins_with_mark (has_mark text);
  begins_as_utf16 = begins t t.begins_as_utf16 (is_utf16 text);
}
