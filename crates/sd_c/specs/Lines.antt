-- What the calls over the lines of an answer return: how many there are, one as it is printed, and its values.
use Rattle.std.specs.Prelude.{◌≡◌, ◌⊎◌, ℕ, ◌==◌, List, [], length, codes, bytes_eq, slice_get}
use Rattle.std.specs.Prelude.{Option, None, Some, IsSome, option_and_then, option_map, if◌then◌else◌}
use Rattle.sd_sid.specs.Sid.{SidValue}
use Rattle.sd_sid.specs.SidBytes.{bytes_of_sid}
use Rattle.sd_line.specs.Line.{LineOf, value_named}
use Rattle.sd_line.specs.Printed.{printed_line, value_text}
use Rattle.sd_line.specs.declared.line.SidMark.{SidMark}
use Rattle.sd_line.specs.declared.line.SidMark.TheVariants.{Plain, Deny, Restrict}
use Rattle.sd_line.specs.declared.line.Value.{Value}
use Rattle.sd_line.specs.declared.line.Value.TheVariants as values
use Rattle.sd_line.specs.declared.print.Output.TheVariants as outputs
use Rattle.sd_line.specs.declared.spelling.Spelling.TheVariants.{Number}
use Rattle.sd_c.specs.declared.call_answer.Written.{Written}
use Rattle.sd_c.specs.declared.entries.NoPart.{NoPart}
use Rattle.sd_c.specs.declared.entries.NoPart.TheVariants.{Handle as NoHandle, Absent, Memory}
use Rattle.sd_c.specs.declared.handle.Handle.{Handle}
use Rattle.sd_c.specs.declared.handle.kept.Kept.{Kept}
use Rattle.sd_c.specs.declared.handle.kept.Kept.TheVariants as kinds
use Rattle.sd_c.specs.declared.lines.ValueAnswer.{ValueAnswer}
use Rattle.sd_c.specs.Entries.{no_part}
use Rattle.sd_c.specs.Kept.{lines_in}
use Rattle.sd_c.specs.Length.{length_told}
use Rattle.sd_c.specs.Written.{Writes}

-- lines of which this holds are kept
abbrev pub AreKept : (List LineOf → Type 0) → Kept → Type 0
AreKept Holds kept = (ls : List LineOf) × (lines_in kept ≡ Some ls) × Holds ls

-- ---- a value of a line

-- a value as C has it: the number of its kind, its number, and its bytes
pub record ValueOf : Type 0 where
  pub kind : ℕ
  pub number : ℕ
  pub bytes : List ℕ

abbrev pub parts : ℕ → ℕ → List ℕ → ValueOf
parts kind number bytes = record { kind = kind; number = number; bytes = bytes }

-- what a SID is in a token
abbrev pub mark_number : SidMark → ℕ
mark_number Plain = 0
mark_number Deny = 1
mark_number Restrict = 2

abbrev pub marked_parts : SidValue × SidMark → ValueOf
marked_parts one = parts 3 (mark_number one.1) (bytes_of_sid one.0)

abbrev pub word_parts : List ℕ → ValueOf
word_parts word = parts 4 0 word

-- a value that is one: a mask is 1, a number 2, a SID 3; all else is a text, 4
abbrev pub one_value : Value → ValueOf
one_value (values.Mask mask) = parts 1 mask []
one_value (values.Number n) = parts 2 n []
one_value (values.Sid s) = parts 3 0 (bytes_of_sid s)
one_value value = parts 4 0 (value_text Number value)

-- the value at a place: of SIDs and of words one of them, and else the value itself at 0
abbrev pub value_at : ℕ → Value → Option ValueOf
value_at place (values.Sids sids) = option_map marked_parts (slice_get sids place)
value_at place (values.Words words) = option_map word_parts (slice_get words place)
value_at place value = if place == 0 then Some (one_value value) else None

abbrev pub kind_at : ℕ → LineOf → Option ValueOf
kind_at place l = if place == 0 then Some (word_parts l.kind) else None

-- by its name in JSON, where the kind of the line is `answer`
abbrev pub line_value : List ℕ → ℕ → LineOf → Option ValueOf
line_value name place l =
    if bytes_eq name (codes "answer") then kind_at place l else option_and_then (value_at place) (value_named name l)

abbrev pub value_in : ℕ → List ℕ → ℕ → List LineOf → Option ValueOf
value_in index name place ls = option_and_then (line_value name place) (slice_get ls index)

-- ---- why there is none

-- it isn't there, or out of memory where it is
abbrev pub IsLacking : {A : Type 0} → Option A → NoPart → Type 0
IsLacking found NoHandle = ⊥
IsLacking found Absent = found ≡ None
IsLacking found Memory = IsSome found

-- the handle keeps no lines, they have no such part, or out of memory for one that they have
abbrev pub LacksIn : {A : Type 0} → (List LineOf → Option A) → Kept → NoPart → Type 0
LacksIn part kept NoHandle = lines_in kept ≡ None
LacksIn part kept why = AreKept (λ ls. IsLacking (part ls) why) kept

-- ---- the calls

-- the number of lines
abbrev pub count_in : Kept → Written
count_in (kinds.Lines ls) = length_told (length ls.items)
count_in _ = no_part NoHandle

abbrev pub TellsCount : Handle → Written → Type 0
TellsCount handle told =
    ((handle.is_there ≡ 1) × (told ≡ count_in handle.seal.kept))
    ⊎ ((handle.is_there ≡ 0) × (told ≡ no_part NoHandle))

-- the line as it is printed, with its end: as a text, or as an object of JSON
abbrev pub line_printed : ℕ → LineOf → List ℕ
line_printed is_json l =
    printed_line (record { spelling = Number; output = if is_json == 0 then outputs.Text else outputs.Json }) None l

abbrev pub printed_in : ℕ → ℕ → List LineOf → Option (List ℕ)
printed_in index is_json ls = option_map (line_printed is_json) (slice_get ls index)

-- it is written, or the buffer is too small for it; or nothing is, for a reason that holds
abbrev pub PrintsLine : ℕ → ℕ → Handle → List ℕ → List ℕ → Written → Type 0
PrintsLine index is_json handle old new told =
    ((bytes : List ℕ) × (handle.is_there ≡ 1)
    × AreKept (λ ls. printed_in index is_json ls ≡ Some bytes) handle.seal.kept × Writes bytes old new told)
    ⊎ ((why : NoPart) × (handle.is_there ≡ 1) × LacksIn (printed_in index is_json) handle.seal.kept why × (new ≡ old)
    × (told ≡ no_part why))
    ⊎ ((handle.is_there ≡ 0) × (new ≡ old) × (told ≡ no_part NoHandle))

abbrev pub no_value : NoPart → ValueAnswer
no_value why = record { written = no_part why; kind = 0; number = 0 }

-- a value is returned, and its bytes written, or the buffer is too small for them; or nothing is, for a reason that
-- holds
abbrev pub ReturnsValue : ℕ → List ℕ → ℕ → Handle → List ℕ → List ℕ → ValueAnswer → Type 0
ReturnsValue index name place handle old new told =
    ((found : ValueOf) × (handle.is_there ≡ 1)
    × AreKept (λ ls. value_in index name place ls ≡ Some found) handle.seal.kept
    × Writes found.bytes old new told.written × (told.kind ≡ found.kind) × (told.number ≡ found.number))
    ⊎ ((why : NoPart) × (handle.is_there ≡ 1) × LacksIn (value_in index name place) handle.seal.kept why × (new ≡ old)
    × (told ≡ no_value why))
    ⊎ ((handle.is_there ≡ 0) × (new ≡ old) × (told ≡ no_value NoHandle))
