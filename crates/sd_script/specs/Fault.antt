-- What is wrong with a line, and the line of its answer. Of several faults the first is reported.
use Rattle.std.specs.Prelude.{◌≡◌, ⊤, ◌⊎◌, Result, Ok, Err, codes}
use Rattle.sd_answer.specs.VerdictLines.{entry_fault_line, fault_line, sddl_fault_line}
use Rattle.sd_line.specs.Line.{LineOf}
use Rattle.sd_script.specs.declared.fault.LineFault.{LineFault}
use Rattle.sd_script.specs.declared.fault.LineFault.TheVariants.{Utf8, Words, Open, Number, Path, Sid, Sddl, Parts}
use Rattle.sd_script.specs.declared.fault.LineFault.TheVariants.{Entry, Mask, Token}
use Rattle.sd_script.specs.declared.fault.LineStop.{LineStop}
use Rattle.sd_script.specs.declared.fault.LineStop.TheVariants.{Fault, Memory}
use Rattle.sd_whole.specs.Plain.{odd_name}

abbrev pub line_of_fault : LineFault → LineOf
line_of_fault Utf8 = fault_line (codes "utf8")
line_of_fault Words = fault_line (codes "words")
line_of_fault Open = fault_line (codes "open")
line_of_fault Number = fault_line (codes "number")
line_of_fault Path = fault_line (codes "path")
line_of_fault Sid = fault_line (codes "sid")
line_of_fault (Sddl fault place) = sddl_fault_line fault place
line_of_fault (Entry odd) = entry_fault_line odd.entry (odd_name odd.kind)
line_of_fault Parts = fault_line (codes "parts")
line_of_fault Mask = fault_line (codes "mask")
line_of_fault Token = fault_line (codes "token")

-- what a part of a line is parsed to: a value, or the first thing that is wrong with it
abbrev pub Reading : Type 0 → Type 1
Reading A = Result A LineFault → Type 0

-- a value of which this holds, or this fault where there is none
abbrev pub SomeOr : {A : Type 0} → (A → Type 0) → LineFault → Reading A
SomeOr P fault (Ok a) = P a
SomeOr {A = A} P fault (Err told) = ((a : A) → P a → ⊥) × (told ≡ fault)

-- just this value
abbrev pub Just : {A : Type 0} → A → Reading A
Just a read = read ≡ Ok a

-- first this part, and then what follows it
abbrev pub Then : {A B : Type 0} → Reading A → (A → Reading B) → Reading B
Then {A = A} first next read =
    ((a : A) × first (Ok a) × next a read)
    ⊎ ((fault : LineFault) × first (Err fault) × (read ≡ Err fault))

-- what a parser returns that may be out of memory
abbrev pub UnlessMemory : {A : Type 0} → Reading A → Result A LineStop → Type 0
UnlessMemory reading (Ok a) = reading (Ok a)
UnlessMemory reading (Err (Fault fault)) = reading (Err fault)
UnlessMemory reading (Err Memory) = ⊤
