-- The answers of the calls that write into the caller's buffer.
use Rattle.std.specs.Prelude.{◌≡◌, ◌⊎◌, ℕ, ◌-◌, nat_lt, true, List, ◌++◌, length, drop, Ok, Err, if◌then◌else◌}
use Rattle.std.specs.Str.{IsUtf8, IsValidUpTo}
use Rattle.sd_sid.specs.Sid.{SidValue, sid_error_number}
use Rattle.sd_sid.specs.SidBytes.{sid_reading, bytes_of_sid}
use Rattle.sd_acl.specs.Descriptor.{DescriptorValue}
use Rattle.sd_text.specs.Canon.{canon, full_canon, sid_canon}
use Rattle.sd_text.specs.Fault.{number_of}
use Rattle.sd_text.specs.Grammar.{Grammar, Spells, SpellsOne, HasFault}
use Rattle.sd_text.specs.Sddl.{sddl}
use Rattle.sd_text.specs.Sid.{sid_text}
use Rattle.sd_wire.specs.Fault.{wire_fault_number}
use Rattle.sd_wire.specs.Reading.{descriptor_read}
use Rattle.sd_wire.specs.Writing.{wire_of}
use Rattle.sd_text.specs.declared.fault.TextError.{TextError}
use Rattle.sd_text.specs.declared.fault.TextError.TheVariants as errors
use Rattle.sd_c.specs.declared.call_answer.Written.{Written}
use Rattle.sd_c.specs.declared.refusal.Refusal.{Refusal}
use Rattle.sd_whole.specs.Plain.{odd_number}
use Rattle.sd_whole_text.specs.NoText.{no_text_number}
use Rattle.sd_whole_text.specs.declared.no_text.NoText.{NoText as Reason}
use Rattle.sd_whole_text.specs.declared.no_text.NoText.TheVariants as reasons
use Rattle.sd_c.specs.declared.refusal.Refusal.TheVariants.{Memory, Utf8, Text, Wire, Sid, NoDomain, Lacking}
use Rattle.sd_c.specs.declared.refusal.Refusal.TheVariants.{NoText, NotPlain, NoKind}

-- ---- the answer and the buffer

-- the bytes are for the buffer: status 0, or 2 if it is too small
abbrev pub written : List ℕ → List ℕ → Written
written bytes room =
    record {
      status = (if nat_lt (length room) (length bytes) then 2 else 0);
      fault = 0;
      place = 0;
      length = length bytes;
    }

-- they are at the front of the buffer; if it is too small it is unchanged
abbrev pub room_with : {A : Type 0} → List A → List A → List A
room_with values room = if nat_lt (length room) (length values) then room else values ++ drop (length values) room

-- nothing is written: why, the fault's number, and its offset in a text or the index of an entry
abbrev pub not_written : ℕ → ℕ → ℕ → Written
not_written status fault place = record { status = status; fault = fault; place = place; length = 0 }

-- the index of the entry that has no text, which the reason counts from 1
abbrev pub index_of : Reason → ℕ
index_of reasons.ResourceManager = 0
index_of reasons.Control = 0
index_of (reasons.Keywords acl) = 0
index_of (reasons.Opaque acl entry) = entry - 1
index_of (reasons.Kind acl entry) = entry - 1
index_of (reasons.Data acl entry) = entry - 1

abbrev pub refused : Refusal → Written
refused Memory = not_written 1 0 0
refused (Utf8 place) = not_written 3 0 place
refused (Text fault place) = not_written 4 (number_of fault) place
refused (Wire fault) = not_written 5 (wire_fault_number fault) 0
refused (Sid fault) = not_written 6 (sid_error_number fault) 0
refused NoDomain = not_written 17 0 0
refused Lacking = not_written 18 0 0
refused (NoText why) = not_written 20 (no_text_number why) (index_of why)
refused (NotPlain odd) = not_written 21 (odd_number odd.kind) (odd.entry - 1)
refused NoKind = not_written 28 0 0

-- the call writes these bytes, or returns that the buffer is too small for them
abbrev pub Writes : List ℕ → List ℕ → List ℕ → Written → Type 0
Writes bytes old new answer = (answer ≡ written bytes old) × (new ≡ room_with bytes old)

-- the call refuses, and writes nothing
abbrev pub Refuses : Refusal → List ℕ → List ℕ → Written → Type 0
Refuses why old new answer = (answer ≡ refused why) × (new ≡ old)

-- the call writes bytes that are right, or refuses for a reason that holds
abbrev pub Answers : (List ℕ → Type 0) → (Refusal → Type 0) → List ℕ → List ℕ → Written → Type 0
Answers Right Holds old new answer =
    ((bytes : List ℕ) × Right bytes × Writes bytes old new answer)
    ⊎ ((why : Refusal) × Holds why × Refuses why old new answer)

-- ---- reasons

-- the text isn't UTF-8 from this byte on
abbrev pub IsNotUtf8 : List ℕ → ℕ → Type 0
IsNotUtf8 text place = ¬ (IsUtf8 text) × IsValidUpTo text place

-- a text of the grammar is refused: it isn't UTF-8 from there on, or its fault is there. Memory is wanting only for a
-- text that is valid
abbrev pub RefusesText : {A : Type 0} → Grammar A → List ℕ → Refusal → Type 0
RefusesText grammar text Memory = SpellsOne (λ value. true) grammar text
RefusesText grammar text (Utf8 place) = IsNotUtf8 text place
RefusesText grammar text (Text fault place) = HasFault grammar text fault place
RefusesText grammar text _ = ⊥

-- bytes are refused: they hold no descriptor
abbrev pub RefusesBytes : List ℕ → Refusal → Type 0
RefusesBytes bytes Memory = Unit {0}
RefusesBytes bytes (Wire fault) = descriptor_read bytes ≡ Err fault
RefusesBytes bytes _ = ⊥

-- bytes are refused: they don't start with a SID
abbrev pub RefusesSid : List ℕ → Refusal → Type 0
RefusesSid bytes Memory = Unit {0}
RefusesSid bytes (Sid fault) = sid_reading bytes ≡ Err fault
RefusesSid bytes _ = ⊥

-- the reason for an error of a text
abbrev pub text_refusal : TextError → Refusal
text_refusal (errors.Fault fault place) = Text fault place
text_refusal errors.Memory = Memory

-- ---- what is written

-- the self-relative form of the descriptor that the text spells
abbrev pub IsFormOf : List ℕ → List ℕ → Type 0
IsFormOf text bytes = (d : DescriptorValue) × Spells sddl text d × (bytes ≡ wire_of d)

-- the canonical text of the descriptor that the text spells
abbrev pub IsCanonOf : List ℕ → List ℕ → Type 0
IsCanonOf text printed = (d : DescriptorValue) × Spells sddl text d × (printed ≡ canon d)

-- the canonical text of the descriptor that the bytes hold
abbrev pub IsTextOf : List ℕ → List ℕ → Type 0
IsTextOf bytes printed = (d : DescriptorValue) × (descriptor_read bytes ≡ Ok d) × (printed ≡ canon d)

-- the bytes of the SID that the text spells
abbrev pub IsSidOf : List ℕ → List ℕ → Type 0
IsSidOf text bytes = (s : SidValue) × Spells sid_text text s × (bytes ≡ bytes_of_sid s)

-- the canonical text of the SID at the front of the bytes
abbrev pub IsSidTextOf : List ℕ → List ℕ → Type 0
IsSidTextOf bytes printed = (s : SidValue) × (n : ℕ) × (sid_reading bytes ≡ Ok (s, n)) × (printed ≡ sid_canon s)

-- the text in full, without aliases, of the SID at the front of the bytes
abbrev pub IsFullSidTextOf : List ℕ → List ℕ → Type 0
IsFullSidTextOf bytes printed = (s : SidValue) × (n : ℕ) × (sid_reading bytes ≡ Ok (s, n)) × (printed ≡ full_canon s)
