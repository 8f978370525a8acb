-- Masks in words, by the names of a kind of object.
use Rattle.std.specs.Prelude.{◌≡◌, ◌⊎◌, ℕ, ◌==◌, List, Option, Some, None, Result, Ok, Err, if◌then◌else◌}
use Rattle.sd_sid.specs.Mapping.{MappingValue, mapped}
use Rattle.sd_text.specs.declared.fault.TextError.TheVariants as errors
use Rattle.sd_line.specs.Mask.{IsMaskErrorIn, IsMaskIn}
use Rattle.sd_line.specs.Spelling.{spelled}
use Rattle.sd_line.specs.declared.names.ObjectKind.TheVariants.{File, Key, Service, Process}
use Rattle.sd_line.specs.declared.names.ObjectKind.TheVariants.{Folder, Directory, Printer, Section, Token, Manager}
use Rattle.sd_line.specs.declared.spelling.Spelling.{Spelling}
use Rattle.sd_line.specs.declared.spelling.Spelling.TheVariants.{Names}
use Rattle.sd_c.specs.CallAnswer.{not_read}
use Rattle.sd_c.specs.Written.{IsNotUtf8, refused}
use Rattle.sd_c.specs.declared.masks.MaskAnswer.{MaskAnswer}
use Rattle.sd_c.specs.declared.refusal.Refusal.{Refusal}
use Rattle.sd_c.specs.declared.refusal.Refusal.TheVariants.{Memory, Utf8, Text, NoKind}
use Rattle.sd_c.specs.declared.stop.NotRead.{NotRead}

-- the names of the kind of object with this number; with 0 those that every object has
abbrev pub names_of : ℕ → Option Spelling
names_of kind =
    if kind == 0 then Some (Names None)
    else if kind == 1 then Some (Names (Some File))
    else if kind == 2 then Some (Names (Some Key))
    else if kind == 3 then Some (Names (Some Service))
    else if kind == 4 then Some (Names (Some Process))
    else if kind == 5 then Some (Names (Some Folder))
    else if kind == 6 then Some (Names (Some Directory))
    else if kind == 7 then Some (Names (Some Printer))
    else if kind == 8 then Some (Names (Some Section))
    else if kind == 9 then Some (Names (Some Token))
    else if kind == 10 then Some (Names (Some Manager))
    else None

abbrev pub mask_given : ℕ → MaskAnswer
mask_given mask = record { status = 0; fault = 0; place = 0; mask = mask }

abbrev pub no_mask : Refusal → MaskAnswer
no_mask why =
    record { status = (refused why).status; fault = (refused why).fault; place = (refused why).place; mask = 0 }

-- the mask with its generic rights mapped, unless the mapping is none
abbrev pub mask_mapped : Result MappingValue NotRead → ℕ → MaskAnswer
mask_mapped (Ok g) mask = mask_given (mapped g mask)
mask_mapped (Err why) mask = record { status = (not_read why).status; fault = 0; place = 0; mask = 0 }

-- the text of a mask is refused, never out of memory
abbrev pub RefusesMask : Option Spelling → List ℕ → Refusal → Type 0
RefusesMask None text why = why ≡ NoKind
RefusesMask (Some names) text (Utf8 place) = IsNotUtf8 text place
RefusesMask (Some names) text (Text fault place) = IsMaskErrorIn names text (errors.Fault fault place)
RefusesMask (Some names) text _ = ⊥

-- the mask that the text is, or a reason that holds
abbrev pub AnswersMask : ℕ → List ℕ → MaskAnswer → Type 0
AnswersMask kind text answer =
    ((names : Spelling) × (mask : ℕ) × (names_of kind ≡ Some names) × IsMaskIn names text mask
    × (answer ≡ mask_given mask))
    ⊎ ((why : Refusal) × RefusesMask (names_of kind) text why × (answer ≡ no_mask why))

-- the mask by the names of the kind
abbrev pub IsNamesOf : ℕ → ℕ → List ℕ → Type 0
IsNamesOf kind mask text = (names : Spelling) × (names_of kind ≡ Some names) × (text ≡ spelled names mask)

-- there is no such kind, or memory is wanting
abbrev pub RefusesNames : ℕ → Refusal → Type 0
RefusesNames kind Memory = Unit {0}
RefusesNames kind NoKind = names_of kind ≡ None
RefusesNames kind _ = ⊥
