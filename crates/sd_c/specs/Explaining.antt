-- The answer of the call that explains a verdict, as numbers.
use Rattle.std.specs.Prelude.{ℕ, List, map, Option, Some, None, Result, Ok, Err, if◌then◌else◌}
use Rattle.std.specs.List.{range_with_len}
use Rattle.sd_check.specs.Check.{dacl_entries}
use Rattle.sd_explain.specs.Reasons.{grants, reasons_of}
use Rattle.sd_explain.specs.Parts.{part_at, reason_in}
use Rattle.sd_explain.specs.declared.explanation.Part.{Part}
use Rattle.sd_explain.specs.declared.reason.Cause.{Cause}
use Rattle.sd_explain.specs.declared.reason.Cause.TheVariants.{NoList, Listed, Restricted, Owner, TakeOwnership}
use Rattle.sd_explain.specs.declared.reason.Cause.TheVariants.{Security, NoSecurity, BeyondAll, Reserved, Label}
use Rattle.sd_explain.specs.declared.reason.Finding.{Finding}
use Rattle.sd_explain.specs.declared.reason.Finding.TheVariants.{Allowed, Denied, NoEntry}
use Rattle.sd_explain.specs.declared.reason.Reason.{Reason}
use Rattle.sd_c.specs.declared.call_answer.CheckAnswer.{CheckAnswer}
use Rattle.sd_c.specs.declared.explaining.Explained.{Explained}
use Rattle.sd_c.specs.declared.explaining.FindingAnswer.{FindingAnswer}
use Rattle.sd_c.specs.declared.explaining.PartAnswer.{PartAnswer}
use Rattle.sd_c.specs.declared.stop.NotRead.{NotRead}
use Rattle.sd_c.specs.CallAnswer.{check_answer}
use Rattle.sd_c.specs.Request.{RequestValue}

-- ---- a part

-- what a pass found: an entry that allows, one that denies, or none
abbrev pub finding_told : Finding → FindingAnswer
finding_told (Allowed place) = record { entry = place; kind = 1 }
finding_told (Denied place) = record { entry = place; kind = 2 }
finding_told NoEntry = record { entry = 0; kind = 3 }

abbrev pub no_pass : FindingAnswer
no_pass = record { entry = 0; kind = 0 }

-- what each of the two passes found, where the list is the cause
abbrev pub findings_of : Cause → FindingAnswer × FindingAnswer
findings_of (Listed finding) = (finding_told finding, no_pass)
findings_of (Restricted first second) = (finding_told first, finding_told second)
findings_of _ = (no_pass, no_pass)

abbrev pub cause_number : Cause → ℕ
cause_number NoList = 1
cause_number (Listed finding) = 2
cause_number (Restricted first second) = 2
cause_number Owner = 3
cause_number TakeOwnership = 4
cause_number Security = 5
cause_number NoSecurity = 6
cause_number BeyondAll = 7
cause_number Reserved = 8
cause_number Label = 9

abbrev pub no_part : PartAnswer
no_part = record { mask = 0; cause = 0; granted = 0; first = no_pass; second = no_pass }

abbrev pub part_told : Option Part → PartAnswer
part_told None = no_part
part_told (Some part) =
    record {
      mask = part.mask;
      cause = cause_number part.cause;
      granted = if grants part.cause then 1 else 0;
      first = (findings_of part.cause).0;
      second = (findings_of part.cause).1;
    }

-- ---- all parts

-- at each index the part whose lowest bit it is
abbrev pub parts_of : (ℕ → Option Reason) → List PartAnswer
parts_of reasons = map (λ b. part_told (part_at reasons b)) (range_with_len 0 32)

-- the reasons of a request
abbrev pub reasons_on : RequestValue → ℕ → List (Option Reason)
reasons_on r asked = reasons_of r.descriptor.owner (dacl_entries r.descriptor.dacl) r.mapping r.token asked

-- an answer without parts
abbrev pub unexplained : CheckAnswer → Explained
unexplained told = record { answer = told; parts = map (λ b. no_part) (range_with_len 0 32) }

abbrev pub parts_read : Result RequestValue NotRead → ℕ → List PartAnswer
parts_read (Ok r) asked = parts_of (reason_in (reasons_on r asked))
parts_read (Err why) asked = map (λ b. no_part) (range_with_len 0 32)

-- the check's answer, and the parts of the request
abbrev pub explained : Result RequestValue NotRead → ℕ → Explained
explained read asked = record { answer = check_answer read asked; parts = parts_read read asked }
