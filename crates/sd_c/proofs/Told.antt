-- The answer of an explanation, from that of each of its parts.
use Rattle.sd_c.proofs.Cited.{CheckAnswer, Explained, NotRead, PartAnswer, Reason, RequestValue, Verdict, explained, parts_of, reason_in, reasons_on, verdict_given, verdict_of}
use Rattle.std.specs.Prelude.{◌≡◌, refl, ℕ, List, Option, Result, Ok}

pub told :
    (read : Result RequestValue NotRead) (r : RequestValue) (asked : ℕ) (reasons : List (Option Reason)) (v : Verdict)
    (answer : CheckAnswer) (parts : List PartAnswer)
    → read ≡ Ok r → reasons ≡ reasons_on r asked → v ≡ verdict_of r asked → answer ≡ verdict_given v → parts ≡ parts_of (reason_in reasons)
    → ◌≡◌ {A = Explained} (record { answer = answer; parts = parts }) (explained read asked)
told read r asked reasons v answer parts read_is reasons_are v_is answer_is parts_are = rw (answer_is, parts_are, v_is, reasons_are, read_is) refl
