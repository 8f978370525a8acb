-- What the reasons of all places come to: the verdict, and the parts of bits with one reason.
use Rattle.std.specs.Prelude.{ℕ, Bool, false, not, ◌==◌, if◌then◌else◌, List, Option, Some, None, slice_index_or}
use Rattle.std.specs.Option.{option_map_or}
use Rattle.sd_sid.specs.Mask.{mask_of}
use Rattle.sd_check.specs.declared.verdict.Verdict.{Verdict}
use Rattle.sd_check.specs.declared.verdict.Verdict.TheVariants.{Granted, Denied, Reserved, EmptyRequest}
use Rattle.sd_explain.specs.Reasons.{belongs}
use Rattle.sd_explain.specs.declared.explanation.Part.{Part}
use Rattle.sd_explain.specs.declared.reason.Reason.{Reason}
use Rattle.sd_explain.specs.declared.reason.Share.{Share}
use Rattle.sd_explain.specs.declared.reason.Share.TheVariants as shares

-- the reason of the place, where it has one
abbrev pub reason_in : List (Option Reason) → ℕ → Option Reason
reason_in reasons b = slice_index_or reasons b None

abbrev pub is_of_share : Share → Option Reason → Bool
is_of_share share reason = option_map_or (belongs share) reason false

-- the bits of the share among the places below n
abbrev pub bits_of : Share → (ℕ → Option Reason) → ℕ → ℕ
bits_of share reasons n = mask_of (λ b. is_of_share share (reasons b)) n

-- the verdict, from the reasons alone: reserved bits come first, then requested bits that are missing, then what is
-- granted; where that is nothing, MAXIMUM_ALLOWED itself is missing, or nothing was requested
abbrev pub told_verdict : (ℕ → Option Reason) → Verdict
told_verdict reasons =
    if not (bits_of shares.Reserved reasons 32 == 0) then Reserved (bits_of shares.Reserved reasons 32)
    else if not (bits_of shares.Missing reasons 32 == 0) then Denied (bits_of shares.Missing reasons 32)
    else if not (bits_of shares.Granted reasons 32 == 0) then Granted (bits_of shares.Granted reasons 32)
    else if not (bits_of shares.Unnamed reasons 32 == 0) then Denied 0x02000000
    else EmptyRequest

-- the part whose least bit is the place: all bits of its cause
abbrev pub part_of : (ℕ → Option Reason) → ℕ → Option Reason → Option Part
part_of reasons b None = None
part_of reasons b (Some reason) =
    if bits_of (shares.Because reason.cause) reasons b == 0
    then Some (record { mask = bits_of (shares.Because reason.cause) reasons 32; cause = reason.cause })
    else None

abbrev pub part_at : (ℕ → Option Reason) → ℕ → Option Part
part_at reasons b = part_of reasons b (reasons b)
