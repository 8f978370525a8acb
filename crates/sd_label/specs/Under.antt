-- What a check answers where a label takes rights, whatever the DACL and the privileges say ([MS-DTYP] 2.5.3.3): the
-- rules of the check, with fewer bits granted.
use Rattle.std.specs.Prelude.{ℕ, Bool, not, ◌&&◌, if◌then◌else◌, List, Option, Some, None, map}
use Rattle.std.specs.List.{range_with_len}
use Rattle.sd_sid.specs.Mapping.{MappingValue}
use Rattle.sd_sid.specs.Mask.{holds, mask_of}
use Rattle.sd_sid.specs.Sid.{SidValue}
use Rattle.sd_acl.specs.declared.ace.Ace.{Ace}
use Rattle.sd_check.specs.Check.{is_granted, judged, most}
use Rattle.sd_check.specs.Token.{TokenValue}
use Rattle.sd_check.specs.declared.verdict.Verdict.{Verdict}
use Rattle.sd_explain.specs.Parts.{reason_in}
use Rattle.sd_explain.specs.Reasons.{same_cause}
use Rattle.sd_explain.specs.declared.reason.Cause.TheVariants.{Label, Reserved}
use Rattle.sd_explain.specs.declared.reason.Reason.{Reason}

-- ---- the verdict

-- a bit is granted if the check grants it, and the label doesn't take it
abbrev pub granted_under : ℕ → (ℕ → Bool) → ℕ → Bool
granted_under taken is_granted b = is_granted b && not (holds taken b)

-- what MAXIMUM_ALLOWED takes in, without what the label takes
abbrev pub most_under : ℕ → ℕ → ℕ
most_under taken most = mask_of (λ b. holds most b && not (holds taken b)) 32

-- the verdict on a request
abbrev pub verdict_under : ℕ → Option SidValue → Option (List Ace) → MappingValue → TokenValue → ℕ → Verdict
verdict_under taken owner dacl g t r =
    judged g (granted_under taken (is_granted owner dacl g t)) (most_under taken (most owner dacl g t)) r

-- ---- the reasons

-- a bit that the label takes is denied by it, unless it is reserved, and has no answer
abbrev pub denied_by_label : Bool → Reason → Reason
denied_by_label takes reason =
    if takes && not (same_cause reason.cause Reserved) then record { named = reason.named; cause = Label }
    else reason

-- the reason of the place, from what it is without the label
abbrev pub reason_under : ℕ → ℕ → Option Reason → Option Reason
reason_under taken b None = None
reason_under taken b (Some reason) = Some (denied_by_label (holds taken b) reason)

-- the reasons of all places, 0 to 31
abbrev pub reasons_under : ℕ → List (Option Reason) → List (Option Reason)
reasons_under taken reasons = map (λ b. reason_under taken b (reason_in reasons b)) (range_with_len 0 32)
