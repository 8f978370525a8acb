-- What follows from the rules, over all descriptors, tokens and requests.
use Rattle.std.specs.Prelude.{◌≡◌, ℕ, false, not, ◌&&◌, List, Option}
use Rattle.sd_sid.specs.Mapping.{MappingValue}
use Rattle.sd_sid.specs.Mask.{holds, mask_of}
use Rattle.sd_sid.specs.Sid.{SidValue}
use Rattle.sd_acl.specs.declared.ace.Ace.{Ace}
use Rattle.sd_check.specs.Check.{verdict}
use Rattle.sd_check.specs.Token.{TokenValue}
use Rattle.sd_check.specs.declared.verdict.Verdict.TheVariants.{Granted}
use Rattle.sd_label.specs.Under.{verdict_under}

-- a label that takes nothing changes no verdict
abbrev pub NothingTakenChangesNothing : Type 0
NothingTakenChangesNothing =
    (owner : Option SidValue) (dacl : Option (List Ace)) (g : MappingValue) (t : TokenValue) (r : ℕ)
    → verdict_under 0 owner dacl g t r ≡ verdict owner dacl g t r

-- what is granted under a label is what is granted without it, less what the label takes
abbrev pub LabelOnlyTakesAway : Type 0
LabelOnlyTakesAway =
    (taken : ℕ) (owner : Option SidValue) (dacl : Option (List Ace)) (g : MappingValue) (t : TokenValue) (r m : ℕ)
    → verdict_under taken owner dacl g t r ≡ Granted m
    → (more : ℕ) × ((verdict owner dacl g t r ≡ Granted more)
    × (m ≡ mask_of (λ b. holds more b && not (holds taken b)) 32))

-- of a request without MAXIMUM_ALLOWED, place 25, that is as much
abbrev pub LabelGrantsNoRequest : Type 0
LabelGrantsNoRequest =
    (taken : ℕ) (owner : Option SidValue) (dacl : Option (List Ace)) (g : MappingValue) (t : TokenValue) (r m : ℕ)
    → holds r 25 ≡ false
    → verdict_under taken owner dacl g t r ≡ Granted m → verdict owner dacl g t r ≡ Granted m
