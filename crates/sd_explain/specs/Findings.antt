-- What the passes over a list have found for the bits that the list is asked for.
use Rattle.std.specs.Prelude.{◌≡◌, ℕ, ◌<◌, Bool, true, List, Option, Some, slice_index_or, if◌then◌else◌}
use Rattle.sd_sid.specs.Mask.{holds}
use Rattle.sd_sid.specs.Mapping.{MappingValue}
use Rattle.sd_sid.specs.Sid.{SidValue}
use Rattle.sd_acl.specs.declared.ace.Ace.{Ace}
use Rattle.sd_acl.specs.declared.ace.AceKind.{AceKind}
use Rattle.sd_check.specs.Check.{entries_of, implied_of}
use Rattle.sd_check.specs.Token.{TokenValue, is_restricted}
use Rattle.sd_check.specs.declared.grounds.Implied.{Implied}
use Rattle.sd_explain.specs.declared.case.Case.{Case}
use Rattle.sd_explain.specs.Reasons.{finding_of, listed_cause}
use Rattle.sd_explain.specs.declared.reason.Finding.{Finding}
use Rattle.sd_explain.specs.declared.reason.Finding.TheVariants.{NoEntry}
use Rattle.sd_explain.specs.declared.reason.Cause.{Cause}
use Rattle.sd_explain.specs.declared.reason.Cause.TheVariants.{Restricted, Listed}

-- what a pass finds for each of the bits in the list, where there is one
abbrev pub IsFoundIn : MappingValue → (AceKind → SidValue → Bool) → Option (List Ace) → ℕ → List Finding → Type 0
IsFoundIn g applies dacl bits findings =
    (es : List Ace) → dacl ≡ Some es → (b : ℕ) → b < 32 → holds bits b ≡ true
    → slice_index_or findings b NoEntry ≡ finding_of g applies es b

-- the cause of the bit by what one pass finds, or each of the two
abbrev pub listed_by : Bool → List Finding → List Finding → ℕ → Cause
listed_by restricted first second b =
    if restricted then Restricted (slice_index_or first b NoEntry) (slice_index_or second b NoEntry)
    else Listed (slice_index_or first b NoEntry)

-- what the rules say of the case's owner, DACL, mapping and token
abbrev pub of_case : {A : Type 0} → (Option SidValue → Option (List Ace) → MappingValue → TokenValue → A) → Case → A
of_case rule c = rule c.question.owner.now (entries_of c.dacl) c.question.mapping.now c.question.token.now

-- what is granted without an entry
abbrev pub given_to : Case → Implied
given_to = of_case (λ owner dacl g t. implied_of owner dacl t)

-- the cause by what the passes find is what the list says of the bit, where there is a list
abbrev pub IsListed : Case → List Finding → List Finding → ℕ → Type 0
IsListed c first second b = (es : List Ace) → entries_of c.dacl ≡ Some es
    → listed_by (is_restricted c.question.token.now) first second b
    ≡ listed_cause c.question.owner.now es c.question.mapping.now c.question.token.now b
