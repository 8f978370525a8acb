-- What a change of a descriptor grants and takes away: which bits some token gains by it, and a token that shows each.
use Rattle.std.specs.Prelude.{◌≡◌, ℕ, ◌<◌, Bool, true, false, List}
use Rattle.std.specs.List.{All, list_any}
use Rattle.sd_sid.specs.Mask.{holds}
use Rattle.sd_sid.specs.Mapping.{MappingValue}
use Rattle.sd_sid.specs.Sid.{SidValue}
use Rattle.sd_check.specs.Check.{is_granted}
use Rattle.sd_check.specs.Token.{TokenValue}
use Rattle.sd_check.specs.declared.token.GroupState.{GroupState}
use Rattle.sd_analysis.specs.Base.{HasBase}
use Rattle.sd_analysis.specs.Sufficient.{Parts, gains, token_of}
use Rattle.sd_analysis.specs.declared.compare_report.Change.{Change}

-- some change has the bit
abbrev pub is_reported : List Change → ℕ → Bool
is_reported changes b = list_any (λ (c : Change). holds c.mask b) changes

-- the mask isn't empty
abbrev pub HasABit : ℕ → Type 0
HasABit m = (b : ℕ) × ((b < 32) × (holds m b ≡ true))

-- the changes are what tokens gain by going from the old descriptor to the new one
pub record AreGains (g : MappingValue) (base : List (SidValue × GroupState)) (old new : Parts)
    (changes : List Change) : Type 0 where
  -- a bit that isn't reported is granted by the new one only where the old one grants it, to every token with the base
  pub complete : (t : TokenValue) (b : ℕ) → HasBase base t → is_reported changes b ≡ false
      → is_granted new.owner new.dacl g t b ≡ true → is_granted old.owner old.dacl g t b ≡ true
  -- a bit that is reported is granted to the witness by the new one and not by the old one
  pub shown : All (λ c. (b : ℕ) → holds c.mask b ≡ true → gains g old new (token_of base c.witness) b ≡ true) changes
  pub some : All (λ c. HasABit c.mask) changes
