-- What a comparison without a line says: no token gains or loses a right.
use Rattle.std.specs.Prelude.{◌≡◌, ℕ, Bool, true, []}
use Rattle.sd_sid.specs.Mapping.{MappingValue}
use Rattle.sd_check.specs.Check.{is_granted}
use Rattle.sd_check.specs.Token.{TokenValue}
use Rattle.sd_analysis.specs.Descendants.{descendant_parts, list_of}
use Rattle.sd_analysis.specs.Sufficient.{Parts, entries_or_none}
use Rattle.sd_analysis.specs.declared.descendants.Descendant.{Descendant}
use Rattle.sd_review.specs.Compared.{IsOf, ReviewParts}
use Rattle.sd_review.specs.Lines.{lines}
use Rattle.sd_review.specs.declared.compared.Compared.{Compared}

-- one grants each token what the other does
abbrev pub AreGrantedAlike : MappingValue → Parts → Parts → Type 0
AreGrantedAlike g old new =
    (t : TokenValue) (b : ℕ) → is_granted old.owner old.dacl g t b ≡ is_granted new.owner new.dacl g t b

-- of the node itself
abbrev pub SilentNodeGrantsTheSame : Type 0
SilentNodeGrantsTheSame =
    (g : MappingValue) (is_container : Bool) (before after : ReviewParts) (c : Compared)
    → IsOf g is_container before after c → lines c ≡ [] → AreGrantedAlike g before.own after.own

-- and of all that is made in it, by the list that this inherits of the node's. CREATOR OWNER and CREATOR GROUP stand
-- for its owner and group
abbrev pub SilentContainerPassesDownTheSame : Type 0
SilentContainerPassesDownTheSame =
    (g : MappingValue) (before after : ReviewParts) (c : Compared) (d : Descendant)
    → IsOf g true before after c → lines c ≡ []
    → AreGrantedAlike g (descendant_parts (list_of g d (entries_or_none before.own.dacl)))
    (descendant_parts (list_of g d (entries_or_none after.own.dacl)))
