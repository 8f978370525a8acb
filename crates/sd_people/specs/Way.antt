-- What is granted to a user, and the way by which it belongs to the group that is granted it.
use Rattle.std.specs.Prelude.{◌≡◌, ◌⊎◌, ◌-◌, nat_lt, true, false, List, [], ◌∷◌, ◌++◌, length, map, take}
use Rattle.std.specs.Prelude.{Option, Some, None, codes, if◌then◌else◌}
use Rattle.std.specs.List.{list_any}
use Rattle.sd_sid.specs.Sid.{SidValue, same_sid}
use Rattle.sd_line.specs.Line.{LineOf, is_of, part_of, value_named, with_tail}
use Rattle.sd_line.specs.declared.line.SidMark.{SidMark}
use Rattle.sd_line.specs.declared.line.SidMark.TheVariants.{Plain}
use Rattle.sd_line.specs.declared.line.Value.{Value}
use Rattle.sd_line.specs.declared.line.Value.TheVariants as values
use Rattle.sd_accounts.specs.Groups.{Belongs}
use Rattle.sd_accounts.specs.Row.{AccountRow}
use Rattle.sd_accounts.specs.Way.{IsWay}
use Rattle.sd_people.specs.Lines.{Told, User, person}
use Rattle.sd_people.specs.declared.forms.TheConstants.{BY_WAY_OF, PERSON}

-- the SID as which the line says that the user is granted something
abbrev pub sid_in : Option Value → Option SidValue
sid_in (Some (values.Sid sid)) = Some sid
sid_in value = None

abbrev pub holder : LineOf → Option SidValue
holder l = sid_in (value_named (codes "sid") l)

-- a way from the starts to it; none where it is one of them, or where they don't belong to it
abbrev pub IsWayTo : List AccountRow → List SidValue → SidValue → Option (List SidValue) → Type 0
IsWayTo rows starts sid (Some way) = (list_any (same_sid sid) starts ≡ false) × IsWay rows starts sid way
IsWayTo rows starts sid None = (list_any (same_sid sid) starts ≡ true) ⊎ (Belongs rows starts sid → ⊥)

-- the groups before the last
abbrev pub before_last : List SidValue → List SidValue
before_last way = take (length way - 1) way

abbrev pub plain_sids : List SidValue → List (SidValue × SidMark)
plain_sids sids = map (λ sid. (sid, Plain)) sids

-- the line with the groups by which the way leads, where it is of two or more
abbrev pub with_way : Option (List SidValue) → LineOf → LineOf
with_way None l = l
with_way (Some way) l =
    if nat_lt (length way) 2 then l
    else with_tail (part_of BY_WAY_OF.now (values.Sids (plain_sids (before_last way)) ∷ [])) l

abbrev pub IsWithWay : List AccountRow → List SidValue → Option SidValue → LineOf → LineOf → Type 0
IsWithWay rows starts None l shown = shown ≡ l
IsWithWay rows starts (Some sid) l shown =
    (way : Option (List SidValue)) × IsWayTo rows starts sid way × (shown ≡ with_way way l)

-- of these lines those of what is granted, each with the way to whom it is granted, and the user
pub data AreGranted (rows : List AccountRow) (starts : List SidValue) (user : User)
    : List LineOf → List Told → Type 0 where
  nothing : AreGranted rows starts user [] []
  granted : (lines : List LineOf) (told : List Told) (line shown : LineOf) → AreGranted rows starts user lines told
      → is_of (codes "granted") line ≡ true → IsWithWay rows starts (holder line) line shown
      → AreGranted rows starts user (lines ++ line ∷ []) (told ++ (shown, person PERSON.now user) ∷ [])
  other : (lines : List LineOf) (told : List Told) (line : LineOf) → AreGranted rows starts user lines told
      → is_of (codes "granted") line ≡ false → AreGranted rows starts user (lines ++ line ∷ []) told
