-- SIDs within the data of entries: in conditions, claims, and bodies without a layout ([MS-DTYP] 2.4.4).
use Rattle.std.specs.Prelude.{ℕ, ◌+◌, Bool, false, ◌||◌, List, [], ◌∷◌, position, option_map, Option, None}
use Rattle.std.specs.Prelude.{Result, Ok, Err, codes, if◌then◌else◌}
use Rattle.std.specs.Option.{option_or}
use Rattle.sd_sid.specs.Sid.{SidValue, same_sid}
use Rattle.sd_sid.specs.SidBytes.{sid_reading}
use Rattle.sd_sid.specs.declared.sid.SidError.{SidError}
use Rattle.sd_text.specs.Alias.{in_domain}
use Rattle.sd_text.specs.Finding.{Found, find}
use Rattle.sd_text.specs.Grammar.{begins}
use Rattle.sd_text.specs.Sid.{sid}
use Rattle.sd_acl.specs.declared.descriptor.DaclOf.TheVariants.{Absent, Null, List as Entries}
use Rattle.sd_whole.specs.declared.ace.WholeAce.{WholeAce}
use Rattle.sd_whole.specs.declared.ace.WholeAce.TheVariants.{Plain, Typed, Opaque}
use Rattle.sd_whole.specs.declared.descriptor.WholeDescriptor.{WholeDescriptor}
use Rattle.sd_whole.specs.Reading.{WholeAcl}
use Rattle.sd_whole_text.specs.declared.no_text.AclKind.{AclKind}
use Rattle.sd_whole_text.specs.declared.no_text.AclKind.TheVariants.{Dacl, Sacl}
use Rattle.sd_change.specs.declared.inside.EntryPlace.{EntryPlace}

-- what is read at the front of bytes is the SID: its binary form (2.4.2.2), or its text in full (2.4.2.1)
abbrev pub is_read : SidValue → Result (SidValue × ℕ) SidError → Bool
is_read one (Ok x) = same_sid one x.0
is_read one (Err e) = false

abbrev pub is_found : SidValue → Found SidValue → Bool
is_found one (Ok x) = same_sid one x.0
is_found one (Err e) = false

abbrev pub begins_with : SidValue → List ℕ → Bool
begins_with one bytes =
    if begins bytes (codes "S-1-") then is_found one (find (sid (in_domain None)) bytes)
    else is_read one (sid_reading bytes)

-- the SID is in the bytes, from any place on
unfoldable pub is_within : SidValue → List ℕ → Bool
is_within one [] = false
is_within one (byte ∷ bytes) = begins_with one (byte ∷ bytes) || is_within one bytes

-- what an entry has beside its mask, its object types and its SID
abbrev pub data_of : WholeAce → List ℕ
data_of (Plain e) = []
data_of (Typed e) = e.trailing
data_of (Opaque e) = e.body

abbrev pub has_inside : SidValue → WholeAce → Bool
has_inside one e = is_within one (data_of e)

-- the first of a list
abbrev pub place_in : AclKind → SidValue → WholeAcl → Option EntryPlace
place_in kind one Absent = None
place_in kind one Null = None
place_in kind one (Entries list) =
    option_map (λ place. record { acl = kind; entry = place + 1 }) (position (has_inside one) list.entries)

-- the first of the SACL, or else of the DACL
abbrev pub first_inside : SidValue → WholeDescriptor → Option EntryPlace
first_inside one d = option_or (place_in Sacl one d.sacl) (place_in Dacl one d.dacl)
