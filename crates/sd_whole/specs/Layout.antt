-- How the body of an entry with a layout is parsed: mask, object types, SID, and what is left ([MS-DTYP] 2.4.4.2,
-- 2.4.4.3 and 2.4.4.6).
use Rattle.std.specs.Prelude.{ℕ, ◌+◌, Bool, not, nat_lt, List, length, take, drop, Option, Some, None}
use Rattle.std.specs.Prelude.{Result, Ok, Err, if◌then◌else◌}
use Rattle.sd_sid.specs.Sid.{SidValue}
use Rattle.sd_sid.specs.SidBytes.{sid_reading, u32_at}
use Rattle.sd_sid.specs.declared.sid.SidError.{SidError}
use Rattle.sd_wire.specs.Reading.{is_set}
use Rattle.sd_whole.specs.declared.layout.Layout.{Layout}
use Rattle.sd_whole.specs.declared.types.Guid.{Guid}
use Rattle.sd_whole.specs.declared.types.ObjectTypes.{ObjectTypes}

infixl 10 ◌>>?◌
-- one parse after another: None where either doesn't fit
abbrev pub ◌>>?◌ : {A B : Type 0} → Option A → (A → Option B) → Option B
None >>? f = None
(Some x) >>? f = f x

-- no object types
abbrev pub no_types : ObjectTypes
no_types = record { object = None; inherited = None }

-- the GUID at the front of the bytes, if there must be one, and its length (2.3.4.2)
abbrev pub guid_read : Bool → List ℕ → Option (Option Guid × ℕ)
guid_read is_there bytes =
    if not is_there then Some (None, 0)
    else if nat_lt (length bytes) 16 then None
    else Some (Some (record { bytes = take 16 bytes }), 16)

-- Flags and its GUIDs at the front of the bytes, where the kind has them, and their length: 1 says that there is an
-- ObjectType, 2 that there is an InheritedObjectType, and other bits don't fit (2.4.4.3)
unfoldable pub types_read : Bool → List ℕ → Option (ObjectTypes × ℕ)
types_read has bytes =
    if not has then Some (no_types, 0)
    else if nat_lt (length bytes) 4 then None
    else if nat_lt 3 (u32_at bytes 0) then None
    else (guid_read (is_set 1 (u32_at bytes 0)) (drop 4 bytes) >>? λ object.
    (guid_read (is_set 2 (u32_at bytes 0)) (drop object.1 (drop 4 bytes)) >>? λ inherited.
    Some (record { object = object.0; inherited = inherited.0 }, 4 + object.1 + inherited.1)))

-- a SID that fits
abbrev pub if_sid : Result (SidValue × ℕ) SidError → Option (SidValue × ℕ)
if_sid (Ok x) = Some x
if_sid (Err e) = None

-- mask, object types, SID, and the offset of the bytes after it
unfoldable pub layout_read : Bool → List ℕ → Option Layout
layout_read has body =
    if nat_lt (length body) 4 then None
    else (types_read has (drop 4 body) >>? λ types.
    (if_sid (sid_reading (drop types.1 (drop 4 body))) >>? λ sid.
    Some (record { mask = u32_at body 0; types = types.0; sid = sid.0; place = 4 + types.1 + sid.1 })))
