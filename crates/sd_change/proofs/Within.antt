-- SIDs within bytes, from a place on.
use Rattle.std.proofs.Common.{arith, ◌≡◌, ◌<◌, ◌+◌, ℕ, List, ◌||◌, length, take, drop, length-drop, ◌-◌, refl}
use Rattle.std.proofs.lemmas.List.{drop_more, take_all}
use Rattle.sd_sid.specs.Sid.{SidValue}
use Rattle.sd_change.specs.Inside.{begins_with, is_within}

-- the bytes from a place on
pub from_place : (bytes : List ℕ) (place : ℕ) → take (length bytes - place) (drop place bytes) ≡ drop place bytes
from_place bytes place = take_all (length bytes - place) (drop place bytes) (omega (arith, length-drop place bytes))

-- it is at the place, or after it
pub here_or_after : (sid : SidValue) (bytes : List ℕ) (place : ℕ) → place < length bytes
    → is_within sid (drop place bytes) ≡ (begins_with sid (drop place bytes) || is_within sid (drop (place + 1) bytes))
unfolding is_within
here_or_after sid bytes place more = rw (drop_more bytes place 0 more) refl
