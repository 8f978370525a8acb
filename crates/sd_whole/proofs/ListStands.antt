-- The entries of a list that is parsed are in the bytes, one after another, as they are written.
use Rattle.sd_whole.proofs.Cited.{AclSize, EntriesStayAsTheyAre, Err, List, ListRevision, Result, WireFault, cond, nat_lt, revision_read, ListsStayAsTheyAre, Ok, WholeAce, [], ap, arith, bound, cells_fit, drop, flat_map, get_or, good_is, length, length-append, length-drop, length-take, ltb-false, passed, refl, slice_range, suc, sym, take, take-add, take-take, u16_at, whole_entry_bytes, whole_entry_read, zero, ℕ, ◌++◌, ◌+◌, ◌-◌, ◌<◌, ◌>>=◌, ◌∙◌, ◌∷◌, ◌≡◌, ◌≤◌}
use Rattle.sd_wire.specs.Reading.{entries_of}
use Rattle.sd_whole.specs.Reading.{whole_list_read}
use Rattle.sd_whole.specs.Values.{WholeListValue}
use Rattle.sd_whole.proofs.EntryStands.{entry_stands, rest_fits}
use Rattle.sd_whole.proofs.Lengths.{length_of_entry}

pub entries_stay : EntriesStayAsTheyAre
entries_stay bytes e n fits h = (entry_stands bytes e n fits h).stands

-- the entries are in the bytes, and take no more than there are
pub record Stay (bytes : List ℕ) (es : List WholeAce) : Type 0 where
  pub stand : take (length (flat_map whole_entry_bytes es)) bytes ≡ flat_map whole_entry_bytes es
  pub within : length (flat_map whole_entry_bytes es) ≤ length bytes

pub entries_stand : (bytes : List ℕ) (n : ℕ) (es : List WholeAce) → ((i : ℕ) → get_or bytes i 0 < 256) → entries_of whole_entry_read bytes n ≡ Ok es → Stay bytes es
unfolding entries_of
entries_stand bytes zero es fits h =
    let none : [] ≡ es = good_is [] es h in rw (← none) (record { stand = refl; within = omega arith })
entries_stand bytes (suc n) es fits h =
    let first = bound (whole_entry_read bytes) (λ (x : WholeAce × ℕ). entries_of whole_entry_read (drop x.1 bytes) n >>= λ xs. Ok (x.0 ∷ xs)) es h in
    let others = bound (entries_of whole_entry_read (drop first.0.1 bytes) n) (λ (xs : List WholeAce). Ok (first.0.0 ∷ xs)) es first.2 in
    let all : first.0.0 ∷ others.0 ≡ es = good_is (first.0.0 ∷ others.0) es others.2 in
    let e : WholeAce = first.0.0 in
    let size : ℕ = first.0.1 in
    let one = entry_stands bytes e size fits first.1 in
    let more = entries_stand (drop size bytes) n others.0 (rest_fits bytes size fits) others.1 in
    let part = whole_entry_bytes e in
    let rest = flat_map whole_entry_bytes others.0 in
    let long : length part ≡ size = length_of_entry e ∙ one.size in
    let both : length (part ++ rest) ≡ size + length rest = length-append part rest ∙ ap (λ k. k + length rest) long in
    let left : length (drop size bytes) ≡ length bytes - size = length-drop size bytes in
    let low : size ≤ length bytes = one.within in
    let high : length rest ≤ length (drop size bytes) = more.within in
    let stands : take (length (part ++ rest)) bytes ≡ part ++ rest =
    ap (λ k. take k bytes) both ∙ take-add size (length rest) bytes
    ∙ ap (λ (x : List ℕ). x ++ take (length rest) (drop size bytes)) one.stands
    ∙ ap (λ (x : List ℕ). part ++ x) more.stand in
    rw (← all) (record { stand = stands; within = omega arith })

-- the parts of a list that was parsed
pub record ListParts (bytes : List ℕ) (list : WholeListValue) : Type 0 where
  pub revision : revision_read (get_or bytes 0 0) ≡ Ok list.revision
  pub least : 8 ≤ u16_at bytes 2
  pub inside : u16_at bytes 2 ≤ length bytes
  pub entries : entries_of whole_entry_read (slice_range bytes 8 (u16_at bytes 2)) (u16_at bytes 4) ≡ Ok list.entries

pub list_parts : (bytes : List ℕ) (list : WholeListValue) → whole_list_read bytes ≡ Ok list → ListParts bytes list
unfolding whole_list_read
list_parts bytes list h =
    let size = u16_at bytes 2 in
    let read = entries_of whole_entry_read (slice_range bytes 8 size) (u16_at bytes 4) in
    let made : ListRevision → List WholeAce → Result WholeListValue WireFault = λ revision entries. Ok (record { revision = revision; entries = entries }) in
    let f : ListRevision → Result WholeListValue WireFault = λ revision. cond (nat_lt size 8) (Err AclSize) (cond (nat_lt (length bytes) size) (Err AclSize) (read >>= made revision)) in
    let revision = bound (revision_read (get_or bytes 0 0)) f list h in
    let least = passed (nat_lt size 8) AclSize (cond (nat_lt (length bytes) size) (Err AclSize) (read >>= made revision.0)) list revision.2 in
    let inside = passed (nat_lt (length bytes) size) AclSize (read >>= made revision.0) list least.1 in
    let entries = bound read (made revision.0) list inside.1 in
    let same : record { revision = revision.0; entries = entries.0 } ≡ list = good_is (record { revision = revision.0; entries = entries.0 }) list entries.2 in
    record {
      revision = revision.1 ∙ ap (λ (l : WholeListValue). Ok l.revision) same;
      least = ltb-false _ _ least.0;
      inside = ltb-false _ _ inside.0;
      entries = entries.1 ∙ ap (λ (l : WholeListValue). Ok l.entries) same;
    }

pub lists_stay : ListsStayAsTheyAre
lists_stay bytes list fits h =
    let parts = list_parts bytes list h in
    let size = u16_at bytes 2 in
    let part = flat_map whole_entry_bytes list.entries in
    let stay = entries_stand (slice_range bytes 8 size) (u16_at bytes 4) list.entries (cells_fit bytes 8 (size - 8) fits) parts.entries in
    let low : length part ≤ length (slice_range bytes 8 size) = stay.within in
    let short : length (slice_range bytes 8 size) ≤ size - 8 = omega (arith, length-take (size - 8) (drop 8 bytes)) in
    sym (take-take (length part) (size - 8) (drop 8 bytes) (omega arith)) ∙ stay.stand
