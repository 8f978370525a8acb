-- What is written is parsed again.
use Rattle.sd_whole.proofs.Cited.{AceKind, AllByRecursion, Bool, Guid, HasNoLayout, IfSome, IsGuid, IsSid, IsWholeAce, AreTypes, List, None, ObjectTypes, Ok, Option, SidValue, Some, TypedAce, WholeAce, WholeKind, [], ap, append-nil, append_assoc, arith, body_of, by_kind, bytes_of_sid, cond, drop, drop_at, eq-eqb, false, flags_of, flat_map, from_le_bytes-to_le_bytes_2, from_le_bytes-to_le_bytes_4, guid_part, guid_read, has_object_types, is_set, is_some, kind_byte, kind_of, le-ltb, length, length-append, length_of_sid, lt-ltb, nat_lt, ne_eqb, no_types, opaque, plain_kind, plain_or_typed, refl, sids_come_back, subst, sum_by, sum_by-cons, sym, take, take_at, to_le_bytes, true, type_of, types_part, types_word, u16_at, u32_at, w32, whole_ace_size, whole_entry_bytes, ℕ, ◌%◌, ◌*◌, ◌++◌, ◌+◌, ◌-◌, ◌<◌, ◌==◌, ◌^◌, ◌∙◌, ◌∷◌, ◌≡◌, ◌≤◌}
use Rattle.sd_acl.specs.declared.ace.AceKind.TheVariants as plain
use Rattle.sd_whole.specs.declared.ace.WholeAce.TheVariants.{Plain, Typed, Opaque}
use Rattle.sd_whole.specs.Entry.{entry_form}
use Rattle.sd_whole.specs.Layout.{types_read, layout_read}
use Rattle.sd_wire.specs.Reading.{entries_of}
use Rattle.sd_whole.specs.Reading.{body_read, whole_entry_read}
use Rattle.sd_whole.proofs.KindNumbers.{kind_is_found}
use Rattle.sd_whole.proofs.Lengths.{length_of_entry}
use Rattle.sd_whole.proofs.Steps.{fit}

-- ---- object types

guid_again : (g : Option Guid) (rest : List ℕ) → IfSome g IsGuid → guid_read (is_some g) (guid_part g ++ rest) ≡ Some (g, length (guid_part g))
guid_again None rest sound = refl
guid_again (Some g) rest sound =
    let long : nat_lt (length (g.bytes ++ rest)) 16 ≡ false = le-ltb _ _ (omega (arith, length-append g.bytes rest)) in
    let same : take 16 (g.bytes ++ rest) ≡ g.bytes = take_at g.bytes rest 16 sound in
    rw (long, same, sound) refl

-- what the flags say of two GUIDs
record Says (object inherited : Bool) : Type 0 where
  first : is_set 1 (cond object 1 0 + cond inherited 2 0) ≡ object
  second : is_set 2 (cond object 1 0 + cond inherited 2 0) ≡ inherited
  named : nat_lt 3 (cond object 1 0 + cond inherited 2 0) ≡ false
  small : cond object 1 0 + cond inherited 2 0 < 2 ^ 32

says : (object inherited : Bool) → Says object inherited
says true true = record { first = refl; second = refl; named = refl; small = omega arith }
says true false = record { first = refl; second = refl; named = refl; small = omega arith }
says false true = record { first = refl; second = refl; named = refl; small = omega arith }
says false false = record { first = refl; second = refl; named = refl; small = omega arith }

types_again : (has : Bool) (t : ObjectTypes) (rest : List ℕ) → AreTypes has t → types_read has (types_part has t ++ rest) ≡ Some (t, length (types_part has t))
unfolding types_read
types_again false t rest sound = rw sound refl
types_again true t rest sound =
    let object = guid_part t.object in
    let inherited = guid_part t.inherited in
    let s = says (is_some t.object) (is_some t.inherited) in
    let word : u32_at (types_part true t ++ rest) 0 ≡ types_word t = from_le_bytes-to_le_bytes_4 (types_word t) s.small in
    let long : nat_lt (length (types_part true t ++ rest)) 4 ≡ false = le-ltb _ _ (omega arith) in
    let regroup : (object ++ inherited) ++ rest ≡ object ++ (inherited ++ rest) = append_assoc object inherited rest in
    let next : drop (length object) (object ++ (inherited ++ rest)) ≡ inherited ++ rest = drop_at object (inherited ++ rest) (length object) refl in
    let whole : 4 + length object + length inherited ≡ length (types_part true t) = omega (arith, length-append object inherited) in
    rw (long, word, s.named, s.first, s.second, regroup, guid_again t.object (inherited ++ rest) sound.0, next, guid_again t.inherited rest sound.1)
    (ap (λ n. fit (t, n)) whole)

-- ---- bodies

layout_again : (has : Bool) (mask : ℕ) (types : ObjectTypes) (sid : SidValue) (rest : List ℕ) → mask < 2 ^ 32 → AreTypes has types → IsSid sid
    → layout_read has (to_le_bytes w32 mask ++ (types_part has types ++ (bytes_of_sid sid ++ rest)))
    ≡ Some (record { mask = mask; types = types; sid = sid; place = 4 + length (types_part has types) + length (bytes_of_sid sid) })
unfolding layout_read
layout_again has mask types sid rest small sound sid_sound =
    let tail = bytes_of_sid sid ++ rest in
    let long : nat_lt (length (to_le_bytes w32 mask ++ (types_part has types ++ tail))) 4 ≡ false = le-ltb _ _ (omega arith) in
    let word : u32_at (to_le_bytes w32 mask ++ (types_part has types ++ tail)) 0 ≡ mask = from_le_bytes-to_le_bytes_4 mask small in
    let next : drop (length (types_part has types)) (types_part has types ++ tail) ≡ tail = drop_at (types_part has types) tail (length (types_part has types)) refl in
    rw (long, word, types_again has types tail sound, next, sids_come_back sid rest sid_sound) refl

-- the bytes behind the SID
behind_the_sid : (mask : ℕ) (types : List ℕ) (sid : SidValue) (rest : List ℕ) → drop (4 + length types + length (bytes_of_sid sid)) (to_le_bytes w32 mask ++ (types ++ (bytes_of_sid sid ++ rest))) ≡ rest
behind_the_sid mask types sid rest =
    let front = to_le_bytes w32 mask ++ (types ++ bytes_of_sid sid) in
    let joined : to_le_bytes w32 mask ++ (types ++ (bytes_of_sid sid ++ rest)) ≡ front ++ rest =
    ap (λ (l : List ℕ). to_le_bytes w32 mask ++ l) (sym (append_assoc types (bytes_of_sid sid) rest)) in
    let long : length front ≡ 4 + length types + length (bytes_of_sid sid) = omega (arith, length-append types (bytes_of_sid sid)) in
    ap (drop (4 + length types + length (bytes_of_sid sid))) joined ∙ drop_at front rest (4 + length types + length (bytes_of_sid sid)) long

stays_typed : (p : Option AceKind) (e : TypedAce) → IfSome p (λ _. 0 < length e.trailing) → plain_or_typed p e ≡ Typed e
stays_typed None e h = refl
stays_typed (Some p) e h = let some : (length e.trailing == 0) ≡ false = ne_eqb _ _ (λ (none : length e.trailing ≡ 0). omega arith) in rw some refl

opaque_again : (k : Option WholeKind) (type flags : ℕ) (body : List ℕ) → 1 < type → HasNoLayout k body → by_kind k type flags body ≡ Ok (opaque type flags body)
opaque_again None type flags body other h = refl
opaque_again (Some kind) type flags body other h = let kept : nat_lt 1 type ≡ true = lt-ltb _ _ other in rw (h, kept) refl

plain_again : (kind : AceKind) (flags mask : ℕ) (sid : SidValue) → mask < 2 ^ 32 → IsSid sid
    → by_kind (kind_of (kind_byte kind)) (kind_byte kind) flags (to_le_bytes w32 mask ++ bytes_of_sid sid) ≡ Ok (Plain (record { kind = kind; flags = record { 0 = flags }; mask = mask; sid = sid }))
plain_again plain.Allow flags mask sid small sound =
    let no_more : bytes_of_sid sid ++ [] ≡ bytes_of_sid sid = append-nil (bytes_of_sid sid) in
    let read = subst (λ (l : List ℕ). layout_read false (to_le_bytes w32 mask ++ l) ≡ Some (record { mask = mask; types = no_types; sid = sid; place = 4 + 0 + length (bytes_of_sid sid) })) no_more (layout_again false mask no_types sid [] small refl sound) in
    let none = subst (λ (l : List ℕ). drop (4 + 0 + length (bytes_of_sid sid)) (to_le_bytes w32 mask ++ l) ≡ []) no_more (behind_the_sid mask [] sid []) in
    rw (read, none) refl
plain_again plain.Deny flags mask sid small sound =
    let no_more : bytes_of_sid sid ++ [] ≡ bytes_of_sid sid = append-nil (bytes_of_sid sid) in
    let read = subst (λ (l : List ℕ). layout_read false (to_le_bytes w32 mask ++ l) ≡ Some (record { mask = mask; types = no_types; sid = sid; place = 4 + 0 + length (bytes_of_sid sid) })) no_more (layout_again false mask no_types sid [] small refl sound) in
    let none = subst (λ (l : List ℕ). drop (4 + 0 + length (bytes_of_sid sid)) (to_le_bytes w32 mask ++ l) ≡ []) no_more (behind_the_sid mask [] sid []) in
    rw (read, none) refl

body_again : (e : WholeAce) → IsWholeAce e → body_read (type_of e) (flags_of e) (body_of e) ≡ Ok e
unfolding body_read
body_again (Plain e) sound = plain_again e.kind e.flags.0 e.mask e.sid sound.mask sound.sid
body_again (Typed e) sound =
    let has = has_object_types e.kind in
    let read = layout_again has e.mask e.types e.sid e.trailing sound.mask sound.types sound.sid in
    let rest = behind_the_sid e.mask (types_part has e.types) e.sid e.trailing in
    rw (kind_is_found e.kind, read, rest) (ap (λ (x : WholeAce). Ok x) (stays_typed (plain_kind e.kind) e sound.other))
body_again (Opaque e) sound = opaque_again (kind_of e.kind) e.kind e.flags.0 e.body sound.other sound.without_layout

-- ---- entries

quads_of : (object inherited : Option Guid) → IfSome object IsGuid → IfSome inherited IsGuid → (k : ℕ) × (length (types_part true (record { object = object; inherited = inherited })) ≡ 4 * k)
quads_of None None a b = (1, refl)
quads_of (Some g) None a b = (5, omega (arith, length-append g.bytes [], a))
quads_of None (Some g) a b = (5, omega (arith, b))
quads_of (Some g) (Some h) a b = (9, omega (arith, length-append g.bytes h.bytes, a, b))

pub quads : (has : Bool) (t : ObjectTypes) → AreTypes has t → (k : ℕ) × (length (types_part has t) ≡ 4 * k)
quads false t sound = (0, refl)
quads true t sound = quads_of t.object t.inherited sound.0 sound.1

body_aligned : (e : WholeAce) → IsWholeAce e → whole_ace_size e % 4 ≡ 0
body_aligned (Plain e) sound = omega (arith, length_of_sid e.sid)
body_aligned (Typed e) sound =
    let types = types_part (has_object_types e.kind) e.types in
    let q = quads (has_object_types e.kind) e.types sound.types in
    let fours : length types ≡ 4 * q.0 = q.1 in
    omega (arith, sound.aligned, fours, length-append types (bytes_of_sid e.sid ++ e.trailing), length-append (bytes_of_sid e.sid) e.trailing, length_of_sid e.sid)
body_aligned (Opaque e) sound = omega (arith, sound.aligned)

pub entry_again : (e : WholeAce) (rest : List ℕ) → IsWholeAce e → whole_ace_size e ≤ 65535 → whole_entry_read (whole_entry_bytes e ++ rest) ≡ Ok (e, whole_ace_size e)
unfolding whole_entry_read entry_form
entry_again e rest sound small =
    let body = body_of e in
    let size = whole_ace_size e in
    let bytes = whole_entry_bytes e ++ rest in
    let sized : u16_at bytes 2 ≡ size = from_le_bytes-to_le_bytes_2 size (omega arith) in
    let header : nat_lt (length bytes) 4 ≡ false = le-ltb _ _ (omega arith) in
    let least : nat_lt size 4 ≡ false = le-ltb _ _ (omega arith) in
    let even : (size % 4 == 0) ≡ true = eq-eqb _ _ (body_aligned e sound) in
    let inside : nat_lt (length bytes) size ≡ false = le-ltb _ _ (omega (arith, length-append body rest)) in
    let behind : size - 4 ≡ length body = omega arith in
    let there : take (size - 4) (body ++ rest) ≡ body = take_at body rest (size - 4) (sym behind) in
    rw (header, sized, least, even, inside, there, body_again e sound) refl

pub entries_again : (es : List WholeAce) (rest : List ℕ) → AllByRecursion IsWholeAce es → sum_by whole_ace_size es ≤ 65535 → entries_of whole_entry_read (flat_map whole_entry_bytes es ++ rest) (length es) ≡ Ok es
unfolding entries_of
entries_again [] rest sound small = refl
entries_again (e ∷ es) rest sound small =
    let sizes = sum_by-cons whole_ace_size e es in
    let others = flat_map whole_entry_bytes es ++ rest in
    let split : (whole_entry_bytes e ++ flat_map whole_entry_bytes es) ++ rest ≡ whole_entry_bytes e ++ others = append_assoc (whole_entry_bytes e) (flat_map whole_entry_bytes es) rest in
    let next : drop (whole_ace_size e) (whole_entry_bytes e ++ others) ≡ others = drop_at (whole_entry_bytes e) others (whole_ace_size e) (length_of_entry e) in
    rw (split, entry_again e others sound.0 (omega arith), next, entries_again es rest sound.1 (omega arith)) refl
