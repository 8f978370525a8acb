-- How many bytes each written part takes.
use Rattle.sd_wire.proofs.Cited.{Ace, DescriptorValue, List, SidValue, Some, [], ace_size, acl_size_of, arith, dacl_part, flat_map, get_or, length, length-append, length_of_sid, min, refl, sum_by, sum_by-cons, sum_by_more_le, sym, take, trustee_part, ℕ, ◌*◌, ◌++◌, ◌+◌, ◌/◌, ◌<◌, ◌^◌, ◌∙◌, ◌∷◌, ◌≡◌, ◌≤◌}
use Rattle.sd_wire.specs.Writing.{entry_bytes, list_bytes, header_bytes, header_of, wire_of}

pub length_of_trustee : (s : SidValue) → 8 + 4 * length s.subs ≡ length (trustee_part (Some s))
length_of_trustee s = sym (length_of_sid s)

pub length_of_entry : (e : Ace) → length (entry_bytes e) ≡ ace_size e
unfolding entry_bytes
length_of_entry e = omega (arith, length_of_sid e.sid)

pub length_of_entries : (es : List Ace) → length (flat_map entry_bytes es) ≡ sum_by ace_size es
length_of_entries [] = refl
length_of_entries (e ∷ es) = length-append (entry_bytes e) (flat_map entry_bytes es) ∙ omega (arith, length_of_entry e, length_of_entries es, sum_by-cons ace_size e es)

-- the entries before one, and that one, are within them all
pub room_for_next : (es : List Ace) (i : ℕ) (e : Ace) → i < length es → length (flat_map entry_bytes (take i es)) + ace_size (get_or es i e) ≤ sum_by ace_size es
room_for_next es i e lt = omega (arith, length_of_entries (take i es), sum_by_more_le ace_size es i e lt)

pub length_of_list : (es : List Ace) → acl_size_of es ≡ length (list_bytes es)
unfolding list_bytes
length_of_list es = omega (arith, length_of_entries es)

pub length_of_header : (d : DescriptorValue) → length (header_of d) ≡ 20
unfolding header_of header_bytes
length_of_header d = refl

pub length_of_wire : (d : DescriptorValue) → length (wire_of d) ≡ 20 + (length (trustee_part d.owner) + length (trustee_part d.group)) + length (dacl_part d.dacl)
unfolding wire_of
length_of_wire d =
    let behind = trustee_part d.group ++ dacl_part d.dacl in
    omega (arith, length_of_header d, length-append (header_of d) (trustee_part d.owner ++ behind), length-append (trustee_part d.owner) behind, length-append (trustee_part d.group) (dacl_part d.dacl))

-- a list within 65,535 bytes has fewer entries than that
pub entries_take : (es : List Ace) → 16 * length es ≤ sum_by ace_size es
entries_take [] = omega arith
entries_take (e ∷ es) = omega (arith, entries_take es, sum_by-cons ace_size e es)

-- where there is room for 16 bytes more, the room of so many entries is for one more
pub room_for_another : (k count room : ℕ) → k < count → 16 * k + 16 ≤ room → k < min count (room / 16)
room_for_another k count room some more = omega arith

pub few_entries : (es : List Ace) → acl_size_of es ≤ 65535 → length es < 2 ^ 16
few_entries es fit = omega (arith, entries_take es)
