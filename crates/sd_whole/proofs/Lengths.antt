-- How many bytes each written part takes.
use Rattle.sd_whole.proofs.Cited.{Ace, List, SidValue, whole_acl_size, typed_size_of, ℕ, TypedAce, ace_size, arith, bytes_of_sid, has_object_types, length, length-append, length_of_sid as sid_takes, plain_body, typed_body, types_part, ◌*◌, ◌++◌, ◌+◌, ◌≡◌, WholeAce, [], flat_map, get_or, refl, sum_by, sum_by-cons, sum_by_more_le, take, whole_ace_size, whole_entry_bytes, ◌<◌, ◌∙◌, ◌∷◌, ◌≤◌}
use Rattle.sd_whole.specs.Entry.{entry_form}
use Rattle.sd_whole.specs.Values.{WholeListValue}
use Rattle.sd_whole.specs.Writing.{acl_part, whole_header_of, whole_list_bytes, whole_wire_of}
use Rattle.sd_whole.specs.declared.descriptor.WholeDescriptor.{WholeDescriptor}
use Rattle.sd_wire.specs.Writing.{header_bytes, trustee_part}

pub length_of_sid : (s : SidValue) → length (bytes_of_sid s) ≡ 8 + 4 * length s.subs
length_of_sid s = sid_takes s

pub length_of_plain : (e : Ace) → 4 + length (plain_body e) ≡ ace_size e
length_of_plain e = omega (arith, length_of_sid e.sid)

pub length_of_typed : (e : TypedAce) → 4 + length (typed_body e) ≡ typed_size_of e
length_of_typed e =
    let types = types_part (has_object_types e.kind) e.types in
    omega (arith, length-append types (bytes_of_sid e.sid ++ e.trailing), length-append (bytes_of_sid e.sid) e.trailing, length_of_sid e.sid)

pub length_of_entry : (e : WholeAce) → length (whole_entry_bytes e) ≡ whole_ace_size e
unfolding entry_form
length_of_entry e = omega arith

pub length_of_entries : (es : List WholeAce) → length (flat_map whole_entry_bytes es) ≡ sum_by whole_ace_size es
length_of_entries [] = refl
length_of_entries (e ∷ es) = length-append (whole_entry_bytes e) (flat_map whole_entry_bytes es) ∙ omega (arith, length_of_entry e, length_of_entries es, sum_by-cons whole_ace_size e es)

-- the entries before one, and that one, are within them all
pub room_for_next : (es : List WholeAce) (i : ℕ) (e : WholeAce) → i < length es → length (flat_map whole_entry_bytes (take i es)) + whole_ace_size (get_or es i e) ≤ sum_by whole_ace_size es
room_for_next es i e lt = omega (arith, length_of_entries (take i es), sum_by_more_le whole_ace_size es i e lt)

pub length_of_list : (list : WholeListValue) → whole_acl_size list.entries ≡ length (whole_list_bytes list)
unfolding whole_list_bytes
length_of_list list = omega (arith, length_of_entries list.entries)

pub length_of_header : (d : WholeDescriptor) → length (whole_header_of d) ≡ 20
unfolding whole_header_of header_bytes
length_of_header d = refl

pub length_of_wire : (d : WholeDescriptor) → length (whole_wire_of d) ≡ 20 + (length (trustee_part d.owner) + length (trustee_part d.group)) + length (acl_part d.sacl) + length (acl_part d.dacl)
unfolding whole_wire_of
length_of_wire d =
    let lists = acl_part d.sacl ++ acl_part d.dacl in
    let behind = trustee_part d.group ++ lists in
    omega (arith, length_of_header d, length-append (whole_header_of d) (trustee_part d.owner ++ behind), length-append (trustee_part d.owner) behind, length-append (trustee_part d.group) lists, length-append (acl_part d.sacl) (acl_part d.dacl))

pub entries_take : (es : List WholeAce) → 4 * length es ≤ sum_by whole_ace_size es
entries_take [] = omega arith
entries_take (e ∷ es) = omega (arith, entries_take es, sum_by-cons whole_ace_size e es)
