-- A descriptor that is plain is parsed as a whole one, too.
use Rattle.sd_whole.proofs.Cited.{Absent, Ace, AceKind, AclRevision, AclSize, BadOffset, Bool, Dacl, DescriptorValue, EntrySize, Err, HasSacl, IsPlainOf, Layout, List, ListRevision, Null, Ok, Option, PlainDescriptorsAreWhole, Result, SidValue, Some, TypedAce, WholeAce, WholeAcl, WholeDescriptor, WholeListValue, WireFault, [], add-zero, add_assoc, all_named, and_assoc, ap, arith, bit_and, bound, cases_Bool, chosen, cond, drop, drop-drop, drop-take, eqb-true, false, get_or, get_or-drop, get_or-take, good, good_is, has_entries, inl, inr, is_outside, is_set, is_without, kept_bits, kind_read, le-ltb, length, length-drop, length-take-le, ltb-false, map, nat_lt, no_types, not, not-false, of_layout, or_cases, passed, plain_as, plain_form, plain_kind, plain_or_typed, refl, revision_read, sid_read, sid_reading, slice_range, subst, suc, sym, take, true, trustee_read, u16_at, u32_at, zero, zero-add, ℕ, ◌%◌, ◌&&◌, ◌+◌, ◌-◌, ◌<◌, ◌==◌, ◌>>=◌, ◌||◌, ◌∙◌, ◌∷◌, ◌≡◌, ◌≤◌}
use Rattle.sd_whole.proofs.PlainForms.{plain_listed}
use Rattle.sd_whole.specs.Plain.{plain_acl}
use Rattle.sd_acl.specs.declared.descriptor.DaclOf.TheVariants.{List as Entries}
use Rattle.sd_acl.specs.declared.ace.AceKind.TheVariants as plain
use Rattle.sd_whole.specs.declared.kind.WholeKind.TheVariants.{Allow, Deny}
use Rattle.sd_whole.specs.declared.list.ListRevision.TheVariants.{Standard, DirectoryService}
use Rattle.sd_wire.specs.Reading.{control_read, dacl_read, descriptor_read, entries_of, entries_read, entry_read, front_read, header_read, list_read}
use Rattle.sd_whole.specs.Layout.{types_read, layout_read}
use Rattle.sd_whole.specs.Reading.{acl_read, body_read, whole_entry_read, whole_list_read, whole_read}
use Rattle.sd_wire.proofs.Rest.{entries_in_rest}
use Rattle.sd_whole.proofs.EntryStands.{of_parts}
use Rattle.sd_whole.proofs.ReadIsWhole.{good_sid}

-- ---- bodies

-- an allow or a deny with these parts
abbrev ace_of : AceKind → ℕ → Layout → Ace
ace_of kind flags l = record { kind = kind; flags = record { 0 = bit_and flags all_named }; mask = l.mask; sid = l.sid }

form_of : (p : AceKind) (e : TypedAce) → plain_kind e.kind ≡ Some p → plain_form (plain_or_typed (Some p) e) ≡ plain_as (Some p) e
form_of p e h = elim (cases_Bool (length e.trailing == 0)) [
  | inl none ↦ rw none refl
  | inr some ↦ rw (some, h) refl
]

-- what a body is parsed as, and its plain form
record BodyToo (type flags : ℕ) (body : List ℕ) (a : Ace) : Type 0 where
  entry : WholeAce
  read : body_read type flags body ≡ Ok entry
  same : plain_form entry ≡ Some a

kind_too : (type flags : ℕ) (body : List ℕ) (l : Layout) (kind : AceKind) → layout_read false body ≡ Some l → kind_read type ≡ Ok kind → BodyToo type flags body (ace_of kind flags l)
unfolding body_read
kind_too type flags body l kind read h = elim (chosen (type == 0) _ _ _ h) [
  | inl allow ↦
      let is : plain.Allow ≡ kind = good_is plain.Allow kind allow.1 in
      let zero_is : type ≡ 0 = eqb-true _ _ allow.0 in
      let made : BodyToo 0 flags body (ace_of plain.Allow flags l) = record { entry = of_layout Allow flags body l; read = rw read refl; same = form_of plain.Allow (of_parts Allow flags body l) refl } in
      subst (λ t. BodyToo t flags body (ace_of kind flags l)) (sym zero_is) (subst (λ k. BodyToo 0 flags body (ace_of k flags l)) is made)
  | inr other ↦ elim (chosen (type == 1) _ _ _ other.1) [
    | inl deny ↦
        let is : plain.Deny ≡ kind = good_is plain.Deny kind deny.1 in
        let one_is : type ≡ 1 = eqb-true _ _ deny.0 in
        let made : BodyToo 1 flags body (ace_of plain.Deny flags l) = record { entry = of_layout Deny flags body l; read = rw read refl; same = form_of plain.Deny (of_parts Deny flags body l) refl } in
        subst (λ t. BodyToo t flags body (ace_of kind flags l)) (sym one_is) (subst (λ k. BodyToo 1 flags body (ace_of k flags l)) is made)
    | inr neither ↦ absurd (let no = neither.1 in cc)
  ]
]

-- ---- entries

module _ (xs : List ℕ) (size : ℕ) (least : 16 ≤ size) (within : size ≤ length xs) where
  body : List ℕ
  body = slice_range xs 4 size

  abbrev body_now : List ℕ
  body_now = take (size - 4) (drop 4 xs)

  byte : (i j : ℕ) → i < size - 4 → 4 + i ≡ j → get_or body_now i 0 ≡ get_or xs j 0
  byte i j low is = get_or-take (size - 4) (drop 4 xs) i 0 low ∙ get_or-drop 4 xs i 0 ∙ ap (λ k. get_or xs k 0) is

  mask_same : u32_at body_now 0 ≡ u32_at xs 4
  mask_same = rw (byte 0 4 (omega arith) refl, byte 1 5 (omega arith) refl, byte 2 6 (omega arith) refl, byte 3 7 (omega arith) refl) refl

  rest_same : drop 4 body_now ≡ take (size - 8) (drop 8 xs)
  rest_same =
      let split : size - 4 ≡ 4 + (size - 8) = omega arith in
      ap (λ n. drop 4 (take n (drop 4 xs))) split ∙ drop-take 4 (size - 8) (drop 4 xs) ∙ ap (take (size - 8)) (drop-drop 4 4 xs)

  layout_too : (s : SidValue) (n : ℕ) → sid_reading (take (size - 8) (drop 8 xs)) ≡ Ok (s, n) → layout_read false body_now ≡ Some (record { mask = u32_at xs 4; types = no_types; sid = s; place = 4 + 0 + n })
  unfolding layout_read types_read
  layout_too s n h =
      let long : length body_now ≡ size - 4 = length-take-le (size - 4) (drop 4 xs) (omega (arith, length-drop 4 xs)) in
      let header : nat_lt (length body_now) 4 ≡ false = le-ltb _ _ (omega arith) in
      rw (header, rest_same, h, mask_same) refl

-- what an entry is parsed as, and its plain form
record EntryToo (xs : List ℕ) (x : Ace × ℕ) : Type 0 where
  entry : WholeAce
  read : whole_entry_read xs ≡ Ok (entry, x.1)
  same : plain_form entry ≡ Some x.0

whole_entry_of : (xs : List ℕ) (entry : WholeAce) → nat_lt (length xs) 4 ≡ false → nat_lt (u16_at xs 2) 4 ≡ false → not (u16_at xs 2 % 4 == 0) ≡ false → nat_lt (length xs) (u16_at xs 2) ≡ false
    → body_read (get_or xs 0 0) (get_or xs 1 0) (take (u16_at xs 2 - 4) (drop 4 xs)) ≡ Ok entry → whole_entry_read xs ≡ Ok (entry, u16_at xs 2)
unfolding whole_entry_read
whole_entry_of xs entry header least even inside read = rw (header, least, even, inside, read) refl

entry_too : (xs : List ℕ) (x : Ace × ℕ) → entry_read xs 0 (length xs) ≡ Ok x → EntryToo xs x
unfolding entry_read
entry_too xs x e =
    let size = u16_at xs 2 in
    let made : AceKind → SidValue → Ace × ℕ = λ kind sid. (record { kind = kind; flags = record { 0 = bit_and (get_or xs 1 0) all_named }; mask = u32_at xs 4; sid = sid }, size) in
    let with_sid : AceKind → Result (Ace × ℕ) WireFault = λ kind. sid_read xs 8 (0 + size) >>= λ sid. Ok (made kind sid) in
    let with_kind : AceKind → Result (Ace × ℕ) WireFault = λ kind. cond (nat_lt size 16) (Err EntrySize) (with_sid kind) in
    let whole : Result (Ace × ℕ) WireFault = kind_read (get_or xs 0 0) >>= with_kind in
    let within_list : Result (Ace × ℕ) WireFault = cond (nat_lt (length xs) (0 + size)) (Err EntrySize) whole in
    let aligned : Result (Ace × ℕ) WireFault = cond (not (size % 4 == 0)) (Err EntrySize) within_list in
    let wide : Result (Ace × ℕ) WireFault = cond (nat_lt size 4) (Err EntrySize) aligned in
    let header = passed (nat_lt (length xs) 4) EntrySize wide x e in
    let least = passed (nat_lt size 4) EntrySize aligned x header.1 in
    let even = passed (not (size % 4 == 0)) EntrySize within_list x least.1 in
    let within = passed (nat_lt (length xs) (0 + size)) EntrySize whole x even.1 in
    let kind = bound (kind_read (get_or xs 0 0)) with_kind x within.1 in
    let room = passed (nat_lt size 16) EntrySize (with_sid kind.0) x kind.2 in
    let sid = bound (sid_read xs 8 (0 + size)) (λ (s : SidValue). Ok (made kind.0 s)) x room.1 in
    let is : made kind.0 sid.0 ≡ x = good_is (made kind.0 sid.0) x sid.2 in
    let low : 16 ≤ size = ltb-false _ _ room.0 in
    let bare : 0 + size ≡ size = zero-add size in
    let over : 0 + size ≤ length xs = ltb-false _ _ within.0 in
    let high : size ≤ length xs = omega arith in
    let inside : nat_lt (length xs) size ≡ false = le-ltb _ _ high in
    let found = good_sid (sid_reading (slice_range xs 8 (0 + size))) sid.0 sid.1 in
    let there : sid_reading (take (size - 8) (drop 8 xs)) ≡ Ok (sid.0, found.0) = ap (λ n. sid_reading (take (n - 8) (drop 8 xs))) (sym bare) ∙ found.1 in
    let layout = layout_too xs size low high sid.0 found.0 there in
    let too = kind_too (get_or xs 0 0) (get_or xs 1 0) (take (size - 4) (drop 4 xs)) (record { mask = u32_at xs 4; types = no_types; sid = sid.0; place = 4 + 0 + found.0 }) kind.0 layout kind.1 in
    subst (EntryToo xs) is (record {
      entry = too.entry;
      read = whole_entry_of xs too.entry header.0 least.0 even.0 inside too.read;
      same = too.same;
    })

-- what entries are parsed as, and their plain form
record EntriesToo (xs : List ℕ) (n : ℕ) (es : List Ace) : Type 0 where
  entries : List WholeAce
  read : entries_of whole_entry_read xs n ≡ Ok entries
  same : map plain_form entries ≡ map (λ e. Some e) es

entries_too : (xs : List ℕ) (n : ℕ) (es : List Ace) → entries_of front_read xs n ≡ Ok es → EntriesToo xs n es
unfolding entries_of
entries_too xs zero es e = subst (EntriesToo xs 0) (good_is [] es e) (record { entries = []; read = refl; same = refl })
entries_too xs (suc n) es e =
    let first = bound (front_read xs) (λ (x : Ace × ℕ). entries_of front_read (drop x.1 xs) n >>= λ others. Ok (x.0 ∷ others)) es e in
    let others = bound (entries_of front_read (drop first.0.1 xs) n) (λ (others : List Ace). Ok (first.0.0 ∷ others)) es first.2 in
    let one = entry_too xs first.0 first.1 in
    let later = entries_too (drop first.0.1 xs) n others.0 others.1 in
    subst (EntriesToo xs (suc n)) (good_is (first.0.0 ∷ others.0) es others.2) (record {
      entries = one.entry ∷ later.entries;
      read = rw (one.read, later.read) refl;
      same = rw (one.same, later.same) refl;
    })

-- ---- lists

revision_there : (byte : ℕ) → not (byte == 2 || byte == 4) ≡ false → (r : ListRevision) × (revision_read byte ≡ Ok r)
revision_there byte h = elim (cases_Bool (byte == 2)) [
  | inl two ↦ (Standard, rw two refl)
  | inr other ↦ elim (or_cases (byte == 2) (byte == 4) (not-false _ h)) [ inl two ↦ absurd cc | inr four ↦ (DirectoryService, rw (other, four) refl) ]
]

-- what a list is parsed as, and its plain form
record ListToo (xs : List ℕ) (es : List Ace) : Type 0 where
  list : WholeListValue
  read : whole_list_read xs ≡ Ok list
  same : map plain_form list.entries ≡ map (λ e. Some e) es

u16_same : (bytes : List ℕ) (o i : ℕ) → u16_at (drop o bytes) i ≡ u16_at bytes (o + i)
u16_same bytes o i =
    let next : get_or (drop o bytes) (i + 1) 0 ≡ get_or bytes (o + i + 1) 0 = get_or-drop o bytes (i + 1) 0 ∙ ap (λ k. get_or bytes k 0) (sym (add_assoc o i 1)) in
    rw (get_or-drop o bytes i 0, next) refl

whole_list_of : (xs : List ℕ) (r : ListRevision) (size count : ℕ) (entries : List WholeAce) → revision_read (get_or xs 0 0) ≡ Ok r → u16_at xs 2 ≡ size → u16_at xs 4 ≡ count → nat_lt size 8 ≡ false → nat_lt (length xs) size ≡ false
    → entries_of whole_entry_read (take (size - 8) (drop 8 xs)) count ≡ Ok entries → whole_list_read xs ≡ Ok (record { revision = r; entries = entries })
unfolding whole_list_read
whole_list_of xs r size count entries revision sized counted least inside read = rw (revision, sized, counted, least, inside, read) refl

list_too : (bytes : List ℕ) (o : ℕ) (es : List Ace) → list_read bytes o ≡ Ok es → ListToo (drop o bytes) es
unfolding list_read
list_too bytes o es e =
    let size = u16_at bytes (o + 2) in
    let read = entries_read bytes (o + 8) (o + size) (u16_at bytes (o + 4)) in
    let second = cond (nat_lt (length bytes) (o + size)) (Err AclSize) read in
    let first = cond (nat_lt size 8) (Err AclSize) second in
    let revision = passed (not (get_or bytes o 0 == 2 || get_or bytes o 0 == 4)) AclRevision first es e in
    let least = passed (nat_lt size 8) AclSize second es revision.1 in
    let inside = passed (nat_lt (length bytes) (o + size)) AclSize read es least.1 in
    let r = revision_there (get_or bytes o 0) revision.0 in
    let low : 8 ≤ size = ltb-false _ _ least.0 in
    let high : o + size ≤ length bytes = ltb-false _ _ inside.0 in
    let entries = entries_in_rest bytes (o + 8) (o + size) (u16_at bytes (o + 4)) (omega arith) high ∙ inside.1 in
    let too = entries_too (take (o + size - (o + 8)) (drop (o + 8) bytes)) (u16_at bytes (o + 4)) es entries in
    let front : get_or (drop o bytes) 0 0 ≡ get_or bytes o 0 = get_or-drop o bytes 0 0 ∙ ap (λ k. get_or bytes k 0) (add-zero o) in
    let room : nat_lt (length (drop o bytes)) size ≡ false = le-ltb _ _ (omega (arith, length-drop o bytes)) in
    let cut : size - 8 ≡ o + size - (o + 8) = omega arith in
    let range : take (size - 8) (drop 8 (drop o bytes)) ≡ take (o + size - (o + 8)) (drop (o + 8) bytes) = ap (λ k. take k (drop 8 (drop o bytes))) cut ∙ ap (take (o + size - (o + 8))) (drop-drop 8 o bytes) in
    record {
      list = record { revision = r.0; entries = too.entries };
      read = whole_list_of (drop o bytes) r.0 size (u16_at bytes (o + 4)) too.entries (ap revision_read front ∙ r.1) (u16_same bytes o 2) (u16_same bytes o 4) least.0 room (ap (λ (l : List ℕ). entries_of whole_entry_read l (u16_at bytes (o + 4))) range ∙ too.read);
      same = too.same;
    }

-- ---- descriptors

-- what a DACL is parsed as, and its plain form
record AclToo (bytes : List ℕ) (o : ℕ) (dacl : Dacl) : Type 0 where
  acl : WholeAcl
  read : acl_read true bytes o ≡ Ok acl
  same : plain_acl acl ≡ Ok dacl
  there : is_without acl ≡ false

null_of : (bytes : List ℕ) (o : ℕ) → (o == 0) ≡ true → acl_read true bytes o ≡ Ok Null
unfolding acl_read
null_of bytes o none = rw none refl

listed_of : (bytes : List ℕ) (o : ℕ) (list : WholeListValue) → (o == 0) ≡ false → is_outside bytes o ≡ false → whole_list_read (drop o bytes) ≡ Ok list → acl_read true bytes o ≡ Ok (Entries list)
unfolding acl_read
listed_of bytes o list some inside read = rw (some, inside, read) refl

dacl_too : (bytes : List ℕ) (o : ℕ) (dacl : Dacl) → dacl_read bytes o ≡ Ok dacl → AclToo bytes o dacl
unfolding dacl_read
dacl_too bytes o dacl e = elim (chosen (o == 0) _ _ _ e) [
  | inl none ↦ subst (AclToo bytes o) (good_is Null dacl none.1) (record { acl = Null; read = null_of bytes o none.0; same = refl; there = refl })
  | inr some ↦
      let place = passed (is_outside bytes o) BadOffset (list_read bytes o >>= λ (es : List Ace). Ok (Entries es)) dacl some.1 in
      let list = bound (list_read bytes o) (λ (es : List Ace). Ok (Entries es)) dacl place.1 in
      let too = list_too bytes o list.0 list.1 in
      subst (AclToo bytes o) (good_is (Entries list.0) dacl list.2) (record { acl = Entries too.list; read = listed_of bytes o too.list some.0 place.0 too.read; same = rw (plain_listed too.list.entries list.0 too.same) refl; there = refl })
]

-- a header that passes the tests of plain descriptors passes those of whole ones
record ControlToo (bytes : List ℕ) (c : ℕ) : Type 0 where
  read : header_read bytes ≡ Ok c
  no_sacl : is_set 0x0010 c ≡ true → u32_at bytes 12 ≡ 0

control_too : (bytes : List ℕ) (c : ℕ) → control_read bytes ≡ Ok c → ControlToo bytes c
unfolding control_read
control_too bytes c e =
    let header = bound (header_read bytes) (λ (bits : ℕ). cond (is_set 0x0010 bits && not (u32_at bytes 12 == 0)) (Err HasSacl) (Ok bits)) c e in
    let none = passed (is_set 0x0010 header.0 && not (u32_at bytes 12 == 0)) HasSacl (Ok header.0) c header.2 in
    let is : header.0 ≡ c = good_is header.0 c none.1 in
    subst (ControlToo bytes) is (record {
      read = header.1;
      no_sacl = λ set. let clear : not (u32_at bytes 12 == 0) ≡ false = sym (ap (λ b. b && not (u32_at bytes 12 == 0)) set) ∙ none.0 in eqb-true _ _ (not-false _ clear);
    })

-- the DACL of a descriptor, and the control bits that speak of it
abbrev control_now : ℕ → ℕ
control_now c = bit_and c kept_bits

kept_bit : (c bit : ℕ) → bit_and kept_bits bit ≡ bit → is_set bit (control_now c) ≡ is_set bit c
kept_bit c bit h = let same : bit_and (bit_and c kept_bits) bit ≡ bit_and c bit = and_assoc bit c kept_bits ∙ ap (bit_and c) h in rw same refl

and_true : (b : Bool) → (b && true) ≡ b
and_true true = refl
and_true false = refl

and_false : (b : Bool) → (b && false) ≡ false
and_false true = refl
and_false false = refl

no_acl : (bytes : List ℕ) (present : Bool) → present ≡ false → acl_read present bytes (u32_at bytes 16) ≡ Ok Absent
unfolding acl_read
no_acl bytes present h = rw h refl

-- a SACL without entries
record SaclToo (bytes : List ℕ) (c : ℕ) : Type 0 where
  acl : WholeAcl
  read : acl_read (is_set 0x0010 c) bytes (u32_at bytes 12) ≡ Ok acl
  empty : has_entries acl ≡ false

sacl_too : (bytes : List ℕ) (c : ℕ) → (is_set 0x0010 c ≡ true → u32_at bytes 12 ≡ 0) → SaclToo bytes c
unfolding acl_read
sacl_too bytes c none = elim (cases_Bool (is_set 0x0010 c)) [
  | inl set ↦ record { acl = Null; read = rw (set, none set) refl; empty = refl }
  | inr clear ↦ record { acl = Absent; read = rw clear refl; empty = refl }
]

-- what a descriptor is parsed as, and its plain form
whole_of_parts : (bytes : List ℕ) (c : ℕ) (owner group : Option SidValue) (sacl dacl : WholeAcl) → header_read bytes ≡ Ok c → trustee_read bytes (u32_at bytes 4) ≡ Ok owner → trustee_read bytes (u32_at bytes 8) ≡ Ok group
    → acl_read (is_set 0x0010 c) bytes (u32_at bytes 12) ≡ Ok sacl → acl_read (is_set 0x0004 c) bytes (u32_at bytes 16) ≡ Ok dacl
    → whole_read bytes ≡ Ok (record { resource_manager = get_or bytes 1 0; control = control_now c; owner = owner; group = group; sacl = sacl; dacl = dacl })
unfolding whole_read
whole_of_parts bytes c owner group sacl dacl control first second third fourth = rw (control, first, second, third, fourth) refl

-- what a plain descriptor is of a whole one
abbrev Too : List ℕ → DescriptorValue → Type 0
Too bytes v = (d : WholeDescriptor) × (whole_read bytes ≡ Ok d) × IsPlainOf d v

with_a_dacl : (bytes : List ℕ) (c : ℕ) (owner group : Option SidValue) (v : DescriptorValue) → SaclToo bytes c → header_read bytes ≡ Ok c → trustee_read bytes (u32_at bytes 4) ≡ Ok owner → trustee_read bytes (u32_at bytes 8) ≡ Ok group → is_set 0x0004 c ≡ true
    → (dacl_read bytes (u32_at bytes 16) >>= λ (dacl : Dacl). Ok (record { owner = owner; group = group; dacl = dacl; protected = is_set 0x1000 c; auto_req = is_set 0x0100 c; auto_inherited = is_set 0x0400 c })) ≡ Ok v → Too bytes v
with_a_dacl bytes c owner group v sacl control first second set e =
    let made : Dacl → DescriptorValue = λ dacl. record { owner = owner; group = group; dacl = dacl; protected = is_set 0x1000 c; auto_req = is_set 0x0100 c; auto_inherited = is_set 0x0400 c } in
    let dacl = bound (dacl_read bytes (u32_at bytes 16)) (λ (dacl : Dacl). Ok (made dacl)) v e in
    let too = dacl_too bytes (u32_at bytes 16) dacl.0 dacl.1 in
    let read : acl_read (is_set 0x0004 c) bytes (u32_at bytes 16) ≡ Ok too.acl = ap (λ b. acl_read b bytes (u32_at bytes 16)) set ∙ too.read in
    let d : WholeDescriptor = record { resource_manager = get_or bytes 1 0; control = control_now c; owner = owner; group = group; sacl = sacl.acl; dacl = too.acl } in
    let bit : (b : ℕ) → bit_and kept_bits b ≡ b → (is_set b (control_now c) && not (is_without too.acl)) ≡ is_set b c = λ b h. rw (kept_bit c b h, too.there) (and_true (is_set b c)) in
    let plain_is : IsPlainOf d (made dacl.0) = record { sacl = sacl.empty; part = rw (too.same, bit 0x1000 refl, bit 0x0100 refl, bit 0x0400 refl) refl } in
    (d, whole_of_parts bytes c owner group sacl.acl too.acl control first second sacl.read read, subst (IsPlainOf d) (good_is (made dacl.0) v dacl.2) plain_is)

without_a_dacl : (bytes : List ℕ) (c : ℕ) (owner group : Option SidValue) (v : DescriptorValue) → SaclToo bytes c → header_read bytes ≡ Ok c → trustee_read bytes (u32_at bytes 4) ≡ Ok owner → trustee_read bytes (u32_at bytes 8) ≡ Ok group → is_set 0x0004 c ≡ false
    → good (record { owner = owner; group = group; dacl = Absent; protected = false; auto_req = false; auto_inherited = false }) ≡ Ok v → Too bytes v
without_a_dacl bytes c owner group v sacl control first second clear e =
    let made : DescriptorValue = record { owner = owner; group = group; dacl = Absent; protected = false; auto_req = false; auto_inherited = false } in
    let read : acl_read (is_set 0x0004 c) bytes (u32_at bytes 16) ≡ Ok Absent = no_acl bytes (is_set 0x0004 c) clear in
    let d : WholeDescriptor = record { resource_manager = get_or bytes 1 0; control = control_now c; owner = owner; group = group; sacl = sacl.acl; dacl = Absent } in
    let plain_is : IsPlainOf d made = record { sacl = sacl.empty; part = rw (and_false (is_set 0x1000 (control_now c)), and_false (is_set 0x0100 (control_now c)), and_false (is_set 0x0400 (control_now c))) refl } in
    (d, whole_of_parts bytes c owner group sacl.acl Absent control first second sacl.read read, subst (IsPlainOf d) (good_is made v e) plain_is)

pub plain_are_whole : PlainDescriptorsAreWhole
unfolding descriptor_read
plain_are_whole bytes v e =
    let made : ℕ → Option SidValue → Option SidValue → Dacl → Result DescriptorValue WireFault = λ c owner group dacl.
    Ok (record { owner = owner; group = group; dacl = dacl; protected = is_set 0x1000 c; auto_req = is_set 0x0100 c; auto_inherited = is_set 0x0400 c }) in
    let with_none : Option SidValue → Option SidValue → Result DescriptorValue WireFault = λ owner group.
    Ok (record { owner = owner; group = group; dacl = Absent; protected = false; auto_req = false; auto_inherited = false }) in
    let with_group : ℕ → Option SidValue → Option SidValue → Result DescriptorValue WireFault = λ c owner group.
    cond (is_set 0x0004 c) (dacl_read bytes (u32_at bytes 16) >>= made c owner group) (with_none owner group) in
    let with_owner : ℕ → Option SidValue → Result DescriptorValue WireFault = λ c owner. trustee_read bytes (u32_at bytes 8) >>= with_group c owner in
    let with_control : ℕ → Result DescriptorValue WireFault = λ c. trustee_read bytes (u32_at bytes 4) >>= with_owner c in
    let control = bound (control_read bytes) with_control v e in
    let c : ℕ = control.0 in
    let owner = bound (trustee_read bytes (u32_at bytes 4)) (with_owner c) v control.2 in
    let group = bound (trustee_read bytes (u32_at bytes 8)) (with_group c owner.0) v owner.2 in
    let header = control_too bytes c control.1 in
    let sacl = sacl_too bytes c header.no_sacl in
    elim (chosen (is_set 0x0004 c) (dacl_read bytes (u32_at bytes 16) >>= made c owner.0 group.0) (with_none owner.0 group.0) (Ok v) group.2) [
      | inl set ↦ with_a_dacl bytes c owner.0 group.0 v sacl header.read owner.1 group.1 set.0 set.1
      | inr clear ↦ without_a_dacl bytes c owner.0 group.0 v sacl header.read owner.1 group.1 clear.0 clear.1
    ]
