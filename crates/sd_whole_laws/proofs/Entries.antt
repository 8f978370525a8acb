-- The printed text of an entry is parsed as that entry.
use Rattle.std.proofs.Common.{List, None, Ok, Option, Some, [], append_assoc, arith, cond, inl, inr, length, refl, sym, true, ℕ, ◌++◌, ◌+◌, ◌<◌, ◌^◌, ◌∷◌, ◌≡◌, ◌≤◌}
use Rattle.std.specs.Prelude.{IfSome, codes, is_some, ◌==◌}
use Rattle.std.specs.Fmt.{◌++?◌}
use Rattle.std.proofs.lemmas.Bool.{eqb-false, le-ltb, ne_eqb}
use Rattle.sd_acl.specs.Descriptor.{IsAce}
use Rattle.sd_acl.specs.declared.ace.Ace.{Ace}
use Rattle.sd_acl.specs.declared.ace.AceKind.{AceKind}
use Rattle.sd_acl.specs.declared.ace.AceKind.TheVariants as plain
use Rattle.sd_sid.specs.Sid.{IsSid}
use Rattle.sd_text.proofs.CanonSids.{Stops}
use Rattle.sd_text.proofs.Parts.{chosen, found}
use Rattle.sd_text.specs.Canon.{sid_canon}
use Rattle.sd_text.specs.declared.alias.Aliases.{Aliases}
use Rattle.sd_text.specs.declared.right_names.RightNames.{RightNames}
use Rattle.sd_whole.specs.Entry.{whole_ace_size}
use Rattle.sd_whole.specs.Kind.{has_object_types, plain_kind}
use Rattle.sd_whole.specs.Layout.{no_types}
use Rattle.sd_whole.specs.Reading.{plain_or_typed}
use Rattle.sd_whole.specs.Whole.{AreTypes, IsTyped, IsWholeAce}
use Rattle.sd_whole.specs.declared.ace.TypedAce.{TypedAce}
use Rattle.sd_whole.specs.declared.ace.WholeAce.{WholeAce}
use Rattle.sd_whole.specs.declared.ace.WholeAce.TheVariants.{Plain, Typed, Opaque}
use Rattle.sd_whole.specs.declared.kind.WholeKind.{WholeKind}
use Rattle.sd_whole.specs.declared.kind.WholeKind.TheVariants as kinds
use Rattle.sd_whole_parse.specs.Data.{data_found}
use Rattle.sd_whole_parse.specs.Entry.{entry_end, entry_found}
use Rattle.sd_whole_parse.specs.Spaces.{at_entry}
use Rattle.sd_whole_text.specs.Data.{condition_in, claim_in, data_text, field_text, last_field}
use Rattle.sd_whole_text.specs.Entry.{entry_text, head_text, types_text}
use Rattle.sd_whole_text.specs.Flags.{flags_text}
use Rattle.sd_whole_text.specs.Kind.{kind_of_plain, letters_of}
use Rattle.sd_whole_text.specs.Level.{trustee_text}
use Rattle.sd_whole_text.specs.NoText.{entry_test}
use Rattle.sd_whole_text.specs.Rights.{rights_text}
use Rattle.sd_whole_text.specs.declared.no_text.AclKind.{AclKind}
use Rattle.sd_whole_laws.proofs.Data.{data_back}
use Rattle.sd_whole_laws.proofs.Flags.{flags_read}
use Rattle.sd_whole_laws.proofs.Guids.{types_read}
use Rattle.sd_whole_laws.proofs.Letters.{kind_read}
use Rattle.sd_whole_laws.proofs.Rights.{rights_read}
use Rattle.sd_whole_laws.proofs.Trustees.{trustee_read}
use Rattle.sd_whole_laws.specs.Laws.{AreBytes, HasBytes, IsOfBytes}

-- ---- the fields of an entry, the last of which is its data's

-- the text of an entry after its `(`, and what follows the entry
unfoldable pub body : RightNames → TypedAce → List ℕ → List ℕ → List ℕ
body names e field rest =
    letters_of e.kind ++ (59 ∷ (flags_text e.kind e.flags.0 ++ (59 ∷ (rights_text names e.kind e.mask ++ (59 ∷ (types_text (has_object_types e.kind) e.types ++ (59 ∷ (trustee_text e.kind e.sid ++ (field ++ 41 ∷ rest)))))))))

regroup : (k f r t s d rest : List ℕ) → ((codes "(" ++ k ++ codes ";" ++ f ++ codes ";" ++ r ++ codes ";") ++ t ++ codes ";" ++ s ++ d ++ codes ")") ++ rest ≡ 40 ∷ (k ++ (59 ∷ (f ++ (59 ∷ (r ++ (59 ∷ (t ++ (59 ∷ (s ++ (d ++ 41 ∷ rest))))))))))
regroup k f r t s d rest = simp append_assoc

regroup_plain : (k f r s rest : List ℕ) → ((codes "(" ++ k ++ codes ";" ++ f ++ codes ";" ++ r ++ codes ";") ++ codes ";;" ++ s ++ codes ")") ++ rest ≡ 40 ∷ (k ++ (59 ∷ (f ++ (59 ∷ (r ++ (59 ∷ (59 ∷ (59 ∷ (s ++ 41 ∷ rest)))))))))
regroup_plain k f r s rest = simp append_assoc

-- what all entries of a kind with letters have, however their data is printed
pub record IsPrinted (known : Aliases) (e : TypedAce) (field : List ℕ) : Type 0 where
  pub letters : 0 < length (letters_of e.kind)
  pub flags : e.flags.0 < 2 ^ 8
  pub mask : e.mask < 2 ^ 32
  pub types : AreTypes (has_object_types e.kind) e.types
  pub object : IfSome e.types.object (λ guid. AreBytes guid.bytes)
  pub inherited : IfSome e.types.inherited (λ guid. AreBytes guid.bytes)
  pub sid : IsSid e.sid
  pub stops : (rest : List ℕ) → Stops (field ++ 41 ∷ rest)
  pub found : (rest : List ℕ) → data_found known e.kind (field ++ 41 ∷ rest) ≡ Ok (e.trailing, 41 ∷ rest)

entry_read : (known : Aliases) (names : RightNames) (size : ℕ) (e : TypedAce) (field rest : List ℕ) → IsPrinted known e field → size + whole_ace_size (plain_or_typed (plain_kind e.kind) e) ≤ 65535
    → entry_found known size (body names e field rest) ≡ Ok (plain_or_typed (plain_kind e.kind) e, at_entry rest)
unfolding entry_found entry_end body
entry_read known names size e field rest is fits =
    let last = field ++ 41 ∷ rest in
    let trustee = trustee_text e.kind e.sid ++ last in
    let types = types_text (has_object_types e.kind) e.types ++ (59 ∷ trustee) in
    let mask = rights_text names e.kind e.mask ++ (59 ∷ types) in
    let flags = flags_text e.kind e.flags.0 ++ (59 ∷ mask) in
    rw (
      kind_read e.kind flags is.letters,
      flags_read e.kind e.flags.0 mask is.flags,
      rights_read names e.kind e.mask types is.mask,
      types_read (has_object_types e.kind) e.types trustee is.types is.object is.inherited,
      trustee_read e.kind known e.sid last is.sid (is.stops rest),
      is.found rest,
      le-ltb 65535 (size + whole_ace_size (plain_or_typed (plain_kind e.kind) e)) fits,
    ) (refl {a = found (plain_or_typed (plain_kind e.kind) e) (at_entry rest)})

-- ---- entries, however they are made

-- an entry has a text after a `(`, which is parsed as the entry
pub record IsReadable (known : Aliases) (names : RightNames) (e : WholeAce) : Type 0 where
  pub behind : List ℕ → List ℕ
  pub opens : (rest : List ℕ) → entry_text names e ++ rest ≡ 40 ∷ behind rest
  pub read : (size : ℕ) (rest : List ℕ) → size + whole_ace_size e ≤ 65535 → entry_found known size (behind rest) ≡ Ok (e, at_entry rest)

-- an allow or a deny, with all fields
abbrev in_full : AceKind → Ace → TypedAce
in_full kind e = record { kind = kind_of_plain kind; flags = e.flags; mask = e.mask; types = no_types; sid = e.sid; trailing = [] }

stops_at_end : (rest : List ℕ) → Stops (41 ∷ rest)
stops_at_end rest = record { no_digit = refl; no_dash = refl }

plain_printed : (known : Aliases) (kind : AceKind) (e : Ace) → IsAce e → IsPrinted known (in_full kind e) []
unfolding data_found
plain_printed known plain.Allow e is = record {
  letters = omega arith;
  flags = is.flags;
  mask = is.mask;
  types = refl;
  object = tt;
  inherited = tt;
  sid = is.sid;
  stops = stops_at_end;
  found = λ rest. refl;
}
plain_printed known plain.Deny e is = record {
  letters = omega arith;
  flags = is.flags;
  mask = is.mask;
  types = refl;
  object = tt;
  inherited = tt;
  sid = is.sid;
  stops = stops_at_end;
  found = λ rest. refl;
}

-- of a kind alone, so that its letters are known
of_kind : (known : Aliases) (names : RightNames) (kind : AceKind) (e : Ace) → IsAce e → IsReadable known names (Plain (record e { kind = kind }))
unfolding head_text body
of_kind known names plain.Allow e is = record {
  behind = body names (in_full plain.Allow e) [];
  opens = λ rest. regroup_plain (letters_of (kind_of_plain plain.Allow)) (flags_text (kind_of_plain plain.Allow) e.flags.0) (rights_text names (kind_of_plain plain.Allow) e.mask) (sid_canon e.sid) rest;
  read = λ size rest fits. entry_read known names size (in_full plain.Allow e) [] rest (plain_printed known plain.Allow e is) fits;
}
of_kind known names plain.Deny e is = record {
  behind = body names (in_full plain.Deny e) [];
  opens = λ rest. regroup_plain (letters_of (kind_of_plain plain.Deny)) (flags_text (kind_of_plain plain.Deny) e.flags.0) (rights_text names (kind_of_plain plain.Deny) e.mask) (sid_canon e.sid) rest;
  read = λ size rest fits. entry_read known names size (in_full plain.Deny e) [] rest (plain_printed known plain.Deny e is) fits;
}

plain_readable : (known : Aliases) (names : RightNames) (e : Ace) → IsAce e → IsReadable known names (Plain e)
plain_readable known names e is = of_kind known names e.kind e is

-- ---- entries with a layout

-- they aren't plain
stays_typed : (kind : Option AceKind) (e : TypedAce) → IfSome kind (λ _. 0 < length e.trailing) → plain_or_typed kind e ≡ Typed e
stays_typed None e other = refl
stays_typed (Some kind) e other = rw (ne_eqb (length e.trailing) 0 (omega arith)) refl

-- the field of the data begins with a semicolon, or there is none
semicolon_stops : (o : Option (List ℕ)) (field rest : List ℕ) → (Some (codes ";") ++? o) ≡ Some field → Stops (field ++ 41 ∷ rest)
semicolon_stops None field rest e = absurd cc
semicolon_stops (Some text) field rest e = let same : 59 ∷ text ≡ field = cc (e) in rw (sym same) (record { no_digit = refl; no_dash = refl })

nothing_stops : (bytes field rest : List ℕ) → cond (length bytes == 0) (Some []) None ≡ Some field → Stops (field ++ 41 ∷ rest)
nothing_stops bytes field rest e =
    elim (chosen (length bytes == 0) _ _ _ e) [
      | inl h ↦ let same : [] ≡ field = cc (h.1) in rw (sym same) (stops_at_end rest)
      | inr h ↦ absurd (let no = h.1 in cc)
    ]

field_stops : (kind : WholeKind) (bytes field rest : List ℕ) → field_text (last_field kind) bytes ≡ Some field → Stops (field ++ 41 ∷ rest)
field_stops kinds.CallbackAllow bytes field rest e = semicolon_stops (condition_in bytes) field rest e
field_stops kinds.CallbackDeny bytes field rest e = semicolon_stops (condition_in bytes) field rest e
field_stops kinds.CallbackObjectAllow bytes field rest e = semicolon_stops (condition_in bytes) field rest e
field_stops kinds.CallbackObjectDeny bytes field rest e = semicolon_stops (condition_in bytes) field rest e
field_stops kinds.CallbackAudit bytes field rest e = semicolon_stops (condition_in bytes) field rest e
field_stops kinds.CallbackObjectAudit bytes field rest e = semicolon_stops (condition_in bytes) field rest e
field_stops kinds.AccessFilter bytes field rest e = semicolon_stops (condition_in bytes) field rest e
field_stops kinds.ResourceAttribute bytes field rest e = semicolon_stops (claim_in bytes) field rest e
field_stops kind bytes field rest e = nothing_stops bytes field rest e

typed_printed : (known : Aliases) (e : TypedAce) (field : List ℕ) → IsTyped e → HasBytes e → 0 < length (letters_of e.kind) → data_text e ≡ Some field → IsPrinted known e field
typed_printed known e field is bytes letters printed = record {
  letters = letters;
  flags = bytes.flags;
  mask = is.mask;
  types = is.types;
  object = bytes.object;
  inherited = bytes.inherited;
  sid = is.sid;
  stops = λ rest. field_stops e.kind e.trailing field rest printed;
  found = λ rest. data_back known e field rest bytes.trailing letters printed;
}

with_field : (known : Aliases) (names : RightNames) (e : TypedAce) (field : List ℕ) → IsTyped e → data_text e ≡ Some field → IsPrinted known e field → IsReadable known names (Typed e)
unfolding head_text body
with_field known names e field is text printed =
    let typed = stays_typed (plain_kind e.kind) e is.other in
    record {
      behind = body names e field;
      opens = λ rest. rw text (regroup (letters_of e.kind) (flags_text e.kind e.flags.0) (rights_text names e.kind e.mask) (types_text (has_object_types e.kind) e.types) (trustee_text e.kind e.sid) field rest);
      read = λ size rest fits. rw typed at (entry_read known names size e field rest printed (rw typed fits));
    }

-- one with a text has a field of its data
has_field : (o : Option (List ℕ)) → is_some o ≡ true → (field : List ℕ) × (o ≡ Some field)
has_field None e = absurd cc
has_field (Some field) e = (field, refl)

typed_readable : (known : Aliases) (names : RightNames) (acl : AclKind) (place : ℕ) (e : TypedAce) → IsTyped e → HasBytes e → entry_test acl place (Typed e) ≡ Ok tt → IsReadable known names (Typed e)
typed_readable known names acl place e is bytes passes =
    elim (chosen (length (letters_of e.kind) == 0) _ _ _ passes) [
      | inl h ↦ absurd (let no = h.1 in cc)
      | inr h ↦ elim (chosen (is_some (data_text e)) _ _ _ h.1) [
        | inl k ↦
            let field = has_field (data_text e) k.0 in
            let apart = eqb-false (length (letters_of e.kind)) 0 h.0 in
            with_field known names e field.0 is field.1 (typed_printed known e field.0 is bytes (omega arith) field.1)
        | inr k ↦ absurd (let no = k.1 in cc)
      ]
    ]

pub readable : (known : Aliases) (names : RightNames) (acl : AclKind) (place : ℕ) (e : WholeAce) → IsWholeAce e → IsOfBytes e → entry_test acl place e ≡ Ok tt → IsReadable known names e
readable known names acl place (Plain e) is bytes passes = plain_readable known names e is
readable known names acl place (Typed e) is bytes passes = typed_readable known names acl place e is bytes passes
readable known names acl place (Opaque e) is bytes passes = absurd cc
