-- A SID's fields, from its value; and that equal SIDs are hashed alike.
use Rattle.std.specs.Prelude.{◌≡◌, ◌&&◌, ◌==◌, IsTrue, ℕ, ◌-◌, ◌++◌, length, take, replicate, List}
use Rattle.std.specs.Hash as fed
use Rattle.std.specs.Str.{bytes_eq}
use Rattle.std.proofs.Common.{ap, sym, ◌∙◌, arith}
use Rattle.std.proofs.Math.Seq.{take-append_seam}
use Rattle.std.proofs.lemmas.Bool.{and_parts, eqb-true}
use Rattle.std.proofs.lemmas.List.{length-take-le, take-append-drop}
use Rattle.std.proofs.lemmas.Slice.Eq.{bytes_eq-Decides}
use Rattle.sd_sid.specs.Sid.{SidValue, IsPadded}
use Rattle.sd_sid.specs.declared.sid.Sid.TheInside.{Inside}

-- the value of the fields
abbrev pub value_of : Inside → SidValue
value_of s = record { authority = s.authority; subs = take s.count s.subs }

-- the fields of a value
abbrev pub fields_of : SidValue → Inside
fields_of v = record {
  authority = v.authority;
  subs = v.subs ++ replicate (15 - length v.subs) 0;
  count = length v.subs;
}

pub parts_come_back : (s : Inside) → IsPadded s.authority s.subs s.count → fields_of (value_of s) ≡ s
parts_come_back s h =
    let counted : length (take s.count s.subs) ≡ s.count = length-take-le s.count s.subs
    (omega (arith, h.few, h.room)) in
    let joined : take s.count s.subs ++ replicate (15 - s.count) 0 ≡ s.subs =
    ap (λ rest. take s.count s.subs ++ rest) (sym h.padding) ∙ take-append-drop s.count s.subs in
    rw counted (ap (λ (subs : List ℕ). record { authority = s.authority; subs = subs; count = s.count }) joined)

-- the writes by which a SID is hashed
abbrev pub hash_input : SidValue → List (List ℕ)
hash_input s = fed.u64 s.authority ++ fed.slice fed.u32 s.subs

-- SIDs whose fields are equal are equal, and so are hashed alike
pub alike : (a b : SidValue)
    → IsTrue (a.authority == b.authority
    && (bytes_eq (fields_of a).subs (fields_of b).subs && length a.subs == length b.subs))
    → hash_input a ≡ hash_input b
alike a b h =
    let authority = and_parts _ _ h in
    let rest = and_parts _ _ authority.1 in
    let subs : (fields_of a).subs ≡ (fields_of b).subs = (bytes_eq-Decides _ _).0 rest.0 in
    let again : (v : SidValue) → take (length v.subs) (fields_of v).subs ≡ v.subs = λ v.
    take-append_seam v.subs (replicate (15 - length v.subs) 0) in
    let equal : a.subs ≡ b.subs = sym (again a) ∙ ap (λ n. take n (fields_of a).subs) (eqb-true _ _ rest.1)
    ∙ ap (take (length b.subs)) subs ∙ again b in
    ap (λ authority. fed.u64 authority ++ fed.slice fed.u32 a.subs) (eqb-true _ _ authority.0)
    ∙ ap (λ (subs : List ℕ). fed.u64 b.authority ++ fed.slice fed.u32 subs) equal
