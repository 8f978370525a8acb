-- Entries that pass the test are one.
use Rattle.std.proofs.Common.{None, Option, Some, ap, refl, sym, true, ◌&&◌, ◌==◌, ◌≡◌, ◌∙◌}
use Rattle.std.proofs.lemmas.Bool.{and_parts, eqb-true}
use Rattle.std.proofs.lemmas.Slice.Eq.{bytes_eq-Decides}
use Rattle.std.specs.Str.{bytes_eq}
use Rattle.sd_acl.proofs.SameAces.{one_ace}
use Rattle.sd_sid.proofs.Compared.{same_sid-true}
use Rattle.sd_sid.specs.Sid.{same_sid}
use Rattle.sd_whole.proofs.KindNumbers.{kind_is_found}
use Rattle.sd_whole.specs.Kind.{kind_number, kind_of}
use Rattle.sd_whole.specs.declared.ace.OpaqueAce.{OpaqueAce}
use Rattle.sd_whole.specs.declared.ace.TypedAce.{TypedAce}
use Rattle.sd_whole.specs.declared.ace.WholeAce.{WholeAce}
use Rattle.sd_whole.specs.declared.ace.WholeAce.TheVariants.{Plain, Typed, Opaque}
use Rattle.sd_whole.specs.declared.kind.WholeKind.{WholeKind}
use Rattle.sd_whole.specs.declared.types.Guid.{Guid}
use Rattle.sd_show.specs.Same.{same_entry, same_guid, same_opaque, same_typed}

kinds : (a b : WholeKind) → (kind_number a == kind_number b) ≡ true → a ≡ b
kinds a b e =
    let found : Some a ≡ Some b = sym (kind_is_found a) ∙ ap kind_of (eqb-true (kind_number a) (kind_number b) e) ∙ kind_is_found b in
    cc

guids : (a b : Option Guid) → same_guid a b ≡ true → a ≡ b
guids None None e = refl
guids None (Some b) e = absurd cc
guids (Some a) None e = absurd cc
guids (Some a) (Some b) e =
    let bytes = (bytes_eq-Decides a.bytes b.bytes).0 e in
    λ i. Some (record { bytes = bytes i })

typeds : (a b : TypedAce) → same_typed a b ≡ true → a ≡ b
typeds a b e =
    let t1 = kind_number a.kind == kind_number b.kind in
    let t2 = a.flags.0 == b.flags.0 in
    let t3 = a.mask == b.mask in
    let t4 = same_guid a.types.object b.types.object in
    let t5 = same_guid a.types.inherited b.types.inherited in
    let t6 = same_sid a.sid b.sid in
    let p7 = and_parts (t1 && t2 && t3 && t4 && t5 && t6) (bytes_eq a.trailing b.trailing) e in
    let p6 = and_parts (t1 && t2 && t3 && t4 && t5) t6 p7.0 in
    let p5 = and_parts (t1 && t2 && t3 && t4) t5 p6.0 in
    let p4 = and_parts (t1 && t2 && t3) t4 p5.0 in
    let p3 = and_parts (t1 && t2) t3 p4.0 in
    let p2 = and_parts t1 t2 p3.0 in
    let kind = kinds a.kind b.kind p2.0 in
    let flags = eqb-true a.flags.0 b.flags.0 p2.1 in
    let mask = eqb-true a.mask b.mask p3.1 in
    let object = guids a.types.object b.types.object p4.1 in
    let inherited = guids a.types.inherited b.types.inherited p5.1 in
    let sid = same_sid-true a.sid b.sid p6.1 in
    let trailing = (bytes_eq-Decides a.trailing b.trailing).0 p7.1 in
    λ i. record {
      kind = kind i;
      flags = record { 0 = flags i };
      mask = mask i;
      types = record { object = object i; inherited = inherited i };
      sid = sid i;
      trailing = trailing i;
    }

opaques : (a b : OpaqueAce) → same_opaque a b ≡ true → a ≡ b
opaques a b e =
    let t1 = a.kind == b.kind in
    let t2 = a.flags.0 == b.flags.0 in
    let p3 = and_parts (t1 && t2) (bytes_eq a.body b.body) e in
    let p2 = and_parts t1 t2 p3.0 in
    let kind = eqb-true a.kind b.kind p2.0 in
    let flags = eqb-true a.flags.0 b.flags.0 p2.1 in
    let body = (bytes_eq-Decides a.body b.body).0 p3.1 in
    λ i. record { kind = kind i; flags = record { 0 = flags i }; body = body i }

pub same_entries : (a b : WholeAce) → same_entry a b ≡ true → a ≡ b
same_entries (Plain a) (Plain b) e = ap Plain (one_ace a b e)
same_entries (Plain a) (Typed b) e = absurd cc
same_entries (Plain a) (Opaque b) e = absurd cc
same_entries (Typed a) (Plain b) e = absurd cc
same_entries (Typed a) (Typed b) e = ap Typed (typeds a b e)
same_entries (Typed a) (Opaque b) e = absurd cc
same_entries (Opaque a) (Plain b) e = absurd cc
same_entries (Opaque a) (Typed b) e = absurd cc
same_entries (Opaque a) (Opaque b) e = ap Opaque (opaques a b e)
