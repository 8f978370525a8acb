-- Where `diff` has no line, nothing differs.
use Rattle.std.proofs.Common.{Bool, List, None, Option, Some, [], ap, false, map, refl, true, ℕ, ◌++◌, ◌==◌, ◌≡◌, ◌∷◌}
use Rattle.std.proofs.lemmas.Bool.{eqb-true}
use Rattle.std.specs.List.{flat_map}
use Rattle.sd_acl.specs.declared.descriptor.DaclOf.TheVariants.{Absent, Null, List as Entries}
use Rattle.sd_sid.proofs.Compared.{same_sid-true}
use Rattle.sd_sid.specs.Sid.{SidValue}
use Rattle.sd_whole.specs.Reading.{WholeAcl}
use Rattle.sd_whole.specs.declared.list.ListRevision.{ListRevision}
use Rattle.sd_whole.specs.declared.list.ListRevision.TheVariants.{Standard, DirectoryService}
use Rattle.sd_whole_text.specs.declared.no_text.AclKind.{AclKind}
use Rattle.sd_whole_text.specs.declared.no_text.AclKind.TheVariants as lists
use Rattle.sd_wire.specs.Reading.{is_set}
use Rattle.sd_show.proofs.SameLists.{if_nil, nil_parts, same_lists}
use Rattle.sd_show.specs.Control.{BitWord, bits_of, field_of}
use Rattle.sd_show.specs.Diff.{acl_changes, bit_changes, bits_changes, byte_changes, entry_changes, same_trustee, state_changes, state_of, trustee_changes, word_changes}
use Rattle.sd_show.specs.Laws.{NoLineMeansAlike, bits_set}
use Rattle.sd_show.specs.Show.{entries_of, is_of_directory, is_revision_4}
use Rattle.sd_show.specs.declared.control.Field.{Field}
use Rattle.sd_show.specs.declared.control.Field.TheVariants.{Owner, Group, ResourceManager, Dacl, Sacl}
use Rattle.sd_show.specs.declared.show.TheConstants.{REVISION_WORD}

one_trustee : (was is : Option SidValue) → same_trustee was is ≡ true → was ≡ is
one_trustee None None e = refl
one_trustee None (Some b) e = absurd cc
one_trustee (Some a) None e = absurd cc
one_trustee (Some a) (Some b) e = ap Some (same_sid-true a b e)

trustees : (field : Field) (was is : Option SidValue) → trustee_changes field was is ≡ [] → was ≡ is
trustees field was is none = one_trustee was is (if_nil (same_trustee was is) _ none)

bytes : (was is : ℕ) → byte_changes was is ≡ [] → was ≡ is
bytes was is none = eqb-true was is (if_nil (was == is) _ none)

words : (field : Field) (word : List ℕ) (was is : Bool) → word_changes field word was is ≡ [] → was ≡ is
words field word false false none = refl
words field word false true none = absurd cc
words field word true false none = absurd cc
words field word true true none = refl

bits : (field : Field) (was is : ℕ) (named : List BitWord) → flat_map (bit_changes field was is) named ≡ []
    → map (λ (one : BitWord). is_set one.0 was) named ≡ map (λ (one : BitWord). is_set one.0 is) named
bits field was is [] none = refl
bits field was is (one ∷ named) none =
    let parts = nil_parts (bit_changes field was is one) (flat_map (bit_changes field was is) named) none in
    let first = words field one.1 (is_set one.0 was) (is_set one.0 is) parts.0 in
    let others = bits field was is named parts.1 in
    λ i. first i ∷ others i

revisions : (a b : ListRevision) → is_revision_4 a ≡ is_revision_4 b → a ≡ b
revisions Standard Standard e = refl
revisions Standard DirectoryService e = absurd cc
revisions DirectoryService Standard e = absurd cc
revisions DirectoryService DirectoryService e = refl

acls : (kind : AclKind) (field : Field) (old new : WholeAcl) → state_changes field (state_of old) (state_of new) ≡ []
    → word_changes field REVISION_WORD.now (is_of_directory old) (is_of_directory new) ≡ []
    → entry_changes kind (entries_of old) (entries_of new) ≡ [] → old ≡ new
acls kind field Absent Absent state revision entries = refl
acls kind field Absent Null state revision entries = absurd cc
acls kind field Absent (Entries b) state revision entries = absurd cc
acls kind field Null Absent state revision entries = absurd cc
acls kind field Null Null state revision entries = refl
acls kind field Null (Entries b) state revision entries = absurd cc
acls kind field (Entries a) Absent state revision entries = absurd cc
acls kind field (Entries a) Null state revision entries = absurd cc
acls kind field (Entries a) (Entries b) state revision entries =
    let revision' = revisions a.revision b.revision (words field REVISION_WORD.now (is_revision_4 a.revision) (is_revision_4 b.revision) revision) in
    let entries' = same_lists kind a.entries b.entries entries in
    λ i. Entries (record { revision = revision' i; entries = entries' i })

-- what the changes of a list say
record OneAcl (kind : AclKind) (was is : ℕ) (old new : WholeAcl) : Type 0 where
  control : bits_set (field_of kind) was ≡ bits_set (field_of kind) is
  acl : old ≡ new

one_acl : (kind : AclKind) (was is : ℕ) (old new : WholeAcl) → acl_changes kind was is old new ≡ [] → OneAcl kind was is old new
one_acl kind was is old new none =
    let field = field_of kind in
    let state = state_changes field (state_of old) (state_of new) in
    let control = bits_changes field was is in
    let revision = word_changes field REVISION_WORD.now (is_of_directory old) (is_of_directory new) in
    let p3 = nil_parts (state ++ control ++ revision) (entry_changes kind (entries_of old) (entries_of new)) none in
    let p2 = nil_parts (state ++ control) revision p3.0 in
    let p1 = nil_parts state control p2.0 in
    record {
      control = bits field was is (bits_of field) p1.1;
      acl = acls kind field old new p1.0 p2.1 p3.1;
    }

pub no_line_means_alike : NoLineMeansAlike
no_line_means_alike old new none =
    let t1 = trustee_changes Owner old.owner new.owner in
    let t2 = bits_changes Owner old.control new.control in
    let t3 = trustee_changes Group old.group new.group in
    let t4 = bits_changes Group old.control new.control in
    let t5 = byte_changes old.resource_manager new.resource_manager in
    let t6 = bits_changes ResourceManager old.control new.control in
    let t7 = acl_changes lists.Dacl old.control new.control old.dacl new.dacl in
    let t8 = acl_changes lists.Sacl old.control new.control old.sacl new.sacl in
    let p8 = nil_parts (t1 ++ t2 ++ t3 ++ t4 ++ t5 ++ t6 ++ t7) t8 none in
    let p7 = nil_parts (t1 ++ t2 ++ t3 ++ t4 ++ t5 ++ t6) t7 p8.0 in
    let p6 = nil_parts (t1 ++ t2 ++ t3 ++ t4 ++ t5) t6 p7.0 in
    let p5 = nil_parts (t1 ++ t2 ++ t3 ++ t4) t5 p6.0 in
    let p4 = nil_parts (t1 ++ t2 ++ t3) t4 p5.0 in
    let p3 = nil_parts (t1 ++ t2) t3 p4.0 in
    let p2 = nil_parts t1 t2 p3.0 in
    let dacl = one_acl lists.Dacl old.control new.control old.dacl new.dacl p7.1 in
    let sacl = one_acl lists.Sacl old.control new.control old.sacl new.sacl p8.1 in
    record {
      owner = trustees Owner old.owner new.owner p2.0;
      group = trustees Group old.group new.group p3.1;
      resource_manager = bytes old.resource_manager new.resource_manager p5.1;
      control = λ field. elim field as (λ f. bits_set f old.control ≡ bits_set f new.control) [
        | Owner ↦ bits Owner old.control new.control (bits_of Owner) p2.1
        | Group ↦ bits Group old.control new.control (bits_of Group) p4.1
        | ResourceManager ↦ bits ResourceManager old.control new.control (bits_of ResourceManager) p6.1
        | Dacl ↦ dacl.control
        | Sacl ↦ sacl.control
      ];
      dacl = dacl.acl;
      sacl = sacl.acl;
    }
