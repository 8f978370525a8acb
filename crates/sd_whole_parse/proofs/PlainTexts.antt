-- The text of a plain descriptor says the same descriptor.
use Rattle.std.proofs.Common.{List, Ok, [], arith, ap, cond, drop, false, inl, inr, length, refl, subst, sym, true, ℕ, ◌∙◌, ◌∷◌, ◌≡◌}
use Rattle.std.specs.Prelude.{Bool, codes, ◌==◌}
use Rattle.std.proofs.lemmas.Bool.{eqb-true}
use Rattle.std.specs.List.{list_any}
use Rattle.sd_acl.specs.declared.ace.Ace.{Ace}
use Rattle.sd_acl.specs.declared.descriptor.DaclOf.TheVariants.{Absent, Null, List as Entries}
use Rattle.sd_text.proofs.CanonDescriptors.{descriptors_come_back}
use Rattle.sd_text.proofs.Engine.{spells_find}
use Rattle.sd_text.proofs.Parts.{chosen, found}
use Rattle.sd_whole.specs.declared.descriptor.WholeDescriptor.{WholeDescriptor}
use Rattle.sd_text.specs.Canon.{canon_in}
use Rattle.sd_text.specs.Entry.{entries}
use Rattle.sd_text.specs.Finding.{Found, find}
use Rattle.sd_text.specs.Grammar.{begins, end, spells}
use Rattle.sd_text.specs.Sddl.{dacl_behind, dacl_section, no_sacl, no_words, parts, sections, sid_section, words}
use Rattle.sd_text.specs.declared.alias.Aliases.{Aliases}
use Rattle.sd_text.specs.declared.descriptor.DaclWords.{DaclWords}
use Rattle.sd_whole_parse.specs.Acl.{acl_behind, acl_section, is_object, list_of}
use Rattle.sd_whole_parse.specs.Finding.{done, ◌>>=◌}
use Rattle.sd_whole_parse.specs.declared.acl.AclPart.{AclPart}
use Rattle.sd_whole_parse.specs.Descriptor.{whole_found}
use Rattle.sd_whole_parse.specs.Entry.{entries_found}
use Rattle.sd_whole_parse.specs.Laws.{PlainTextsAreReadAlike, PlainTextsComeBack}
use Rattle.sd_whole_text.specs.Plain.{whole_dacl}
use Rattle.sd_whole_parse.specs.Spaces.{at_entry, to_entry}
use Rattle.sd_whole_parse.proofs.PlainEntries.{items_alike, plain_ones, stays_here}

-- plain entries have no object types
pub none_is_object : (es : List Ace) → list_any is_object (plain_ones es) ≡ false
none_is_object [] = refl
none_is_object (e ∷ es) = none_is_object es

entries_alike : (known : Aliases) (text : List ℕ) (es : List Ace) (behind : List ℕ) → at_entry behind ≡ behind → spells (entries known) text es behind → entries_found known text ≡ Ok (plain_ones es, behind)
unfolding entries_found entries
entries_alike known text es behind stays s = items_alike known (length text) [] text es behind stays (spells_find (entries known) text es behind s)

entries_here : (known : Aliases) (text : List ℕ) (es : List Ace) (behind : List ℕ) → at_entry behind ≡ behind → spells (entries known) text es behind → at_entry text ≡ text
unfolding entries
entries_here known text es behind stays s = stays_here known (length text) [] text es behind (spells_find (entries known) text es behind s) stays

-- nothing is left
ended : (text : List ℕ) → find end text ≡ Ok (tt, []) → text ≡ []
ended [] e = refl
ended (c ∷ text) e =
    elim (chosen (length (c ∷ text) == 0) _ _ _ e) [
      | inl h ↦ absurd (let no = eqb-true (length (c ∷ text)) 0 h.0 in omega arith)
      | inr h ↦ absurd cc
    ]

-- the section of a DACL
abbrev list_behind : Aliases → DaclWords → List ℕ → Found AclPart
list_behind known w text = (to_entry >>= λ u. entries_found known >>= λ es. done (record { acl = Entries (list_of es); words = w })) text

passes : {A : Type 0} (b : Bool) (x y : A) → b ≡ true → cond b x y ≡ x
passes true x y e = refl
passes false x y e = absurd cc

fails : {A : Type 0} (b : Bool) (x y : A) → b ≡ false → cond b x y ≡ y
fails true x y e = absurd cc
fails false x y e = refl

behind_alike : (known : Aliases) (w : DaclWords) (text : List ℕ) (part : _) (behind : List ℕ) → at_entry behind ≡ behind → spells (dacl_behind known w) text part behind → acl_behind known w text ≡ Ok (record { acl = whole_dacl part.dacl; words = part.words }, behind)
unfolding dacl_behind acl_behind
behind_alike known w text part behind stays s =
    elim s [
      | inl h ↦ passes w.no_access_control (Ok (record { acl = Null; words = w }, text)) (list_behind known w text) h.0 ∙ rw (h.1.0, h.1.1) refl
      | inr h ↦
          fails w.no_access_control (Ok (record { acl = Null; words = w }, text)) (list_behind known w text) h.0
          ∙ (let same : at_entry h.1.1 ≡ h.1.1 = rw h.1.3.1 at stays in
          rw (entries_here known text h.1.0 h.1.1 same h.1.2, entries_alike known text h.1.0 h.1.1 same h.1.2, h.1.3.0, h.1.3.1, none_is_object h.1.0) refl)
    ]

section_alike : (known : Aliases) (text : List ℕ) (part : _) (behind : List ℕ) → at_entry behind ≡ behind → spells (dacl_section known) text part behind → acl_section known (codes "D:") text ≡ Ok (record { acl = whole_dacl part.dacl; words = part.words }, behind)
unfolding dacl_section acl_section
section_alike known text part behind stays s =
    elim s [
      | inl h ↦
          let head = h.1 in
          let w = head.3 in
          let read : find words (drop 2 text) ≡ Ok (w.0, w.1) = subst (λ (m : List ℕ). find words m ≡ Ok (w.0, w.1)) head.2.1 (spells_find words head.1 w.0 w.1 w.2) in
          rw (h.0, read) (behind_alike known w.0 w.1 part behind stays w.3)
      | inr h ↦ rw (h.0, h.1.0, h.1.1) refl
    ]

-- no section of a SACL is there
without_sacl : (known : Aliases) (text : List ℕ) → begins text (codes "S:") ≡ false → acl_section known (codes "S:") text ≡ Ok (record { acl = Absent; words = no_words }, text)
unfolding acl_section
without_sacl known text none = rw none refl

pub plain_texts_read : PlainTextsAreReadAlike
unfolding sections parts no_sacl whole_found
plain_texts_read known text d x =
    let owner = x.2.2 in
    let group = owner.3 in
    let dacl = group.3 in
    let none = x.2.3 in
    let ends = x.3 in
    let is = ends.3.0 ∙ none.3.0 ∙ dacl.3.0 in
    elim none.2 [
      | inl h ↦ absurd h.1
      | inr h ↦
          let same : x.1 ≡ dacl.1 = none.3.1 ∙ h.1.1 ∙ dacl.3.1 in
          let closed : find end x.1 ≡ Ok (tt, []) = subst (λ (m : List ℕ). find end x.1 ≡ Ok (tt, m)) (sym ends.3.1) (spells_find end x.1 ends.0 ends.1 ends.2) in
          let read : find end dacl.1 ≡ Ok (tt, []) = subst (λ (m : List ℕ). find end m ≡ Ok (tt, [])) same closed in
          let alone : begins dacl.1 (codes "S:") ≡ false = subst (λ (m : List ℕ). begins m (codes "S:") ≡ false) dacl.3.1 h.0 in
          rw (
            spells_find (sid_section known (codes "O:")) text owner.0 owner.1 owner.2,
            spells_find (sid_section known (codes "G:")) owner.1 group.0 group.1 group.2,
            section_alike known group.1 dacl.0 dacl.1 (rw (ended dacl.1 read) refl) dacl.2,
            without_sacl known dacl.1 alone,
            read,
            is,
          ) (ap (λ (control : ℕ). found {A = WholeDescriptor} (record { resource_manager = 0; control = control; owner = owner.0; group = group.0; sacl = Absent; dacl = whole_dacl dacl.0.dacl }) []) (omega arith))
    ]

pub plain_texts_again : PlainTextsComeBack
plain_texts_again known names d is named = plain_texts_read known (canon_in names d) d (descriptors_come_back known names d is named)
