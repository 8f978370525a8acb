-- The printed text of a descriptor is parsed as that descriptor.
use Rattle.std.proofs.Common.{Err, List, None, Ok, Option, Result, Some, [], append-nil, append_assoc, ap, cond, false, inl, inr, refl, sym, true, ℕ, ◌++◌, ◌+◌, ◌∙◌, ◌∷◌, ◌≡◌}
use Rattle.std.specs.Prelude.{bit_and, codes, not, ◌==◌}
use Rattle.std.specs.List.{AllByRecursion}
use Rattle.std.proofs.lemmas.Bool.{eqb-true, not-false}
use Rattle.std.proofs.lemmas.Nat.{and_assoc, and_comm}
use Rattle.std.specs.Int.Bits.{and_zero_r}
use Rattle.sd_acl.specs.declared.descriptor.DaclOf.TheVariants.{Absent, Null, List as Entries}
use Rattle.sd_sid.specs.Sid.{SidValue}
use Rattle.sd_text.proofs.CanonSids.{Stops}
use Rattle.sd_text.proofs.Parts.{chosen, found}
use Rattle.sd_text.specs.Canon.{section_canon}
use Rattle.sd_text.specs.Grammar.{begins}
use Rattle.sd_text.specs.Sddl.{no_words}
use Rattle.sd_text.specs.declared.alias.Aliases.{Aliases}
use Rattle.sd_text.specs.declared.descriptor.DaclWords.{DaclWords}
use Rattle.sd_text.specs.declared.right_names.RightNames.{RightNames}
use Rattle.sd_whole.specs.Reading.{WholeAcl}
use Rattle.sd_whole.specs.Whole.{IsWholeAce, IsWholeAcl, IsWholeDescriptor}
use Rattle.sd_whole.specs.declared.ace.WholeAce.{WholeAce}
use Rattle.sd_whole.specs.declared.descriptor.WholeDescriptor.{WholeDescriptor}
use Rattle.sd_wire.specs.Reading.{is_set}
use Rattle.sd_whole_parse.specs.Acl.{acl_section}
use Rattle.sd_whole_parse.specs.Descriptor.{dacl_bits, sacl_bits, whole_found}
use Rattle.sd_whole_text.specs.Acl.{acl_text, auto_inherited_bit, auto_req_bit, head_of, keywords_text, protected_bit}
use Rattle.sd_whole_text.specs.Descriptor.{sections_text}
use Rattle.sd_whole_text.specs.NoText.{acl_test, bits_without_keyword, entries_test, entry_test, header_test, keyword_bits, keywords_test, sections_test, whole_test, ◌>>◌}
use Rattle.sd_whole_text.specs.declared.no_text.AclKind.{AclKind}
use Rattle.sd_whole_text.specs.declared.no_text.AclKind.TheVariants.{Dacl, Sacl}
use Rattle.sd_whole_text.specs.declared.no_text.NoText.{NoText}
use Rattle.sd_whole_laws.proofs.Control.{control_said}
use Rattle.sd_whole_laws.proofs.Entries.{IsReadable, readable}
use Rattle.sd_whole_laws.proofs.Sections.{After, IsHead, absent_read, after_text, list_read, nothing, null_read, sacl, trustee_section, words_of}
use Rattle.sd_whole_laws.specs.Laws.{WholeTextsComeBack, EachEntry, EachOf, IsOfBytes, acl_as_text, as_text_says}

-- ---- the tests that a descriptor with a text passes

both_pass : {A : Type 0} (first : Result (Unit {0}) NoText) (next : Result A NoText) (a : A) → (first >> next) ≡ Ok a → (first ≡ Ok tt) × (next ≡ Ok a)
both_pass (Ok passed) next a e = (refl, e)
both_pass (Err why) next a e = absurd cc

each_readable : (known : Aliases) (names : RightNames) (acl : AclKind) (place : ℕ) (es : List WholeAce) → AllByRecursion IsWholeAce es → AllByRecursion IsOfBytes es → entries_test acl place es ≡ Ok tt → AllByRecursion (IsReadable known names) es
each_readable known names acl place [] are bytes passes = tt
each_readable known names acl place (e ∷ es) are bytes passes =
    let both = both_pass (entry_test acl place e) (entries_test acl (place + 1) es) tt passes in
    (readable known names acl place e are.0 bytes.0 both.0, each_readable known names acl (place + 1) es are.1 bytes.1 both.1)

-- ---- a list's section

abbrev words_in : AclKind → ℕ → WholeAcl → DaclWords
words_in kind control Absent = no_words
words_in kind control Null = words_of (is_set (protected_bit kind) control) (is_set (auto_req_bit kind) control) (is_set (auto_inherited_bit kind) control) true
words_in kind control (Entries list) = words_of (is_set (protected_bit kind) control) (is_set (auto_req_bit kind) control) (is_set (auto_inherited_bit kind) control) false

is_head : (kind : AclKind) → IsHead (head_of kind)
is_head Dacl text = (refl, refl)
is_head Sacl text = (refl, refl)

acl_read : (known : Aliases) (names : RightNames) (kind : AclKind) (control : ℕ) (acl : WholeAcl) (after : After) → IsWholeAcl acl → EachEntry IsOfBytes acl → acl_test kind acl ≡ Ok tt → begins (after_text after) (head_of kind) ≡ false
    → acl_section known (head_of kind) (acl_text names kind control acl ++ after_text after) ≡ Ok (record { acl = acl_as_text acl; words = words_in kind control acl }, after_text after)
unfolding keywords_text
acl_read known names kind control Absent after is bytes passes other = absent_read known (head_of kind) after other
acl_read known names kind control Null after is bytes passes other =
    null_read known (head_of kind) (is_set (protected_bit kind) control) (is_set (auto_req_bit kind) control) (is_set (auto_inherited_bit kind) control) after (is_head kind)
acl_read known names kind control (Entries list) after is bytes passes other =
    list_read known names (head_of kind) (is_set (protected_bit kind) control) (is_set (auto_req_bit kind) control) (is_set (auto_inherited_bit kind) control) list.entries after (is_head kind)
    (each_readable known names kind 1 list.entries is.each bytes passes) is.fit

-- ---- the control bits

-- none of several bits is set, so a part of them isn't
none_of : (control bits part : ℕ) → bit_and bits part ≡ part → is_set bits control ≡ false → is_set part control ≡ false
none_of control bits part within none =
    let zero_bits : bit_and control bits ≡ 0 = eqb-true (bit_and control bits) 0 (not-false (bit_and control bits == 0) none) in
    let apart : bit_and (bit_and control bits) part ≡ bit_and control (bit_and bits part) = and_assoc part control bits in
    let zero_part : bit_and 0 part ≡ bit_and control part = rw (zero_bits, within) at apart in
    rw (sym zero_part) (zero_and part)
  where
    zero_and : (n : ℕ) → not (bit_and 0 n == 0) ≡ false
    zero_and n = ap (λ k. not (k == 0)) (and_comm 0 n ∙ and_zero_r n)

dacl_said : (control : ℕ) (acl : WholeAcl) → keywords_test Dacl control acl ≡ Ok tt
    → dacl_bits (words_in Dacl control acl) ≡ cond (is_set 0x1000 control) 0x1000 0 + cond (is_set 0x0100 control) 0x0100 0 + cond (is_set 0x0400 control) 0x0400 0
dacl_said control Absent passes =
    elim (chosen (is_set (keyword_bits Dacl) control) _ _ _ passes) [
      | inl h ↦ absurd cc
      | inr h ↦ rw (none_of control 0x1500 0x1000 refl h.0, none_of control 0x1500 0x0100 refl h.0, none_of control 0x1500 0x0400 refl h.0) refl
    ]
dacl_said control Null passes = refl
dacl_said control (Entries list) passes = refl

sacl_said : (control : ℕ) (acl : WholeAcl) → keywords_test Sacl control acl ≡ Ok tt
    → sacl_bits (words_in Sacl control acl) ≡ cond (is_set 0x2000 control) 0x2000 0 + cond (is_set 0x0200 control) 0x0200 0 + cond (is_set 0x0800 control) 0x0800 0
sacl_said control Absent passes =
    elim (chosen (is_set (keyword_bits Sacl) control) _ _ _ passes) [
      | inl h ↦ absurd cc
      | inr h ↦ rw (none_of control 0x2a00 0x2000 refl h.0, none_of control 0x2a00 0x0200 refl h.0, none_of control 0x2a00 0x0800 refl h.0) refl
    ]
sacl_said control Null passes = refl
sacl_said control (Entries list) passes = refl

-- ---- what follows each section

-- the SACL's section, or nothing
sacl_after : (names : RightNames) (control : ℕ) (acl : WholeAcl) → (after : After) × (acl_text names Sacl control acl ≡ after_text after)
sacl_after names control Absent = (nothing, refl)
sacl_after names control Null = (sacl _, refl)
sacl_after names control (Entries list) = (sacl _, refl)

not_dacl : (after : After) → begins (after_text after) (codes "D:") ≡ false
not_dacl nothing = refl
not_dacl (sacl text) = refl

-- a SID may stand before it, and it is no section of the owner or the group
pub record Follows (rest : List ℕ) : Type 0 where
  pub stops : Stops rest
  pub no_group : begins rest (codes "G:") ≡ false
  pub no_owner : begins rest (codes "O:") ≡ false

after_follows : (after : After) → Follows (after_text after)
after_follows nothing = record { stops = record { no_digit = refl; no_dash = refl }; no_group = refl; no_owner = refl }
after_follows (sacl text) = record { stops = record { no_digit = refl; no_dash = refl }; no_group = refl; no_owner = refl }

dacl_follows : (names : RightNames) (control : ℕ) (acl : WholeAcl) (after : After) → Follows (acl_text names Dacl control acl ++ after_text after)
dacl_follows names control Absent after = after_follows after
dacl_follows names control Null after = record { stops = record { no_digit = refl; no_dash = refl }; no_group = refl; no_owner = refl }
dacl_follows names control (Entries list) after = record { stops = record { no_digit = refl; no_dash = refl }; no_group = refl; no_owner = refl }

group_stops : (group : Option SidValue) (rest : List ℕ) → Follows rest → Stops (section_canon (codes "G:") group ++ rest) × (begins (section_canon (codes "G:") group ++ rest) (codes "O:") ≡ false)
group_stops None rest follows = (follows.stops, follows.no_owner)
group_stops (Some s) rest follows = (record { no_digit = refl; no_dash = refl }, refl)

-- ---- descriptors

regroup : (owner group first last : List ℕ) → owner ++ group ++ first ++ last ≡ owner ++ (group ++ (first ++ last))
regroup owner group first last = simp append_assoc

-- the text of one that has no resource manager, and these control bits
sections_read : (known : Aliases) (names : RightNames) (d : WholeDescriptor) → IsWholeDescriptor d → EachOf IsOfBytes d → sections_test d ≡ Ok tt
    → whole_found known (sections_text names d)
    ≡ Ok (record { resource_manager = 0; control = dacl_bits (words_in Dacl d.control d.dacl) + sacl_bits (words_in Sacl d.control d.sacl); owner = d.owner; group = d.group; sacl = acl_as_text d.sacl; dacl = acl_as_text d.dacl }, [])
unfolding whole_found sections_text
sections_read known names d is bytes passes =
    let both = both_pass (acl_test Dacl d.dacl) (acl_test Sacl d.sacl) tt passes in
    let last = sacl_after names d.control d.sacl in
    let dacl = acl_text names Dacl d.control d.dacl in
    let follows = dacl_follows names d.control d.dacl last.0 in
    let before = group_stops d.group (dacl ++ after_text last.0) follows in
    let end : acl_section known (codes "S:") (after_text last.0) ≡ Ok (record { acl = acl_as_text d.sacl; words = words_in Sacl d.control d.sacl }, []) =
    rw (append-nil (acl_text names Sacl d.control d.sacl), last.1) at (acl_read known names Sacl d.control d.sacl nothing is.sacl bytes.1 both.1 refl) in
    rw (
      last.1,
      regroup (section_canon (codes "O:") d.owner) (section_canon (codes "G:") d.group) dacl (after_text last.0),
      trustee_section known (codes "O:") d.owner (section_canon (codes "G:") d.group ++ (dacl ++ after_text last.0)) (λ text. (refl, refl)) is.owner before.0 before.1,
      trustee_section known (codes "G:") d.group (dacl ++ after_text last.0) (λ text. (refl, refl)) is.group follows.stops follows.no_group,
      acl_read known names Dacl d.control d.dacl last.0 is.dacl bytes.0 both.0 (not_dacl last.0),
      end,
    ) refl

-- the tests of the header
pub record Heads (d : WholeDescriptor) : Type 0 where
  pub resource_manager : d.resource_manager ≡ 0
  pub without : is_set bits_without_keyword d.control ≡ false
  pub dacl : keywords_test Dacl d.control d.dacl ≡ Ok tt
  pub sacl : keywords_test Sacl d.control d.sacl ≡ Ok tt

heads : (d : WholeDescriptor) → header_test d ≡ Ok tt → Heads d
heads d passes =
    elim (chosen (not (d.resource_manager == 0)) _ _ _ passes) [
      | inl h ↦ absurd cc
      | inr h ↦ elim (chosen (is_set bits_without_keyword d.control) _ _ _ h.1) [
        | inl k ↦ absurd cc
        | inr k ↦
            let both = both_pass (keywords_test Dacl d.control d.dacl) (keywords_test Sacl d.control d.sacl) tt k.1 in
            record { resource_manager = eqb-true d.resource_manager 0 (not-false (d.resource_manager == 0) h.0); without = k.0; dacl = both.0; sacl = both.1 }
      ]
    ]

parts_same : (d : WholeDescriptor) (control : ℕ) → control ≡ d.control → d.resource_manager ≡ 0
    → found (record { resource_manager = 0; control = control; owner = d.owner; group = d.group; sacl = acl_as_text d.sacl; dacl = acl_as_text d.dacl }) [] ≡ found (as_text_says d) []
parts_same d control same none = rw (same, none) refl

pub texts_back : WholeTextsComeBack
unfolding whole_test
texts_back known names d text is bytes printed =
    let tests = both_pass (whole_test d) (Ok (sections_text names d)) text printed in
    let same : sections_text names d ≡ text = cc (tests.1) in
    let parts = both_pass (header_test d) (sections_test d) tt tests.0 in
    let head = heads d parts.0 in
    let dacl = dacl_said d.control d.dacl head.dacl in
    let sacl = sacl_said d.control d.sacl head.sacl in
    let bits : dacl_bits (words_in Dacl d.control d.dacl) + sacl_bits (words_in Sacl d.control d.sacl) ≡ d.control = rw (dacl, sacl) (control_said d.control is.control head.without) in
    rw (sym same) (sections_read known names d is bytes parts.1 ∙ parts_same d (dacl_bits (words_in Dacl d.control d.dacl) + sacl_bits (words_in Sacl d.control d.sacl)) bits head.resource_manager)
