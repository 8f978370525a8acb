-- The plain part of the text of a plain descriptor is that descriptor.
use Rattle.std.proofs.Common.{List, Ok, Err, Option, Some, [], ap, false, map, refl, subst, sym, true, ℕ, ◌+◌, ◌∙◌, ◌∷◌, ◌≡◌}
use Rattle.std.specs.Prelude.{Bool, Result, bit_and, cond, ◌&&◌}
use Rattle.std.specs.List.{AllByRecursion, list_any}
use Rattle.sd_sid.specs.Sid.{SidValue}
use Rattle.std.proofs.lemmas.Bool.{eq-eqb}
use Rattle.sd_acl.specs.Ace.{all_named}
use Rattle.sd_acl.specs.Dacl.{Dacl}
use Rattle.sd_acl.specs.Descriptor.{DescriptorValue, HasNamedFlags, HaveNamedFlags}
use Rattle.sd_acl.specs.declared.ace.Ace.{Ace}
use Rattle.sd_acl.specs.declared.descriptor.DaclOf.TheVariants.{Absent, Null, List as Entries}
use Rattle.sd_text.proofs.Engine.{no_fault, one_value}
use Rattle.sd_text.proofs.Parts.{found_is}
use Rattle.sd_text.specs.Grammar.{Spells}
use Rattle.sd_text.specs.Sddl.{no_sacl, parts, sections, sddl_in}
use Rattle.sd_text.specs.declared.alias.Aliases.{Aliases}
use Rattle.sd_text.specs.declared.fault.TextFault.{TextFault}
use Rattle.sd_wire.specs.Reading.{is_set}
use Rattle.sd_whole.proofs.PlainForms.{plain_listed}
use Rattle.sd_whole.specs.Plain.{has_sacl, plain_form, plain_list, plain_part}
use Rattle.sd_whole.specs.declared.ace.WholeAce.TheVariants.{Plain}
use Rattle.sd_whole.specs.declared.descriptor.WholeDescriptor.{WholeDescriptor}
use Rattle.sd_whole.specs.declared.plain.OddEntry.{OddEntry}
use Rattle.sd_whole_parse.proofs.PlainEntries.{plain_ones}
use Rattle.sd_whole_parse.proofs.PlainFlags.{HasNoWords, section_named}
use Rattle.sd_whole_parse.proofs.PlainTexts.{plain_texts_read}
use Rattle.sd_whole_parse.specs.Laws.{PlainTextsAreTheirPart, PlainTextsHaveAPart, PlainTextsHaveNoSacl}
use Rattle.sd_whole_parse.specs.Part.{IsPartFault, IsWhole, are_trimmed, is_trimmed, left_out_of, nothing}
use Rattle.sd_whole_parse.specs.declared.part.PartError.TheVariants.{Fault, Odd, Memory}
use Rattle.sd_whole_text.specs.Plain.{whole_dacl, whole_of}

-- ---- what the text of a plain descriptor spells

-- entries with named flags, and no words without a DACL
abbrev IsPlain : DescriptorValue → Type 0
IsPlain d = HaveNamedFlags d.dacl × HasNoWords d.dacl d.protected d.auto_req d.auto_inherited

spelled_plain : (known : Aliases) (text : List ℕ) (d : DescriptorValue) → Spells (sddl_in known) text d → IsPlain d
unfolding sections parts no_sacl
spelled_plain known text d x =
    let owner = x.2.2 in
    let group = owner.3 in
    let dacl = group.3 in
    let none = x.2.3 in
    let ends = x.3 in
    let is = ends.3.0 ∙ none.3.0 ∙ dacl.3.0 in
    subst IsPlain (sym is) (section_named known group.1 dacl.0 dacl.1 dacl.2)

-- ---- a plain descriptor, made whole and plain again

form_back : (e : Ace) → HasNamedFlags e → plain_form (Plain e) ≡ Some e
form_back e named = ap (λ (flags : ℕ). Some (record { kind = e.kind; flags = record { 0 = flags }; mask = e.mask; sid = e.sid })) named

forms_back : (es : List Ace) → AllByRecursion HasNamedFlags es → map plain_form (plain_ones es) ≡ map (λ e. Some e) es
forms_back [] named = refl
forms_back (e ∷ es) named = rw (form_back e named.0, forms_back es named.1) refl

none_trimmed : (es : List Ace) → AllByRecursion HasNamedFlags es → list_any is_trimmed (plain_ones es) ≡ false
none_trimmed [] named = refl
none_trimmed (e ∷ es) named = rw (eq-eqb (bit_and e.flags.0 all_named) e.flags.0 named.0, none_trimmed es named.1) refl

dacl_kept : (dacl : Dacl) → HaveNamedFlags dacl → are_trimmed (whole_dacl dacl) ≡ false
dacl_kept Absent named = refl
dacl_kept Null named = refl
dacl_kept (Entries es) named = none_trimmed es named

-- the control bits of the words say which there are
abbrev sum : Bool → Bool → Bool → ℕ
sum p r i = cond p 0x1000 0 + cond r 0x0100 0 + cond i 0x0400 0

words_back : (p r i : Bool) → (is_set 0x1000 (sum p r i) && true ≡ p) × (is_set 0x0100 (sum p r i) && true ≡ r) × (is_set 0x0400 (sum p r i) && true ≡ i)
words_back true true true = (refl, refl, refl)
words_back true true false = (refl, refl, refl)
words_back true false true = (refl, refl, refl)
words_back true false false = (refl, refl, refl)
words_back false true true = (refl, refl, refl)
words_back false true false = (refl, refl, refl)
words_back false false true = (refl, refl, refl)
words_back false false false = (refl, refl, refl)

-- a descriptor of these parts
abbrev of_parts : Option SidValue → Option SidValue → Dacl → Bool → Bool → Bool → DescriptorValue
of_parts owner group dacl p r i =
    record { owner = owner; group = group; dacl = dacl; protected = p; auto_req = r; auto_inherited = i }

parts_back : (owner group : Option SidValue) (dacl : Dacl) (p r i : Bool) → HaveNamedFlags dacl → HasNoWords dacl p r i
    → plain_part (whole_of (of_parts owner group dacl p r i)) ≡ Ok (of_parts owner group dacl p r i)
parts_back owner group Absent p r i named none = rw (none.0, none.1, none.2) refl
parts_back owner group Null p r i named none =
    let words = words_back p r i in λ k. Ok (of_parts owner group Null (words.0 k) (words.1 k) (words.2 k))
parts_back owner group (Entries es) p r i named none =
    let words = words_back p r i in
    let list : plain_list (plain_ones es) ≡ Ok es = plain_listed (plain_ones es) es (forms_back es named) in
    rw list (λ k. Ok (of_parts owner group (Entries es) (words.0 k) (words.1 k) (words.2 k)))

plain_back : (d : DescriptorValue) → IsPlain d → plain_part (whole_of d) ≡ Ok d
plain_back d is = parts_back d.owner d.group d.dacl d.protected d.auto_req d.auto_inherited is.0 is.1

-- and nothing is left out
lacks_nothing : (d : DescriptorValue) → IsPlain d → left_out_of (whole_of d) ≡ nothing
lacks_nothing d is = λ k. record { sacl = false; of_entries = dacl_kept d.dacl is.0 k }

-- ---- the laws

same_part : (a b : DescriptorValue) → ◌≡◌ {A = Result DescriptorValue OddEntry} (Ok a) (Ok b) → a ≡ b
same_part a b same = cc

no_part : (a : DescriptorValue) (odd : OddEntry) → ◌≡◌ {A = Result DescriptorValue OddEntry} (Ok a) (Err odd) → ⊥
no_part a odd same = cc

module _ (known : Aliases) (text : List ℕ) (d : DescriptorValue) (s : Spells (sddl_in known) text d) where
  is_plain : IsPlain d
  is_plain = spelled_plain known text d s

  the_whole : (w : WholeDescriptor) → IsWhole known text w → w ≡ whole_of d
  the_whole w is = (found_is w (whole_of d) [] [] (sym is ∙ plain_texts_read known text d s)).0

  the_part : (w : WholeDescriptor) → IsWhole known text w → plain_part w ≡ Ok d
  the_part w is = ap plain_part (the_whole w is) ∙ plain_back d is_plain

pub text_part : PlainTextsAreTheirPart
text_part known true text d part left_out s (w, is, plain, lacks) = (
  same_part part d (sym plain ∙ the_part known text d s w is),
  lacks ∙ ap left_out_of (the_whole known text d s w is) ∙ lacks_nothing d (is_plain known text d s),
)
text_part known false text d part left_out s (is, lacks) = (one_value (sddl_in known) text part d is s, lacks)

pub without_sacl : PlainTextsHaveNoSacl
without_sacl known true text d part left_out s (w, is, plain, lacks) = (
  same_part part d (sym plain ∙ the_part known text d s w is),
  lacks ∙ ap has_sacl (the_whole known text d s w is),
)
without_sacl known false text d part left_out s (is, lacks) = (one_value (sddl_in known) text part d is s, lacks)

faultless : (known : Aliases) (whole : Bool) (text : List ℕ) (d : DescriptorValue) (fault : TextFault) (place : ℕ) → Spells (sddl_in known) text d → IsPartFault known whole text fault place → ⊥
faultless known true text d fault place s stops = let is = sym (plain_texts_read known text d s) ∙ stops.1 in cc
faultless known false text d fault place s stops = no_fault (sddl_in known) text d fault place s stops

pub some_part : PlainTextsHaveAPart
some_part known whole text d (Fault fault place) s error = absurd (faultless known whole text d fault place s error)
some_part known whole text d (Odd odd) s error =
    absurd (no_part d odd (sym (the_part known text d s error.1 error.2) ∙ error.3))
some_part known whole text d Memory s error = refl
