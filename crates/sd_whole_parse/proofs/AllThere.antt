-- Where nothing is left out of a text, it says just its plain part.
use Rattle.std.proofs.Common.{List, Ok, Err, Option, Some, None, [], add-zero, ap, cond, false, inl, inr, refl, subst, sym, true, ℕ, ◌+◌, ◌∙◌, ◌∷◌, ◌≡◌}
use Rattle.std.specs.Prelude.{Bool, Result, bit_and, codes, not, ◌&&◌, ◌||◌}
use Rattle.std.specs.List.{filter_map, list_any}
use Rattle.std.specs.Result.{result_map_both}
use Rattle.std.proofs.lemmas.Bool.{eqb-true}
use Rattle.sd_acl.specs.Ace.{all_named}
use Rattle.sd_acl.specs.Dacl.{Dacl}
use Rattle.sd_acl.specs.Descriptor.{DescriptorValue}
use Rattle.sd_acl.specs.declared.ace.Ace.{Ace}
use Rattle.sd_acl.specs.declared.descriptor.DaclOf.TheVariants.{Absent, Null, List as Entries}
use Rattle.sd_sid.specs.Sid.{SidValue}
use Rattle.sd_text.proofs.Parts.{chosen, found, found_is, part_ok}
use Rattle.sd_text.specs.Finding.{Found, find}
use Rattle.sd_text.specs.Grammar.{begins, end, word}
use Rattle.sd_text.specs.Sddl.{no_words, sid_section, words}
use Rattle.sd_text.specs.declared.alias.Aliases.{Aliases}
use Rattle.sd_text.specs.declared.descriptor.DaclWords.{DaclWords}
use Rattle.sd_wire.specs.Reading.{is_set}
use Rattle.sd_whole.specs.Plain.{plain_acl, plain_form, plain_list, plain_or, plain_part, with_dacl}
use Rattle.sd_whole.specs.Reading.{WholeAcl}
use Rattle.sd_whole.specs.Writing.{is_without}
use Rattle.sd_whole.specs.declared.ace.WholeAce.{WholeAce}
use Rattle.sd_whole.specs.declared.ace.WholeAce.TheVariants.{Plain, Typed, Opaque}
use Rattle.sd_whole.specs.declared.descriptor.WholeDescriptor.{WholeDescriptor}
use Rattle.sd_whole.specs.declared.plain.OddEntry.{OddEntry}
use Rattle.sd_whole_parse.proofs.PlainEntries.{plain_ones}
use Rattle.sd_whole_parse.proofs.PlainTexts.{none_is_object}
use Rattle.sd_whole_parse.specs.Acl.{acl_behind, acl_section, list_of, revision_of}
use Rattle.sd_whole_parse.specs.Descriptor.{dacl_bits, sacl_bits, whole_found}
use Rattle.sd_whole_parse.specs.Entry.{entries_found}
use Rattle.sd_whole_parse.specs.Finding.{done, ◌>>=◌}
use Rattle.sd_whole_parse.specs.Laws.{NothingElseIsLeftOut}
use Rattle.sd_whole_parse.specs.Part.{are_trimmed, is_trimmed, left_out_of, nothing}
use Rattle.sd_whole_parse.specs.Spaces.{to_entry}
use Rattle.sd_whole_parse.specs.declared.acl.AclPart.{AclPart}
use Rattle.sd_whole_parse.specs.declared.part.LeftOut.{LeftOut}
use Rattle.sd_whole_text.specs.Plain.{control_of, whole_dacl, whole_of}

-- ---- entries that aren't trimmed are plain

neither : (a b : Bool) → (a || b) ≡ false → (a ≡ false) × (b ≡ false)
neither true b e = absurd cc
neither false b e = (refl, e)

holds : (b : Bool) → not b ≡ false → b ≡ true
holds true e = refl
holds false e = absurd cc

ones_back : (es : List WholeAce) → list_any is_trimmed es ≡ false → es ≡ plain_ones (filter_map plain_form es)
ones_back [] none = refl
ones_back (Plain e ∷ es) none =
    let both = neither (is_trimmed (Plain e)) (list_any is_trimmed es) none in
    let named : bit_and e.flags.0 all_named ≡ e.flags.0 = eqb-true (bit_and e.flags.0 all_named) e.flags.0 (holds _ both.0) in
    let back = sym named in
    λ k. Plain (record { kind = e.kind; flags = record { 0 = back k }; mask = e.mask; sid = e.sid }) ∷ ones_back es both.1 k
ones_back (Typed e ∷ es) none = absurd (let both = neither true (list_any is_trimmed es) none in cc both.0)
ones_back (Opaque e ∷ es) none = absurd (let both = neither true (list_any is_trimmed es) none in cc both.0)

listed_is : (o : Option OddEntry) (es : List WholeAce) (plain : List Ace) → plain_or o es ≡ Ok plain → filter_map plain_form es ≡ plain
listed_is (Some odd) es plain e = absurd cc
listed_is None es plain e = cc

mapped_is : {A B : Type 0} (f : A → B) (r : Result A OddEntry) (b : B) → result_map_both f (λ (odd : OddEntry). odd) r ≡ Ok b → (a : A) × (r ≡ Ok a) × (f a ≡ b)
mapped_is f (Ok a) b e = (a, refl, cc)
mapped_is f (Err odd) b e = absurd cc

-- ---- what sections say

-- a list has the revision that its entries need, and without a list there are no words
abbrev IsSaid : WholeAcl → DaclWords → Type 0
IsSaid Absent w = w ≡ no_words
IsSaid Null w = Unit {0}
IsSaid (Entries list) w = list.revision ≡ revision_of list.entries

abbrev IsSaidBy : AclPart → Type 0
IsSaidBy part = IsSaid part.acl part.words

abbrev with_entries : DaclWords → List WholeAce → AclPart
with_entries w es = record { acl = Entries (list_of es); words = w }

behind_says : (known : Aliases) (w : DaclWords) (text : List ℕ) (part : AclPart) (rest : List ℕ) → acl_behind known w text ≡ Ok (part, rest) → IsSaidBy part
unfolding acl_behind
behind_says known w text part rest e =
    elim (chosen w.no_access_control _ _ _ e) [
      | inl h ↦ subst IsSaidBy (found_is (record { acl = Null; words = w }) part text rest h.1).0 tt
      | inr h ↦
          let start = part_ok (to_entry text) (λ u. entries_found known >>= λ es. done (with_entries w es)) part rest h.1 in
          let list = part_ok (entries_found known start.1) (λ es. done (with_entries w es)) part rest start.3 in
          subst IsSaidBy (found_is (with_entries w list.0) part list.1 rest list.3).0 refl
    ]

section_says : (known : Aliases) (head text : List ℕ) (part : AclPart) (rest : List ℕ) → acl_section known head text ≡ Ok (part, rest) → IsSaidBy part
unfolding acl_section
section_says known head text part rest e =
    elim (chosen (begins text head) _ _ _ e) [
      | inl h ↦
          let first = part_ok (find (word head) text) (λ u. find words >>= λ w. acl_behind known w) part rest h.1 in
          let next = part_ok (find words first.1) (λ w. acl_behind known w) part rest first.3 in
          behind_says known next.0 next.1 part rest next.3
      | inr h ↦ subst IsSaidBy (found_is (record { acl = Absent; words = no_words }) part text rest h.1).0 refl
    ]

abbrev said : Option SidValue → Option SidValue → AclPart → AclPart → WholeDescriptor
said owner group dacl sacl = record {
  resource_manager = 0;
  control = dacl_bits dacl.words + sacl_bits sacl.words;
  owner = owner;
  group = group;
  sacl = sacl.acl;
  dacl = dacl.acl;
}

-- the sections of a text, and what they say
record Said (w : WholeDescriptor) : Type 0 where
  owner : Option SidValue
  group : Option SidValue
  dacl : AclPart
  sacl : AclPart
  of_dacl : IsSaidBy dacl
  of_sacl : IsSaidBy sacl
  whole : said owner group dacl sacl ≡ w

abbrev after_sacl : Option SidValue → Option SidValue → AclPart → AclPart → List ℕ → Found WholeDescriptor
after_sacl owner group dacl sacl = find end >>= λ u. done (said owner group dacl sacl)

abbrev after_dacl : Aliases → Option SidValue → Option SidValue → AclPart → List ℕ → Found WholeDescriptor
after_dacl known owner group dacl = acl_section known (codes "S:") >>= after_sacl owner group dacl

abbrev after_group : Aliases → Option SidValue → Option SidValue → List ℕ → Found WholeDescriptor
after_group known owner group = acl_section known (codes "D:") >>= after_dacl known owner group

abbrev after_owner : Aliases → Option SidValue → List ℕ → Found WholeDescriptor
after_owner known owner = find (sid_section known (codes "G:")) >>= after_group known owner

said_by : (known : Aliases) (text : List ℕ) (w : WholeDescriptor) → whole_found known text ≡ Ok (w, []) → Said w
unfolding whole_found
said_by known text w e =
    let owner = part_ok (find (sid_section known (codes "O:")) text) (after_owner known) w [] e in
    let group = part_ok (find (sid_section known (codes "G:")) owner.1) (after_group known owner.0) w [] owner.3 in
    let dacl = part_ok (acl_section known (codes "D:") group.1) (after_dacl known owner.0 group.0) w [] group.3 in
    let sacl = part_ok (acl_section known (codes "S:") dacl.1) (after_sacl owner.0 group.0 dacl.0) w [] dacl.3 in
    let last = part_ok (find end sacl.1) (λ u. done (said owner.0 group.0 dacl.0 sacl.0)) w [] sacl.3 in
    record {
      owner = owner.0;
      group = group.0;
      dacl = dacl.0;
      sacl = sacl.0;
      of_dacl = section_says known (codes "D:") group.1 dacl.0 dacl.1 dacl.2;
      of_sacl = section_says known (codes "S:") dacl.1 sacl.0 sacl.1 sacl.2;
      whole = (found_is (said owner.0 group.0 dacl.0 sacl.0) w last.1 [] last.3).0;
    }

-- ---- each part of it is there

none_said : (acl : WholeAcl) (w : DaclWords) → not (is_without acl) ≡ false → IsSaid acl w → (acl ≡ Absent) × (w ≡ no_words)
none_said Absent w none is = (refl, is)
none_said Null w none is = absurd cc
none_said (Entries list) w none is = absurd cc

dacl_back : (acl : WholeAcl) (w : DaclWords) (dacl : Dacl) → IsSaid acl w → are_trimmed acl ≡ false → plain_acl acl ≡ Ok dacl → acl ≡ whole_dacl dacl
dacl_back Absent w dacl is none e = let same : Absent ≡ dacl = cc in ap whole_dacl same
dacl_back Null w dacl is none e = let same : Null ≡ dacl = cc in ap whole_dacl same
dacl_back (Entries list) w dacl is none e =
    let made = mapped_is Entries (plain_list list.entries) dacl e in
    let forms : filter_map plain_form list.entries ≡ made.0 = listed_is _ list.entries made.0 made.1 in
    let ones : list.entries ≡ plain_ones made.0 = ones_back list.entries none ∙ ap plain_ones forms in
    let revision = is ∙ ap revision_of ones ∙ rw (none_is_object made.0) refl in
    (λ k. Entries (record { revision = revision k; entries = ones k })) ∙ ap whole_dacl made.2

-- the control bits of the words, if there is a list
abbrev bits_of_words : Bool → ℕ → ℕ
bits_of_words there n =
    cond (is_set 0x1000 n && there) 0x1000 0 + cond (is_set 0x0100 n && there) 0x0100 0 + cond (is_set 0x0400 n && there) 0x0400 0

abbrev sum : Bool → Bool → Bool → ℕ
sum p r i = cond p 0x1000 0 + cond r 0x0100 0 + cond i 0x0400 0

sum_back : (p r i : Bool) → bits_of_words true (sum p r i) ≡ sum p r i
sum_back true true true = refl
sum_back true true false = refl
sum_back true false true = refl
sum_back true false false = refl
sum_back false true true = refl
sum_back false true false = refl
sum_back false false true = refl
sum_back false false false = refl

bits_back : (acl : WholeAcl) (w : DaclWords) → IsSaid acl w → bits_of_words (not (is_without acl)) (dacl_bits w) ≡ dacl_bits w
bits_back Absent w is = rw is refl
bits_back Null w is = sum_back w.protected w.auto_req w.auto_inherited
bits_back (Entries list) w is = sum_back w.protected w.auto_req w.auto_inherited

all_there : (owner group : Option SidValue) (dacl sacl : AclPart) (d : DescriptorValue) → IsSaidBy dacl → IsSaidBy sacl
    → left_out_of (said owner group dacl sacl) ≡ nothing → plain_part (said owner group dacl sacl) ≡ Ok d → said owner group dacl sacl ≡ whole_of d
all_there owner group dacl sacl d of_dacl of_sacl lacks plain =
    let w = said owner group dacl sacl in
    let none = none_said sacl.acl sacl.words (ap (λ (l : LeftOut). l.sacl) lacks) of_sacl in
    let made = mapped_is (with_dacl w) (plain_acl dacl.acl) d plain in
    let list = dacl_back dacl.acl dacl.words made.0 of_dacl (ap (λ (l : LeftOut). l.of_entries) lacks) made.1 in
    let control : w.control ≡ dacl_bits dacl.words = ap (λ (v : DaclWords). dacl_bits dacl.words + sacl_bits v) none.1 ∙ add-zero (dacl_bits dacl.words) in
    let bits : w.control ≡ control_of (with_dacl w made.0) =
    control ∙ sym (bits_back dacl.acl dacl.words of_dacl) ∙ ap (bits_of_words (not (is_without dacl.acl))) (sym control) in
    let parts : w ≡ whole_of (with_dacl w made.0) =
    (λ k. record { resource_manager = 0; control = bits k; owner = owner; group = group; sacl = none.0 k; dacl = list k }) in
    parts ∙ ap whole_of made.2

pub nothing_else : NothingElseIsLeftOut
nothing_else known text d (w, is, plain, lacks) =
    let s = said_by known text w is in
    let same = all_there s.owner s.group s.dacl s.sacl d s.of_dacl s.of_sacl
    (ap left_out_of s.whole ∙ sym lacks) (ap plain_part s.whole ∙ plain) in
    is ∙ ap (λ (v : WholeDescriptor). found v []) (sym s.whole ∙ same)
