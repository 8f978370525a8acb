-- The printed text of a descriptor is read as the descriptor.
use Rattle.sd_text.proofs.Cited.{Absent, Ace, Aliases, Bool, Dacl, DaclPart, DescriptorValue, DescriptorsComeBack, HaveNamedFlags, IfSome, IsAbsent, IsDacl, IsDescriptor, IsSid, IsTrue, List, MasksComeBack, None, Null, Ok, Option, RightNames, SidValue, SidsComeBack, Some, [], append-nil, append_assoc, begins, codes, dacl_canon, drop, entry_canon_in, false, find, flat_map, length, mask_text, not, refl, rights, rights_canon_in, sddl_in, section_canon, sid, sid_canon, sid_text_in, true, where_set, ℕ, ◌&&◌, ◌++◌, ◌∷◌, ◌≡◌}
use Rattle.sd_acl.specs.declared.descriptor.DaclOf.TheVariants.{List as Entries}
use Rattle.sd_text.specs.Rights.{names_from_greatest}
use Rattle.sd_text.specs.Sddl.{sid_section, words, dacl_behind, dacl_section, no_sacl, parts, sections}
use Rattle.sd_text.specs.Canon.{words_canon, canon_in}
use Rattle.sd_text.proofs.Engine.{find_spells}
use Rattle.sd_text.proofs.CanonSids.{Stops, sid_read}
use Rattle.sd_text.proofs.CanonRights.{rights_read}
use Rattle.sd_text.proofs.CanonEntries.{body, entry_text, entries_read}

at_end : Stops []
at_end = record { no_digit = refl; no_dash = refl }

-- ---- SIDs and masks by themselves

pub sids_come_back : SidsComeBack
sids_come_back known s is =
    let read : find (sid known) (sid_canon s) ≡ Ok (s, []) = rw append-nil at (sid_read known s [] is at_end) in
    find_spells (sid_text_in known) (sid_canon s) s [] (rw read refl)

pub masks_come_back : MasksComeBack
unfolding names_from_greatest
masks_come_back names mask lt =
    let read : find rights (rights_canon_in names mask) ≡ Ok (mask, []) = rw append-nil at (rights_read names mask [] lt refl refl) in
    find_spells mask_text (rights_canon_in names mask) mask [] (rw read refl)

-- ---- the DACL

-- what holds of three tests, however they go
of_three : (P : Bool → Bool → Bool → Type 0) → P true true true → P true true false → P true false true → P true false false → P false true true → P false true false → P false false true → P false false false → (p r i : Bool) → P p r i
of_three P a b c d e f g h true true true = a
of_three P a b c d e f g h true true false = b
of_three P a b c d e f g h true false true = c
of_three P a b c d e f g h true false false = d
of_three P a b c d e f g h false true true = e
of_three P a b c d e f g h false true false = f
of_three P a b c d e f g h false false true = g
of_three P a b c d e f g h false false false = h

-- the keywords of three flags, and what they say
letters_of : Bool → Bool → Bool → List ℕ
letters_of p r i = where_set p (codes "P") ++ where_set r (codes "AR") ++ where_set i (codes "AI")

abbrev part_of : Dacl → Bool → Bool → Bool → Bool → DaclPart
part_of dacl p r i none = record { dacl = dacl; words = record { protected = p; auto_req = r; auto_inherited = i; no_access_control = none } }

words_read : (names : RightNames) (p r i : Bool) (es : List Ace) → find words (letters_of p r i ++ flat_map (entry_canon_in names) es) ≡ Ok ((part_of Null p r i false).words, flat_map (entry_canon_in names) es)
unfolding letters_of words
words_read names p r i [] = of_three (λ p r i. find words (letters_of p r i ++ []) ≡ Ok ((part_of Null p r i false).words, [])) refl refl refl refl refl refl refl refl p r i
words_read names p r i (e ∷ es) =
    let text = body names e (flat_map (entry_canon_in names) es) in
    rw (entry_text names e (flat_map (entry_canon_in names) es))
    (of_three (λ p r i. find words (letters_of p r i ++ 40 ∷ text) ≡ Ok ((part_of Null p r i false).words, 40 ∷ text)) refl refl refl refl refl refl refl refl p r i)

null_read : (known : Aliases) (names : RightNames) (p r i : Bool) → find (dacl_section known) (dacl_canon names (letters_of p r i) Null) ≡ Ok (part_of Null p r i true, [])
unfolding letters_of dacl_section dacl_behind words
null_read known names = of_three (λ p r i. find (dacl_section known) (dacl_canon names (letters_of p r i) Null) ≡ Ok (part_of Null p r i true, [])) refl refl refl refl refl refl refl refl

is_null : Dacl → Bool
is_null Null = true
is_null other = false

dacl_read : (known : Aliases) (names : RightNames) (dacl : Dacl) (p r i : Bool) → IsDacl dacl → HaveNamedFlags dacl → (IsAbsent dacl → IsTrue (not p && not r && not i)) → find (dacl_section known) (dacl_canon names (letters_of p r i) dacl) ≡ Ok (part_of dacl p r i (is_null dacl), [])
unfolding is_null dacl_section dacl_behind
dacl_read known names Absent true r i is named_only without = absurd (let no = without refl in cc)
dacl_read known names Absent false true i is named_only without = absurd (let no = without refl in cc)
dacl_read known names Absent false false true is named_only without = absurd (let no = without refl in cc)
dacl_read known names Absent false false false is named_only without = refl
dacl_read known names Null p r i is named_only without = null_read known names p r i
dacl_read known names (Entries es) p r i is named_only without = rw (words_read names p r i es, entries_read known names es is.each named_only is.fit) refl

-- ---- sections

after_group : (names : RightNames) (letters : List ℕ) (dacl : Dacl) → Stops (dacl_canon names letters dacl) × (begins (dacl_canon names letters dacl) (codes "G:") ≡ false) × (begins (dacl_canon names letters dacl) (codes "O:") ≡ false)
after_group names letters Absent = (record { no_digit = refl; no_dash = refl }, refl, refl)
after_group names letters Null = (record { no_digit = refl; no_dash = refl }, refl, refl)
after_group names letters (Entries es) = (record { no_digit = refl; no_dash = refl }, refl, refl)

after_owner : (names : RightNames) (g : Option SidValue) (letters : List ℕ) (dacl : Dacl) → Stops (section_canon (codes "G:") g ++ dacl_canon names letters dacl) × (begins (section_canon (codes "G:") g ++ dacl_canon names letters dacl) (codes "O:") ≡ false)
after_owner names None letters dacl = let h = after_group names letters dacl in (h.0, h.2)
after_owner names (Some s) letters dacl = (record { no_digit = refl; no_dash = refl }, refl)

section_read : (known : Aliases) (head : List ℕ) (o : Option SidValue) (rest : List ℕ) → ((text : List ℕ) → (begins (head ++ text) head ≡ true) × (drop (length head) (head ++ text) ≡ text)) → IfSome o IsSid → Stops rest → begins rest head ≡ false → find (sid_section known head) (section_canon head o ++ rest) ≡ Ok (o, rest)
unfolding sid_section
section_read known head None rest opens is stops other = rw other refl
section_read known head (Some s) rest opens is stops other =
    let here = opens (sid_canon s ++ rest) in rw (append_assoc head (sid_canon s) rest, here.0, here.1, sid_read known s rest is stops) refl

sections_read : (known : Aliases) (names : RightNames) (d : DescriptorValue) → IsDescriptor d → HaveNamedFlags d.dacl → find (sections known) (canon_in names d) ≡ Ok (d, [])
unfolding sections parts canon_in no_sacl letters_of words_canon
sections_read known names d is named_only =
    let tail = dacl_canon names (words_canon d) d.dacl in
    let behind_group = after_group names (words_canon d) d.dacl in
    let behind_owner = after_owner names d.group (words_canon d) d.dacl in
    rw (append_assoc (section_canon (codes "O:") d.owner) (section_canon (codes "G:") d.group) tail, section_read known (codes "O:") d.owner (section_canon (codes "G:") d.group ++ tail) (λ text. (refl, refl)) is.owner behind_owner.0 behind_owner.1, section_read known (codes "G:") d.group tail (λ text. (refl, refl)) is.group behind_group.0 behind_group.1, dacl_read known names d.dacl d.protected d.auto_req d.auto_inherited is.dacl named_only is.without_a_dacl) refl

pub descriptors_come_back : DescriptorsComeBack
descriptors_come_back known names d is named_only = find_spells (sddl_in known) (canon_in names d) d [] (rw (sections_read known names d is named_only) refl)
