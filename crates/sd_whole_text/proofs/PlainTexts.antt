-- A plain descriptor has the same text as a whole one.
use Rattle.sd_whole_text.proofs.Cited.{Absent, Ace, AceKind, AllByRecursion, Bool, Dacl, DaclKind, HasNamedFlags, HaveNamedFlags, IsTrue, List, Null, Ok, Plain, PlainTextsStay, RightNames, SaclKind, [], acl_test, acl_text, all_named, and_assoc, and_zero_r, ap, append-nil, bit_and, bits_without_keyword, codes, cond, control_of, dacl_canon, entries_test, entry_text, false, flat_map, is_absent, is_set, keyword_bits, keywords_test, kind_canon, kind_of_plain, letters_of, map, not, refl, rights_canon_in, rights_text, sid_canon, true, where_set, whole_dacl, ℕ, ◌&&◌, ◌++◌, ◌+◌, ◌∙◌, ◌∷◌, ◌≡◌}
use Rattle.sd_acl.specs.declared.descriptor.DaclOf.TheVariants.{List as Entries}
use Rattle.sd_acl.specs.declared.ace.AceKind.TheVariants as plain
use Rattle.sd_text.specs.Canon.{canon_in, entry_canon_in, flags_canon, words_canon}
use Rattle.sd_whole_text.specs.Acl.{keywords_text}
use Rattle.sd_whole_text.specs.Descriptor.{sections_text}
use Rattle.sd_whole_text.specs.Entry.{head_text}
use Rattle.sd_whole_text.specs.Flags.{flags_text}
use Rattle.sd_whole_text.specs.NoText.{whole_test}

-- ---- entries

-- the flag CR isn't among the named ones
not_critical : (flags : ℕ) → bit_and flags all_named ≡ flags → bit_and flags 0x20 ≡ 0
not_critical flags named =
    let apart : bit_and (bit_and flags all_named) 0x20 ≡ 0 = and_assoc 0x20 flags all_named ∙ and_zero_r flags in
    rw named at apart

-- an allow and a deny have their letters, and rights by these names
kind_stays : (kind : AceKind) → letters_of (kind_of_plain kind) ≡ kind_canon kind
kind_stays plain.Allow = refl
kind_stays plain.Deny = refl

rights_stay : (names : RightNames) (kind : AceKind) (mask : ℕ) → rights_text names (kind_of_plain kind) mask ≡ rights_canon_in names mask
rights_stay names plain.Allow mask = refl
rights_stay names plain.Deny mask = refl

-- empty fields after another one, one by one or together
three_ends : (before : List ℕ) → before ++ codes ";" ++ codes ";;" ≡ before ++ codes ";;;"
three_ends [] = refl
three_ends (c ∷ before) = rw (three_ends before) refl

flags_stay : (kind : AceKind) (flags : ℕ) → bit_and flags 0x20 ≡ 0 → flags_text (kind_of_plain kind) flags ≡ flags_canon flags
unfolding flags_text
flags_stay plain.Allow flags none = rw (none, append-nil) refl
flags_stay plain.Deny flags none = rw (none, append-nil) refl

entry_stays : (names : RightNames) (e : Ace) → HasNamedFlags e → entry_text names (Plain e) ≡ entry_canon_in names e
unfolding head_text entry_canon_in
entry_stays names e named =
    rw (flags_stay e.kind e.flags.0 (not_critical e.flags.0 named), kind_stays e.kind, rights_stay names e.kind e.mask)
    (ap (λ fields. fields ++ sid_canon e.sid ++ codes ")")
    (three_ends (codes "(" ++ kind_canon e.kind ++ codes ";" ++ flags_canon e.flags.0 ++ codes ";" ++ rights_canon_in names e.mask)))

entries_stay : (names : RightNames) (es : List Ace) → AllByRecursion HasNamedFlags es → flat_map (entry_text names) (map (λ e. Plain e) es) ≡ flat_map (entry_canon_in names) es
entries_stay names [] all = refl
entries_stay names (e ∷ es) all = rw (entry_stays names e all.0, entries_stay names es all.1) refl

-- plain entries have a text
entries_pass : (place : ℕ) (es : List Ace) → entries_test DaclKind place (map (λ e. Plain e) es) ≡ Ok tt
entries_pass place [] = refl
entries_pass place (e ∷ es) = entries_pass (place + 1) es

-- ---- the control bits

-- PD, DC and DI
bits_for : Bool → Bool → Bool → ℕ
bits_for protected auto_req auto_inherited = cond protected 0x1000 0 + cond auto_req 0x0100 0 + cond auto_inherited 0x0400 0

keywords_stay : (p r i : Bool) → keywords_text DaclKind (bits_for p r i) ≡ where_set p (codes "P") ++ where_set r (codes "AR") ++ where_set i (codes "AI")
unfolding keywords_text bits_for
keywords_stay true true true = refl
keywords_stay true true false = refl
keywords_stay true false true = refl
keywords_stay true false false = refl
keywords_stay false true true = refl
keywords_stay false true false = refl
keywords_stay false false true = refl
keywords_stay false false false = refl

-- each of them is a keyword of the DACL
bits_pass : (p r i : Bool) → (is_set bits_without_keyword (bits_for p r i) ≡ false) × (is_set (keyword_bits SaclKind) (bits_for p r i) ≡ false)
unfolding bits_for
bits_pass true true true = (refl, refl)
bits_pass true true false = (refl, refl)
bits_pass true false true = (refl, refl)
bits_pass true false false = (refl, refl)
bits_pass false true true = (refl, refl)
bits_pass false true false = (refl, refl)
bits_pass false false true = (refl, refl)
bits_pass false false false = (refl, refl)

none_set : (p r i : Bool) → IsTrue (not p && not r && not i) → is_set (keyword_bits DaclKind) (bits_for p r i) ≡ false
unfolding bits_for
none_set false false false none = refl
none_set false false true none = absurd cc
none_set false true i none = absurd cc
none_set true r i none = absurd cc

-- ---- the DACL

acl_stays : (names : RightNames) (control : ℕ) (words : List ℕ) (dacl : Dacl) → HaveNamedFlags dacl → keywords_text DaclKind control ≡ words → acl_text names DaclKind control (whole_dacl dacl) ≡ dacl_canon names words dacl
acl_stays names control words Absent named e = refl
acl_stays names control words Null named e = rw e refl
acl_stays names control words (Entries es) named e = rw (e, entries_stay names es named) refl

acl_passes : (dacl : Dacl) → acl_test DaclKind (whole_dacl dacl) ≡ Ok tt
acl_passes Absent = refl
acl_passes Null = refl
acl_passes (Entries es) = entries_pass 1 es

keywords_pass : (control : ℕ) (dacl : Dacl) → (IsTrue (is_absent dacl) → is_set (keyword_bits DaclKind) control ≡ false) → keywords_test DaclKind control (whole_dacl dacl) ≡ Ok tt
keywords_pass control Absent none = rw (none refl) refl
keywords_pass control Null none = refl
keywords_pass control (Entries es) none = refl

-- ---- descriptors

pub plain_texts_stay : PlainTextsStay
unfolding sections_text canon_in words_canon whole_test bits_for
plain_texts_stay names d is named =
    let bits = bits_pass d.protected d.auto_req d.auto_inherited in
    let keywords = keywords_pass (control_of d) d.dacl (λ absent. none_set d.protected d.auto_req d.auto_inherited (is.without_a_dacl absent)) in
    let text = acl_stays names (control_of d) (words_canon d) d.dacl named (keywords_stay d.protected d.auto_req d.auto_inherited) in
    rw (bits.0, keywords, bits.1, acl_passes d.dacl, text, append-nil) refl
