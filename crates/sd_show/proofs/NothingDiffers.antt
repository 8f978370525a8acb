-- Where nothing differs, `diff` has no line.
use Rattle.std.proofs.Common.{inl, inr, Bool, List, None, Option, Some, [], ap, arith, false, get_or, length, map, refl, subst, suc, take, true, zero, ℕ, ◌&&◌, ◌+◌, ◌<◌, ◌==◌, ◌≡◌, ◌≤◌, ◌∙◌, ◌∷◌}
use Rattle.std.proofs.lemmas.Bool.{and_parts, cases_Bool, eq-eqb, eqb-true, lt-ltb}
use Rattle.std.proofs.lemmas.List.Sums.{position_or_len_is}
use Rattle.std.proofs.lemmas.Option.{get_or_from_slice_get, slice_get-map}
use Rattle.std.proofs.lemmas.Slice.Eq.{bytes_eq-Decides}
use Rattle.std.specs.Bool.{Decides}
use Rattle.std.specs.List.{count_by, flat_map, position, slice_get}
use Rattle.std.specs.Option.{option_map}
use Rattle.std.specs.Str.{bytes_eq}
use Rattle.sd_acl.proofs.SameAces.{ace_itself}
use Rattle.sd_acl.specs.declared.descriptor.DaclOf.TheVariants.{Absent, Null, List as Entries}
use Rattle.sd_sid.proofs.Compared.{same_sid-itself}
use Rattle.sd_sid.specs.Sid.{SidValue}
use Rattle.sd_whole.specs.Kind.{kind_number}
use Rattle.sd_whole.specs.Reading.{WholeAcl}
use Rattle.sd_whole.specs.declared.ace.WholeAce.{WholeAce}
use Rattle.sd_whole.specs.declared.ace.WholeAce.TheVariants.{Plain, Typed, Opaque}
use Rattle.sd_whole.specs.declared.types.Guid.{Guid}
use Rattle.sd_whole_text.specs.declared.no_text.AclKind.{AclKind}
use Rattle.sd_whole_text.specs.declared.no_text.AclKind.TheVariants as lists
use Rattle.sd_wire.specs.Reading.{is_set}
use Rattle.sd_show.proofs.SameEntries.{same_entries}
use Rattle.sd_show.proofs.SameLists.{count_grows, counts_at, element, length-counts}
use Rattle.sd_show.specs.Control.{BitWord, bits_of, field_of}
use Rattle.sd_show.specs.Diff.{acl_changes, bit_changes, entry_changes, new_below, partners_of, removed_below, state_changes, state_of, trustee_changes, word_changes}
use Rattle.sd_show.specs.Laws.{AlikeHasNoLine, bits_set}
use Rattle.sd_show.specs.Pairs.{CountedOf, common_within, counts, is_partner, or_none, partner, partner_at}
use Rattle.sd_show.specs.Same.{same_entry, same_guid}
use Rattle.sd_show.specs.Show.{entries_of, is_of_directory}
use Rattle.sd_show.specs.declared.control.Field.{Field}
use Rattle.sd_show.specs.declared.control.Field.TheVariants.{Owner, Group, ResourceManager}
use Rattle.sd_show.specs.declared.show.TheConstants.{REVISION_WORD}

-- ---- an entry passes the test with itself

itself : (n : ℕ) → (n == n) ≡ true
itself n = eq-eqb n n refl

text_itself : (bs : List ℕ) → bytes_eq bs bs ≡ true
text_itself bs = (bytes_eq-Decides bs bs).1 refl

guid_itself : (g : Option Guid) → same_guid g g ≡ true
guid_itself None = refl
guid_itself (Some g) = text_itself g.bytes

both : (x y : Bool) → x ≡ true → y ≡ true → (x && y) ≡ true
both x y hx hy = rw (hx, hy) refl

entry_itself : (e : WholeAce) → same_entry e e ≡ true
entry_itself (Plain e) = ace_itself e
entry_itself (Typed e) =
    both _ _ (both _ _ (both _ _ (both _ _ (both _ _ (both _ _ (itself (kind_number e.kind)) (itself e.flags.0)) (itself e.mask))
    (guid_itself e.types.object)) (guid_itself e.types.inherited)) (same_sid-itself e.sid)) (text_itself e.trailing)
entry_itself (Opaque e) = both _ _ (both _ _ (itself e.kind) (itself e.flags.0)) (text_itself e.body)

pub same_entry_decides : (a b : WholeAce) → Decides (same_entry a b) (a ≡ b)
same_entry_decides a b = (same_entries a b, λ one. subst (λ e. same_entry a e ≡ true) one (entry_itself a))

-- ---- an entry's partner in its own list is itself

-- no earlier one is, since fewer equal ones are before it
earlier : (es : List WholeAce) (k i : ℕ) (e f : WholeAce) → slice_get es k ≡ Some e → slice_get es i ≡ Some f → i < k → k ≤ length es
    → is_partner (e, count_by (same_entry e) (take k es)) (f, count_by (same_entry f) (take i es)) ≡ false
earlier es k i e f is_e is_f low h =
    let ours : CountedOf = (e, count_by (same_entry e) (take k es)) in
    let other : CountedOf = (f, count_by (same_entry f) (take i es)) in
    elim (cases_Bool (is_partner ours other)) [
      | inr differs ↦ differs
      | inl passes ↦
          let parts = and_parts (ours.1 == other.1) (same_entry e f) passes in
          let one = same_entries e f parts.1 in
          let number = eqb-true ours.1 other.1 parts.0 in
          let here = get_or_from_slice_get es i f e is_f in
          let grows = count_grows (same_entry e) es i k e low h (ap (same_entry e) here ∙ parts.1) in
          let fewer : count_by (same_entry e) (take i es) ≡ count_by (same_entry f) (take i es) = ap (λ x. count_by (same_entry x) (take i es)) one in
          absurd (omega arith)
    ]

position_is : {X : Type 0} (p : X → Bool) (xs : List X) (i : ℕ) (d : X) → i < length xs → ((k : ℕ) → k < i → p (get_or xs k d) ≡ false) → p (get_or xs i d) ≡ true → position p xs ≡ Some i
position_is p xs i d low fails passes =
    let first = position_or_len_is p xs i d (omega arith) fails (λ _. passes) in
    rw (first, lt-ltb i (length xs) low) refl

own_partner : (es : List WholeAce) (k : ℕ) → k < length es → partner_at (partners_of es es) k ≡ Some (k + 1)
own_partner es k low =
    let all = counts es (length es) in
    let size = length-counts es (length es) (omega arith) in
    let e = element es k low in
    let ours : CountedOf = (e.0, count_by (same_entry e.0) (take k es)) in
    let at_k = counts_at es (length es) k e.0 low (omega arith) e.1 in
    let here = get_or_from_slice_get all k ours ours at_k in
    let passes : is_partner ours ours ≡ true = both _ _ (itself ours.1) (entry_itself e.0) in
    let fails : (i : ℕ) → i < k → is_partner ours (get_or all i ours) ≡ false = λ i less.
    let f = element es i (omega arith) in
    let at_i = counts_at es (length es) i f.0 (omega arith) (omega arith) f.1 in
    let other : CountedOf = (f.0, count_by (same_entry f.0) (take i es)) in
    ap (is_partner ours) (get_or_from_slice_get all i other ours at_i) ∙ earlier es k i e.0 f.0 e.1 f.1 less (omega arith) in
    let first = position_is (is_partner ours) all k ours (omega arith) fails (ap (is_partner ours) here ∙ passes) in
    ap or_none (slice_get-map (partner all) all k ∙ ap (option_map (partner all)) at_k) ∙ ap (option_map (λ place. place + 1)) first

-- ---- no line

none_removed : (kind : AclKind) (es : List WholeAce) (n : ℕ) → n ≤ length es → removed_below kind (partners_of es es) es n ≡ []
unfolding removed_below
none_removed kind es zero h = refl
none_removed kind es (suc n) h =
    let e = element es n (omega arith) in
    rw (none_removed kind es n (omega arith), own_partner es n (omega arith), e.1) refl

none_new : (kind : AclKind) (es : List WholeAce) (n : ℕ) → n ≤ length es → new_below kind (partners_of es es) (partners_of es es) es n ≡ []
unfolding new_below
none_new kind es zero h = refl
none_new kind es (suc n) h =
    let e = element es n (omega arith) in
    rw (none_new kind es n (omega arith), own_partner es n (omega arith), e.1, itself (common_within (partners_of es es) (n + 1))) refl

no_entries : (kind : AclKind) (es : List WholeAce) → entry_changes kind es es ≡ []
no_entries kind es = rw (none_removed kind es (length es) (omega arith), none_new kind es (length es) (omega arith)) refl

no_word : (field : Field) (word : List ℕ) (is : Bool) → word_changes field word is is ≡ []
no_word field word false = refl
no_word field word true = refl

no_bits : (field : Field) (was is : ℕ) (named : List BitWord)
    → map (λ (one : BitWord). is_set one.0 was) named ≡ map (λ (one : BitWord). is_set one.0 is) named → flat_map (bit_changes field was is) named ≡ []
no_bits field was is [] same = refl
no_bits field was is (one ∷ named) same =
    let first : is_set one.0 was ≡ is_set one.0 is = cc in
    let others : map (λ (one : BitWord). is_set one.0 was) named ≡ map (λ (one : BitWord). is_set one.0 is) named = cc in
    rw (first, no_word field one.1 (is_set one.0 is), no_bits field was is named others) refl

no_trustee : (field : Field) (sid : Option SidValue) → trustee_changes field sid sid ≡ []
no_trustee field None = refl
no_trustee field (Some s) = rw (same_sid-itself s) refl

no_state : (field : Field) (acl : WholeAcl) → state_changes field (state_of acl) (state_of acl) ≡ []
no_state field Absent = refl
no_state field Null = refl
no_state field (Entries list) = refl

no_acl : (kind : AclKind) (was is : ℕ) (acl : WholeAcl) → bits_set (field_of kind) was ≡ bits_set (field_of kind) is → acl_changes kind was is acl acl ≡ []
no_acl kind was is acl same =
    rw (
      no_state (field_of kind) acl,
      no_bits (field_of kind) was is (bits_of (field_of kind)) same,
      no_word (field_of kind) REVISION_WORD.now (is_of_directory acl),
      no_entries kind (entries_of acl),
    ) refl

pub alike_has_no_line : AlikeHasNoLine
alike_has_no_line old new same =
    rw (
      same.owner,
      same.group,
      same.resource_manager,
      same.dacl,
      same.sacl,
      no_trustee Owner new.owner,
      no_bits Owner old.control new.control (bits_of Owner) (same.control Owner),
      no_trustee Group new.group,
      no_bits Group old.control new.control (bits_of Group) (same.control Group),
      itself new.resource_manager,
      no_bits ResourceManager old.control new.control (bits_of ResourceManager) (same.control ResourceManager),
      no_acl lists.Dacl old.control new.control new.dacl (same.control (field_of lists.Dacl)),
      no_acl lists.Sacl old.control new.control new.sacl (same.control (field_of lists.Sacl)),
    ) refl
