-- The entries of a plain descriptor's text are read alike.
use Rattle.std.proofs.Common.{List, Ok, Some, None, [], arith, ap, drop, false, inl, inr, refl, subst, suc, sym, true, zero, ℕ, ◌++◌, ◌+◌, ◌∷◌, ◌≡◌}
use Rattle.std.specs.Prelude.{Bool, codes, map, nat_lt, not, sum_by, ◌&&◌}
use Rattle.std.specs.Char.{eq_ignore_ascii_case}
use Rattle.std.proofs.lemmas.Bool.{and_parts, eqb-true, ltb-false, not-true}
use Rattle.std.proofs.lemmas.List.Sums.{sum_by-cons}
use Rattle.sd_acl.specs.Ace.{ace_size, acl_size_of}
use Rattle.sd_acl.specs.declared.ace.Ace.{Ace}
use Rattle.sd_acl.specs.declared.ace.AceKind.{AceKind}
use Rattle.sd_acl.specs.declared.ace.AceKind.TheVariants.{Allow, Deny}
use Rattle.sd_text.proofs.Engine.{spells_find, find_spells}
use Rattle.sd_text.proofs.Parts.{chosen, found_is, part_ok, went}
use Rattle.sd_text.specs.Entry.{entry, entry_end, flag_names, guid, kind, opening}
use Rattle.sd_text.specs.Finding.{Found, find, find_items}
use Rattle.sd_text.specs.Grammar.{Items, Name, begins, named, spells, value, word}
use Rattle.sd_text.specs.Rights.{bits, bits_of, rights}
use Rattle.sd_text.specs.Sid.{begins_letter, sid}
use Rattle.sd_text.specs.declared.alias.Aliases.{Aliases}
use Rattle.sd_whole.proofs.Lengths.{length_of_plain}
use Rattle.sd_whole.specs.Entry.{whole_ace_size, whole_acl_size}
use Rattle.sd_whole.specs.Kind.{has_object_types, plain_kind}
use Rattle.sd_whole.specs.Layout.{no_types}
use Rattle.sd_whole.specs.declared.ace.WholeAce.{WholeAce}
use Rattle.sd_whole.specs.declared.ace.WholeAce.TheVariants.{Plain}
use Rattle.sd_whole.specs.declared.kind.WholeKind.{WholeKind}
use Rattle.sd_whole.specs.declared.kind.WholeKind.TheVariants as kinds
use Rattle.sd_whole_parse.specs.Data.{data_found}
use Rattle.sd_whole_parse.specs.Entry.{entry_found}
use Rattle.sd_whole_parse.specs.Entry.{entry_end as whole_end}
use Rattle.sd_whole_parse.specs.Fields.{all_flag_names, flags_of, rights_of, trustee_of}
use Rattle.sd_whole_parse.specs.Guid.{types_of}
use Rattle.sd_whole_parse.specs.Spaces.{at_entry}
use Rattle.sd_whole_parse.proofs.Opening.{is_opening}
use Rattle.sd_whole_parse.specs.Kind.{whole_kind}

-- ---- the type

as_whole : AceKind → WholeKind
as_whole Allow = kinds.Allow
as_whole Deny = kinds.Deny

kind_alike : (text : List ℕ) (k : AceKind) (mid : List ℕ) → spells kind text k mid → find whole_kind text ≡ Ok (as_whole k, mid)
unfolding kind whole_kind as_whole
kind_alike text k mid s =
    elim s [
      | inl h ↦
          let both = and_parts (begins text (codes "A")) (not (begins_letter (drop 1 text))) h.0 in
          let alone : begins_letter (drop 1 text) ≡ false = not-true _ both.1 in
          rw (alone, both.0, h.1.3.0, h.1.3.1, h.1.2.1) refl
      | inr h ↦ elim h.1 [
        | inl j ↦
            let both = and_parts (begins text (codes "D")) (not (begins_letter (drop 1 text))) j.0 in
            let alone : begins_letter (drop 1 text) ≡ false = not-true _ both.1 in
            let other : begins text (codes "A") ≡ false = isnt (begins text (codes "A")) (rw alone at h.0) in
            rw (alone, other, both.0, j.1.3.0, j.1.3.1, j.1.2.1) refl
        | inr j ↦ absurd (elim j.1 [ inl i ↦ i.1 | inr i ↦ i.1 ])
      ]
    ]
  where
    isnt : (b : Bool) → (b && true) ≡ false → b ≡ false
    isnt true e = absurd cc
    isnt false e = refl

-- ---- the flags

module _ {A : Type 0} (more : List (Name A)) where
  named_more : (names : List (Name A)) (text : List ℕ) (r : A × List ℕ) → named names text ≡ Some r → named (names ++ more) text ≡ Some r
  named_more [] text r e = absurd cc
  named_more (name ∷ names) text r e =
      elim (chosen (begins text name.letters) _ _ _ e) [ inl h ↦ rw h.0 h.1 | inr h ↦ rw h.0 (named_more names text r h.1) ]

  items_more : (names : List (Name A)) (before : List A) (text : List ℕ) (xs : List A) (behind : List ℕ) → Items names (λ earlier b. spells (value b)) before text xs behind → Items (names ++ more) (λ earlier b. spells (value b)) before text xs behind
  items_more names before text [] behind is = is
  items_more names before text (x ∷ xs) behind is =
      (is.0, is.1, is.2, named_more names text (is.0, is.1) is.3, is.4, items_more names (before ++ x ∷ []) is.2 xs behind is.5)

bits_more : (names more : List (Name ℕ)) (text : List ℕ) (mask : ℕ) (behind : List ℕ) → spells (bits_of names) text mask behind → named (names ++ more) behind ≡ None → find (bits_of (names ++ more)) text ≡ Ok (mask, behind)
unfolding bits_of
bits_more names more text mask behind s none =
    spells_find (bits_of (names ++ more)) text mask behind (s.0, s.1, (items_more more names [] text s.0 s.1 s.2.0, rw s.3.1 at none), s.3)

-- a semicolon itself
is_semicolon : (c : ℕ) → eq_ignore_ascii_case c 59 ≡ true → c ≡ 59
is_semicolon c e =
    elim (went (nat_lt c 65)) [
      | inl h ↦ eqb-true c 59 (rw h at e)
      | inr h ↦ elim (went (nat_lt c 91)) [
        | inl k ↦ absurd (let same = eqb-true (c + 32) 59 (rw (h, k) at e) in let far = ltb-false c 65 h in omega arith)
        | inr k ↦ eqb-true c 59 (rw (h, k) at e)
      ]
    ]

-- no flag's name begins with one
no_flag : (text : List ℕ) → begins text (codes ";") ≡ true → named all_flag_names text ≡ None
no_flag [] e = absurd cc
no_flag (c ∷ text) e = subst (λ b. named all_flag_names (b ∷ text) ≡ None) (sym (is_semicolon c e)) refl

-- ---- the fields of an allow or a deny

flags_alike : (k : AceKind) (text : List ℕ) (flags : ℕ) (mid : List ℕ) → spells (bits_of flag_names) text flags mid → begins mid (codes ";") ≡ true → find (flags_of (as_whole k)) text ≡ Ok (flags, mid)
unfolding flags_of as_whole
flags_alike Allow text flags mid s ends = bits_more flag_names (bits (codes "CR") 0x20 ∷ []) text flags mid s (no_flag mid ends)
flags_alike Deny text flags mid s ends = bits_more flag_names (bits (codes "CR") 0x20 ∷ []) text flags mid s (no_flag mid ends)

rights_alike : (k : AceKind) → rights_of (as_whole k) ≡ rights
unfolding rights_of as_whole
rights_alike Allow = refl
rights_alike Deny = refl

trustee_alike : (k : AceKind) (known : Aliases) → trustee_of (as_whole k) known ≡ sid known
unfolding trustee_of as_whole
trustee_alike Allow known = refl
trustee_alike Deny known = refl

types_alike : (k : AceKind) (text : List ℕ) (u : Unit {0}) (mid : List ℕ) (v : Unit {0}) (behind : List ℕ) → spells guid text u mid → spells guid mid v behind → find (types_of (has_object_types (as_whole k))) text ≡ Ok (no_types, behind)
unfolding types_of as_whole
types_alike Allow text u mid v behind one two = rw (spells_find guid text u mid one, spells_find guid mid v behind two) refl
types_alike Deny text u mid v behind one two = rw (spells_find guid text u mid one, spells_find guid mid v behind two) refl

data_alike : (known : Aliases) (k : AceKind) (text : List ℕ) → data_found known (as_whole k) text ≡ Ok ([], text)
unfolding data_found as_whole
data_alike known Allow text = refl
data_alike known Deny text = refl

is_plain : (k : AceKind) → plain_kind (as_whole k) ≡ Some k
unfolding as_whole
is_plain Allow = refl
is_plain Deny = refl

end_alike : (size : ℕ) (e f : Ace) (text behind : List ℕ) → spells (entry_end size e) text f behind → find (whole_end size (Plain e)) text ≡ Ok (Plain f, behind)
unfolding entry_end whole_end
end_alike size e f text behind s =
    elim s [
      | inl h ↦ absurd h.1
      | inr h ↦ rw (length_of_plain e, h.0, h.1.2.0, h.1.3.0, h.1.3.1, h.1.2.1) refl
    ]

-- ---- an entry, and all of them

entry_alike : (known : Aliases) (size : ℕ) (text : List ℕ) (e : Ace) (behind : List ℕ) → at_entry behind ≡ behind → spells (entry known size) text e behind → entry_found known size text ≡ Ok (Plain e, behind)
unfolding entry entry_found
entry_alike known size text e behind stays s =
    let first = s.3 in
    let flags = first.3 in
    let second = flags.3 in
    let mask = second.3 in
    let third = mask.3 in
    let object = third.3 in
    let inherit = object.3 in
    let trustee = inherit.3 in
    let k = s.0 in
    rw (
      kind_alike text k s.1 s.2,
      spells_find (word (codes ";")) s.1 tt first.1 first.2,
      flags_alike k first.1 flags.0 flags.1 flags.2 second.2.0,
      spells_find (word (codes ";")) flags.1 tt second.1 second.2,
      rights_alike k,
      spells_find rights second.1 mask.0 mask.1 mask.2,
      spells_find (word (codes ";")) mask.1 tt third.1 third.2,
      types_alike k third.1 object.0 object.1 inherit.0 inherit.1 object.2 inherit.2,
      trustee_alike k known,
      spells_find (sid known) inherit.1 trustee.0 trustee.1 trustee.2,
      data_alike known k trustee.1,
      is_plain k,
      end_alike size _ e trustee.1 behind trustee.3,
      stays,
    ) refl

-- an entry as one of a whole list
abbrev pub plain_ones : List Ace → List WholeAce
plain_ones es = map (λ e. Plain e) es

plain_sizes : (es : List Ace) → sum_by whole_ace_size (plain_ones es) ≡ sum_by ace_size es
plain_sizes [] = refl
plain_sizes (e ∷ es) = omega (arith, sum_by-cons whole_ace_size (Plain e) (plain_ones es), sum_by-cons ace_size e es, plain_sizes es, length_of_plain e)

plain_push : (es : List Ace) (e : Ace) → plain_ones (es ++ e ∷ []) ≡ plain_ones es ++ Plain e ∷ []
plain_push [] e = refl
plain_push (x ∷ es) e = ap (λ more. Plain x ∷ more) (plain_push es e)

abbrev strict_items : Aliases → ℕ → List Ace → List ℕ → Found (List Ace)
strict_items known n before text = find_items opening (λ earlier u. find (entry known (acl_size_of earlier))) n before text

abbrev whole_items : Aliases → ℕ → List WholeAce → List ℕ → Found (List WholeAce)
whole_items known n before text = find_items opening (λ earlier u. entry_found known (whole_acl_size earlier)) n before text

-- no space is before an entry, nor behind the last one
opens_here : (text : List ℕ) → begins text (codes "(") ≡ true → at_entry text ≡ text
opens_here [] e = absurd cc
opens_here (c ∷ text) e = let is : c ≡ 40 = eqb-true c 40 (is_opening c e) in rw is refl

pub stays_here : (known : Aliases) (n : ℕ) (before : List Ace) (text : List ℕ) (es : List Ace) (behind : List ℕ) → strict_items known n before text ≡ Ok (es, behind) → at_entry behind ≡ behind → at_entry text ≡ text
stays_here known zero before text es behind e stays = rw (sym (found_is before es text behind e).1) at stays
stays_here known (suc n) before text es behind e stays =
    elim (went (begins text (codes "("))) [
      | inl opens ↦ opens_here text opens
      | inr ends ↦ rw (sym (found_is before es text behind (rw ends at e)).1) at stays
    ]

pub items_alike : (known : Aliases) (n : ℕ) (before : List Ace) (text : List ℕ) (es : List Ace) (behind : List ℕ) → at_entry behind ≡ behind → strict_items known n before text ≡ Ok (es, behind) → whole_items known n (plain_ones before) text ≡ Ok (plain_ones es, behind)
items_alike known zero before text es behind stays e = let same = found_is before es text behind e in rw (same.0, same.1) refl
items_alike known (suc n) before text es behind stays e =
    elim (went (begins text (codes "("))) [
      | inl opens ↦
          let parts = part_ok (find (entry known (acl_size_of before)) (drop 1 text)) (λ x after. strict_items known n (before ++ x ∷ []) after) es behind (rw opens at e) in
          let next = stays_here known n (before ++ parts.0 ∷ []) parts.1 es behind parts.3 stays in
          let one = entry_alike known (acl_size_of before) (drop 1 text) parts.0 parts.1 next (find_spells (entry known (acl_size_of before)) (drop 1 text) parts.0 parts.1 parts.2) in
          let sizes : whole_acl_size (plain_ones before) ≡ acl_size_of before = omega (arith, plain_sizes before) in
          rw (opens, sizes, one, sym (plain_push before parts.0)) (items_alike known n (before ++ parts.0 ∷ []) parts.1 es behind stays parts.3)
      | inr ends ↦ let same = found_is before es text behind (rw ends at e) in rw (ends, same.0, same.1) refl
    ]
