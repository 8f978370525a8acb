-- The object of a line determines its kind and its values.
use Rattle.sd_line_laws.proofs.Cited.{All, All-append, All-cons, All-head, All-nil, All-tail, List, [], ap, append-nil, append_assoc, append_cancel_left, arith, codes, drop, false, flat_map, flat_map-append, get_or, length, map, ne_eqb, refl, sym, ℕ, ◌++◌, ◌<◌, ◌==◌, ◌∙◌, ◌∷◌, ◌≡◌}
use Rattle.sd_line_laws.proofs.Members.{IsFit, joined, member_text, members, one_end, one_name}
use Rattle.sd_line_laws.proofs.Strings.{one_string}
use Rattle.sd_line.specs.Json.{json_string}
use Rattle.sd_line_laws.specs.Laws.{Has64Bits, IsPlain, ObjectsDetermineTexts, ObjectsDetermineValues, ObjectsDetermineWhetherOfAKind, line_fields, said, said_field, said_strings, said_value}
use Rattle.sd_line.specs.Line.{FieldOf, LineOf, PartOf, fields_of}
use Rattle.sd_line.specs.Printed.{TagOf, field_member, line_members, line_text, list_member, marked_text, member, object, part_members, tag_members}
use Rattle.sd_line.specs.declared.line.Value.{Value}
use Rattle.sd_line.specs.declared.line.Value.TheVariants.{Sids, Words}
use Rattle.sd_line.specs.declared.line.Value.TheVariants as values
use Rattle.sd_line.specs.declared.spelling.Spelling.{Spelling}

-- ---- the members of a line are those of its values

of_strings : (name : List ℕ) (texts : List (List ℕ)) → list_member name texts ≡ members (said_strings name texts)
of_strings name [] = refl
of_strings name (text ∷ texts) = sym (append-nil (list_member name (text ∷ texts)))

of_value : (spelling : Spelling) (name : List ℕ) (value : Value) → member spelling name value ≡ members (said_value spelling name value)
of_value spelling name (values.Number n) = sym (append-nil (member spelling name (values.Number n)))
of_value spelling name (Sids sids) = of_strings name (map marked_text sids)
of_value spelling name (Words words) = of_strings name words
of_value spelling name value = sym (append-nil (member spelling name value))

of_fields : (spelling : Spelling) (fs : List FieldOf) → flat_map (field_member spelling) fs ≡ members (flat_map (said_field spelling) fs)
of_fields spelling [] = refl
of_fields spelling (f ∷ fs) =
    rw (of_value spelling f.name f.value, of_fields spelling fs)
    (sym (flat_map-append (λ p. 44 ∷ member_text p) (said_field spelling f) (flat_map (said_field spelling) fs)))

of_parts : (spelling : Spelling) (ps : List PartOf) → flat_map (part_members spelling) ps ≡ flat_map (field_member spelling) (flat_map fields_of ps)
of_parts spelling [] = refl
of_parts spelling (p ∷ ps) =
    rw (of_parts spelling ps) (sym (flat_map-append (field_member spelling) (fields_of p) (flat_map fields_of ps)))

-- ---- their names and numbers are those of its fields

strings_fit : (name : List ℕ) (texts : List (List ℕ)) → IsPlain name → All IsFit (said_strings name texts)
strings_fit name [] plain = All-nil IsFit
strings_fit name (text ∷ texts) plain = All-cons IsFit _ [] (plain, tt) (All-nil IsFit)

value_fits : (spelling : Spelling) (name : List ℕ) (value : Value) → IsPlain name → Has64Bits value → All IsFit (said_value spelling name value)
value_fits spelling name (values.Number n) plain low = All-cons IsFit _ [] (plain, low) (All-nil IsFit)
value_fits spelling name (Sids sids) plain low = strings_fit name (map marked_text sids) plain
value_fits spelling name (Words words) plain low = strings_fit name words plain
value_fits spelling name value plain low = All-cons IsFit _ [] (plain, tt) (All-nil IsFit)

fields_fit : (spelling : Spelling) (fs : List FieldOf) → All (λ f. IsPlain f.name) fs → All (λ f. Has64Bits f.value) fs
    → All IsFit (flat_map (said_field spelling) fs)
fields_fit spelling [] plain low = All-nil IsFit
fields_fit spelling (f ∷ fs) plain low = All-append IsFit (said_field spelling f) (flat_map (said_field spelling) fs)
    (value_fits spelling f.name f.value (All-head (λ g. IsPlain g.name) f fs plain) (All-head (λ g. Has64Bits g.value) f fs low))
    (fields_fit spelling fs (All-tail (λ g. IsPlain g.name) f fs plain) (All-tail (λ g. Has64Bits g.value) f fs low))

-- ---- lines

after_tag : (spelling : Spelling) (tag : TagOf) (l m : LineOf) → object spelling tag l ≡ object spelling tag m
    → line_members spelling l ++ 125 ∷ [] ≡ line_members spelling m ++ 125 ∷ []
after_tag spelling tag l m same =
    append_cancel_left (tag_members tag) _ _ (sym (append_assoc (tag_members tag) (line_members spelling l) (125 ∷ []))
    ∙ ap (λ (s : List ℕ). drop 1 s) same ∙ append_assoc (tag_members tag) (line_members spelling m) (125 ∷ []))

of_kind : (spelling : Spelling) (l : LineOf) → 0 < length l.kind
    → line_members spelling l ++ 125 ∷ [] ≡ codes "\"answer\":\"" ++ (l.kind ++ 34 ∷ (members (said spelling l) ++ 125 ∷ []))
of_kind spelling l some =
    let kind : (length l.kind == 0) ≡ false = ne_eqb (length l.kind) 0 (λ e. omega (arith, e)) in
    rw kind (ap (λ (s : List ℕ). codes "\"answer\":\"" ++ s)
    (joined l.kind (34 ∷ []) (flat_map (part_members spelling) l.parts) (125 ∷ [])
    ∙ ap (λ (s : List ℕ). l.kind ++ 34 ∷ (s ++ 125 ∷ [])) (of_parts spelling l.parts ∙ of_fields spelling (line_fields l))))

of_no_kind : (spelling : Spelling) (l : LineOf) → l.kind ≡ []
    → line_members spelling l ++ 125 ∷ [] ≡ codes "\"text\":" ++ (json_string (line_text spelling l) ++ 125 ∷ [])
of_no_kind spelling l none = rw none refl

pub same_values : ObjectsDetermineValues
same_values spelling tag l m plain other low low_too same =
    let kinds = append_cancel_left (codes "\"answer\":\"") _ _ (sym (of_kind spelling l plain.some) ∙ after_tag spelling tag l m same ∙ of_kind spelling m other.some) in
    let parts = one_name l.kind m.kind _ _ plain.kind other.kind kinds in (
      parts.0,
      one_end (said spelling l) (said spelling m) (fields_fit spelling (line_fields l) plain.names low)
          (fields_fit spelling (line_fields m) other.names low_too) parts.1,
    )

pub same_texts : ObjectsDetermineTexts
same_texts spelling tag l m none other same =
    let strings = append_cancel_left (codes "\"text\":") _ _ (sym (of_no_kind spelling l none) ∙ after_tag spelling tag l m same ∙ of_no_kind spelling m other) in
    (one_string (line_text spelling l) (line_text spelling m) _ _ strings).0

apart : (x y : List ℕ) → codes "\"text\":" ++ x ≡ codes "\"answer\":\"" ++ y → ⊥
apart x y same = let e : 116 ≡ 97 = ap (λ (s : List ℕ). get_or s 1 0) same in omega (arith, e)

pub with_and_without_a_kind : ObjectsDetermineWhetherOfAKind
with_and_without_a_kind spelling tag l m none some same =
    apart _ _ (sym (of_no_kind spelling l none) ∙ after_tag spelling tag l m same ∙ of_kind spelling m some)
