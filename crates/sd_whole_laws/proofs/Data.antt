-- The printed data of an entry, a condition or a claim, is parsed as these bytes.
use Rattle.std.proofs.Common.{List, None, Ok, Option, Some, [], arith, ap, cond, inl, inr, length, refl, sym, ℕ, ◌++◌, ◌<◌, ◌∷◌, ◌≡◌, ◌∙◌}
use Rattle.std.specs.Prelude.{codes, ◌==◌}
use Rattle.std.specs.Fmt.{◌++?◌}
use Rattle.std.specs.Str.{bytes_eq}
use Rattle.std.proofs.lemmas.Bool.{eqb-true}
use Rattle.std.proofs.lemmas.Slice.Eq.{bytes_eq-Decides}
use Rattle.sd_claim.specs.Claim.{ClaimValue}
use Rattle.sd_claim.specs.Reading.{claim_read}
use Rattle.sd_claim.specs.Writing.{claim_data}
use Rattle.sd_claim_laws.proofs.Octets.{small_at}
use Rattle.sd_claim_laws.proofs.Claims.{texts_come_back}
use Rattle.sd_claim_laws.proofs.Parsed.{parsed_claim}
use Rattle.sd_claim_text.specs.Text.{claim_text}
use Rattle.sd_condition.proofs.DataComesBack.{data_comes_back}
use Rattle.sd_data.proofs.Found.{bound, held}
use Rattle.sd_condition.proofs.Parsed.{parsed_is_a_condition}
use Rattle.sd_condition.specs.Reading.{condition_read}
use Rattle.sd_condition_laws.proofs.Whole.{conditions_come_back}
use Rattle.sd_condition_text.specs.Text.{condition_text}
use Rattle.sd_text.proofs.Parts.{chosen}
use Rattle.sd_text.specs.declared.alias.Aliases.{Aliases}
use Rattle.sd_whole.specs.declared.ace.TypedAce.{TypedAce}
use Rattle.sd_whole.specs.declared.kind.WholeKind.{WholeKind}
use Rattle.sd_whole.specs.declared.kind.WholeKind.TheVariants as kinds
use Rattle.sd_whole_parse.specs.Data.{claim_field, condition_field, data_found}
use Rattle.sd_whole_text.specs.Data.{claim_in, condition_in, data_text, field_text, last_field}
use Rattle.sd_whole_text.specs.Kind.{letters_of}
use Rattle.sd_whole_laws.specs.Laws.{AreBytes}

-- ---- fields

-- a text after a semicolon
pub record IsBehind (o : Option (List ℕ)) (field : List ℕ) : Type 0 where
  pub text : List ℕ
  pub is : o ≡ Some text
  pub whole : 59 ∷ text ≡ field

behind : (o : Option (List ℕ)) (field : List ℕ) → (Some (codes ";") ++? o) ≡ Some field → IsBehind o field
behind None field e = absurd cc
behind (Some text) field e = record { text = text; is = refl; whole = cc (e) }

claim_back : (known : Aliases) (bytes field rest : List ℕ) → AreBytes bytes → (Some (codes ";") ++? claim_in bytes) ≡ Some field → claim_field known (field ++ 41 ∷ rest) ≡ Ok (bytes, 41 ∷ rest)
unfolding claim_in claim_field
claim_back known bytes field rest fits e =
    let part = behind (claim_in bytes) field e in
    let read = bound (claim_read bytes) (λ (c : ClaimValue). cond (bytes_eq (claim_data c) bytes) (claim_text c) None) part.text part.is in
    let same = held (bytes_eq (claim_data read.0) bytes) (claim_text read.0) part.text read.2 in
    let again = texts_come_back known read.0 part.text (41 ∷ rest) (parsed_claim bytes read.0 (λ i. small_at bytes i fits) read.1) same.1 in
    ap (λ (l : List ℕ). claim_field known (l ++ 41 ∷ rest)) (sym part.whole) ∙ rw (again, (bytes_eq-Decides (claim_data read.0) bytes).0 same.0) refl

condition_back : (known : Aliases) (bytes field rest : List ℕ) → AreBytes bytes → (Some (codes ";") ++? condition_in bytes) ≡ Some field → condition_field known (field ++ 41 ∷ rest) ≡ Ok (bytes, 41 ∷ rest)
unfolding condition_in condition_field
condition_back known bytes field rest fits e =
    let part = behind (condition_in bytes) field e in
    let read = bound (condition_read bytes) condition_text part.text part.is in
    let is = parsed_is_a_condition bytes read.0 (λ i. small_at bytes i fits) read.1 in
    let again = conditions_come_back known read.0 part.text (41 ∷ rest) is.0 is.1 read.2 in
    ap (λ (l : List ℕ). condition_field known (l ++ 41 ∷ rest)) (sym part.whole) ∙ rw (again, data_comes_back bytes read.0 (λ i. small_at bytes i fits) read.1) refl

none_back : (bytes field rest : List ℕ) → cond (length bytes == 0) (Some []) None ≡ Some field → (field ≡ []) × (bytes ≡ [])
none_back [] field rest e = let same : [] ≡ field = cc (e) in (sym same, refl)
none_back (b ∷ bytes) field rest e =
    elim (chosen (length (b ∷ bytes) == 0) _ _ _ e) [
      | inl h ↦ absurd (let no = eqb-true (length (b ∷ bytes)) 0 h.0 in omega arith)
      | inr h ↦ absurd (let no = h.1 in cc)
    ]

-- ---- kinds

field_back : (known : Aliases) (kind : WholeKind) (bytes field rest : List ℕ) → AreBytes bytes → 0 < length (letters_of kind)
    → field_text (last_field kind) bytes ≡ Some field → data_found known kind (field ++ 41 ∷ rest) ≡ Ok (bytes, 41 ∷ rest)
unfolding data_found
field_back known kinds.CallbackAllow bytes field rest fits letters e = condition_back known bytes field rest fits e
field_back known kinds.CallbackDeny bytes field rest fits letters e = condition_back known bytes field rest fits e
field_back known kinds.CallbackObjectAllow bytes field rest fits letters e = condition_back known bytes field rest fits e
field_back known kinds.CallbackAudit bytes field rest fits letters e = condition_back known bytes field rest fits e
field_back known kinds.AccessFilter bytes field rest fits letters e = condition_back known bytes field rest fits e
field_back known kinds.CallbackObjectDeny bytes field rest fits letters e = absurd (omega arith)
field_back known kinds.CallbackObjectAudit bytes field rest fits letters e = absurd (omega arith)
field_back known kinds.ResourceAttribute bytes field rest fits letters e = claim_back known bytes field rest fits e
field_back known kind bytes field rest fits letters e = let none = none_back bytes field rest e in rw (none.0, none.1) refl

-- of an entry of a kind that has letters
pub data_back : (known : Aliases) (e : TypedAce) (field rest : List ℕ) → AreBytes e.trailing → 0 < length (letters_of e.kind) → data_text e ≡ Some field → data_found known e.kind (field ++ 41 ∷ rest) ≡ Ok (e.trailing, 41 ∷ rest)
data_back known e field rest bytes letters printed = field_back known e.kind e.trailing field rest bytes letters printed
