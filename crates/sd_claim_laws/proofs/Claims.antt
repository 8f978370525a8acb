-- The printed text of a claim is parsed as that claim.
use Rattle.std.proofs.Common.{List, Ok, Some, [], append_assoc, ap, refl, sym, ℕ, ◌++◌, ◌<◌, ◌^◌, ◌∙◌, ◌∷◌, ◌≡◌}
use Rattle.std.specs.Prelude.{codes, nat_le, ◌&&◌, ◌-◌}
use Rattle.std.specs.Fmt.{◌++?◌}
use Rattle.std.specs.List.{list_all}
use Rattle.std.proofs.lemmas.Bool.{and_parts}
use Rattle.sd_claim.specs.Claim.{ClaimValue}
use Rattle.sd_claim.specs.Laws.{IsClaim}
use Rattle.sd_claim.specs.Writing.{claim_data, is_claim, is_value_of}
use Rattle.sd_data.specs.Writing.{has_no_zero}
use Rattle.sd_claim.specs.declared.value_type.ValueType.{ValueType}
use Rattle.sd_claim.specs.declared.value_type.ValueType.TheVariants as types
use Rattle.std.specs.Prelude.{length}
use Rattle.sd_text.specs.Canon.{hex}
use Rattle.sd_text.specs.declared.alias.Aliases.{Aliases}
use Rattle.sd_claim_text.proofs.PrintedNames.{names_come_back}
use Rattle.sd_claim_text.specs.Found.{claim_found}
use Rattle.sd_claim_text.specs.Name.{name_text}
use Rattle.sd_claim_text.specs.Number.{unsigned_found}
use Rattle.sd_claim_text.specs.Text.{claim_text, kind_text, values_text}
use Rattle.sd_claim_text.specs.ValueType.{type_found, type_word}
use Rattle.sd_claim_laws.proofs.Numbers.{flags_read}
use Rattle.sd_claim_laws.proofs.Values.{both, follows, values_back}
use Rattle.sd_claim_laws.specs.Laws.{ClaimTextsComeBack}

-- ---- the parts of a claim

type_read : (t : ValueType) (rest : List ℕ) → type_found (type_word t ++ 44 ∷ rest) ≡ Ok (t, 44 ∷ rest)
unfolding type_found
type_read types.Integer rest = refl
type_read types.Unsigned rest = refl
type_read types.Text rest = refl
type_read types.Sid rest = refl
type_read types.Boolean rest = refl
type_read types.Octets rest = refl

-- the texts of the name, the type, the flags and the values
pub record HasParts (c : ClaimValue) (text : List ℕ) : Type 0 where
  pub name : List ℕ
  pub values : List ℕ
  pub is_name : name_text c.name ≡ Some name
  pub are_values : values_text c.values ≡ Some values
  pub whole : 40 ∷ (name ++ (kind_text c ++ (values ++ 41 ∷ []))) ≡ text

put_together : (a b c d e whole name last kind values_end text end : List ℕ) → codes "(" ≡ a → a ++ b ≡ whole → name ++ last ≡ b → kind ≡ c → c ++ d ≡ last → values_end ++ end ≡ d → codes ")" ≡ end → whole ≡ text
    → 40 ∷ (name ++ (kind ++ (values_end ++ 41 ∷ []))) ≡ text
put_together a b c d e whole name last kind values_end text end is_a is_whole is_b is_c is_last is_d is_end has_no_zero =
    ap (λ (l : List ℕ). 40 ∷ (name ++ (kind ++ (values_end ++ l)))) is_end
    ∙ ap (λ (l : List ℕ). 40 ∷ (name ++ (kind ++ l))) is_d
    ∙ ap (λ (l : List ℕ). 40 ∷ (name ++ (l ++ d))) is_c
    ∙ ap (λ (l : List ℕ). 40 ∷ (name ++ l)) is_last
    ∙ ap (λ (l : List ℕ). 40 ∷ l) is_b
    ∙ ap (λ (l : List ℕ). l ++ b) is_a
    ∙ is_whole
    ∙ has_no_zero

parts_of : (c : ClaimValue) (text : List ℕ) → claim_text c ≡ Some text → HasParts c text
unfolding claim_text
parts_of c text e =
    let first = both (Some (codes "(")) (name_text c.name ++? Some (kind_text c) ++? values_text c.values ++? Some (codes ")")) text e in
    let second = both (name_text c.name) (Some (kind_text c) ++? values_text c.values ++? Some (codes ")")) first.second first.is_second in
    let third = both (Some (kind_text c)) (values_text c.values ++? Some (codes ")")) second.second second.is_second in
    let fourth = both (values_text c.values) (Some (codes ")")) third.second third.is_second in
    record {
      name = second.first;
      values = fourth.first;
      is_name = second.is_first;
      are_values = fourth.is_first;
      whole = put_together first.first first.second third.first third.second [] text second.first second.second (kind_text c) fourth.first text fourth.second
          (cc (first.is_first)) first.whole second.whole (cc (third.is_first)) third.whole fourth.whole (cc (fourth.is_second)) refl;
    }

-- ---- a claim

regroup : (name word flags vs rest : List ℕ) → (40 ∷ (name ++ ((codes "," ++ word ++ codes ",0x" ++ flags) ++ (vs ++ 41 ∷ [])))) ++ rest ≡ 40 ∷ (name ++ (44 ∷ (word ++ (44 ∷ 48 ∷ 120 ∷ (flags ++ (vs ++ 41 ∷ rest))))))
regroup name word flags vs rest = simp append_assoc

flags_back : (flags : ℕ) (vs : List _) (text rest : List ℕ) → flags < 2 ^ 32 → values_text vs ≡ Some text → unsigned_found (2 ^ 32 - 1) (48 ∷ 120 ∷ (hex flags ++ (text ++ 41 ∷ rest))) ≡ Ok (flags, text ++ 41 ∷ rest)
flags_back flags vs text rest lt e = let later = follows vs text rest e in rw later.same (flags_read flags later.closing later.behind lt)

-- its text, part by part
claim_read : (known : Aliases) (c : ClaimValue) (name vs rest : List ℕ) → IsClaim c → name_text c.name ≡ Some name → values_text c.values ≡ Some vs
    → claim_found known (40 ∷ (name ++ (44 ∷ (type_word c.value_type ++ (44 ∷ 48 ∷ 120 ∷ (hex c.flags ++ (vs ++ 41 ∷ rest))))))) ≡ Ok (c, rest)
unfolding claim_found is_claim
claim_read known c name vs rest is is_name are_values =
    let tests = and_parts (has_no_zero c.name) (list_all (is_value_of c.value_type) c.values && nat_le (length (claim_data c)) 65535) is.is in
    let inner = and_parts (list_all (is_value_of c.value_type) c.values) (nat_le (length (claim_data c)) 65535) tests.1 in
    let behind_flags = vs ++ 41 ∷ rest in
    let flags = 44 ∷ 48 ∷ 120 ∷ (hex c.flags ++ behind_flags) in
    let word = 44 ∷ (type_word c.value_type ++ flags) in
    rw (
      names_come_back c.name name word is.name tests.0 is_name,
      type_read c.value_type (48 ∷ 120 ∷ (hex c.flags ++ behind_flags)),
      flags_back c.flags c.values vs rest is.flags are_values,
      values_back known c.value_type c.values vs rest is.values inner.0 are_values,
      is.is,
    ) refl

pub texts_come_back : ClaimTextsComeBack
texts_come_back known c text rest is e =
    let parts = parts_of c text e in
    let same = ap (λ (l : List ℕ). l ++ rest) parts.whole in
    let grouped = regroup parts.name (type_word c.value_type) (hex c.flags) parts.values rest in
    ap (claim_found known) (sym same ∙ grouped) ∙ claim_read known c parts.name parts.values rest is parts.is_name parts.are_values
