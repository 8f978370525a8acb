-- The text of an operand is parsed as the operand, where it stands before a parenthesis that closes.
use Rattle.std.proofs.Common.{List, Ok, Some, [], false, refl, subst, sym, true, ℕ, ◌++◌, ◌∙◌, ◌∷◌, ◌≡◌}
use Rattle.std.proofs.lemmas.Bool.{and_parts}
use Rattle.std.specs.List.{AllByRecursion, list_all, prefix_len}
use Rattle.sd_data.proofs.Found.{some_is}
use Rattle.sd_condition.specs.Laws.{IsToken, IsValue}
use Rattle.sd_condition.specs.Stack.{is_sid}
use Rattle.sd_condition.specs.declared.token.Token.{Token}
use Rattle.sd_condition.specs.declared.token.Token.TheVariants as tokens
use Rattle.sd_condition.specs.declared.value.Value.{Value}
use Rattle.sd_condition.specs.declared.value.Value.TheVariants as values
use Rattle.sd_condition_laws.proofs.Formed.{ComparableToken, SidsToken}
use Rattle.sd_condition_laws.proofs.Lists.{Kind, Reads, list_head, lists_read}
use Rattle.sd_condition_laws.proofs.Names.{attributes_read_on_the_right}
use Rattle.sd_condition_laws.proofs.Values.{no_mark, values_read, value_head}
use Rattle.sd_condition_parse.proofs.Printed.{sids_come_back}
use Rattle.sd_condition_parse.specs.Outcome.{found, ◌>>=◌}
use Rattle.sd_condition_parse.specs.Run.{is_space}
use Rattle.sd_condition_parse.specs.Term.{right_operand, sids}
use Rattle.sd_condition_parse.specs.Value.{item, list, literal_sid, value}
use Rattle.sd_condition_text.specs.Text.{is_local_attribute, operand_text}
use Rattle.sd_condition_text.specs.Value.{list_text, sid_text, value_text}
use Rattle.sd_text.specs.declared.alias.Aliases.{Aliases}

-- ---- lists

-- any value may stand in a list of this kind
all_read : (kind : Kind) (known : Aliases) → ((t : List ℕ) → item kind known t ≡ value known t) → (vs : List Value) → AllByRecursion IsValue vs → AllByRecursion (Reads kind known) vs
all_read kind known same [] all = tt
all_read kind known same (v ∷ vs) all = (
  record {
    read = λ text rest e ends. same (text ++ rest) ∙ (values_read known v text rest all.0 e ends).read;
    head = λ text e. value_head known v text all.0 e;
  },
  all_read kind known same vs all.1,
)

sid_reads : (kind : Kind) (known : Aliases) → ((t : List ℕ) → item kind known t ≡ (literal_sid known >>= λ s. found (values.Sid s)) t) → (v : Value) → is_sid v ≡ true → IsValue v → Reads kind known v
unfolding value_text
sid_reads kind known same (values.Integer i) sid is = absurd cc
sid_reads kind known same (values.Text units) sid is = absurd cc
sid_reads kind known same (values.Octets octets) sid is = absurd cc
sid_reads kind known same (values.Sid s) sid is = record {
  read = λ text rest e ends.
      subst (λ t. item kind known (t ++ rest) ≡ Ok (values.Sid s, rest)) (some_is (sid_text s) text e)
      (same (sid_text s ++ rest) ∙ rw (sids_come_back known s rest is) refl);
  head = λ text e. value_head known (values.Sid s) text is e;
}

all_sids_read : (kind : Kind) (known : Aliases) → ((t : List ℕ) → item kind known t ≡ (literal_sid known >>= λ s. found (values.Sid s)) t) → (vs : List Value) → list_all is_sid vs ≡ true → AllByRecursion IsValue vs
    → AllByRecursion (Reads kind known) vs
all_sids_read kind known same [] sids all = tt
all_sids_read kind known same (v ∷ vs) sids all =
    let parts = and_parts (is_sid v) (list_all is_sid vs) sids in
    (sid_reads kind known same v parts.0 all.0, all_sids_read kind known same vs parts.1 all.1)

listed : (kind : Kind) (known : Aliases) (vs : List Value) (text rest more : List ℕ) → AllByRecursion (Reads kind known) vs → list_text vs ≡ Some text → text ≡ 123 ∷ more
    → (list kind known >>= λ us. found (tokens.List us)) (123 ∷ (more ++ rest)) ≡ Ok (tokens.List vs, rest)
listed kind known vs text rest more all e head =
    let read : list kind known (123 ∷ (more ++ rest)) ≡ Ok (vs, rest) = subst (λ t. list kind known (t ++ rest) ≡ Ok (vs, rest)) head (lists_read kind known vs text rest all e) in
    rw read refl

-- ---- on the right of a comparison

pub record RightRead (known : Aliases) (token : Token) (text rest : List ℕ) : Type 0 where
  pub read : right_operand known (text ++ rest) ≡ Ok (token, rest)
  pub no_space : prefix_len is_space (text ++ rest) ≡ 0

pub right_read : (known : Aliases) (token : Token) (text rest : List ℕ) → ComparableToken token → IsToken token → is_local_attribute token ≡ false → operand_text token ≡ Some text
    → RightRead known token text (41 ∷ rest)
unfolding right_operand operand_text
right_read known (tokens.Value v) text rest fits is prefix e =
    let read = values_read known v text (41 ∷ rest) is e (record { plain = refl; digit = refl }) in
    let mark = no_mark text (41 ∷ rest) read.head in
    record { read = rw (mark.no_list, mark.no_attribute, read.read) refl; no_space = mark.no_space }
right_read known (tokens.List vs) text rest fits is prefix e =
    let head = list_head vs text e in
    subst (λ t. RightRead known (tokens.List vs) t (41 ∷ rest)) (sym head.1)
    (record { read = listed _ known vs text (41 ∷ rest) head.0 (all_read _ known (λ t. refl) vs is) e head.1; no_space = refl })
right_read known (tokens.Attribute a) text rest fits is prefix e =
    let read = attributes_read_on_the_right a text (41 ∷ rest) prefix is e (record { plain = refl; literal = refl; escape = refl }) in
    record { read = rw (read.no_list, read.prefix, read.read) refl; no_space = read.no_space }
right_read known (tokens.Operator operator) text rest fits is prefix e = absurd fits

-- ---- after a word about members

pub record SidsRead (known : Aliases) (token : Token) (text rest : List ℕ) : Type 0 where
  pub read : sids known (text ++ rest) ≡ Ok (token, rest)
  pub no_space : prefix_len is_space (text ++ rest) ≡ 0

sid_read : (known : Aliases) (v : Value) (text rest : List ℕ) → is_sid v ≡ true → IsValue v → value_text v ≡ Some text → SidsRead known (tokens.Value v) text rest
unfolding sids value_text
sid_read known (values.Integer i) text rest sid is e = absurd cc
sid_read known (values.Text units) text rest sid is e = absurd cc
sid_read known (values.Octets octets) text rest sid is e = absurd cc
sid_read known (values.Sid s) text rest sid is e =
    subst (λ t. SidsRead known (tokens.Value (values.Sid s)) t rest) (some_is (sid_text s) text e)
    (record { read = rw (sids_come_back known s rest is) refl; no_space = refl })

pub sids_read : (known : Aliases) (token : Token) (text rest : List ℕ) → SidsToken token → IsToken token → operand_text token ≡ Some text → SidsRead known token text (41 ∷ rest)
unfolding sids operand_text
sids_read known (tokens.Value v) text rest fits is e = sid_read known v text (41 ∷ rest) fits is e
sids_read known (tokens.List vs) text rest fits is e =
    let head = list_head vs text e in
    subst (λ t. SidsRead known (tokens.List vs) t (41 ∷ rest)) (sym head.1)
    (record { read = listed _ known vs text (41 ∷ rest) head.0 (all_sids_read _ known (λ t. refl) vs fits is) e head.1; no_space = refl })
sids_read known (tokens.Attribute a) text rest fits is e = absurd fits
sids_read known (tokens.Operator operator) text rest fits is e = absurd fits
