-- The text of a list is parsed as the list.
use Rattle.std.proofs.Common.{List, Ok, Some, [], append_assoc, ap, arith, codes, false, length, length-append, refl, subst, suc, sym, true, zero, ℕ, ◌++◌, ◌<◌, ◌∙◌, ◌∷◌, ◌≡◌}
use Rattle.std.specs.Fmt.{◌++?◌}
use Rattle.std.specs.List.{AllByRecursion, prefix_len}
use Rattle.sd_data.proofs.Found.{some_is}
use Rattle.sd_condition.specs.declared.value.Value.{Value}
use Rattle.sd_condition_laws.proofs.Runs.{both_texts, text_before, text_behind}
use Rattle.sd_condition_laws.proofs.Values.{Head, ValueEnds, no_mark}
use Rattle.sd_condition_parse.specs.Outcome.{repeated}
use Rattle.sd_condition_parse.specs.Run.{is_space}
use Rattle.sd_condition_parse.specs.Value.{item, item_end, item_step, list}
use Rattle.sd_condition_text.specs.Value.{further_values, list_text, value_text, values_text}
use Rattle.sd_text.specs.declared.alias.Aliases.{Aliases}

abbrev argument : {A B : Type 0} → (A → B) → Type 0
argument {A = A} f = A

-- what may stand in a list, whose type sd_condition_parse doesn't export
abbrev pub Kind : Type 0
Kind = argument item

-- a value's text is parsed as the value in a list of this kind
pub record Reads (kind : Kind) (known : Aliases) (v : Value) : Type 0 where
  pub read : (text rest : List ℕ) → value_text v ≡ Some text → ValueEnds rest → item kind known (text ++ rest) ≡ Ok (v, rest)
  pub head : (text : List ℕ) → value_text v ≡ Some text → Head text

-- ---- a value, and what follows it

last_item : (kind : Kind) (known : Aliases) (before : List Value) (v : Value) (text rest : List ℕ) → Reads kind known v → value_text v ≡ Some text
    → item_step kind known before (text ++ 125 ∷ rest) ≡ Ok ((false, before ++ v ∷ []), rest)
unfolding item_step item_end
last_item kind known before v text rest reads e =
    rw (reads.read text (125 ∷ rest) e (record { plain = refl; digit = refl })) refl

next_item : (kind : Kind) (known : Aliases) (before : List Value) (v : Value) (text more : List ℕ) → Reads kind known v → value_text v ≡ Some text → prefix_len is_space more ≡ 0
    → item_step kind known before (text ++ 44 ∷ 32 ∷ more) ≡ Ok ((true, before ++ v ∷ []), more)
unfolding item_step item_end
next_item kind known before v text more reads e none =
    rw (reads.read text (44 ∷ 32 ∷ more) e (record { plain = refl; digit = refl }), none) refl

items_read : (kind : Kind) (known : Aliases) (v : Value) (vs before : List Value) (most : ℕ) (text further rest : List ℕ)
    → Reads kind known v → AllByRecursion (Reads kind known) vs → value_text v ≡ Some text → further_values vs ≡ Some further
    → length (text ++ (further ++ 125 ∷ rest)) < most
    → repeated (item_step kind known) most before (text ++ (further ++ 125 ∷ rest)) ≡ Ok (before ++ v ∷ vs, rest)
unfolding repeated
items_read kind known v vs before zero text further rest reads all e f enough = absurd (omega arith)
items_read kind known v [] before (suc most) text further rest reads all e f enough =
    let none = some_is [] further f in
    subst (λ (t : List ℕ). repeated (item_step kind known) (suc most) before (text ++ (t ++ 125 ∷ rest)) ≡ Ok (before ++ v ∷ [], rest)) none
    (rw (last_item kind known before v text rest reads e) refl)
items_read kind known v (w ∷ ws) before (suc most) text further rest reads all e f enough =
    let comma = text_behind (codes ", ") (value_text w ++? further_values ws) further f in
    let parts = both_texts (value_text w) (further_values ws) comma.0 comma.1 in
    let more = parts.0 ++ (parts.1 ++ 125 ∷ rest) in
    let regroup = ap (λ (t : List ℕ). 44 ∷ 32 ∷ t) (append_assoc parts.0 parts.1 (125 ∷ rest)) in
    let same : 44 ∷ 32 ∷ more ≡ further ++ 125 ∷ rest = sym regroup ∙ ap (λ (t : List ℕ). 44 ∷ 32 ∷ (t ++ 125 ∷ rest)) parts.4 ∙ ap (λ (t : List ℕ). t ++ 125 ∷ rest) comma.2 in
    let none = (no_mark parts.0 (parts.1 ++ 125 ∷ rest) (all.0.head parts.0 parts.2)).no_space in
    let long = subst (λ (t : List ℕ). length (text ++ t) < suc most) (sym same) enough in
    let shorter : length more < most = omega (arith, length-append text (44 ∷ 32 ∷ more)) in
    let others = items_read kind known w ws (before ++ v ∷ []) most parts.0 parts.1 rest all.0 all.1 parts.2 parts.3 shorter in
    subst (λ (t : List ℕ). repeated (item_step kind known) (suc most) before (text ++ t) ≡ Ok (before ++ v ∷ w ∷ ws, rest)) same
    (rw (next_item kind known before v text more reads e none, others, append_assoc before (v ∷ []) (w ∷ ws)) refl)

-- ---- lists

pub lists_read : (kind : Kind) (known : Aliases) (vs : List Value) (text rest : List ℕ) → AllByRecursion (Reads kind known) vs → list_text vs ≡ Some text
    → list kind known (text ++ rest) ≡ Ok (vs, rest)
unfolding list list_text
lists_read kind known [] text rest all e =
    let same : codes "{}" ≡ text = cc in
    subst (λ t. list kind known (t ++ rest) ≡ Ok ([], rest)) same refl
lists_read kind known (v ∷ vs) text rest all e =
    let opened = text_behind (codes "{") (values_text (v ∷ vs) ++? Some (codes "}")) text e in
    let inner = text_before (values_text (v ∷ vs)) (codes "}") opened.0 opened.1 in
    let parts = both_texts (value_text v) (further_values vs) inner.0 inner.1 in
    let read = parts.0 ++ (parts.1 ++ 125 ∷ rest) in
    let same : 123 ∷ read ≡ text ++ rest =
    ap (λ (t : List ℕ). 123 ∷ t) (sym (append_assoc parts.0 parts.1 (125 ∷ rest)) ∙ ap (λ (t : List ℕ). t ++ 125 ∷ rest) parts.4 ∙ sym (append_assoc inner.0 (codes "}") rest) ∙ ap (λ (t : List ℕ). t ++ rest) inner.2)
    ∙ ap (λ (t : List ℕ). t ++ rest) opened.2 in
    let mark = no_mark parts.0 (parts.1 ++ 125 ∷ rest) (all.0.head parts.0 parts.2) in
    let items = items_read kind known v vs [] (suc (length read)) parts.0 parts.1 rest all.0 all.1 parts.2 parts.3 (omega arith) in
    subst (λ (t : List ℕ). list kind known t ≡ Ok (v ∷ vs, rest)) same (rw (mark.no_space, mark.no_end, items) refl)

pub list_head : (vs : List Value) (text : List ℕ) → list_text vs ≡ Some text → (more : List ℕ) × (text ≡ 123 ∷ more)
unfolding list_text
list_head vs text e = let opened = text_behind (codes "{") (values_text vs ++? Some (codes "}")) text e in (opened.0, sym opened.2)
