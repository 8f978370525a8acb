-- The text of an attribute is parsed as the attribute.
use Rattle.std.proofs.Common.{List, None, Ok, Some, [], append-nil, append_assoc, arith, codes, false, inl, inr, length, length-append, refl, subst, suc, sym, true, zero, ℕ, ◌++◌, ◌<◌, ◌∷◌, ◌≡◌}
use Rattle.std.proofs.lemmas.Bool.{and_parts, cases_Bool, not-true}
use Rattle.std.proofs.lemmas.Bool.Decides.{nat_tests}
use Rattle.std.specs.Char.{eq_ignore_ascii_case}
use Rattle.std.specs.List.{flat_map, list_all, prefix_len}
use Rattle.std.specs.Prelude.{not, slice_index, ◌&&◌, ◌==◌}
use Rattle.sd_data.proofs.Found.{held, some_is}
use Rattle.sd_data.specs.Writing.{AreUnits}
use Rattle.sd_condition.specs.declared.attribute.Attribute.{Attribute}
use Rattle.sd_condition.specs.declared.attribute.Scope.{Scope}
use Rattle.sd_condition.specs.declared.attribute.Scope.TheVariants.{Local, User, Resource, Device}
use Rattle.sd_condition_laws.proofs.Escapes.{unit_read}
use Rattle.sd_condition_laws.proofs.Words.{no_word_stands}
use Rattle.sd_condition_parse.proofs.PrintedRuns.{plain_names_come_back}
use Rattle.sd_condition_parse.specs.Attribute.{attribute, is_name, prefixed_attribute, prefixed_name, unit_step}
use Rattle.sd_condition_parse.specs.Operator.{exists_words, member_words, worded}
use Rattle.sd_condition_parse.specs.Outcome.{repeated}
use Rattle.sd_condition_parse.specs.Run.{is_space}
use Rattle.sd_condition_text.specs.Attribute.{attribute_text, escape, is_literal, is_opening_word, is_plain, is_text, name_in, plain_name, prefixed_name as prefixed_text, unit_text}
use Rattle.sd_condition_text.specs.Text.{is_local}
use Rattle.sd_text.specs.Grammar.{begins}

-- ---- the units of a name

-- neither more of a name nor an escape
pub record NameEnds (rest : List ℕ) : Type 0 where
  pub plain : prefix_len is_plain rest ≡ 0
  pub literal : is_literal (slice_index rest 0) ≡ false
  pub escape : (slice_index rest 0 == 0x25) ≡ false

longer : (front rest : List ℕ) → 0 < length front → length rest < length (front ++ rest)
longer front rest some = omega (arith, length-append {A = ℕ})

unit_takes : (unit : ℕ) (rest : List ℕ) → length rest < length (unit_text unit ++ rest)
unit_takes unit rest =
    elim (cases_Bool (is_literal unit)) [
      | inl h ↦ rw h (omega arith)
      | inr h ↦ rw h (longer (escape unit) rest (omega arith))
    ]

units_read : (name rest before : List ℕ) (most : ℕ) → AreUnits name → list_all (λ unit. not (unit == 0)) name ≡ true → NameEnds rest → length (flat_map unit_text name ++ rest) < most
    → repeated unit_step most before (flat_map unit_text name ++ rest) ≡ Ok (before ++ name, rest)
unfolding repeated
units_read name rest before zero few some ends enough = absurd (omega arith)
units_read [] rest before (suc most) few some ends enough = rw (ends.literal, ends.escape, append-nil before) refl
units_read (unit ∷ name) rest before (suc most) few some ends enough =
    let parts = and_parts (not (unit == 0)) (list_all (λ u. not (u == 0)) name) some in
    let regroup = append_assoc (unit_text unit) (flat_map unit_text name) rest in
    let takes = unit_takes unit (flat_map unit_text name ++ rest) in
    let long = subst (λ (t : List ℕ). length t < suc most) regroup enough in
    let one = unit_read before unit (flat_map unit_text name ++ rest) few.0 (not-true (unit == 0) parts.0) in
    let others = units_read name rest (before ++ unit ∷ []) most few.1 parts.1 ends (omega arith) in
    rw (regroup, one, others, append_assoc before (unit ∷ []) name) refl

prefixed_read : (name rest : List ℕ) → AreUnits name → is_name name ≡ true → NameEnds rest → prefixed_name (flat_map unit_text name ++ rest) ≡ Ok (name, rest)
prefixed_read name rest few is ends =
    let text = flat_map unit_text name ++ rest in
    let tests = and_parts (not (length name == 0)) (is_text name) is in
    let whole = and_parts _ (list_all (λ unit. not (unit == 0)) name) tests.1 in
    rw (units_read name rest [] (suc (length text)) few whole.1 ends (omega arith), is) refl

-- ---- attributes

-- an attribute's text, before what follows it, is parsed as the attribute, and nothing else begins with it
pub record Read (a : Attribute) (text rest : List ℕ) : Type 0 where
  pub read : attribute (text ++ rest) ≡ Ok (a, rest)
  pub no_exists : worded exists_words (text ++ rest) ≡ None
  pub no_member : worded member_words (text ++ rest) ≡ None
  pub no_level : begins (text ++ rest) (codes "(") ≡ false
  pub no_negation : begins (text ++ rest) (codes "!") ≡ false
  pub no_space : prefix_len is_space (text ++ rest) ≡ 0
  pub longer : length rest < length (text ++ rest)

-- so is that of one with a prefix, on the right of a comparison
pub record ReadOnTheRight (a : Attribute) (text rest : List ℕ) : Type 0 where
  pub read : prefixed_attribute (text ++ rest) ≡ Ok (a, rest)
  pub prefix : begins (text ++ rest) (codes "@") ≡ true
  pub no_list : begins (text ++ rest) (codes "{") ≡ false
  pub no_space : prefix_len is_space (text ++ rest) ≡ 0

-- the test that both crates make of a name with a prefix
named : (prefix name text : List ℕ) → prefixed_text prefix name ≡ Some text → (is_name name ≡ true) × (prefix ++ flat_map unit_text name ≡ text)
unfolding prefixed_text
named prefix name text e =
    let found = held (is_name name) (Some (prefix ++ flat_map unit_text name)) text e in
    (found.0, some_is (prefix ++ flat_map unit_text name) text found.1)

right_user : (name rest : List ℕ) → AreUnits name → is_name name ≡ true → NameEnds rest → ReadOnTheRight (record { scope = User; name = name }) (codes "@USER." ++ flat_map unit_text name) rest
unfolding prefixed_attribute
right_user name rest few is ends = record { read = rw (prefixed_read name rest few is ends) refl; prefix = refl; no_list = refl; no_space = refl }

right_resource : (name rest : List ℕ) → AreUnits name → is_name name ≡ true → NameEnds rest → ReadOnTheRight (record { scope = Resource; name = name }) (codes "@RESOURCE." ++ flat_map unit_text name) rest
unfolding prefixed_attribute
right_resource name rest few is ends = record { read = rw (prefixed_read name rest few is ends) refl; prefix = refl; no_list = refl; no_space = refl }

right_device : (name rest : List ℕ) → AreUnits name → is_name name ≡ true → NameEnds rest → ReadOnTheRight (record { scope = Device; name = name }) (codes "@DEVICE." ++ flat_map unit_text name) rest
unfolding prefixed_attribute
right_device name rest few is ends = record { read = rw (prefixed_read name rest few is ends) refl; prefix = refl; no_list = refl; no_space = refl }

left_user : (name rest : List ℕ) → AreUnits name → is_name name ≡ true → NameEnds rest → Read (record { scope = User; name = name }) (codes "@USER." ++ flat_map unit_text name) rest
unfolding attribute
left_user name rest few is ends = record {
  read = (right_user name rest few is ends).read;
  no_exists = refl;
  no_member = refl;
  no_level = refl;
  no_negation = refl;
  no_space = refl;
  longer = longer (codes "@USER." ++ flat_map unit_text name) rest (omega arith);
}

left_resource : (name rest : List ℕ) → AreUnits name → is_name name ≡ true → NameEnds rest → Read (record { scope = Resource; name = name }) (codes "@RESOURCE." ++ flat_map unit_text name) rest
unfolding attribute
left_resource name rest few is ends = record {
  read = (right_resource name rest few is ends).read;
  no_exists = refl;
  no_member = refl;
  no_level = refl;
  no_negation = refl;
  no_space = refl;
  longer = longer (codes "@RESOURCE." ++ flat_map unit_text name) rest (omega arith);
}

left_device : (name rest : List ℕ) → AreUnits name → is_name name ≡ true → NameEnds rest → Read (record { scope = Device; name = name }) (codes "@DEVICE." ++ flat_map unit_text name) rest
unfolding attribute
left_device name rest few is ends = record {
  read = (right_device name rest few is ends).read;
  no_exists = refl;
  no_member = refl;
  no_level = refl;
  no_negation = refl;
  no_space = refl;
  longer = longer (codes "@DEVICE." ++ flat_map unit_text name) rest (omega arith);
}

-- ---- names without a prefix

no_mark : (c : ℕ) → is_plain c ≡ true → (eq_ignore_ascii_case c 40 ≡ false) × (eq_ignore_ascii_case c 33 ≡ false) × (is_space c ≡ false)
no_mark c e = (grind (arith, nat_tests), grind (arith, nat_tests), grind (arith, nat_tests))

local_read : (name text rest : List ℕ) → plain_name name ≡ Some text → NameEnds rest → Read (record { scope = Local; name = name }) text rest
unfolding plain_name
local_read [] text rest e ends = absurd cc
local_read (c ∷ name) text rest e ends =
    let test = not (length (c ∷ name) == 0) && list_all is_plain (c ∷ name) && not (is_opening_word (c ∷ name)) in
    let found = held test (Some (c ∷ name)) text e in
    let tests = and_parts (not (length (c ∷ name) == 0) && list_all is_plain (c ∷ name)) (not (is_opening_word (c ∷ name))) found.0 in
    let plain = (and_parts (not (length (c ∷ name) == 0)) (list_all is_plain (c ∷ name)) tests.0).1 in
    let first = (and_parts (is_plain c) (list_all is_plain name) plain).0 in
    let mark = no_mark c first in
    let no_word = no_word_stands (c ∷ name) rest plain ends.plain (not-true (is_opening_word (c ∷ name)) tests.1) in
    let same = some_is (c ∷ name) text found.1 in
    subst (λ t. Read (record { scope = Local; name = c ∷ name }) t rest) same
    (record {
      read = subst (λ t. attribute (t ++ rest) ≡ Ok (record { scope = Local; name = c ∷ name }, rest)) (sym same) (plain_names_come_back (c ∷ name) text rest e ends.plain);
      no_exists = no_word.0;
      no_member = no_word.1;
      no_level = mark.0;
      no_negation = mark.1;
      no_space = rw mark.2 refl;
      longer = longer (c ∷ name) rest (omega arith);
    })

-- ---- attributes

by_scope : (s : Scope) (name text rest : List ℕ) → AreUnits name → name_in s name ≡ Some text → NameEnds rest → Read (record { scope = s; name = name }) text rest
by_scope Local name text rest few e ends = local_read name text rest e ends
by_scope User name text rest few e ends =
    let is = named (codes "@USER.") name text e in subst (λ t. Read (record { scope = User; name = name }) t rest) is.1 (left_user name rest few is.0 ends)
by_scope Resource name text rest few e ends =
    let is = named (codes "@RESOURCE.") name text e in subst (λ t. Read (record { scope = Resource; name = name }) t rest) is.1 (left_resource name rest few is.0 ends)
by_scope Device name text rest few e ends =
    let is = named (codes "@DEVICE.") name text e in subst (λ t. Read (record { scope = Device; name = name }) t rest) is.1 (left_device name rest few is.0 ends)

pub attributes_read : (a : Attribute) (text rest : List ℕ) → AreUnits a.name → attribute_text a ≡ Some text → NameEnds rest → Read a text rest
attributes_read a text rest few e ends = by_scope a.scope a.name text rest few e ends

right_by_scope : (s : Scope) (name text rest : List ℕ) → is_local s ≡ false → AreUnits name → name_in s name ≡ Some text → NameEnds rest → ReadOnTheRight (record { scope = s; name = name }) text rest
right_by_scope Local name text rest prefix few e ends = absurd cc
right_by_scope User name text rest prefix few e ends =
    let is = named (codes "@USER.") name text e in subst (λ t. ReadOnTheRight (record { scope = User; name = name }) t rest) is.1 (right_user name rest few is.0 ends)
right_by_scope Resource name text rest prefix few e ends =
    let is = named (codes "@RESOURCE.") name text e in subst (λ t. ReadOnTheRight (record { scope = Resource; name = name }) t rest) is.1 (right_resource name rest few is.0 ends)
right_by_scope Device name text rest prefix few e ends =
    let is = named (codes "@DEVICE.") name text e in subst (λ t. ReadOnTheRight (record { scope = Device; name = name }) t rest) is.1 (right_device name rest few is.0 ends)

pub attributes_read_on_the_right : (a : Attribute) (text rest : List ℕ) → is_local a.scope ≡ false → AreUnits a.name → attribute_text a ≡ Some text → NameEnds rest → ReadOnTheRight a text rest
attributes_read_on_the_right a text rest prefix few e ends = right_by_scope a.scope a.name text rest prefix few e ends
