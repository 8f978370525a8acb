-- A text has one output: a line is read as one thing, and a request has one reply that has a line.
use Rattle.sd_script.proofs.Cited.{Ace, IsNextServed, LineOf, Style, alone, form, ok_line, plain_line, printed, style_in, tag_in, All, All-head, All-tail, AreAnswered, Asking, AsksNoAnalysis, Bool, Dump, Edit, EditRefusal, Err, HasOneAnswer, HasOneOutput, Importing, IsAnswered, IsDone, IsImported, IsMoved, IsNext, IsOpened, IsReaderCount, IsStartError, IsTold, IsViewed, LineRequest, List, Machine, MatchBool, Moving, Names, None, Notation, Ok, Opened, Opening, Option, Reply, Request, RootSpec, ScriptOptions, ScriptState, Session, Some, StartError, Steps, ViewRequest, Viewing, [], accepted, answer, ap, arith, before_first_line, cases_Bool, check_line, closing_of, counted_line, descriptor_at, due, entries_at, expect_line, expects, false, floor_of, for_reader, if◌then◌else◌, imported_words, inl, inr, is_analysis, is_met, is_open, is_silent, last_after, length, line_of_fault, lines, longer, moved_words, nat_le, nat_lt, nat_tests, one_answer, refused_line, replay, reply_line, script_options_of, seen_line, shown_line, start_error_line, subst, sym, tallied, true, with_edit, with_floor, with_look, with_publish, ℕ, ◌++◌, ◌∙◌, ◌∷◌, ◌≡◌, Given, Trimming, trimmed_line}
use Rattle.std.proofs.Common.{take}
use Rattle.std.specs.Prelude.{◌&&◌}
use Rattle.sd_answer.specs.declared.forms.TheConstants.{LEARNED, NO_NOTICE, NO_READER, PUBLISHED, TOLD}
use Rattle.sd_edit.specs.declared.request.Reply.TheVariants as replies
use Rattle.sd_edit.specs.declared.request.Request.TheVariants as requests
use Rattle.sd_script.specs.declared.view.ViewRequest.TheVariants.{List as Lists}
use Rattle.sd_script.proofs.OneReading.{line-one}

-- ---- requests

abbrev pub pair : List LineOf → Machine → List LineOf × Machine
pair answer m = (answer, m)

-- the answer to a request that isn't refused by want of memory, and the machine then
abbrev learned : Machine → ℕ → List Edit → List LineOf × Machine
learned m reader floor = (counted_line (form LEARNED) (length floor) ∷ [], with_floor m reader floor)

abbrev pub edited : Machine → Edit → Option EditRefusal → List LineOf × Machine
edited m e None = (ok_line [] ∷ [], with_edit m e)
edited m e (Some refusal) = (refused_line refusal ∷ [], m)

abbrev pub outcome : Machine → Request → List LineOf × Machine
outcome m (requests.Edit e) = edited m e (due m e)
outcome m requests.Publish = (counted_line (form PUBLISHED) (length (accepted m)) ∷ [], with_publish m)
outcome m requests.Tell = (counted_line (form TOLD) (length m.published) ∷ [], m)
outcome m (requests.Learn reader len) = for_reader m reader
    (if nat_le len (length m.published) then learned m reader (longer (floor_of m reader) (take len m.published)) else (plain_line (form NO_NOTICE) ∷ [], m))
outcome m (requests.Check reader names t asked) = for_reader m reader
    (seen_line (length m.published) (check_line (answer m.opening m.published names t asked)) ∷ [], with_look m reader)
outcome m (requests.Show reader names) = for_reader m reader
    (seen_line (length m.published) (shown_line (descriptor_at m.opening.mapping (replay m.opening m.published) names)) ∷ [], with_look m reader)

abbrev pub nobody : Machine → List LineOf × Machine
nobody m = pair (plain_line (form NO_READER) ∷ []) m

-- what holds of two outcomes where the reader is there, and where it isn't
pub by_reader : (P : List LineOf × Machine → List LineOf × Machine → Type 0) (m : Machine) (reader : ℕ) (x y : List LineOf × Machine) → P x y
    → P (nobody m) (nobody m) → P (for_reader m reader x) (for_reader m reader y)
by_reader P m reader x y is none = by_test (nat_lt reader (length m.floors)) where
  by_test : (is_there : Bool) → P (if is_there then x else nobody m) (if is_there then y else nobody m)
  by_test true = is
  by_test false = none

pub one_step : (old : Machine) (r : Request) (reply : Reply) (new : Machine) (answer : List LineOf)
    → Steps old r reply new → alone (reply_line reply) ≡ Some answer → pair answer new ≡ outcome old r
one_step old r reply new answer is text = grind (arith, nat_tests)

-- ---- openings

one_error : (readers : ℕ) (refusal : Option EditRefusal) (e f : StartError) (p q : List LineOf) → IsStartError e readers refusal → IsStartError f readers refusal
    → alone (start_error_line e) ≡ Some p → alone (start_error_line f) ≡ Some q → p ≡ q
one_error readers refusal e f p q one other first second = grind arith

-- where a store is opened there is no error with a line
pub no_error : (e : StartError) (readers : ℕ) (refusal : Option EditRefusal) (p : List LineOf) → IsReaderCount readers → refusal ≡ None
    → IsStartError e readers refusal → alone (start_error_line e) ≡ Some p → ⊥
no_error e readers refusal p count none is text = grind arith

opened-one : (options : ScriptOptions) (readers : ℕ) (root : RootSpec) (is_all : Bool) (p q : List LineOf) (x y : Session) → IsOpened options readers root is_all p x → IsOpened options readers root is_all q y → (p ≡ q) × (x ≡ y)
opened-one options readers root is_all p q x y (inl one) (inl other) = (one.2 ∙ sym other.2, one.3 ∙ sym other.3)
opened-one options readers root is_all p q x y (inl one) (inr other) = absurd (no_error other.0 readers _ q one.0 one.1 other.1 other.2)
opened-one options readers root is_all p q x y (inr one) (inl other) = absurd (no_error one.0 readers _ p other.0 other.1 one.1 one.2)
opened-one options readers root is_all p q x y (inr one) (inr other) =
    (one_error readers _ one.0 other.0 p q one.1 other.1 one.2 other.2, one.3 ∙ sym other.3)

-- ---- imports

pub imported-one : (m : Machine) (path : Names) (given : Given) (p q : List LineOf)
    → IsImported m path given replies.Edited p → IsImported m path given replies.Edited q → p ≡ q
imported-one m path given p q one other =
    let inherits = one_answer one.0 other.0 one.2 other.2 in
    let ordered = one_answer one.1 other.1 one.3 other.3 in
    one.4 ∙ ap (λ b. ok_line (imported_words (given.is_all && b) one.1) ∷ []) inherits
    ∙ ap (λ b. ok_line (imported_words (given.is_all && other.0) b) ∷ []) ordered ∙ sym other.4

-- ---- moves

moved-one : (before : List Ace) (m : Machine) (target : Names) (p q : List LineOf)
    → IsMoved before m target replies.Edited p → IsMoved before m target replies.Edited q → p ≡ q
moved-one before m target p q one other = one.2 ∙ ap (λ b. ok_line (moved_words b) ∷ []) (one_answer one.0 other.0 one.1 other.1) ∙ sym other.2

module _ (m : Machine) (x y : Machine) (p q : List LineOf) where
  -- a request has one line, and leaves one machine
  pub requested-one : (asked : Request) (r s : Reply) → Steps m asked r x → Steps m asked s y → alone (reply_line r) ≡ Some p → alone (reply_line s) ≡ Some q
      → (p ≡ q) × (x ≡ y)
  requested-one asked r s one other first second =
      let same = one_step m asked r x p one first ∙ sym (one_step m asked s y q other second) in
      (ap (λ (z : List LineOf × Machine). z.0) same, ap (λ (z : List LineOf × Machine). z.1) same)

  -- and so has an edit by a descriptor of which something was left out
  pub trim-one : (e : Edit) (r s : Reply) → Steps m (requests.Edit e) r x → Steps m (requests.Edit e) s y → alone (trimmed_line r) ≡ Some p → alone (trimmed_line s) ≡ Some q
      → (p ≡ q) × (x ≡ y)
  trim-one e replies.Edited replies.Edited one other first second = (cc, one.1 ∙ sym other.1)
  trim-one e replies.Edited s one other first second = absurd (grind arith)
  trim-one e r replies.Edited one other first second = absurd (grind arith)
  trim-one e r s one other first second = requested-one (requests.Edit e) r s one other first second

  -- and an import
  pub step-one : (e : Edit) (path : Names) (given : Given) (r s : Reply) → Steps m (requests.Edit e) r x → Steps m (requests.Edit e) s y
      → IsImported x path given r p → IsImported y path given s q → (p ≡ q) × (x ≡ y)
  step-one e path given replies.Edited replies.Edited one other first second =
      let same = one.1 ∙ sym other.1 in
      (imported-one y path given p q (subst (λ n. IsImported n path given replies.Edited p) same first) second, same)
  step-one e path given replies.Edited s one other first second = absurd (grind arith)
  step-one e path given r replies.Edited one other first second = absurd (grind arith)
  step-one e path given r s one other first second = requested-one (requests.Edit e) r s one other first second

  -- and a move
  pub move-one : (e : Edit) (before : List Ace) (target : Names) (r s : Reply) → Steps m (requests.Edit e) r x → Steps m (requests.Edit e) s y
      → IsMoved before x target r p → IsMoved before y target s q → (p ≡ q) × (x ≡ y)
  move-one e before target replies.Edited replies.Edited one other first second =
      let same = one.1 ∙ sym other.1 in
      (moved-one before y target p q (subst (λ n. IsMoved before n target replies.Edited p) same first) second, same)
  move-one e before target replies.Edited s one other first second = absurd (grind arith)
  move-one e before target r replies.Edited one other first second = absurd (grind arith)
  move-one e before target r s one other first second = requested-one (requests.Edit e) r s one other first second

-- ---- views

viewed-one : (notation : Notation) (m : Machine) (view : ViewRequest) (p q : List LineOf) → is_analysis (Viewing view) ≡ false
    → IsViewed notation m view p → IsViewed notation m view q → p ≡ q
viewed-one notation m (Lists path) p q plain one other = one ∙ sym other
viewed-one notation m Dump p q plain (inl one) (inl other) = one.1 ∙ sym other.1
viewed-one notation m Dump p q plain (inl one) (inr other) = absurd (other.0 one.0)
viewed-one notation m Dump p q plain (inr one) (inl other) = absurd (one.0 other.0)
viewed-one notation m Dump p q plain (inr one) (inr other) = one.1 ∙ sym other.1
viewed-one notation m view p q plain one other = absurd (cc (plain))

-- ---- the whole output

-- what is done leaves one store, and unless it is an analysis is told in one way
done-one : (old : Session) (asked : LineRequest) (p q : List LineOf) (x y : Session) → IsDone old asked p x → IsDone old asked q y
    → (is_analysis asked ≡ false → p ≡ q) × (x ≡ y)
done-one old (Opening readers root is_all) p q x y one other =
    let same = opened-one (script_options_of old) readers root is_all p q x y one other in (λ plain. same.0, same.1)
done-one (Opened notation m) (Asking r) p q x y one other =
    let same = requested-one m one.1 other.1 p q r one.0 other.0 one.2 other.2 one.3 other.3 in
    (λ plain. same.0, one.4 ∙ ap (Opened notation) same.1 ∙ sym other.4)
done-one (Opened notation m) (Trimming e) p q x y one other =
    let trimmed = trim-one m one.1 other.1 p q e one.0 other.0 one.2 other.2 one.3 other.3 in
    (λ plain. trimmed.0, one.4 ∙ ap (Opened notation) trimmed.1 ∙ sym other.4)
done-one (Opened notation m) (Viewing view) p q x y one other = (λ plain. viewed-one notation m view p q plain one.0 other.0, one.1 ∙ sym other.1)
done-one (Opened notation m) (Importing e path given) p q x y one other =
    let stepped = step-one m one.1 other.1 p q e path given one.0 other.0 one.2 other.2 one.3 other.3 in
    (λ plain. stepped.0, one.4 ∙ ap (Opened notation) stepped.1 ∙ sym other.4)
done-one (Opened notation m) (Moving e source target) p q x y one other =
    let stepped = move-one m one.1 other.1 p q e (entries_at m source) target one.0 other.0 one.2 other.2 one.3 other.3 in
    (λ plain. stepped.0, one.4 ∙ ap (Opened notation) stepped.1 ∙ sym other.4)
done-one (Opened notation m) asked p q x y one other = (λ plain. one.0 ∙ sym other.0, one.1 ∙ sym other.1)
done-one old asked p q x y one other = absurd one

told-one : (old : Session) (text : List ℕ) (p q : List LineOf) (x y : Session) → IsTold old text p x → IsTold old text q y
    → (AsksNoAnalysis text → p ≡ q) × (x ≡ y)
told-one old text p q x y (inl one) (inl other) =
    let asked : one.0 ≡ other.0 = cc (line-one (script_options_of old).notation (is_open old) text (Ok one.0) (Ok other.0) one.1 other.1) in
    let done = done-one old other.0 p q x y (rw asked at one.2) other.2 in
    (λ plain. done.0 (plain (script_options_of old).notation (is_open old) other.0 other.1), done.1)
told-one old text p q x y (inl one) (inr other) =
    absurd (cc (line-one (script_options_of old).notation (is_open old) text (Ok one.0) (Err other.0) one.1 other.1))
told-one old text p q x y (inr one) (inl other) =
    absurd (cc (line-one (script_options_of old).notation (is_open old) text (Err one.0) (Ok other.0) one.1 other.1))
told-one old text p q x y (inr one) (inr other) =
    let fault : one.0 ≡ other.0 = cc (line-one (script_options_of old).notation (is_open old) text (Err one.0) (Err other.0) one.1 other.1) in
    (λ plain. one.2 ∙ ap (λ f. line_of_fault f ∷ []) fault ∙ sym other.2, one.3 ∙ sym other.3)

pub has_one_answer : HasOneAnswer
has_one_answer old line one other new next x y = elim (cases_Bool (is_silent line)) [
  | inl silent ↦
      let first = rw silent at x in
      let second = rw silent at y in (λ plain. first.0 ∙ sym second.0, first.1 ∙ sym second.1)
  | inr loud ↦
      let first = rw loud at x in
      let second = rw loud at y in
      let same = told-one old line first.0 second.0 new next first.1 second.1 in
      (λ plain. first.2 ∙ ap (λ told. told ++ closing_of line) (same.0 plain) ∙ sym second.2, same.1)
]

-- a line that may expect an answer
after-one : (test : Bool) (old : ScriptState) (text : List ℕ) (p q : List LineOf) (x y : ScriptState) → AsksNoAnalysis text
    → MatchBool test ((p ≡ expect_line (is_met (script_options_of old.session).notation.spelling old.last text) ∷ []) × (x.session ≡ old.session) × (x.last ≡ old.last))
    (IsAnswered old.session text p x.session × (x.last ≡ last_after text p old.last))
    → MatchBool test ((q ≡ expect_line (is_met (script_options_of old.session).notation.spelling old.last text) ∷ []) × (y.session ≡ old.session) × (y.last ≡ old.last))
    (IsAnswered old.session text q y.session × (y.last ≡ last_after text q old.last))
    → (p ≡ q) × (x.session ≡ y.session) × (x.last ≡ y.last)
after-one true old text p q x y plain one other = (one.0 ∙ sym other.0, one.1 ∙ sym other.1, one.2 ∙ sym other.2)
after-one false old text p q x y plain one other =
    let same = has_one_answer old.session text p q x.session y.session one.0 other.0 in
    (same.0 plain, same.1, one.1 ∙ ap (λ answer. last_after text answer old.last) (same.0 plain) ∙ sym other.1)

-- and counted
next-one : (old : ScriptState) (text : List ℕ) (p q : List LineOf) (x y : ScriptState) → AsksNoAnalysis text → IsNext old text p x → IsNext old text q y → (p ≡ q) × (x ≡ y)
next-one old text p q x y plain one other =
    let same = after-one (expects text) old text p q x y plain one.answered other.answered in
    let counts = one.counted ∙ ap (λ answer. tallied text answer old.counts) same.0 ∙ sym other.counted in
    (same.0, λ i. record { session = same.1 i; last = same.2 i; counts = counts i })

-- and printed
module _ (style : Style) where
  printed-one : (old : ScriptState) (text p q : List ℕ) (x y : ScriptState) → AsksNoAnalysis text
      → IsNextServed false style old text p x → IsNextServed false style old text q y → (p ≡ q) × (x ≡ y)
  printed-one old text p q x y plain one other =
      let same = next-one old text one.0 other.0 x y plain one.1 other.1 in
      (one.2 ∙ ap (printed style (tag_in false text)) same.0 ∙ sym other.2, same.1)

  all-one : (old : ScriptState) (texts : List (List ℕ)) (p q : List ℕ) (x y : ScriptState) → All AsksNoAnalysis texts
      → AreAnswered (IsNextServed false style) old texts p x → AreAnswered (IsNextServed false style) old texts q y → p ≡ q
  all-one old [] p q x y plain one other = one.0 ∙ sym other.0
  all-one old (text ∷ texts) p q x y plain one other =
      let first = printed-one old text one.0 other.0 one.1 other.1 (All-head AsksNoAnalysis text texts plain) one.3 other.3 in
      let rest = all-one other.1 texts one.2 other.2 x y (All-tail AsksNoAnalysis text texts plain) (rw first.1 at one.4) other.4 in
      one.5 ∙ ap (λ xs. xs ++ one.2) first.0 ∙ ap (λ xs. other.0 ++ xs) rest ∙ sym other.5

pub has_one_output : HasOneOutput
has_one_output options text one other plain prints other_prints =
    all-one (style_in options.notation) (before_first_line options) (lines text) one other prints.0 other_prints.0 plain prints.1 other_prints.1
