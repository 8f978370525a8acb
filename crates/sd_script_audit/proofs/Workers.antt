-- Audits of one text by two numbers of workers: once a store is open, what is printed is the same.
use Rattle.sd_script_audit.proofs.Cited.{AreAnsweredInAudit, Asking, AsksInAudit, Audited, Bool, DifferInOpening, Edit, EditRefusal, Err, Importing, IsAnsweredInAudit, IsDoneInAudit, IsImported, IsMoved, IsNextInAudit, IsOpened, IsReaderCount, IsStartError, IsToldInAudit, LineFault, LineOf, LineRequest, List, Machine, Moving, Names, None, Notation, Ok, Opened, Option, Progress, Query, Reply, RootSpec, ScriptCounts, ScriptOptions, Some, StartError, Steps, Style, WorkersShowInTheOpening, [], alone, ap, append_assoc, arith, before_first_line, cases_Bool, end_of, entries_at, expects, false, inl, inr, is_silent, line-one, line_of_fault, line_opens, lines, move-one, no_error, not, opening_in, opening_text, opens, printed, refl, refused_line, requested-one, start_error_line, started, step-one, style_in, subst, sym, true, unopened, ℕ, ◌++◌, ◌∙◌, ◌∷◌, ◌≡◌, ◌⊎◌, Given, Trimming, trim-one, opened_line}
use Rattle.sd_edit.specs.declared.request.Reply.TheVariants as replies
use Rattle.sd_edit.specs.declared.request.Request.TheVariants as requests
use Rattle.sd_edit.specs.declared.start.StartError.TheVariants as starts
use Rattle.sd_script.specs.declared.line_request.LineRequest.TheVariants.{Opening as Opens}

-- ---- machines that differ in their readers alone

-- a machine as an audit sees it, without its readers
abbrev unread : Machine → Machine
unread m = record { opening = m.opening; published = m.published; pending = m.pending; floors = [] }

edit_unread : (m new : Machine) (e : Edit) (reply : Reply) → Steps m (requests.Edit e) reply new → Steps (unread m) (requests.Edit e) reply (unread new)
edit_unread m new e replies.Edited is = (is.0, ap unread is.1)
edit_unread m new e (replies.Refused refusal) is = (is.0, ap unread is.1)
edit_unread m new e replies.Memory is = (is.0, ap unread is.1)
edit_unread m new e reply is = absurd is

publish_unread : (m new : Machine) (reply : Reply) → Steps m requests.Publish reply new → Steps (unread m) requests.Publish reply (unread new)
publish_unread m new (replies.Published len) is = (is.0, ap unread is.1)
publish_unread m new replies.Memory is = ap unread is
publish_unread m new reply is = absurd is

import_unread : (m : Machine) (path : Names) (given : Given) (reply : Reply) (p : List LineOf)
    → IsImported m path given reply p → IsImported (unread m) path given reply p
import_unread m path given replies.Edited p is = is
import_unread m path given reply p is = is

move_unread : (old m : Machine) (source target : Names) (reply : Reply) (p : List LineOf)
    → IsMoved (entries_at old source) m target reply p → IsMoved (entries_at (unread old) source) (unread m) target reply p
move_unread old m source target replies.Edited p is = is
move_unread old m source target reply p is = is

-- ---- stores that differ in their readers alone

abbrev opened : Notation → Machine → List Query → Progress
opened notation m queries = record { store = Opened notation m; queries = queries }

-- both are open
pub record AreAlike (a b : Progress) : Type 0 where
  pub notation : Notation
  pub one : Machine
  pub other : Machine
  pub queries : List Query
  pub one_is : a ≡ opened notation one queries
  pub other_is : b ≡ opened notation other queries
  pub alike : unread one ≡ unread other

ends_alike : (a b : Progress) → AreAlike a b → end_of a.store a.queries ≡ end_of b.store b.queries
ends_alike a b alike =
    ap (λ (e : Progress). end_of e.store e.queries) alike.one_is ∙ ap (λ m. end_of (Opened alike.notation m) alike.queries) alike.alike
    ∙ sym (ap (λ (e : Progress). end_of e.store e.queries) alike.other_is)

module _ (n m : ℕ) (notation : Notation) (x y : Machine) (queries : List Query) (alike : unread x ≡ unread y) (p q : List LineOf) (c d : Progress) where
  -- with these machines and queries then
  are_alike : (v w : Machine) (more : List Query) → (p ≡ q) × (unread v ≡ unread w) → c ≡ opened notation v more → d ≡ opened notation w more
      → (p ≡ q) × AreAlike c d
  are_alike v w more same first second =
      (same.0, record { notation = notation; one = v; other = w; queries = more; one_is = first; other_is = second; alike = same.1 })

  done_alike : (asked : LineRequest) → opens asked ≡ false → IsDoneInAudit n (opened notation x queries) asked p c → IsDoneInAudit m (opened notation y queries) asked q d
      → (p ≡ q) × AreAlike c d
  done_alike (Opens readers root is_all) timely one other = absurd (cc (timely))
  done_alike (Asking (requests.Edit e)) timely (one, kept) (other, left) =
      are_alike one.1 other.1 queries
      (requested-one (unread y) (unread one.1) (unread other.1) p q (requests.Edit e) one.0 other.0
      (rw (← alike) (edit_unread x one.1 e one.0 one.2)) (edit_unread y other.1 e other.0 other.2) one.3 other.3)
      (λ i. record { store = one.4 i; queries = kept i }) (λ i. record { store = other.4 i; queries = left i })
  done_alike (Asking requests.Publish) timely (one, kept) (other, left) =
      are_alike one.1 other.1 queries
      (requested-one (unread y) (unread one.1) (unread other.1) p q requests.Publish one.0 other.0
      (rw (← alike) (publish_unread x one.1 one.0 one.2)) (publish_unread y other.1 other.0 other.2) one.3 other.3)
      (λ i. record { store = one.4 i; queries = kept i }) (λ i. record { store = other.4 i; queries = left i })
  done_alike (Trimming e) timely (one, kept) (other, left) =
      are_alike one.1 other.1 queries
      (trim-one (unread y) (unread one.1) (unread other.1) p q e one.0 other.0
      (rw (← alike) (edit_unread x one.1 e one.0 one.2)) (edit_unread y other.1 e other.0 other.2) one.3 other.3)
      (λ i. record { store = one.4 i; queries = kept i }) (λ i. record { store = other.4 i; queries = left i })
  done_alike (Importing e path given) timely (one, kept) (other, left) =
      are_alike one.1 other.1 queries
      (step-one (unread y) (unread one.1) (unread other.1) p q e path given one.0 other.0
      (rw (← alike) (edit_unread x one.1 e one.0 one.2)) (edit_unread y other.1 e other.0 other.2)
      (import_unread one.1 path given one.0 p one.3) (import_unread other.1 path given other.0 q other.3))
      (λ i. record { store = one.4 i; queries = kept i }) (λ i. record { store = other.4 i; queries = left i })
  done_alike (Moving e source target) timely (one, kept) (other, left) =
      let first = move_unread x one.1 source target one.0 p one.3 in
      are_alike one.1 other.1 queries
      (move-one (unread y) (unread one.1) (unread other.1) p q e (entries_at (unread y) source) target one.0 other.0
      (rw (← alike) (edit_unread x one.1 e one.0 one.2)) (edit_unread y other.1 e other.0 other.2)
      (subst (λ m. IsMoved (entries_at m source) (unread one.1) target one.0 p) alike first)
      (move_unread y other.1 source target other.0 q other.3))
      (λ i. record { store = one.4 i; queries = kept i }) (λ i. record { store = other.4 i; queries = left i })
  done_alike (Asking (requests.Check reader path token asked)) timely one other =
      are_alike x y (queries ++ record { path = path; token = token; asked = asked } ∷ []) (one.0 ∙ sym other.0, alike) one.1 other.1
  done_alike asked timely one other = are_alike x y queries (one.0 ∙ sym other.0, alike) one.1 other.1

-- ---- lines

module _ (notation : Notation) (is_open : Bool) (text : List ℕ) where
  told_one : (p q : List LineOf) → IsToldInAudit notation is_open text p → IsToldInAudit notation is_open text q → p ≡ q
  told_one p q one other = elim (cases_Bool (is_silent text)) [
    | inl silent ↦ (rw silent at one) ∙ sym (rw silent at other)
    | inr loud ↦ elim (cases_Bool (expects text)) [
      | inl expecting ↦ (rw (loud, expecting) at one) ∙ sym (rw (loud, expecting) at other)
      | inr plain ↦
          let first = rw (loud, plain) at one in
          let second = rw (loud, plain) at other in
          let fault : first.0 ≡ second.0 = cc (line-one notation is_open text (Err first.0) (Err second.0) first.1 second.1) in
          first.2 ∙ ap (λ (f : LineFault). line_of_fault f ∷ []) fault ∙ sym second.2
    ]
  ]

  told_or_asked : (p : List LineOf) (asked : LineRequest) → IsToldInAudit notation is_open text p → AsksInAudit notation is_open text asked → ⊥
  told_or_asked p asked told asks =
      let fault = rw (asks.0, asks.1) at told in cc (line-one notation is_open text (Err fault.0) (Ok asked) fault.1 asks.2)

  -- a line that both are answered by asks both for the same
  line_alike : (R A B : Type 0) (D E : LineRequest → Type 0) (p q : List LineOf) → (p ≡ q → A → B → R) → ((asked : LineRequest) → opens asked ≡ not is_open → D asked → E asked → R)
      → (IsToldInAudit notation is_open text p × A) ⊎ ((asked : LineRequest) × AsksInAudit notation is_open text asked × D asked)
      → (IsToldInAudit notation is_open text q × B) ⊎ ((asked : LineRequest) × AsksInAudit notation is_open text asked × E asked) → R
  line_alike R A B D E p q stay done (inl one) (inl other) = stay (told_one p q one.0 other.0) one.1 other.1
  line_alike R A B D E p q stay done (inl one) (inr other) = absurd (told_or_asked p other.0 one.0 other.1)
  line_alike R A B D E p q stay done (inr one) (inl other) = absurd (told_or_asked q one.0 other.0 one.1)
  line_alike R A B D E p q stay done (inr one) (inr other) =
      let asked : one.0 ≡ other.0 = cc (line-one notation is_open text (Ok one.0) (Ok other.0) one.1.2 other.1.2) in
      done other.0 (line_opens notation is_open text other.0 other.1.2) (subst D asked one.2) other.2

open_alike : (n m : ℕ) (text : List ℕ) (a b : Progress) (p q : List LineOf) (c d : Progress) → AreAlike a b
    → IsAnsweredInAudit n a text p c → IsAnsweredInAudit m b text q d → (p ≡ q) × AreAlike c d
open_alike n m text a b p q c d both one other =
    line_alike both.notation true text ((p ≡ q) × AreAlike c d) _ _ _ _ p q
    (λ same. are_alike n m both.notation both.one both.other both.queries both.alike p q c d both.one both.other both.queries (same, both.alike))
    (done_alike n m both.notation both.one both.other both.queries both.alike p q c d)
    (subst (λ e. IsAnsweredInAudit n e text p c) both.one_is one) (subst (λ e. IsAnsweredInAudit m e text q d) both.other_is other)

module _ (style : Style) where
  -- an answer as it is printed
  abbrev as_text : List LineOf → List ℕ
  as_text answer = printed style None answer

  -- the first line's answer, and what is printed of the others' and at the end
  cut : (n : ℕ) (a : Audited) (text : List ℕ) (texts : List (List ℕ)) (p : List ℕ) (x : ScriptCounts) → AreAnsweredInAudit style n a (text ∷ texts) p x
      → (answer : List LineOf) × (between : Audited) × (rest : List ℕ) × IsNextInAudit n a text answer between × AreAnsweredInAudit style n between texts rest x × (p ≡ as_text answer ++ rest)
  cut n a text texts p x (last, answers, (first, between, rest, (answer, next, same), more, whole), is, counts) =
      let end = as_text (end_of last.progress.store last.progress.queries) in
      (answer, between, rest ++ end, next, (last, rest, more, refl, counts), is ∙ ap (λ xs. xs ++ end) (whole ∙ ap (λ xs. xs ++ rest) same) ∙ append_assoc (as_text answer) rest end)

  ended : (n : ℕ) (a : Audited) (p : List ℕ) (x : ScriptCounts) → AreAnsweredInAudit style n a [] p x → p ≡ as_text (end_of a.progress.store a.progress.queries)
  ended n a p x (last, answers, (none, same), is, counts) = is ∙ rw (none, same) refl

  -- what is printed from an open store on
  all_alike : (n m : ℕ) (texts : List (List ℕ)) (a b : Audited) (p q : List ℕ) (x y : ScriptCounts) → AreAlike a.progress b.progress
      → AreAnsweredInAudit style n a texts p x → AreAnsweredInAudit style m b texts q y → p ≡ q
  all_alike n m [] a b p q x y alike one other = ended n a p x one ∙ ap as_text (ends_alike a.progress b.progress alike) ∙ sym (ended m b q y other)
  all_alike n m (text ∷ texts) a b p q x y alike one other =
      let first = cut n a text texts p x one in
      let second = cut m b text texts q y other in
      let same = open_alike n m text a.progress b.progress first.0 second.0 first.1.progress second.1.progress alike first.3.answered second.3.answered in
      let rest = all_alike n m texts first.1 second.1 first.2 second.2 x y same.1 first.4 second.4 in
      first.5 ∙ ap (λ answer. as_text answer ++ first.2) same.0 ∙ ap (λ xs. as_text second.0 ++ xs) rest ∙ sym second.5

-- ---- before a store is open

-- an error with a line, of a number of readers that a store can have
root_error : (e : StartError) (n : ℕ) (due : Option EditRefusal) (p : List LineOf) → IsReaderCount n → IsStartError e n due → alone (start_error_line e) ≡ Some p
    → (r : EditRefusal) × (due ≡ Some r) × (Some (refused_line r ∷ []) ≡ Some p)
root_error starts.Readers n due p count (inl is) text = absurd (omega (arith, is, count.0))
root_error starts.Readers n due p count (inr is) text = absurd (omega (arith, is, count.1))
root_error (starts.Root r) n due p count is text = (r, is.1, text)
root_error starts.Memory n due p count is text = absurd (cc (text))
root_error starts.Place n due p count is text = absurd is

module _ (options : ScriptOptions) (n m : ℕ) (some : IsReaderCount n) (others : IsReaderCount m) where
  -- no store is open afterwards, or both are
  module _ (R : Type 0) (p q : List LineOf) (c d : Progress) (closed : p ≡ q → c ≡ unopened options → d ≡ unopened options → R)
      (opened : (is_all : Bool) → p ≡ opened_line is_all n ∷ [] → q ≡ opened_line is_all m ∷ [] → AreAlike c d → R) where
    opening : (root : RootSpec) (is_all : Bool) → IsOpened options n root is_all p c.store × (c.queries ≡ []) → IsOpened options m root is_all q d.store × (d.queries ≡ []) → R
    opening root is_all (inl one, none) (inl other, nothing) = opened is_all one.2 other.2 (record {
      notation = options.notation;
      one = started (opening_in options root) n;
      other = started (opening_in options root) m;
      queries = [];
      one_is = λ i. record { store = one.3 i; queries = none i };
      other_is = λ i. record { store = other.3 i; queries = nothing i };
      alike = refl;
    })
    opening root is_all (inl one, none) (inr other, nothing) = absurd (no_error other.0 m _ q others one.1 other.1 other.2)
    opening root is_all (inr one, none) (inl other, nothing) = absurd (no_error one.0 n _ p some other.1 one.1 one.2)
    opening root is_all (inr one, none) (inr other, nothing) =
        let first = root_error one.0 n _ p some one.1 one.2 in
        let second = root_error other.0 m _ q others other.1 other.2 in
        let refusals : first.0 ≡ second.0 = cc (first.1, second.1) in
        closed (cc (refusals, first.2, second.2)) (λ i. record { store = one.3 i; queries = none i }) (λ i. record { store = other.3 i; queries = nothing i })

    opening_asked : (asked : LineRequest) → opens asked ≡ true → IsDoneInAudit n (unopened options) asked p c → IsDoneInAudit m (unopened options) asked q d → R
    opening_asked (Opens readers root is_all) is one other = opening root is_all one other
    opening_asked asked timely one other = absurd (cc (timely))

  -- a line in front of two outputs
  after_line : (style : Style) (first p q xs ys : List ℕ) → p ≡ first ++ xs → q ≡ first ++ ys → DifferInOpening style n m xs ys → DifferInOpening style n m p q
  after_line style first p q xs ys one other (inl same) = inl (one ∙ ap (λ zs. first ++ zs) same ∙ sym other)
  after_line style first p q xs ys one other (inr differ) = inr (
    first ++ differ.0,
    differ.1,
    differ.2,
    one ∙ ap (λ zs. first ++ zs) differ.3 ∙ simp append_assoc,
    other ∙ ap (λ zs. first ++ zs) differ.4 ∙ simp append_assoc,
  )

  all_differ : (texts : List (List ℕ)) (a b : Audited) (p q : List ℕ) (x y : ScriptCounts) → a.progress ≡ unopened options → b.progress ≡ unopened options
      → AreAnsweredInAudit (style_in options.notation) n a texts p x → AreAnsweredInAudit (style_in options.notation) m b texts q y → DifferInOpening (style_in options.notation) n m p q
  all_differ [] a b p q x y closed shut one other =
      let style = style_in options.notation in
      inl (ended style n a p x one ∙ rw (closed, shut) refl ∙ sym (ended style m b q y other))
  all_differ (text ∷ texts) a b p q x y closed shut one other =
      let style = style_in options.notation in
      let first = cut style n a text texts p x one in
      let second = cut style m b text texts q y other in
      let closing : first.0 ≡ second.0 → first.1.progress ≡ unopened options → second.1.progress ≡ unopened options → DifferInOpening style n m p q =
      λ same still yet. after_line style (as_text style second.0) p q first.2 second.2 (first.5 ∙ ap (λ answer. as_text style answer ++ first.2) same) second.5
      (all_differ texts first.1 second.1 first.2 second.2 x y still yet first.4 second.4) in
      line_alike options.notation false text (DifferInOpening style n m p q) _ _ _ _ first.0 second.0 closing
      (opening_asked (DifferInOpening style n m p q) first.0 second.0 first.1.progress second.1.progress closing (λ is_all front behind alike.
      let rest = all_alike style n m texts first.1 second.1 first.2 second.2 x y alike first.4 second.4 in
      inr ([], is_all, second.2, first.5 ∙ ap (λ answer. as_text style answer ++ first.2) front ∙ ap (λ zs. opening_text style is_all n ++ zs) rest, second.5 ∙ ap (λ answer. as_text style answer ++ second.2) behind)))
      (subst (λ e. IsAnsweredInAudit n e text first.0 first.1.progress) closed first.3.answered)
      (subst (λ e. IsAnsweredInAudit m e text second.0 second.1.progress) shut second.3.answered)

pub workers_show_in_the_opening : WorkersShowInTheOpening
workers_show_in_the_opening options n m text one other some others prints other_prints =
    all_differ options n m some others (lines text) (before_first_line options) (before_first_line options) one other prints.0 other_prints.0 refl refl prints.1 other_prints.1
