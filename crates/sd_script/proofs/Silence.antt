-- A review without lines: no check is answered otherwise.
use Rattle.sd_script.proofs.Cited.{Ace, AreGrantedAlike, AreTold, Bool, Compared, Container, Descendant, DescriptorValue, Former, IsCompared, IsNodeReview, AreNodeLines, IsOfBoth, IsReviewOf, LineOf, List, MappingValue, Moved, Names, New, NodeRow, None, Option, PathSpelling, Parts, Same, SilentContainerPassesDownTheSame, SilentNodeIsUnchanged, SilentReviewChangesNothing, Some, TokenValue, Trees, Verdict, [], accepted, ap, append_cancel_right, arith, cases_Bool, codes, dacl_at, dacl_entries, descendant_parts, descriptor_of_row, entries, entries_or_none, eq_by_cmp, false, find, flat_map, former, get-entries, gone_lines, has_no_words, holds, inl, inr, is_granted, is_some, is_within, judged, kind_at, length, lines_of, list_of, made_in, most, names_cmp, one_path, one_test, parts_empty, parts_in, path_word, refl, reply_in, review_parts_in, reviewed_line, row_at, silent_container, silent_node, stands_in, subst, sym, trees_in, true, verdict, with_path, ℕ, ◌++◌, ◌∙◌, ◌∷◌, ◌≡◌}
use Rattle.sd_check.specs.declared.verdict.Verdict.{Verdict as CheckVerdict}
use Rattle.sd_review.specs.Lines.{lines}
use Rattle.sd_script.proofs.FirstKind.{first_kind}

-- ---- verdicts

-- which bits are granted decides the verdict on a request without MAXIMUM_ALLOWED
judged_alike : (g : MappingValue) (p q : ℕ → Bool) (all other r : ℕ) → holds r 25 ≡ false → ((b : ℕ) → p b ≡ q b) → judged g p all r ≡ judged g q other r
judged_alike g p q all other r plain same = rw (plain, one_test p q same) refl

-- ---- one comparison

abbrev verdict_by : MappingValue → TokenValue → ℕ → Parts → CheckVerdict
verdict_by g token asked p = verdict p.owner p.dacl g token asked

-- by the descriptor of a row
verdict_there : (g : MappingValue) (token : TokenValue) (asked : ℕ) (row : NodeRow) (d : Option (List Ace))
    → verdict (Some row.owner) d g token asked ≡ verdict_by g token asked (parts_in (descriptor_of_row row d))
verdict_there g token asked row None = refl
verdict_there g token asked row (Some es) = refl

-- where there is no line with a path, there is none
no_lines : (path : List ℕ) (ls : List LineOf) → [] ≡ with_path path ls → ls ≡ []
no_lines path [] none = refl
no_lines path (l ∷ ls) none = absurd (cc none)

silent_parts : (g : MappingValue) (path : List ℕ) (k : Bool) (old new : DescriptorValue) (c : Option Compared) (token : TokenValue) (asked : ℕ)
    → holds asked 25 ≡ false → IsOfBoth g k (Some old) (Some new) c → [] ≡ with_path path (lines_of c)
    → verdict_by g token asked (parts_in old) ≡ verdict_by g token asked (parts_in new)
silent_parts g path k old new None token asked plain of is = absurd of
silent_parts g path k old new (Some c) token asked plain of is =
    let p = parts_in old in
    let q = parts_in new in
    judged_alike g (is_granted p.owner p.dacl g token) (is_granted q.owner q.dacl g token) (most p.owner p.dacl g token) (most q.owner q.dacl g token) asked plain
    (silent_node g k (review_parts_in old) (review_parts_in new) c of (no_lines path (lines c) is) token)

-- ---- one node

-- a node without lines is at its place: one that is new or was moved has a line
at_its_place : (paths : PathSpelling) (ts : Trees) (path : Names) (before : Former) → AreNodeLines paths ts path before [] → before ≡ Same
at_its_place paths ts path Same is = refl
at_its_place paths ts path (Moved before) (changes, compared, is) = absurd (cc (is))
at_its_place paths ts path New is = absurd (cc (is))

was_there : (ts : Trees) (path : Names) → former ts path ≡ Same → is_some (kind_at ts.old path) ≡ true
was_there ts path same = grind arith

abbrev Alike : Trees → Names → TokenValue → ℕ → Type 0
Alike ts path token asked = reply_in ts.mapping ts.old path token asked ≡ reply_in ts.mapping ts.new path token asked

compared_alike : (paths : PathSpelling) (ts : Trees) (path : Names) (before : Option NodeRow) (s : NodeRow) (token : TokenValue) (asked : ℕ) → holds asked 25 ≡ false
    → row_at ts.old path ≡ before → is_some (kind_at ts.old path) ≡ true → row_at ts.new path ≡ Some s → IsCompared paths ts path path [] → Alike ts path token asked
compared_alike paths ts path None s token asked plain old there new is = absurd (cc (rw old at there))
compared_alike paths ts path (Some r) s token asked plain old there new (c, of, is) =
    let was = dacl_at ts.mapping ts.old path in
    let now = dacl_at ts.mapping ts.new path in
    let change = rw (old, new) at of in
    let same = silent_parts ts.mapping (path_word paths path) _ (descriptor_of_row r was) (descriptor_of_row s now) c token asked plain change is in
    rw (old, new) (ap Verdict (verdict_there ts.mapping token asked r was ∙ same ∙ sym (verdict_there ts.mapping token asked s now)))

pub silent_node_is_unchanged : SilentNodeIsUnchanged
silent_node_is_unchanged paths ts top path row token asked is within there plain =
    let text = rw within at is in
    let same = at_its_place paths ts path (former ts path) text in
    compared_alike paths ts path (row_at ts.old path) row token asked plain refl (was_there ts path same) there
    (subst (λ before. AreNodeLines paths ts path before []) same text)

-- ---- what is made in a container

row_entries : (row : NodeRow) (dacl : Option (List Ace)) → entries_or_none (dacl_entries (descriptor_of_row row dacl).dacl) ≡ entries_or_none dacl
row_entries row None = refl
row_entries row (Some es) = refl

passed_down : (paths : PathSpelling) (ts : Trees) (path : Names) (before : Option NodeRow) (s : NodeRow) (d : Descendant) → s.kind ≡ Container
    → row_at ts.old path ≡ before → is_some (kind_at ts.old path) ≡ true → row_at ts.new path ≡ Some s → IsCompared paths ts path path []
    → AreGrantedAlike ts.mapping (made_in ts.mapping ts.old path d) (made_in ts.mapping ts.new path d)
passed_down paths ts path None s d kind old there new is = absurd (cc (rw old at there))
passed_down paths ts path (Some r) s d kind old there new (None, of, is) = absurd (rw (old, new) at of)
passed_down paths ts path (Some r) s d kind old there new (Some c, of, is) =
    let g = ts.mapping in
    let was = dacl_at g ts.old path in
    let now = dacl_at g ts.new path in
    let change = rw (old, new, kind) at of in
    let same = silent_container g (review_parts_in (descriptor_of_row r was))
    (review_parts_in (descriptor_of_row s now)) c d change (no_lines (path_word paths path) (lines c) is) in
    subst (λ (es : List Ace). AreGrantedAlike g (descendant_parts (list_of g d es)) (made_in g ts.new path d)) (row_entries r was)
    (subst (λ (es : List Ace). AreGrantedAlike g (descendant_parts (list_of g d (entries_or_none (dacl_entries (descriptor_of_row r was).dacl)))) (descendant_parts (list_of g d es)))
    (row_entries s now) same)

pub silent_container_passes_down : SilentContainerPassesDownTheSame
silent_container_passes_down paths ts top path row d is within there kind =
    let text = rw within at is in
    let same = at_its_place paths ts path (former ts path) text in
    passed_down paths ts path (row_at ts.old path) row d kind refl (was_there ts path same) there
    (subst (λ before. AreNodeLines paths ts path before []) same text)

-- ---- all nodes

found_silent : (P : Names × NodeRow → List LineOf → Type 0) (es : List (Names × NodeRow)) (path : Names) (row : NodeRow) → find names_cmp path es ≡ Some row
    → AreTold P es [] → P (path, row) []
found_silent P [] path row found printed = absurd (cc (found))
found_silent P (e ∷ es) path row found (one, rest, first, more, is) =
    let parts = parts_empty one rest (sym is) in
    elim (cases_Bool (eq_by_cmp names_cmp path e.0)) [
      | inl same ↦
          let here : e.1 ≡ row = cc (rw same at found) in
          rw (one_path path e.0 same, ← here) (rw parts.0 at first)
      | inr other ↦ found_silent P es path row (rw other at found) (rw parts.1 at more)
    ]

pieces_told : (f : Names × NodeRow → List LineOf) (es : List (Names × NodeRow)) → AreTold (λ e told. told ≡ f e) es (flat_map f es)
pieces_told f [] = refl
pieces_told f (e ∷ es) = (f e, flat_map f es, refl, pieces_told f es, refl)

found_none : (f : Names × NodeRow → List LineOf) (es : List (Names × NodeRow)) (path : Names) (row : NodeRow) → find names_cmp path es ≡ Some row
    → flat_map f es ≡ [] → f (path, row) ≡ []
found_none f es path row found none =
    sym (found_silent (λ e told. told ≡ f e) es path row found (rw none at (pieces_told f es)))

module _ (paths : PathSpelling) (ts : Trees) (top path : Names) (token : TokenValue) (asked : ℕ)
    (within : is_within top path ≡ true) (plain : holds asked 25 ≡ false) where
  each_alike : AreTold (IsNodeReview paths ts top) (entries ts.new) [] → flat_map (gone_lines paths ts top) (entries ts.old) ≡ []
      → (old new : Option NodeRow) → row_at ts.old path ≡ old → row_at ts.new path ≡ new → Alike ts path token asked
  each_alike changes gone old (Some row) was is =
      silent_node_is_unchanged paths ts top path row token asked
      (found_silent (IsNodeReview paths ts top) (entries ts.new) path row (sym (get-entries ts.new path) ∙ is) changes) within is plain
  each_alike changes gone None None was is = rw (was, is) refl
  each_alike changes gone (Some row) None was is =
      let silent = found_none (gone_lines paths ts top) (entries ts.old) path row (sym (get-entries ts.old path) ∙ was) gone in
      absurd (cc (rw (within, is) at silent))

  -- the whole review
  by_case : (old new : ℕ) (stands lacks : Bool) → IsReviewOf paths ts top (reviewed_line old new) stands lacks (reviewed_line old new ∷ []) → Alike ts path token asked
  by_case old new false lacks is = let kinds : codes "reviewed" ≡ codes "no node" = ap first_kind is in absurd (cc kinds)
  by_case old new true true is = let kinds : codes "reviewed" ≡ codes "fault" = ap first_kind is in absurd (cc kinds)
  by_case old new true false (changes, printed, is) =
      let gone = flat_map (gone_lines paths ts top) (entries ts.old) in
      let none = parts_empty changes gone (sym (append_cancel_right [] (changes ++ gone) (reviewed_line old new ∷ []) is)) in
      each_alike (rw none.0 at printed) none.1 (row_at ts.old path) (row_at ts.new path) refl refl

pub silent_review_changes_nothing : SilentReviewChangesNothing
silent_review_changes_nothing paths m top path token asked is within plain =
    by_case paths (trees_in m) top path token asked within plain (length m.published) (length (accepted m))
    (stands_in (trees_in m) top) (has_no_words paths (trees_in m)) is

pub ruleset silence = (silent_node_is_unchanged, silent_container_passes_down, silent_review_changes_nothing)
