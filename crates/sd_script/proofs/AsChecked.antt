-- What `why` and `delete` answer beside what `check` answers.
use Rattle.sd_script.proofs.Cited.{Ace, BeginsAsCheck, false, if◌then◌else◌, Bool, CheckReply, Delete, DeletesAsChecked, Granted, IsGranted, LineOf, List, Machine, MappingValue, Names, NodeRow, None, Notation, Opened, Option, Some, TokenValue, Verdict, Why, [], answer, ap, by_node, check_line, codes, dacl_at, delete_right, deletion_line, descriptor_of_row, drop, form, granted_by, length, line_with, node_why_lines, option_map, outcome_of, parent_grants, plain_line, refl, replay, reply_for, row_at, seen_line, seen_lines, subst, sym, true, verdict_line, ℕ, ◌++◌, ◌∙◌, ◌∷◌, ◌≡◌}
use Rattle.sd_answer.specs.declared.forms.TheConstants.{DENIED_ALL, NO_NODE}
use Rattle.sd_check.specs.declared.verdict.Verdict.TheVariants.{Denied, EmptyRequest, Reserved}
use Rattle.sd_edit.specs.declared.reply.CheckReply.TheVariants.{NoNode}
use Rattle.sd_edit.specs.declared.request.Request.TheVariants as requests
use Rattle.sd_line.specs.Line.{PartOf}
use Rattle.sd_line.specs.declared.line.Value.{Value}
use Rattle.sd_line.specs.declared.line.Value.TheVariants.{Text}
use Rattle.sd_script.proofs.FirstKind.{first_kind}
use Rattle.sd_script.proofs.OneOutput.{by_reader, nobody, one_step, outcome}

-- ---- the answer to `why` begins with that to `check`

-- an answer that another begins
abbrev Begins : List LineOf → List LineOf → Type 0
Begins one whole = (rest : List LineOf) × (whole ≡ one ++ rest)

-- of a node, or of none
node_begins : (g : MappingValue) (dacl : Option (List Ace)) (row : Option NodeRow) (t : TokenValue) (asked : ℕ)
    → Begins (check_line (reply_for g dacl t asked row) ∷ []) (node_why_lines g t asked (option_map (λ (r : NodeRow). descriptor_of_row r dacl) row))
node_begins g dacl None t asked = ([], refl)
node_begins g None (Some row) t asked = (_, refl)
node_begins g (Some es) (Some row) t asked = (_, refl)

seen_begins : (seen : ℕ) (one : LineOf) (whole : List LineOf) → Begins (one ∷ []) whole → Begins (seen_line seen one ∷ []) (seen_lines seen whole)
seen_begins seen one whole begins = (begins.0, ap (seen_lines seen) begins.1)

abbrev Starts : List LineOf × Machine → List LineOf × Machine → Type 0
Starts check why = Begins check.0 why.0 × (why.1 ≡ check.1)

outcomes_begin : (notation : Notation) (m : Machine) (reader : ℕ) (path : Names) (t : TokenValue) (asked : ℕ)
    → Starts (outcome m (requests.Check reader path t asked)) (outcome_of notation m reader path (Why t asked))
outcomes_begin notation m reader path t asked =
    let tree = replay m.opening m.published in
    by_reader Starts m reader _ _
    (seen_begins (length m.published) _ _ (node_begins m.opening.mapping (dacl_at m.opening.mapping tree path) (row_at tree path) t asked), refl)
    (([], refl), refl)

pub begins_as_check : BeginsAsCheck
begins_as_check notation m reader path t asked checked told one other first second =
    let check = one_step m (requests.Check reader path t asked) first.0 first.1 checked first.2 first.3 in
    let both = outcomes_begin notation m reader path t asked in (
      (both.0.0, second.0 ∙ both.0.1 ∙ ap (λ (z : List LineOf × Machine). z.0 ++ both.0.0) (sym check)),
      second.1 ∙ ap (Opened notation) (both.1 ∙ ap (λ (z : List LineOf × Machine). z.1) (sym check)) ∙ sym first.4,
    )

-- ---- `delete` is granted by the node just where `check` for DELETE is granted

-- the first line without by how long a journal it is answered
abbrev unseen : List LineOf → LineOf
unseen [] = line_with [] []
unseen (l ∷ ls) = line_with l.kind (drop 1 l.parts)

after_seen : (len : ℕ) (x y : LineOf) → seen_line len x ∷ [] ≡ seen_line len y ∷ [] → x ≡ y
after_seen len x y same = ap unseen same

abbrev kind_of : LineOf → List ℕ
kind_of l = l.kind

abbrev values_of : List PartOf → List Value
values_of [] = []
values_of (p ∷ ps) = p.values

abbrev first_values : LineOf → List Value
first_values l = values_of l.parts

-- the line of no other verdict is that of a grant
denied_is_no_grant : (missing mask : ℕ) → verdict_line (Denied missing) ≡ verdict_line (Granted mask) → ⊥
denied_is_no_grant missing mask same = let kinds : codes "denied" ≡ codes "granted" = ap kind_of same in absurd (cc kinds)

reserved_is_no_grant : (bits mask : ℕ) → verdict_line (Reserved bits) ≡ verdict_line (Granted mask) → ⊥
reserved_is_no_grant bits mask same = let kinds : codes "reserved" ≡ codes "granted" = ap kind_of same in absurd (cc kinds)

empty_is_no_grant : (mask : ℕ) → verdict_line EmptyRequest ≡ verdict_line (Granted mask) → ⊥
empty_is_no_grant mask same = let kinds : codes "empty" ≡ codes "granted" = ap kind_of same in absurd (cc kinds)

no_node_is_no_grant : (mask : ℕ) → check_line NoNode ≡ verdict_line (Granted mask) → ⊥
no_node_is_no_grant mask same = let kinds : codes "no node" ≡ codes "granted" = ap kind_of same in absurd (cc kinds)

-- nor is a deletion granted by the node where the parent alone grants it, or none does
parent_is_no_node : granted_by (codes "parent") ≡ granted_by (codes "node") → ⊥
parent_is_no_node same =
    let values : Text (codes "parent") ∷ [] ≡ Text (codes "node") ∷ [] = ap first_values same in absurd (cc values)

denied_is_not_by_node : plain_line (form DENIED_ALL) ≡ granted_by (codes "node") → ⊥
denied_is_not_by_node same = let kinds : codes "denied" ≡ codes "granted" = ap kind_of same in absurd (cc kinds)

no_node_is_not_by_node : plain_line (form NO_NODE) ≡ granted_by (codes "node") → ⊥
no_node_is_not_by_node same = let kinds : codes "no node" ≡ codes "granted" = ap kind_of same in absurd (cc kinds)

by_parent_is_not_by_node : (by_parent : Bool) → (if by_parent then granted_by (codes "parent") else plain_line (form DENIED_ALL)) ≡ granted_by (codes "node") → ⊥
by_parent_is_not_by_node true same = parent_is_no_node same
by_parent_is_not_by_node false same = denied_is_not_by_node same

abbrev AreAlike : ℕ → LineOf → LineOf → Type 0
AreAlike len checked deleted =
    (IsGranted len (checked ∷ []) → deleted ∷ [] ≡ by_node len) × (deleted ∷ [] ≡ by_node len → IsGranted len (checked ∷ []))

neither : (len : ℕ) (checked deleted : LineOf) → ((mask : ℕ) → checked ≡ verdict_line (Granted mask) → ⊥) → (deleted ≡ granted_by (codes "node") → ⊥)
    → AreAlike len (seen_line len checked) (seen_line len deleted)
neither len checked deleted other others = (
  λ is. absurd (other is.0 (after_seen len checked (verdict_line (Granted is.0)) is.1)),
  λ is. absurd (others (after_seen len deleted (granted_by (codes "node")) is)),
)

-- by the reply to the check
replies_alike : (len : ℕ) (reply : CheckReply) (by_parent : Bool)
    → AreAlike len (seen_line len (check_line reply)) (seen_line len (deletion_line reply by_parent))
replies_alike len NoNode by_parent = neither len _ _ no_node_is_no_grant no_node_is_not_by_node
replies_alike len (Verdict (Granted mask)) by_parent = (λ is. refl, λ is. (mask, refl))
replies_alike len (Verdict (Denied missing)) by_parent = neither len _ _ (denied_is_no_grant missing) (by_parent_is_not_by_node by_parent)
replies_alike len (Verdict (Reserved bits)) by_parent = neither len _ _ (reserved_is_no_grant bits) (by_parent_is_not_by_node by_parent)
replies_alike len (Verdict EmptyRequest) by_parent = neither len _ _ empty_is_no_grant (by_parent_is_not_by_node by_parent)

abbrev Alike : ℕ → List LineOf × Machine → List LineOf × Machine → Type 0
Alike len check deletion =
    (IsGranted len check.0 → deletion.0 ≡ by_node len) × (deletion.0 ≡ by_node len → IsGranted len check.0) × (deletion.1 ≡ check.1)

nobody_alike : (len : ℕ) (m : Machine) → Alike len (nobody m) (nobody m)
nobody_alike len m = (
  λ is. let kinds : codes "no reader" ≡ codes "granted" = ap first_kind is.1 in absurd (cc kinds),
  λ is. let kinds : codes "no reader" ≡ codes "granted" = ap first_kind is in absurd (cc kinds),
  refl,
)

pub deletes_as_checked : DeletesAsChecked
deletes_as_checked notation m reader path t checked told one other first second =
    let len = length m.published in
    let by_parent = parent_grants m.opening m.published path t in
    let check = one_step m (requests.Check reader path t delete_right) first.0 first.1 checked first.2 first.3 in
    let alike = replies_alike len (answer m.opening m.published path t delete_right) by_parent in
    let both : Alike len (outcome m (requests.Check reader path t delete_right)) (outcome_of notation m reader path (Delete t)) =
    by_reader (Alike len) m reader _ _ (alike.0, alike.1, refl) (nobody_alike len m) in
    let lines = ap (λ (z : List LineOf × Machine). z.0) check in (
      λ is. second.0 ∙ both.0 (subst (IsGranted len) lines is),
      λ is. subst (IsGranted len) (sym lines) (both.1 (sym second.0 ∙ is)),
      second.1 ∙ ap (Opened notation) (both.2 ∙ sym (ap (λ (z : List LineOf × Machine). z.1) check)) ∙ sym first.4,
    )
