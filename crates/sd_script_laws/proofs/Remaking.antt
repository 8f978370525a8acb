-- The lines of a dump, answered one after the other: an opening, one addition for each other node, and a publish.
use Rattle.std.proofs.Common.{◌≡◌, ◌&&◌, filter, ℕ, Bool, true, false, List, [], ◌∷◌, ◌++◌, length, map, take, Some, None, inl, inr, refl, sym, ◌∙◌, ap, subst, replicate, slice_get, append_assoc, append-nil}
use Rattle.std.specs.Prelude.{MatchBool}
use Rattle.std.specs.Str.Lines.{lines}
use Rattle.std.proofs.lemmas.List.{length-replicate}
use Rattle.sd_edit.specs.Additions.{addition_of, root_of}
use Rattle.sd_path.specs.Names.{Names}
use Rattle.sd_edit.specs.Plain.{row_at}
use Rattle.sd_edit.specs.Journal.{replay, refusal, root_refusal, IsLawful}
use Rattle.sd_edit.specs.declared.edit.Edit.{Edit}
use Rattle.sd_edit.specs.declared.node.NodeRow.{NodeRow}
use Rattle.sd_edit.specs.declared.opening.Opening.{Opening}
use Rattle.sd_edit.proofs.Closed.{closed_replay}
use Rattle.sd_tree_laws.proofs.Remade.{addition as added, a_container, first_entry, remade as made_again}
use Rattle.sd_edit.specs.Machine.{Machine}
use Rattle.sd_edit.specs.Starts.{IsReaderCount}
use Rattle.sd_edit.specs.declared.request.Request.TheVariants as requests
use Rattle.sd_edit.specs.declared.request.Reply.TheVariants as replies
use Rattle.sd_answer.specs.declared.forms.TheConstants.{OPENED, PUBLISHED}
use Rattle.sd_line.specs.Line.{LineOf, form}
use Rattle.sd_line.specs.Printed.{lines_text}
use Rattle.sd_acl.specs.Canonical.{is_explicit, is_inherited}
use Rattle.sd_acl.specs.declared.ace.Ace.{Ace}
use Rattle.sd_edit.proofs.SameLists.{same_decides}
use Rattle.sd_edit.specs.Inheritance.{inherited_entry, same_list}
use Rattle.sd_edit.specs.declared.node.NodeDacl.{NodeDacl}
use Rattle.sd_edit.specs.declared.node.NodeDacl.TheVariants.{Null, List as Entries, Stored}
use Rattle.sd_script.specs.Argument.{given_with}
use Rattle.sd_script.specs.Importing.{entries_at, imported_words}
use Rattle.sd_script.specs.Dump.{adding, makings, dump_text, IsAskedBy, AreAskedBy, IsReadBack}
use Rattle.sd_script.specs.Output.{is_open, script_options_of, opening_in, IsAnswered, IsDone, IsTold, closing_of}
use Rattle.sd_script.specs.Reply.{counted_line, ok_line}
use Rattle.sd_script.specs.declared.line_request.LineRequest.{LineRequest}
use Rattle.sd_script.specs.declared.line_request.LineRequest.TheVariants.{Opening as Opens, Asking, Importing}
use Rattle.sd_script.specs.declared.script_options.ScriptOptions.{ScriptOptions}
use Rattle.sd_script.specs.declared.script_options.Notation.{Notation}
use Rattle.sd_script.specs.declared.session.Session.{Session}
use Rattle.sd_script.specs.declared.session.Session.TheVariants.{Closed, Opened}
use Rattle.sd_script.proofs.NoId.{asks_and_expects_nothing}
use Rattle.sd_script.proofs.OneOutput.{has_one_answer}
use Rattle.sd_script.proofs.Timely.{line_opens}
use Rattle.sd_script_laws.specs.Laws.{Reaches, same_script_options, IsSound, MakesAgain, DumpMakesTheTreeAgain}

-- ---- one line

-- what a line asks for is done
answers : (old new : Session) (text : List ℕ) (told : List LineOf) (asked : LineRequest) → IsAskedBy (script_options_of old).notation (is_open old) text asked → IsDone old asked told new
    → IsAnswered old text (told ++ closing_of text) new
answers old new text told asked is done =
    let P : Bool → Type 0 = λ silent. MatchBool silent
    ((told ++ closing_of text ≡ []) × (new ≡ old))
    ((said : List LineOf) × IsTold old text said new × (told ++ closing_of text ≡ said ++ closing_of text)) in
    subst P (sym is.0) (told, inl (asked, is.1, done), refl)

-- and the rest of the lines behind it
goes_on : (old between new : Session) (text : List ℕ) (told : List LineOf) (texts : List (List ℕ)) (asked : LineRequest) → IsAskedBy (script_options_of old).notation (is_open old) text asked → IsDone old asked told between
    → Reaches between texts new → Reaches old (text ∷ texts) new
goes_on old between new text told texts asked is done rest = (
  told ++ closing_of text,
  between,
  asks_and_expects_nothing (script_options_of old).notation (is_open old) text asked is.1,
  answers old between text told asked is done,
  rest,
)

-- ---- the additions

-- a store of which so many edits wait, and one of which they are published
abbrev waiting : Opening → ℕ → List Edit → Machine
waiting o n edits = record { opening = o; published = []; pending = edits; floors = replicate n [] }

abbrev shown : Opening → ℕ → List Edit → Machine
shown o n edits = record { opening = o; published = edits; pending = []; floors = replicate n [] }

-- where an edit stands in a journal
at_its_place : (front : List Edit) (e : Edit) (back : List Edit) → slice_get (front ++ e ∷ back) (length front) ≡ Some e
at_its_place [] e back = refl
at_its_place (x ∷ front) e back = at_its_place front e back

before_it : (front : List Edit) (e : Edit) (back : List Edit) → take (length front) (front ++ e ∷ back) ≡ front
before_it [] e back = refl
before_it (x ∷ front) e back = ap (λ xs. x ∷ xs) (before_it front e back)

next_fits : (o : Opening) (front : List Edit) (e : Edit) (back : List Edit) → IsLawful o (front ++ e ∷ back) → refusal o front e ≡ None
next_fits o front e back lawful =
    subst (λ edits. refusal o edits e ≡ None) (before_it front e back) (lawful (length front) e (at_its_place front e back))

module _ (notation : Notation) (o : Opening) (n : ℕ) where
  -- an edit joins those that wait
  adds : (front : List Edit) (e : Edit) → refusal o front e ≡ None → IsDone (Opened notation (waiting o n front)) (Asking (requests.Edit e)) (ok_line [] ∷ []) (Opened notation (waiting o n (front ++ e ∷ [])))
  adds front e fits = (replies.Edited, waiting o n (front ++ e ∷ []), (fits, refl), refl, refl)

  -- so does that of a node that was stored, and the answer compares its entries
  imports : (front : List Edit) (e : Edit) (path : Names) (own inherited : List Ace) → refusal o front e ≡ None
      → (told : List LineOf) × IsDone (Opened notation (waiting o n front)) (Importing e path (given_with own inherited true)) told (Opened notation (waiting o n (front ++ e ∷ [])))
  imports front e path own inherited fits =
      let machine = waiting o n (front ++ e ∷ []) in
      let given = given_with own inherited true in
      let had = own ++ map inherited_entry inherited in
      let behind = same_list (filter is_inherited (entries_at machine path)) (filter is_inherited had) in
      let front_too = same_list (filter is_explicit (entries_at machine path)) (filter is_explicit had) in (
        ok_line (imported_words (true && behind) front_too) ∷ [],
        (replies.Edited, machine, (fits, refl), (behind, front_too, same_decides _ _, same_decides _ _, refl), refl),
      )

  adds_node : (front : List Edit) (path : Names) (row : NodeRow) (dacl : NodeDacl) → refusal o front (addition_of row.kind path row) ≡ None
      → (told : List LineOf) × IsDone (Opened notation (waiting o n front)) (adding path row dacl) told (Opened notation (waiting o n (front ++ addition_of row.kind path row ∷ [])))
  adds_node front path row (Stored own inherited offer) fits = imports front (addition_of row.kind path row) path own inherited fits
  adds_node front path row Null fits = (_, adds front (addition_of row.kind path row) fits)
  adds_node front path row (Entries protected own) fits = (_, adds front (addition_of row.kind path row) fits)

  publishes : (front : List Edit) → IsDone (Opened notation (waiting o n front)) (Asking requests.Publish) (counted_line (form PUBLISHED) (length front) ∷ []) (Opened notation (shown o n front))
  publishes front = (replies.Published (length front), shown o n front, (refl, refl), refl, refl)

  nodes_reach : (front : List Edit) (nodes : List (Names × NodeRow)) (texts : List (List ℕ)) → IsLawful o (front ++ map added nodes)
      → AreAskedBy notation true texts (makings n nodes ++ Asking requests.Publish ∷ []) → Reaches (Opened notation (waiting o n front)) texts (Opened notation (shown o n (front ++ map added nodes)))
  nodes_reach front [] [] lawful are = absurd are
  nodes_reach front [] (text ∷ []) lawful are =
      rw (append-nil) (goes_on (Opened notation (waiting o n front)) (Opened notation (shown o n front)) (Opened notation (shown o n front)) text _ [] (Asking requests.Publish) are.0 (publishes front) refl)
  nodes_reach front [] (text ∷ more ∷ texts) lawful are = absurd are.1
  nodes_reach front (node ∷ nodes) [] lawful are = absurd are
  nodes_reach front (([], row) ∷ nodes) (text ∷ texts) lawful are =
      absurd (let no = line_opens notation true text (Opens n (root_of row) true) are.0.1 in cc (no))
  nodes_reach front ((name ∷ names, row) ∷ nodes) (text ∷ texts) lawful are =
      let e : Edit = addition_of row.kind (name ∷ names) row in
      let more = subst (λ edits. IsLawful o edits) (sym (append_assoc front (e ∷ []) (map added nodes))) lawful in
      let rest = nodes_reach (front ++ e ∷ []) nodes texts more are.1 in
      let whole : (front ++ e ∷ []) ++ map added nodes ≡ front ++ map added ((name ∷ names, row) ∷ nodes) =
      append_assoc front (e ∷ []) (map added nodes) in
      let done = adds_node front (name ∷ names) row row.dacl (next_fits o front e (map added nodes) lawful) in
      goes_on (Opened notation (waiting o n front)) (Opened notation (waiting o n (front ++ e ∷ []))) (Opened notation (shown o n (front ++ map added ((name ∷ names, row) ∷ nodes)))) text done.0 texts
      (adding (name ∷ names) row row.dacl) are.0 done.1
      (subst (λ edits. Reaches (Opened notation (waiting o n (front ++ e ∷ []))) texts (Opened notation (shown o n edits))) whole rest)

-- ---- the whole tree

opens : (options : ScriptOptions) (n : ℕ) (row : NodeRow) → IsReaderCount n → root_refusal (opening_in options (root_of row)) ≡ None
    → IsDone (Closed options) (Opens n (root_of row) true) (counted_line (form OPENED) n ∷ []) (Opened options.notation (waiting (opening_in options (root_of row)) n []))
opens options n row count fits = inl (count, fits, refl, refl)

lines_reach : (options : ScriptOptions) (n : ℕ) (row : NodeRow) (nodes : List (Names × NodeRow)) (texts : List (List ℕ)) → IsReaderCount n
    → root_refusal (opening_in options (root_of row)) ≡ None → IsLawful (opening_in options (root_of row)) (map added nodes)
    → AreAskedBy options.notation false texts (makings n (([], row) ∷ nodes) ++ Asking requests.Publish ∷ [])
    → Reaches (Closed options) texts (Opened options.notation (shown (opening_in options (root_of row)) n (map added nodes)))
lines_reach options n row nodes [] count fits lawful are = absurd are
lines_reach options n row nodes (text ∷ texts) count fits lawful are =
    let o = opening_in options (root_of row) in
    goes_on (Closed options) (Opened options.notation (waiting o n [])) (Opened options.notation (shown o n (map added nodes))) text _ texts (Opens n (root_of row) true) are.0 (opens options n row count fits)
    (nodes_reach options.notation o n [] nodes texts lawful are.1)

-- ---- every run

one_end : (old : Session) (texts : List (List ℕ)) (one other : Session) → Reaches old texts one → Reaches old texts other → one ≡ other
one_end old [] one other first second = first ∙ sym second
one_end old (text ∷ texts) one other first second =
    let same = has_one_answer old text first.0 second.0 first.1 second.1 first.3 second.3 in
    one_end second.1 texts one other (subst (λ between. Reaches between texts one) same.1 first.4) second.4

-- ---- the law

remade : (notation : Notation) (m : Machine) (text : List ℕ) → IsSound m → IsReadBack notation (length m.floors) (replay m.opening m.published) text
    → MakesAgain notation m text
remade notation m text sound back =
    let t = replay m.opening m.published in
    let n = length m.floors in
    let held = a_container (row_at t []) (closed_replay m.opening m.published sound.lawful).root in
    let row = held.0 in
    let first = first_entry t row held.1 in
    let o = opening_in (same_script_options notation m) (root_of row) in
    let edits = map added first.0 in
    let makes = made_again m.opening m.published sound.accepted sound.lawful row held.2 held.1 first.0 first.1 in
    let are = subst (λ (es : List (Names × NodeRow)). AreAskedBy notation false (lines text) (makings n es ++ Asking requests.Publish ∷ [])) (sym first.1) back in
    let reach = lines_reach (same_script_options notation m) n row first.0 (lines text) sound.readers makes.accepted makes.lawful are in (
      shown o n edits,
      record { mapping = refl; limits = refl; tree = makes.made; nothing_waits = refl; readers = length-replicate n [] },
      reach,
      λ other reaches. one_end (Closed (same_script_options notation m)) (lines text) other (Opened notation (shown o n edits)) reaches reach,
    )

pub dump_makes_the_tree_again : DumpMakesTheTreeAgain
dump_makes_the_tree_again notation m answer new sound (inl told, same) fault =
    let again = remade notation m (dump_text notation (length m.floors) (replay m.opening m.published)) sound told.0 in
    subst (λ (lines : List LineOf). MakesAgain notation m (lines_text notation.spelling lines)) (sym told.1) again
dump_makes_the_tree_again notation m answer new sound (inr refused, same) fault = absurd (fault refused.1)
