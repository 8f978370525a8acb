-- Lines that are made of a tree aren't counted.
use Rattle.sd_script.proofs.Cited.{All, Bool, LineOf, List, MappingValue, Names, None, NodeRow, Option, PlainTree, Some, [], ap, append_assoc, codes, entries, false, flat_map, line_with, refl, replay, sym, tallied, true, ℕ, ◌++◌, ◌∙◌, ◌∷◌, ◌≡◌}
use Rattle.std.specs.Prelude.{map, if◌then◌else◌}
use Rattle.std.proofs.lemmas.List.Elements.{All-append, All-cons, All-head, All-nil, All-tail}
use Rattle.sd_acl.specs.Descriptor.{DescriptorValue}
use Rattle.sd_edit.specs.Answers.{descriptor_at, reply_in}
use Rattle.sd_inheritance.specs.declared.kind.NodeKind.{NodeKind}
use Rattle.sd_inheritance.specs.declared.kind.NodeKind.TheVariants.{Container, Object}
use Rattle.sd_path.specs.Names.{is_root, is_within}
use Rattle.sd_line.specs.Line.{form, is_of, line_of}
use Rattle.sd_answer.specs.declared.forms.TheConstants.{OPEN}
use Rattle.sd_line.specs.declared.line.Value.{Value}
use Rattle.sd_script.specs.Answer.{made_lines}
use Rattle.sd_edit.specs.declared.node.NodeDacl.{NodeDacl}
use Rattle.sd_edit.specs.declared.node.NodeDacl.TheVariants.{Null, List as Entries, Stored}
use Rattle.sd_edit.specs.Descriptors.{own_descriptor_of_row}
use Rattle.sd_line.specs.declared.line.Value.TheVariants.{Descriptor, Text}
use Rattle.sd_script.specs.Dump.{adding_form, adding_line, descriptor_of_list, making_line, storing_form}
use Rattle.sd_script.specs.Paths.{path_word}
use Rattle.sd_script.specs.Listing.{grants, lines_at, lines_below, node_lines}
use Rattle.sd_script.specs.declared.answer.Made.{Made}
use Rattle.sd_script.specs.declared.answer.Made.TheVariants as made
use Rattle.sd_script.specs.declared.listing.NodeFilter.{NodeFilter}
use Rattle.sd_script.specs.declared.listing.NodeFilter.TheVariants as filters
use Rattle.sd_script.specs.declared.paths.PathSpelling.{PathSpelling}
use Rattle.sd_script.specs.declared.script_counts.ScriptCounts.{ScriptCounts}

-- of no kind that is counted
abbrev pub Quiet : LineOf → Type 0
Quiet l =
    (is_of (codes "fault") l ≡ false) × (is_of (codes "refused") l ≡ false) × (is_of (codes "ok") l ≡ false)
    × (is_of (codes "opened") l ≡ false)

quiet_first : (line : List ℕ) (ls : List LineOf) (t : ScriptCounts) → All Quiet ls → tallied line [] t ≡ tallied line ls t
quiet_first line [] t all = refl
quiet_first line (l ∷ ls) t all =
    let quiet = All-head Quiet l ls all in rw (quiet.0, quiet.1, quiet.2, quiet.3) refl

-- of an answer its first lines are counted, where those after them are quiet
pub said_counts : (line : List ℕ) (said quiet : List LineOf) (t : ScriptCounts) → All Quiet quiet → tallied line said t ≡ tallied line (said ++ quiet) t
said_counts line [] quiet t all = quiet_first line quiet t all
said_counts line (l ∷ ls) quiet t all = refl

-- ---- the lines of a tree

one : (l : LineOf) → Quiet l → All Quiet (l ∷ [])
one l quiet = All-cons Quiet l [] quiet (All-nil Quiet)

node_quiet : (paths : PathSpelling) (kind : NodeKind) (path : Names) (d : Option DescriptorValue) → All Quiet (node_lines paths kind path d)
node_quiet paths kind path None = All-nil Quiet
node_quiet paths Container path (Some d) = one _ (refl, refl, refl, refl)
node_quiet paths Object path (Some d) = one _ (refl, refl, refl, refl)

where_quiet : (b : Bool) (ls : List LineOf) → All Quiet ls → All Quiet (if b then ls else [])
where_quiet true ls all = all
where_quiet false ls all = All-nil Quiet

at_quiet : (paths : PathSpelling) (g : MappingValue) (t : PlainTree) (which : NodeFilter) (node : Names × NodeRow) → All Quiet (lines_at paths g t which node)
at_quiet paths g t filters.All node = node_quiet paths node.1.kind node.0 (descriptor_at g t node.0)
at_quiet paths g t (filters.Granting token asked) node = where_quiet (grants (reply_in g t node.0 token asked)) _ (one _ (refl, refl, refl, refl))

pieces_quiet : {A : Type 0} (f : A → List LineOf) → ((e : A) → All Quiet (f e)) → (es : List A) → All Quiet (flat_map f es)
pieces_quiet f each [] = All-nil Quiet
pieces_quiet f each (e ∷ es) = All-append Quiet (f e) (flat_map f es) (each e) (pieces_quiet f each es)

adding_form_quiet : (kind : NodeKind) (adds : List Value) → Quiet (line_of (adding_form kind) adds)
adding_form_quiet Container adds = (refl, refl, refl, refl)
adding_form_quiet Object adds = (refl, refl, refl, refl)

storing_form_quiet : (kind : NodeKind) (adds : List Value) → Quiet (line_of (storing_form kind) adds)
storing_form_quiet Container adds = (refl, refl, refl, refl)
storing_form_quiet Object adds = (refl, refl, refl, refl)

adding_quiet : (paths : PathSpelling) (node : Names × NodeRow) (dacl : NodeDacl) → Quiet (adding_line paths node dacl)
adding_quiet paths node Null = adding_form_quiet node.1.kind (Text (path_word paths node.0) ∷ Descriptor (own_descriptor_of_row node.1) ∷ [])
adding_quiet paths node (Entries protected own) = adding_form_quiet node.1.kind (Text (path_word paths node.0) ∷ Descriptor (own_descriptor_of_row node.1) ∷ [])
adding_quiet paths node (Stored own inherited offer) =
    storing_form_quiet node.1.kind
    (Text (path_word paths node.0) ∷ Descriptor (own_descriptor_of_row node.1) ∷ Descriptor (descriptor_of_list inherited) ∷ Descriptor (descriptor_of_list offer) ∷ [])

making_quiet : (paths : PathSpelling) (root : Bool) (node : Names × NodeRow) (opens : List Value)
    → Quiet (if root then line_of (form OPEN) opens else adding_line paths node node.1.dacl)
making_quiet paths true node opens = (refl, refl, refl, refl)
making_quiet paths false node opens = adding_quiet paths node node.1.dacl

each_quiet : (paths : PathSpelling) (readers : ℕ) (es : List (Names × NodeRow)) → All Quiet (map (making_line paths readers) es)
each_quiet paths readers [] = All-nil Quiet
each_quiet paths readers (e ∷ es) =
    All-cons Quiet (making_line paths readers e) (map (making_line paths readers) es) (making_quiet paths (is_root e.0) e _) (each_quiet paths readers es)

made_quiet : (m : Made) → All Quiet (made_lines m)
made_quiet made.Nothing = All-nil Quiet
made_quiet (made.Nodes n) =
    let t = replay n.value.tree.opening n.value.tree.journal in
    let g = n.value.tree.opening.mapping in
    pieces_quiet (lines_below n.value.paths g t n.value.top n.value.which) (λ node. where_quiet (is_within n.value.top node.0) _ (at_quiet n.value.paths g t n.value.which node)) (entries t)
made_quiet (made.Dump d) =
    All-append Quiet _ _ (each_quiet d.value.notation.paths d.value.readers (entries (replay d.value.tree.opening d.value.tree.journal))) (one _ (refl, refl, refl, refl))

ends_quiet : (ends : List LineOf) → All (λ l. l ≡ line_with [] []) ends → All Quiet ends
ends_quiet [] all = All-nil Quiet
ends_quiet (l ∷ ls) all =
    All-cons Quiet l ls (rw (All-head (λ l. l ≡ line_with [] []) l ls all) (refl, refl, refl, refl)) (ends_quiet ls (All-tail (λ l. l ≡ line_with [] []) l ls all))

-- none of the lines after an answer's first ones is counted
pub answer_counts : (line : List ℕ) (lines ends : List LineOf) (m : Made) (t : ScriptCounts) → All (λ l. l ≡ line_with [] []) ends
    → tallied line lines t ≡ tallied line (lines ++ made_lines m ++ ends) t
answer_counts line lines ends m t all =
    said_counts line lines (made_lines m ++ ends) t (All-append Quiet (made_lines m) ends (made_quiet m) (ends_quiet ends all))
    ∙ ap (λ (ls : List LineOf). tallied line ls t) (sym (append_assoc lines (made_lines m) ends))
