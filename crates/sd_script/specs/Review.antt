-- What `review` answers: what the pending edits change, node by node, for all tokens.
use Rattle.std.specs.Prelude.{◌≡◌, ℕ, Bool, true, false, ◌&&◌, ◌||◌, List, [], ◌∷◌, ◌++◌, length, MatchBool}
use Rattle.std.specs.Prelude.{if◌then◌else◌, Option, is_none, codes}
use Rattle.std.specs.FinMap.{entries}
use Rattle.std.specs.List.{flat_map}
use Rattle.sd_edit.specs.Answers.{kind_at}
use Rattle.sd_path.specs.Names.{Names, is_within}
use Rattle.sd_edit.specs.declared.node.NodeRow.{NodeRow}
use Rattle.sd_edit.specs.Machine.{Machine, accepted}
use Rattle.sd_review.specs.Compared.{IsComparedAt}
use Rattle.sd_review.specs.Lines.{lines_of, with_path}
use Rattle.sd_review.specs.Review.{Trees, former, stands_in, trees_after}
use Rattle.sd_review.specs.declared.compared.Compared.{Compared}
use Rattle.sd_review.specs.declared.review.Former.{Former}
use Rattle.sd_review.specs.declared.review.Former.TheVariants.{Same, Moved, New}
use Rattle.sd_answer.specs.VerdictLines.{fault_line}
use Rattle.sd_answer.specs.declared.forms.TheConstants.{GONE, MOVED, NEW_NODE, NO_NODE, REVIEWED}
use Rattle.sd_line.specs.Line.{LineOf, form, line_of}
use Rattle.sd_line.specs.declared.line.Value.TheVariants.{Number, Text}
use Rattle.sd_script.specs.Listing.{lacks_words}
use Rattle.sd_script.specs.Paths.{path_word}
use Rattle.sd_script.specs.Reply.{plain_line}
use Rattle.sd_script.specs.declared.paths.PathSpelling.{PathSpelling}

abbrev pub trees_in : Machine → Trees
trees_in m = trees_after m.opening m.published m.pending

-- ---- the lines

-- the lines of the node at a path beside the node at a path of the old tree, each after a head: what tokens gain and
-- lose of it, and of what is made in it, and whether its list is protected from inheritance where it was not
abbrev pub IsCompared : PathSpelling → Trees → Names → Names → List LineOf → Type 0
IsCompared paths ts before path lines =
    (c : Option Compared) × IsComparedAt ts before path c × (lines ≡ with_path (path_word paths path) (lines_of c))

abbrev pub new_line : PathSpelling → Names → LineOf
new_line paths path = line_of (form NEW_NODE) (Text (path_word paths path) ∷ [])

abbrev pub moved_line : PathSpelling → Names → Names → LineOf
moved_line paths before path = line_of (form MOVED) (Text (path_word paths before) ∷ Text (path_word paths path) ∷ [])

-- the lines of a node of the new tree
abbrev pub AreNodeLines : PathSpelling → Trees → Names → Former → List LineOf → Type 0
AreNodeLines paths ts path Same lines = IsCompared paths ts path path lines
AreNodeLines paths ts path (Moved before) lines =
    (changes : List LineOf) × IsCompared paths ts before path changes
    × (lines ≡ moved_line paths before path ∷ changes)
AreNodeLines paths ts path New lines = lines ≡ new_line paths path ∷ []

-- of one at or below the top
abbrev pub IsNodeReview : PathSpelling → Trees → Names → Names × NodeRow → List LineOf → Type 0
IsNodeReview paths ts top node lines =
    MatchBool (is_within top node.0) (AreNodeLines paths ts node.0 (former ts node.0) lines) (lines ≡ [])

-- the line of a node of the old tree, if no node stands at its path in the new one
abbrev pub gone_lines : PathSpelling → Trees → Names → Names × NodeRow → List LineOf
gone_lines paths ts top node =
    if is_within top node.0 && is_none (kind_at ts.new node.0)
    then line_of (form GONE) (Text (path_word paths node.0) ∷ []) ∷ [] else []

-- these are the lines of each, one after the other
abbrev pub AreTold : {A : Type 0} → (A → List LineOf → Type 0) → List A → List LineOf → Type 0
AreTold P [] lines = lines ≡ []
AreTold P (x ∷ xs) lines = (one : List LineOf) × (rest : List LineOf) × P x one × AreTold P xs rest
    × (lines ≡ one ++ rest)

-- the last line: the lengths of the journals that were compared
abbrev pub reviewed_line : ℕ → ℕ → LineOf
reviewed_line old new = line_of (form REVIEWED) (Number old ∷ Number new ∷ [])

abbrev pub IsReviewOf : PathSpelling → Trees → Names → LineOf → Bool → Bool → List LineOf → Type 0
IsReviewOf paths ts top last false lacks lines = lines ≡ plain_line (form NO_NODE) ∷ []
IsReviewOf paths ts top last true true lines = lines ≡ fault_line (codes "name") ∷ []
IsReviewOf paths ts top last true false lines =
    (changes : List LineOf) × AreTold (IsNodeReview paths ts top) (entries ts.new) changes
    × (lines ≡ changes ++ flat_map (gone_lines paths ts top) (entries ts.old) ++ last ∷ [])

abbrev pub has_no_words : PathSpelling → Trees → Bool
has_no_words paths ts = lacks_words paths ts.old [] || lacks_words paths ts.new []

abbrev pub IsReview : PathSpelling → Machine → Names → List LineOf → Type 0
IsReview paths m top lines =
    IsReviewOf paths (trees_in m) top (reviewed_line (length m.published) (length (accepted m)))
    (stands_in (trees_in m) top) (has_no_words paths (trees_in m)) lines
