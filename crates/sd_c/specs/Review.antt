-- What `hudarin_store_review` returns: what a publish would change, one node at a time, for all tokens.
use Rattle.std.specs.Prelude.{◌≡◌, ◌⊎◌, ℕ, ◌-◌, ◌==◌, List, [], ◌++◌, length, Option, Some, None, IsSome}
use Rattle.std.specs.Prelude.{if◌then◌else◌, is_some, slice_get, string_bytes}
use Rattle.std.specs.FinMap.{entries}
use Rattle.sd_path.specs.Names.{Names}
use Rattle.sd_path.specs.PathText.{text_of}
use Rattle.sd_edit.specs.Answers.{kind_at}
use Rattle.sd_edit.specs.declared.node.NodeRow.{NodeRow}
use Rattle.sd_versions.specs.Versions.{VersionsValue}
use Rattle.sd_review.specs.Compared.{IsComparedAt}
use Rattle.sd_review.specs.Lines.{lines}
use Rattle.sd_review.specs.Review.{Trees, former, trees_after}
use Rattle.sd_review.specs.declared.compared.Compared.{Compared}
use Rattle.sd_review.specs.declared.review.Former.{Former}
use Rattle.sd_review.specs.declared.review.Former.TheVariants.{Same, Moved, New}
use Rattle.sd_c.specs.declared.call_answer.Written.{Written}
use Rattle.sd_c.specs.declared.handle.Handle.{Handle}
use Rattle.sd_c.specs.declared.handle.kept.Kept.{Kept}
use Rattle.sd_c.specs.declared.not_done.NotDone.{NotDone}
use Rattle.sd_c.specs.declared.not_done.NotDone.TheVariants as reasons
use Rattle.sd_c.specs.declared.review.Changes.{Changes}
use Rattle.sd_c.specs.declared.review.NodeReview.{NodeReview}
use Rattle.sd_c.specs.declared.review.ReviewAnswer.{ReviewAnswer}
use Rattle.sd_c.specs.declared.review.MadeReview.{MadeReview}
use Rattle.sd_c.specs.Analysis.{bits_of}
use Rattle.sd_c.specs.Kept.{Keeps, lines_in, store_in}
use Rattle.sd_c.specs.Views.{not_told}
use Rattle.sd_c.specs.Written.{Writes, not_written}

-- ---- what tokens gain and lose

abbrev pub AreNone : Changes → Type 0
AreNone changes = (changes.lines.items ≡ []) × (changes.gained ≡ 0) × (changes.lost ≡ 0)

-- the lines of a comparison, and the bits of its node; none where one of the nodes isn't there
abbrev pub AreChangesOf : Option Compared → Changes → Type 0
AreChangesOf None changes = AreNone changes
AreChangesOf (Some c) changes =
    (changes.lines.items ≡ lines c) × (changes.gained ≡ bits_of c.comparison.gained.items)
    × (changes.lost ≡ bits_of c.comparison.lost.items)

-- of the node at a path, beside the node at a path of the published tree, for all tokens
abbrev pub AreChangesAt : Trees → Names → Names → Changes → Type 0
AreChangesAt ts before path changes = (c : Option Compared) × IsComparedAt ts before path c × AreChangesOf c changes

-- ---- a node

-- 1 where there is no line: no token gains or loses a right, of the node or of what is made in it. Else 2
abbrev pub same_or_changed : Changes → ℕ
same_or_changed changes = if length changes.lines.items == 0 then 1 else 2

-- a node of the store's tree: 1 or 2 where a published node is at its path, 4 with the path that it was moved from,
-- else 3
abbrev pub IsReviewOf : Trees → Names → Former → NodeReview → Type 0
IsReviewOf ts path Same r =
    AreChangesAt ts path path r.changes × (string_bytes r.before ≡ []) × (r.what ≡ same_or_changed r.changes)
IsReviewOf ts path (Moved before) r =
    AreChangesAt ts before path r.changes × (string_bytes r.before ≡ text_of before) × (r.what ≡ 4)
IsReviewOf ts path New r = AreNone r.changes × (string_bytes r.before ≡ []) × (r.what ≡ 3)

abbrev pub IsNodeReview : Trees → Names → NodeReview → Type 0
IsNodeReview ts path r = (string_bytes r.path ≡ text_of path) × IsReviewOf ts path (former ts path) r

-- a published node: 6 where the store's tree has a node at its path, else 5
abbrev pub IsPublishedReview : Trees → Names → NodeReview → Type 0
IsPublishedReview ts path r =
    (string_bytes r.path ≡ text_of path) × AreNone r.changes × (string_bytes r.before ≡ [])
    × (r.what ≡ if is_some (kind_at ts.new path) then 6 else 5)

-- ---- the nodes of both trees: those of the store's tree in path order, then the published ones

abbrev pub trees_in : VersionsValue → Trees
trees_in v = trees_after v.opening v.published v.pending

-- the published node at a place
abbrev pub published_at : Trees → ℕ → Option (Names × NodeRow)
published_at ts place = slice_get (entries ts.old) (place - length (entries ts.new))

abbrev pub IsReviewAt : Trees → ℕ → NodeReview → Type 0
IsReviewAt ts place r =
    ((node : Names × NodeRow) × (slice_get (entries ts.new) place ≡ Some node) × IsNodeReview ts node.0 r)
    ⊎ ((node : Names × NodeRow) × (slice_get (entries ts.new) place ≡ None) × (published_at ts place ≡ Some node)
    × IsPublishedReview ts node.0 r)

-- why there is none: no node is at the place in either, or out of memory where one is
abbrev pub IsNoReviewAt : Trees → ℕ → NotDone → Type 0
IsNoReviewAt ts place why =
    ((slice_get (entries ts.new) place ≡ None) × (published_at ts place ≡ None) × (why ≡ reasons.NoNode))
    ⊎ ((IsSome (slice_get (entries ts.new) place) ⊎ IsSome (published_at ts place)) × (why ≡ reasons.Memory))

-- ---- the call

abbrev pub IsNotReviewed : Kept → ℕ → NotDone → Type 0
IsNotReviewed store place why =
    ((store_in store ≡ None) × (why ≡ reasons.StoreHandle))
    ⊎ ((v : VersionsValue) × (store_in store ≡ Some v) × IsNoReviewAt (trees_in v) place why)

-- the path, and the one before a move
abbrev pub text_in : NodeReview → List ℕ
text_in r = string_bytes r.path ++ string_bytes r.before

abbrev pub IsTold : NodeReview → ReviewAnswer → Type 0
IsTold r told =
    (told.what ≡ r.what) × (told.gained ≡ r.changes.gained) × (told.lost ≡ r.changes.lost)
    × (told.path ≡ length (string_bytes r.path)) × (told.before ≡ length (string_bytes r.before))

-- a node's review as it is answered
abbrev pub IsMadeOf : NodeReview → MadeReview → Type 0
IsMadeOf r made =
    (string_bytes made.text ≡ text_in r) × (lines_in made.lines.value ≡ Some r.changes.lines.items)
    × IsTold r made.answer

-- the review of the place
abbrev pub IsReviewed : Kept → ℕ → MadeReview → Type 0
IsReviewed store place made =
    (v : VersionsValue) × (r : NodeReview) × (store_in store ≡ Some v) × IsReviewAt (trees_in v) place r
    × IsMadeOf r made

abbrev pub with_written : ReviewAnswer → Written → ReviewAnswer
with_written told written = record {
  written = written;
  what = told.what;
  gained = told.gained;
  lost = told.lost;
  path = told.path;
  before = told.before;
}

-- what was made is kept where the paths fit their buffer
abbrev pub KeepsWritten : Written → Kept → Handle → Handle → Type 0
KeepsWritten written kept old new =
    ((written.status ≡ 0) × Keeps new kept) ⊎ ((written.status ≡ 2) × (new ≡ old))

abbrev pub unreviewed : Written → ReviewAnswer
unreviewed written = record { written = written; what = 0; gained = 0; lost = 0; path = 0; before = 0 }

-- a node's paths are written and its lines kept, or the buffer is too small for the paths; or nothing is, for a reason
-- that holds
abbrev pub Reviews : Handle → ℕ → List ℕ → List ℕ → Handle → Handle → ReviewAnswer → Type 0
Reviews store place old new old_lines new_lines told =
    ((made : MadeReview) × (store.is_there ≡ 1) × (old_lines.is_there ≡ 0) × IsReviewed store.seal.kept place made
    × Writes (string_bytes made.text) old new told.written
    × KeepsWritten told.written made.lines.value old_lines new_lines × (told ≡ with_written made.answer told.written))
    ⊎ ((why : NotDone) × (store.is_there ≡ 1) × (old_lines.is_there ≡ 0) × IsNotReviewed store.seal.kept place why
    × (new ≡ old) × (new_lines ≡ old_lines) × (told ≡ unreviewed (not_told why)))
    ⊎ ((store.is_there ≡ 0) × (old_lines.is_there ≡ 0) × (new ≡ old) × (new_lines ≡ old_lines)
    × (told ≡ unreviewed (not_told reasons.StoreHandle)))
    ⊎ ((old_lines.is_there ≡ 1) × (new ≡ old) × (new_lines ≡ old_lines) × (told ≡ unreviewed (not_written 11 0 0)))
