-- Which node is at a place, and which trees are compared.
use Rattle.sd_c.proofs.Cited.{IsSome, Option, Some, Trees, accepted, ap, entries, is_some, len, len-entries, length, published_at, slice_get, trees_of, ℕ, ◌-◌, ◌∙◌, ◌≡◌}
use Rattle.std.proofs.Common.{List, drop}
use Rattle.std.proofs.Math.Seq.{drop-append_seam}
use Rattle.sd_edit.specs.Journal.{replay}
use Rattle.sd_edit.specs.declared.edit.Edit.{Edit}
use Rattle.sd_edit.specs.declared.opening.Opening.{Opening}
use Rattle.sd_review.specs.declared.pending.Review.{Review}
use Rattle.sd_versions.specs.Versions.{VersionsValue}
use Rattle.sd_c.specs.Review.{trees_in}

-- the place of a published node counts those of the store's tree
pub published_place : (ts : Trees) (place count at : ℕ) → count ≡ len ts.new → at ≡ place - count
    → slice_get (entries ts.old) at ≡ published_at ts place
published_place ts place count at is seat =
    ap (slice_get (entries ts.old)) (seat ∙ ap (λ n. place - n) (is ∙ len-entries ts.new))

pub some_there : {A : Type 0} (x : Option A) (a : A) → x ≡ Some a → IsSome x
some_there x a is = ap is_some is

with_pending : Trees → List Edit → Trees
with_pending ts pending = record { mapping = ts.mapping; old = ts.old; new = ts.new; pending = pending }

of : Opening → List Edit → Opening → List Edit → Trees
of before published after accepted =
    record { mapping = before.mapping; old = replay before published; new = replay after accepted; pending = drop (length published) accepted }

-- the trees of a review whose trees are those of a store
pub same_trees : (review : Review) (v : VersionsValue) → review.old.now.opening ≡ v.opening → review.old.now.journal ≡ v.published
    → review.new.now.opening ≡ v.opening → review.new.now.journal ≡ accepted v → trees_of review ≡ trees_in v
unfolding of with_pending
same_trees review v opening published again all =
    ap (λ (o : Opening). of o review.old.now.journal review.new.now.opening review.new.now.journal) opening
    ∙ ap (λ (es : List Edit). of v.opening es review.new.now.opening review.new.now.journal) published
    ∙ ap (λ (o : Opening). of v.opening v.published o review.new.now.journal) again
    ∙ ap (λ (es : List Edit). of v.opening v.published v.opening es) all
    ∙ ap (λ (es : List Edit). with_pending (of v.opening v.published v.opening (accepted v)) es) (drop-append_seam v.published v.pending)
