-- The answers of the calls over stores, and the content of the handles afterwards.
use Rattle.std.specs.Prelude.{◌≡◌, ◌⊎◌, ℕ, List, [], ◌∷◌, ◌++◌, length, Option, Some, None, IsSome, Result, Ok, Err}
use Rattle.std.specs.Prelude.{IsOk}
use Rattle.sd_edit.specs.Answers.{IsError}
use Rattle.sd_edit.specs.History.{History}
use Rattle.sd_edit.specs.Journal.{refusal, root_refusal}
use Rattle.sd_edit.specs.Limits.{LimitsValue}
use Rattle.sd_edit.specs.declared.edit.Edit.{Edit}
use Rattle.sd_edit.specs.declared.limits.LimitsError.{LimitsError}
use Rattle.sd_edit.specs.declared.opening.Opening.{Opening}
use Rattle.sd_edit.specs.declared.refusal.EditRefusal.{EditRefusal}
use Rattle.sd_edit.specs.declared.refusal.TreeError.{TreeError}
use Rattle.sd_edit.specs.declared.refusal.TreeError.TheVariants as errors
use Rattle.sd_versions.specs.Versions.{VersionsValue, accepted}
use Rattle.sd_c.specs.declared.call_answer.CheckAnswer.{CheckAnswer}
use Rattle.sd_c.specs.declared.call_answer.Written.{Written}
use Rattle.sd_c.specs.declared.handle.Handle.{Handle}
use Rattle.sd_c.specs.declared.handle.kept.Kept.{Kept}
use Rattle.sd_c.specs.declared.mapping.Mapping.{Mapping}
use Rattle.sd_c.specs.declared.not_done.NotDone.{NotDone}
use Rattle.sd_c.specs.declared.not_done.NotDone.TheVariants as reasons
use Rattle.sd_c.specs.declared.stop.NotRead.TheVariants.{MappingBits}
use Rattle.sd_c.specs.CallAnswer.{unread}
use Rattle.sd_c.specs.Edits.{IsNoNode, IsNode, HasNode}
use Rattle.sd_c.specs.Kept.{IsSame, store_in, view_in}
use Rattle.sd_c.specs.Length.{length_told}
use Rattle.sd_c.specs.NotDone.{not_done}
use Rattle.sd_c.specs.Request.{mapping_read}
use Rattle.sd_c.specs.Store.{all_published, history_in, published_only}
use Rattle.sd_c.specs.Written.{not_written}

-- the handle has the same content: an edit that isn't made may have made room for itself
abbrev pub Remains : Handle → Handle → Type 0
Remains old new = (new.is_there ≡ old.is_there) × (old.is_there ≡ 1 → IsSame old.seal.kept new.seal.kept)

abbrev pub tree_reason : TreeError → NotDone
tree_reason (errors.Refused refused) = reasons.Refused refused
tree_reason errors.Memory = reasons.Memory

-- the tree refuses, or out of memory, where no refusal is due that is found without memory
abbrev pub IsTreeReason : Option EditRefusal → NotDone → Type 0
IsTreeReason due why = (error : TreeError) × IsError error due × (why ≡ tree_reason error)

-- ---- opening

-- limits, or why the given numbers are none
abbrev pub Limited : Type 0
Limited = Result LimitsValue LimitsError

-- the bytes hold the root of a tree with this mapping and these limits
abbrev pub IsOpening : List ℕ → Mapping → Limited → Opening → Type 0
IsOpening root mapping limits opening =
    IsNode root opening.root.owner opening.root.group opening.root.dacl × (mapping_read mapping ≡ Ok opening.mapping)
    × (limits ≡ Ok opening.limits)

-- a store of the root alone
abbrev pub IsBegun : List ℕ → Mapping → Limited → Kept → Type 0
IsBegun root mapping limits kept =
    (opening : Opening) × IsOpening root mapping limits opening × (root_refusal opening ≡ None)
    × (store_in kept ≡ Some (record { opening = opening; published = []; pending = [] }))

-- why there is none: the first of these that holds
abbrev pub IsNotBegun : List ℕ → Mapping → Limited → NotDone → Type 0
IsNotBegun root mapping limits why =
    IsNoNode root why
    ⊎ (HasNode root × (mapping_read mapping ≡ Err MappingBits) × (why ≡ reasons.MappingBits))
    ⊎ ((fault : LimitsError) × HasNode root × IsOk (mapping_read mapping) × (limits ≡ Err fault)
    × (why ≡ reasons.Limits fault))
    ⊎ ((opening : Opening) × IsOpening root mapping limits opening × IsTreeReason (root_refusal opening) why)

-- an empty handle keeps a store of the root, or nothing, and why is returned; one in use is unchanged
abbrev pub Begins : List ℕ → Mapping → Limited → Handle → Handle → CheckAnswer → Type 0
Begins root mapping limits old new answer =
    ((old.is_there ≡ 0) × (new.is_there ≡ 1) × IsBegun root mapping limits new.seal.kept × (answer ≡ unread 0 0 0 0))
    ⊎ ((why : NotDone) × (old.is_there ≡ 0) × IsNotBegun root mapping limits why × (new ≡ old)
    × (answer ≡ not_done why))
    ⊎ ((old.is_there ≡ 1) × (new ≡ old) × (answer ≡ not_done reasons.StoreHandle))

-- ---- edits

-- one more edit
abbrev pub with_edit : VersionsValue → Edit → VersionsValue
with_edit v edit = record v { pending = v.pending ++ edit ∷ [] }

-- an edit that the arguments say, which nothing refuses, is the last of the store's pending ones
abbrev pub IsEdited : (Edit → Type 0) → Kept → Kept → Type 0
IsEdited Says old new =
    (v : VersionsValue) × (edit : Edit) × (store_in old ≡ Some v) × Says edit
    × (refusal v.opening (accepted v) edit ≡ None)
    × (store_in new ≡ Some (with_edit v edit))

-- why it hasn't: no store is kept, the arguments say no edit, the tree refuses it, or out of memory
abbrev pub IsNotEdited : (Edit → Type 0) → (NotDone → Type 0) → Kept → NotDone → Type 0
IsNotEdited Says SaysNone old why =
    ((store_in old ≡ None) × (why ≡ reasons.StoreHandle))
    ⊎ (IsSome (store_in old) × SaysNone why)
    ⊎ ((v : VersionsValue) × (edit : Edit) × (store_in old ≡ Some v) × Says edit
    × IsTreeReason (refusal v.opening (accepted v) edit) why)

-- the edit is made, or why not is returned and nothing has changed
abbrev pub Edits : (Edit → Type 0) → (NotDone → Type 0) → Handle → Handle → CheckAnswer → Type 0
Edits Says SaysNone old new answer =
    ((old.is_there ≡ 1) × (new.is_there ≡ 1) × IsEdited Says old.seal.kept new.seal.kept × (answer ≡ unread 0 0 0 0))
    ⊎ ((why : NotDone) × (old.is_there ≡ 1) × IsNotEdited Says SaysNone old.seal.kept why × Remains old new
    × (answer ≡ not_done why))
    ⊎ ((old.is_there ≡ 0) × (new ≡ old) × (answer ≡ not_done reasons.StoreHandle))

-- nothing refuses an edit that the arguments say
abbrev pub IsAllowed : (Edit → Type 0) → Kept → Type 0
IsAllowed Says store =
    (v : VersionsValue) × (edit : Edit) × (store_in store ≡ Some v) × Says edit
    × (refusal v.opening (accepted v) edit ≡ None)

-- the edit would be made, or why not is returned
abbrev pub Judges : (Edit → Type 0) → (NotDone → Type 0) → Handle → CheckAnswer → Type 0
Judges Says SaysNone store answer =
    ((store.is_there ≡ 1) × IsAllowed Says store.seal.kept × (answer ≡ unread 0 0 0 0))
    ⊎ ((why : NotDone) × (store.is_there ≡ 1) × IsNotEdited Says SaysNone store.seal.kept why
    × (answer ≡ not_done why))
    ⊎ ((store.is_there ≡ 0) × (answer ≡ not_done reasons.StoreHandle))

-- ---- publishing

-- the view has the store's tree with all its edits, and they are published
abbrev pub IsViewOf : Kept → Kept → Kept → ℕ → Type 0
IsViewOf store later view told =
    (v : VersionsValue) × (store_in store ≡ Some v) × (store_in later ≡ Some (all_published v))
    × (view_in view ≡ Some (history_in v)) × (told ≡ length (accepted v))

-- a view is kept; or the store's content stays: out of memory for one, or one of the handles is refused
abbrev pub Publishes : Handle → Handle → Handle → Handle → Written → Type 0
Publishes store later old new answer =
    ((told : ℕ) × (store.is_there ≡ 1) × (later.is_there ≡ 1) × (old.is_there ≡ 0) × (new.is_there ≡ 1)
    × IsViewOf store.seal.kept later.seal.kept new.seal.kept told × (answer ≡ length_told told))
    ⊎ ((store.is_there ≡ 1) × (old.is_there ≡ 0) × IsSome (store_in store.seal.kept) × Remains store later × (new ≡ old)
    × (answer ≡ not_written 1 0 0))
    ⊎ (((store.is_there ≡ 0) ⊎ (old.is_there ≡ 1) ⊎ (store_in store.seal.kept ≡ None)) × Remains store later
    × (new ≡ old) × (answer ≡ not_written 11 0 0))

-- ---- going back

-- the store has what the view has, of a view of another store its opening too, and nothing is pending
abbrev pub IsReverted : Kept → Kept → Kept → ℕ → Type 0
IsReverted old new view told =
    (h : History) × IsSome (store_in old) × (view_in view ≡ Some h) × (store_in new ≡ Some (published_only h))
    × (told ≡ length h.journal)

-- the store's tree is the view's, or its content stays: out of memory, or one of the handles is refused
abbrev pub Reverts : Handle → Handle → Handle → Written → Type 0
Reverts old new view answer =
    ((told : ℕ) × (old.is_there ≡ 1) × (new.is_there ≡ 1) × (view.is_there ≡ 1)
    × IsReverted old.seal.kept new.seal.kept view.seal.kept told × (answer ≡ length_told told))
    ⊎ ((old.is_there ≡ 1) × (view.is_there ≡ 1) × IsSome (store_in old.seal.kept) × IsSome (view_in view.seal.kept)
    × Remains old new × (answer ≡ not_written 1 0 0))
    ⊎ (((old.is_there ≡ 0) ⊎ (view.is_there ≡ 0) ⊎ (store_in old.seal.kept ≡ None) ⊎ (view_in view.seal.kept ≡ None))
    × Remains old new × (answer ≡ not_written 11 0 0))
