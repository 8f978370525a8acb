-- The answers of the calls over handles, and the content of the handles afterwards.
use Rattle.std.specs.Prelude.{◌≡◌, ◌⊎◌, ℕ, ◌<◌, ◌==◌, Bool, true, false, List, length, Option, Some, None, Result}
use Rattle.std.specs.Prelude.{Ok, Err}
use Rattle.std.specs.Prelude.{if◌then◌else◌}
use Rattle.std.specs.Arc.{arc_value}
use Rattle.sd_accounts.specs.Accounts.{rows_of}
use Rattle.sd_accounts.specs.Row.{AccountRow}
use Rattle.sd_acl.specs.Descriptor.{DescriptorValue, descriptor_of}
use Rattle.sd_check.specs.Token.{TokenValue}
use Rattle.sd_client.specs.Client.{ClientValue}
use Rattle.sd_edit.specs.History.{History, history_of}
use Rattle.sd_line.specs.Line.{LineOf}
use Rattle.sd_versions.specs.Versions.{VersionsValue}
use Rattle.sd_wire.specs.Reading.{descriptor_read}
use Rattle.sd_c.specs.declared.call_answer.CheckAnswer.{CheckAnswer}
use Rattle.sd_c.specs.declared.call_answer.Written.{Written}
use Rattle.sd_c.specs.declared.handle.Handle.{Handle}
use Rattle.sd_c.specs.declared.handle.kept.Kept.{Kept}
use Rattle.sd_c.specs.declared.handle.kept.Kept.TheVariants as kinds
use Rattle.sd_c.specs.declared.mapping.Mapping.{Mapping}
use Rattle.sd_c.specs.declared.refusal.Refusal.{Refusal}
use Rattle.sd_c.specs.declared.stop.NotRead.{NotRead}
use Rattle.sd_c.specs.declared.stop.NotRead.TheVariants.{ClientHandle, DescriptorHandle, TokenHandle}
use Rattle.sd_c.specs.CallAnswer.{check_memory, not_read, unread}
use Rattle.sd_c.specs.Request.{◌>>=◌, RequestValue, mapping_read}
use Rattle.sd_c.specs.Written.{not_written, refused}

-- ---- a check

-- the handle keeps something, or this is why there is no check
abbrev pub is_kept : ℕ → NotRead → Result (Unit {0}) NotRead
is_kept is_there why = if is_there == 0 then Err why else Ok tt

abbrev pub descriptor_in : Kept → Result DescriptorValue NotRead
descriptor_in (kinds.Descriptor d) = Ok (descriptor_of (arc_value d))
descriptor_in _ = Err DescriptorHandle

abbrev pub token_in : Kept → Result TokenValue NotRead
token_in (kinds.Token t) = Ok (arc_value t)
token_in _ = Err TokenHandle

abbrev pub client_in : Kept → Result ClientValue NotRead
client_in (kinds.Client c) = Ok (arc_value c)
client_in _ = Err ClientHandle

-- of a store its published edits and those that are pending
abbrev pub store_in : Kept → Option VersionsValue
store_in (kinds.Store s) = Some s.value
store_in _ = None

-- of a view the tree as it was published
abbrev pub view_in : Kept → Option History
view_in (kinds.View v) = Some (history_of v)
view_in _ = None

-- the lines of an answer
abbrev pub lines_in : Kept → Option (List LineOf)
lines_in (kinds.Lines ls) = Some ls.items
lines_in _ = None

-- the rows of accounts
abbrev pub accounts_in : Kept → Option (List AccountRow)
accounts_in (kinds.Accounts a) = Some (rows_of (arc_value a))
accounts_in _ = None

-- the request of a kept descriptor and a kept token
unfoldable pub asked_of : Kept → Kept → Mapping → Result RequestValue NotRead
asked_of first second mapping =
    descriptor_in first >>= λ d.
    (token_in second >>= λ t.
    (mapping_read mapping >>= λ g. Ok (record { descriptor = d; token = t; mapping = g })))

-- the request of a descriptor's handle and a token's handle
unfoldable pub kept_request : Handle → Handle → Mapping → Result RequestValue NotRead
kept_request first second mapping =
    is_kept first.is_there DescriptorHandle >>= λ u.
    (is_kept second.is_there TokenHandle >>= λ v. asked_of first.seal.kept second.seal.kept mapping)

-- ---- the handles afterwards

-- the handle keeps what it kept
abbrev pub Stays : Handle → Handle → Type 0
Stays old new = (new.is_there ≡ old.is_there) × (new.is_there ≡ 1 → new.seal.kept ≡ old.seal.kept)

-- the handle keeps this
abbrev pub Keeps : Handle → Kept → Type 0
Keeps new kept = (new.is_there ≡ 1) × (new.seal.kept ≡ kept)

-- an empty handle keeps these lines
abbrev pub KeepsLines : List LineOf → Handle → Handle → Type 0
KeepsLines ls old new = (kept : Kept) × (old.is_there ≡ 0) × (lines_in kept ≡ Some ls) × Keeps new kept

-- the handle for lines is in use, and unchanged
abbrev pub LinesInUse : Handle → Handle → CheckAnswer → Type 0
LinesInUse old new answer = (old.is_there ≡ 1) × (new ≡ old) × (answer ≡ unread 11 17 0 0)

-- the handle is in use, and unchanged
abbrev pub InUse : Handle → Handle → Written → Type 0
InUse old new answer = (old.is_there ≡ 1) × (new ≡ old) × (answer ≡ not_written 11 0 0)

-- an empty handle keeps a right descriptor, or nothing for a reason that holds; one in use is unchanged
abbrev pub KeepsDescriptor : (DescriptorValue → Type 0) → (Refusal → Type 0) → Handle → Handle → Written → Type 0
KeepsDescriptor Right Holds old new answer =
    ((kept : Kept) × (d : DescriptorValue) × (old.is_there ≡ 0) × Right d × (descriptor_in kept ≡ Ok d) × Keeps new kept
    × (answer ≡ not_written 0 0 0))
    ⊎ ((why : Refusal) × (old.is_there ≡ 0) × Holds why × (new ≡ old) × (answer ≡ refused why))
    ⊎ InUse old new answer

-- the bytes hold the descriptor
abbrev pub IsHeldAs : List ℕ → DescriptorValue → Type 0
IsHeldAs bytes d = descriptor_read bytes ≡ Ok d

-- an empty handle keeps the token of the arguments, or nothing, and the first invalid argument is returned
abbrev pub KeepsToken : Result TokenValue NotRead → Handle → Handle → CheckAnswer → Type 0
KeepsToken read old new answer =
    ((kept : Kept) × (t : TokenValue) × (old.is_there ≡ 0) × (read ≡ Ok t) × (token_in kept ≡ Ok t) × Keeps new kept
    × (answer ≡ unread 0 0 0 0))
    ⊎ ((why : NotRead) × (old.is_there ≡ 0) × (read ≡ Err why) × (new ≡ old) × (answer ≡ not_read why))

-- memory runs out only where there are groups or restricting SIDs to hold, or a token to keep
abbrev pub TokenTakesMemory : List ℕ → List ℕ → Result TokenValue NotRead → Type 0
TokenTakesMemory states restricting read =
    (0 < length states) ⊎ (0 < length restricting) ⊎ ((t : TokenValue) × (read ≡ Ok t))

-- out of memory: the handle stays empty
abbrev pub TokenLacksMemory : List ℕ → List ℕ → Result TokenValue NotRead → Handle → Handle → CheckAnswer → Type 0
TokenLacksMemory states restricting read old new answer =
    (old.is_there ≡ 0) × TokenTakesMemory states restricting read × (new ≡ old) × (answer ≡ check_memory)

-- the handle is in use, and unchanged
abbrev pub TokenInUse : Handle → Handle → CheckAnswer → Type 0
TokenInUse old new answer = (old.is_there ≡ 1) × (new ≡ old) × (answer ≡ unread 11 8 0 0)

-- ---- sharing

-- a store, or the lines of an answer
abbrev pub has_one_handle : Kept → Bool
has_one_handle (kinds.Store s) = true
has_one_handle (kinds.Lines ls) = true
has_one_handle _ = false

-- what gives the same answers
abbrev pub IsSame : Kept → Kept → Type 0
IsSame kept other =
    (descriptor_in other ≡ descriptor_in kept) × (token_in other ≡ token_in kept) × (client_in other ≡ client_in kept)
    × (store_in other ≡ store_in kept) × (view_in other ≡ view_in kept) × (accounts_in other ≡ accounts_in kept)

-- the second handle keeps the same as the first, or is unchanged: out of memory, or one of the handles is refused
abbrev pub IsShared : Handle → Handle → Handle → Written → Type 0
IsShared handle old new answer =
    ((handle.is_there ≡ 1) × (old.is_there ≡ 0) × (new.is_there ≡ 1) × IsSame handle.seal.kept new.seal.kept
    × (answer ≡ not_written 0 0 0))
    ⊎ ((handle.is_there ≡ 1) × (old.is_there ≡ 0) × (has_one_handle handle.seal.kept ≡ false) × (new ≡ old)
    × (answer ≡ not_written 1 0 0))
    ⊎ (((handle.is_there ≡ 0) ⊎ (old.is_there ≡ 1) ⊎ (has_one_handle handle.seal.kept ≡ true)) × (new ≡ old)
    × (answer ≡ not_written 11 0 0))
