-- What the calls over views answer: by the rules, for the journal that was published when the view was made.
use Rattle.std.specs.Prelude.{◌≡◌, ◌⊎◌, ℕ, List, length, Option, Some, None, IsSome, Ok, Err, IsOk}
use Rattle.sd_check.specs.Token.{TokenValue}
use Rattle.sd_path.specs.Names.{Names}
use Rattle.sd_path.specs.PathText.{path_of}
use Rattle.sd_acl.specs.Descriptor.{DescriptorValue}
use Rattle.sd_wire.specs.Writing.{wire_of}
use Rattle.sd_edit.specs.Answers.{answer, descriptor_at}
use Rattle.sd_edit.specs.History.{History}
use Rattle.sd_edit.specs.Journal.{replay}
use Rattle.sd_edit.specs.declared.reply.CheckReply.{CheckReply}
use Rattle.sd_edit.specs.declared.reply.CheckReply.TheVariants.{Verdict, NoNode}
use Rattle.sd_versions.specs.Versions.{accepted}
use Rattle.sd_c.specs.declared.call_answer.CheckAnswer.{CheckAnswer}
use Rattle.sd_c.specs.declared.call_answer.Written.{Written}
use Rattle.sd_c.specs.declared.handle.Handle.{Handle}
use Rattle.sd_c.specs.declared.handle.kept.Kept.{Kept}
use Rattle.sd_c.specs.declared.handle.kept.Kept.TheVariants as kinds
use Rattle.sd_c.specs.declared.not_done.NotDone.{NotDone}
use Rattle.sd_c.specs.declared.not_done.NotDone.TheVariants as reasons
use Rattle.sd_c.specs.declared.not_done.EditArgument.TheVariants as arguments
use Rattle.sd_c.specs.declared.stop.NotRead.TheVariants.{TokenHandle}
use Rattle.sd_c.specs.declared.views.ViewAnswer.{ViewAnswer}
use Rattle.sd_c.specs.CallAnswer.{unwritten, verdict_given}
use Rattle.sd_c.specs.Edits.{IsNoPath}
use Rattle.sd_c.specs.Kept.{token_in, view_in}
use Rattle.sd_c.specs.Length.{length_told}
use Rattle.sd_c.specs.NotDone.{not_done}
use Rattle.sd_c.specs.Written.{Writes, not_written}

-- ---- a check

abbrev pub reply_given : CheckReply → CheckAnswer
reply_given (Verdict verdict) = verdict_given verdict
reply_given NoNode = not_done reasons.NoNode

-- the answer of the rules after the journal, and its length
abbrev pub view_answer : History → Names → TokenValue → ℕ → ViewAnswer
view_answer h path token asked =
    record { answer = reply_given (answer h.opening h.journal path token asked); length = length h.journal }

abbrev pub unasked : NotDone → ViewAnswer
unasked why = record { answer = not_done why; length = 0 }

-- the text is a path, and the answer that of the rules for the journal that was published when the view was made
abbrev pub IsAnswered : Kept → List ℕ → Kept → ℕ → ViewAnswer → Type 0
IsAnswered view path token asked told =
    (h : History) × (names : Names) × (t : TokenValue) × (view_in view ≡ Some h) × (path_of path ≡ Ok names)
    × (token_in token ≡ Ok t)
    × (told ≡ view_answer h names t asked)

-- why there is no answer, the first of these that holds: no view is kept, no token, or the text is no path
abbrev pub IsNotAsked : Kept → List ℕ → Kept → NotDone → Type 0
IsNotAsked view path token why =
    ((view_in view ≡ None) × (why ≡ reasons.ViewHandle))
    ⊎ (IsSome (view_in view) × (token_in token ≡ Err TokenHandle) × (why ≡ reasons.TokenHandle))
    ⊎ (IsSome (view_in view) × IsOk (token_in token) × IsNoPath arguments.Path path why)

-- an answer, or why there is none
abbrev pub Asks : Handle → List ℕ → Handle → ℕ → ViewAnswer → Type 0
Asks view path token asked told =
    ((view.is_there ≡ 1) × (token.is_there ≡ 1) × IsAnswered view.seal.kept path token.seal.kept asked told)
    ⊎ ((why : NotDone) × (view.is_there ≡ 1) × (token.is_there ≡ 1)
    × IsNotAsked view.seal.kept path token.seal.kept why × (told ≡ unasked why))
    ⊎ ((view.is_there ≡ 0) × (told ≡ unasked reasons.ViewHandle))
    ⊎ ((view.is_there ≡ 1) × (token.is_there ≡ 0) × (told ≡ unasked reasons.TokenHandle))

-- ---- lengths

abbrev pub length_in : Kept → Written
length_in (kinds.Store s) = length_told (length (accepted s.value))
length_in (kinds.View v) = length_told (length v.journal)
length_in _ = not_written 11 0 0

abbrev pub TellsLength : Handle → Written → Type 0
TellsLength handle told =
    ((handle.is_there ≡ 1) × (told ≡ length_in handle.seal.kept))
    ⊎ ((handle.is_there ≡ 0) × (told ≡ not_written 11 0 0))

-- ---- descriptors

-- the self-relative form of the node's descriptor, after the journal
abbrev pub IsFormIn : History → Names → List ℕ → Type 0
IsFormIn h names bytes =
    (d : DescriptorValue) × (descriptor_at h.opening.mapping (replay h.opening h.journal) names ≡ Some d)
    × (bytes ≡ wire_of d)

-- the self-relative form of a node's descriptor, after the journal that was published when the view was made
abbrev pub IsFormAt : Kept → List ℕ → List ℕ → Type 0
IsFormAt view path bytes =
    (h : History) × (names : Names) × (view_in view ≡ Some h) × (path_of path ≡ Ok names) × IsFormIn h names bytes

-- there is no node, or there is one and out of memory
abbrev pub IsNotFound : {A : Type 0} → Option A → NotDone → Type 0
IsNotFound node why = ((node ≡ None) × (why ≡ reasons.NoNode)) ⊎ (IsSome node × (why ≡ reasons.Memory))

-- why there is none, the first that holds: no view is kept, the text is no path, no node is there, or out of memory
abbrev pub IsNoFormAt : Kept → List ℕ → NotDone → Type 0
IsNoFormAt view path why =
    ((view_in view ≡ None) × (why ≡ reasons.ViewHandle))
    ⊎ (IsSome (view_in view) × IsNoPath arguments.Path path why)
    ⊎ ((h : History) × (names : Names) × (view_in view ≡ Some h) × (path_of path ≡ Ok names)
    × IsNotFound (descriptor_at h.opening.mapping (replay h.opening h.journal) names) why)

abbrev pub not_told : NotDone → Written
not_told why = unwritten (not_done why)

-- right bytes are written, or the buffer is too small for them; or nothing, for a reason that holds
abbrev pub TellsBytes : (List ℕ → Type 0) → (NotDone → Type 0) → Handle → List ℕ → List ℕ → Written → Type 0
TellsBytes Right Holds view old new told =
    ((bytes : List ℕ) × (view.is_there ≡ 1) × Right bytes × Writes bytes old new told)
    ⊎ ((why : NotDone) × (view.is_there ≡ 1) × Holds why × (new ≡ old) × (told ≡ not_told why))
    ⊎ ((view.is_there ≡ 0) × (new ≡ old) × (told ≡ not_told reasons.ViewHandle))
