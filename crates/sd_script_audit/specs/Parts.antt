-- The parts of an audit, as its functions see them. No public contract says so.
use Rattle.std.specs.Prelude.{◌≡◌, ℕ, List, [], replicate, Option, Some, None, Result, Ok, Err}
use Rattle.std.specs.Global.{Vec}
use Rattle.sd_edit.specs.declared.opening.Opening.{Opening}
use Rattle.sd_edit.specs.declared.opening.RootSpec.{RootSpec}
use Rattle.sd_edit.specs.Machine.{Machine, started}
use Rattle.sd_line.specs.Line.{LineOf}
use Rattle.sd_store.specs.Sights.{StoreState}
use Rattle.sd_store.specs.declared.query.Query.{Query}
use Rattle.sd_script.specs.Output.{opening_in}
use Rattle.sd_script.specs.declared.line_request.LineRequest.{LineRequest}
use Rattle.sd_script.specs.declared.script_options.ScriptOptions.{ScriptOptions}
use Rattle.sd_script.specs.declared.script_options.Notation.{Notation}
use Rattle.sd_script.specs.declared.session.Session.{Session}
use Rattle.sd_script.specs.declared.session.Session.TheVariants.{Closed, Opened}
use Rattle.sd_script.specs.declared.script_counts.ScriptCounts.{ScriptCounts}
use Rattle.sd_script_audit.specs.Audit.{Audited, IsDoneInAudit, Progress}

-- what a line asks for is done, or it has an answer without that; out of memory it has none
abbrev pub IsDoneOrTold : ℕ → Progress → Result LineRequest (Option (Vec LineOf)) → List LineOf → Progress → Type 0
IsDoneOrTold workers old (Ok asked) answer new = IsDoneInAudit workers old asked answer new
IsDoneOrTold workers old (Err (Some told)) answer new = (answer ≡ told.items) × (new ≡ old)
IsDoneOrTold workers old (Err None) answer new = ⊥

-- no store is open, or one with this root that nothing was asked of
abbrev pub store_of : ScriptOptions → ℕ → Option RootSpec → Session
store_of options workers None = Closed options
store_of options workers (Some root) = Opened options.notation (started (opening_in options root) workers)

abbrev pub without_queries : ScriptOptions → ℕ → Option RootSpec → Progress
without_queries options workers root = record { store = store_of options workers root; queries = [] }

abbrev pub before_queries : ScriptOptions → ℕ → Option RootSpec → ScriptCounts → Audited
before_queries options workers root counts = record {
  progress = without_queries options workers root;
  counts = counts;
}

-- the machine of a writer, whose readers have seen nothing
abbrev pub machine_of : Opening → ℕ → StoreState → Machine
machine_of opening readers writer = record {
  opening = opening;
  published = writer.journal;
  pending = writer.pending;
  floors = replicate readers [];
}

-- a store that is open, and the queries so far
abbrev pub progress : Notation → Opening → ℕ → StoreState → List Query → Progress
progress notation opening readers writer queries = record {
  store = Opened notation (machine_of opening readers writer);
  queries = queries;
}

-- a store that is open, the queries so far, and what is counted so far
abbrev pub audited : Notation → Opening → ℕ → StoreState → List Query → ScriptCounts → Audited
audited notation opening readers writer queries counts = record {
  progress = progress notation opening readers writer queries;
  counts = counts;
}
