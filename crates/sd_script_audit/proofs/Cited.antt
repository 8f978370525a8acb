-- What these proofs cite of other modules, passed on from one place.
pub use Rattle.sd_acl.specs.declared.ace.Ace.{Ace}
pub use Rattle.sd_answer.specs.declared.forms.TheConstants.{OPENED, PUBLISHED, TOLD}
pub use Rattle.sd_edit.specs.Machine.{Machine, Steps, started}
pub use Rattle.sd_edit.specs.Starts.{IsReaderCount, IsStartError}
pub use Rattle.sd_edit.specs.declared.edit.Edit.{Edit}
pub use Rattle.sd_edit.specs.declared.opening.Opening.{Opening}
pub use Rattle.sd_edit.specs.declared.opening.RootSpec.{RootSpec}
pub use Rattle.sd_edit.specs.declared.refusal.EditRefusal.{EditRefusal}
pub use Rattle.sd_edit.specs.declared.reply.Answer.{Answer}
pub use Rattle.sd_edit.specs.declared.request.Reply.{Reply}
pub use Rattle.sd_edit.specs.declared.request.Reply.TheVariants.{Answered}
pub use Rattle.sd_edit.specs.declared.start.StartError.{StartError}
pub use Rattle.sd_line.specs.Line.{LineOf, form}
pub use Rattle.sd_line.specs.Printed.{printed}
pub use Rattle.sd_line.specs.declared.print.Style.{Style}
pub use Rattle.sd_lines.proofs.InOrder.{joined, seen_as}
pub use Rattle.sd_lines.specs.Answers.{AreAnswered}
pub use Rattle.sd_path.specs.Names.{Names}
pub use Rattle.sd_script.proofs.OneOutput.{move-one, no_error, requested-one, step-one, trim-one}
pub use Rattle.sd_script.proofs.OneReading.{line-one}
pub use Rattle.sd_script.proofs.Timely.{line_opens}
pub use Rattle.sd_script.specs.Expect.{expects}
pub use Rattle.sd_script.specs.Fault.{line_of_fault}
pub use Rattle.sd_script.specs.Importing.{IsImported, entries_at}
pub use Rattle.sd_script.specs.Lines.{is_silent}
pub use Rattle.sd_script.specs.Moving.{IsMoved}
pub use Rattle.sd_script.specs.Output.{IsOpened, is_open, opening_in, opens, script_options_of}
pub use Rattle.sd_script.specs.Printed.{style_in}
pub use Rattle.sd_script.specs.Reply.{alone, check_line, counted_line, opened_line, refused_line, reply_line, seen_line, start_error_line}
pub use Rattle.sd_script.specs.declared.fault.LineFault.{LineFault}
pub use Rattle.sd_script.specs.declared.line_request.LineRequest.{LineRequest}
pub use Rattle.sd_script.specs.declared.importing.Given.{Given}
pub use Rattle.sd_script.specs.declared.line_request.LineRequest.TheVariants.{Asking, Importing, Moving, Trimming}
pub use Rattle.sd_script.specs.declared.script_counts.ScriptCounts.{ScriptCounts}
pub use Rattle.sd_script.specs.declared.script_options.Notation.{Notation}
pub use Rattle.sd_script.specs.declared.script_options.ScriptOptions.{ScriptOptions}
pub use Rattle.sd_script.specs.declared.session.Session.TheVariants.{Opened}
pub use Rattle.sd_script_audit.specs.Audit.{AreAnsweredInAudit, AsksInAudit, Audited, IsAnsweredInAudit, IsDoneInAudit, IsNextInAudit, IsToldInAudit, PrintsNextInAudit, Progress, answer_line, before_first_line, end_of, last_publish, unopened}
pub use Rattle.sd_script_audit.specs.Laws.{DifferInOpening, WorkersShowInTheOpening, opening_text}
pub use Rattle.sd_script_audit.specs.Parts.{IsDoneOrTold, audited, before_queries, machine_of, progress, without_queries}
pub use Rattle.sd_script_audit.specs.declared.opening.Unopened.{Unopened}
pub use Rattle.sd_store.proofs.Dealing.{nobody}
pub use Rattle.sd_store.specs.Audits.{AreAnswers, HaveGrown, reply_by}
pub use Rattle.sd_store.specs.Sights.{Sight, StoreState, Told}
pub use Rattle.sd_store.specs.declared.query.Query.{Query}
pub use Rattle.std.proofs.Common.{Bool, Err, List, None, Ok, Option, Result, Some, [], ap, append-nil, append_assoc, arith, false, inl, inr, length, map, not, refl, slice_index_or, subst, sym, take, true, ℕ, ◌++◌, ◌+◌, ◌<◌, ◌∙◌, ◌∷◌, ◌≡◌, ◌≤◌, ◌⊎◌}
pub use Rattle.std.proofs.Math.Nat.{mod-lt}
pub use Rattle.std.proofs.Math.Seq.{take-append_seam}
pub use Rattle.std.proofs.lemmas.Bool.{cases_Bool}
pub use Rattle.std.proofs.lemmas.Grind.{flat_map-append}
pub use Rattle.std.proofs.lemmas.List.{map_more}
pub use Rattle.std.proofs.lemmas.Result.{IfOk-weaker, on_ok_weaker}
pub use Rattle.std.specs.Global.{Vec}
pub use Rattle.std.specs.Prelude.{IfErr, IfOk, IfSome, is_some, ◌%◌}
pub use Rattle.std.specs.Str.Lines.{lines}
