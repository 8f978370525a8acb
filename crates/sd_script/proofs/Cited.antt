-- What these proofs cite of other modules, passed on from one place.
pub use Rattle.percent_encoding.specs.Percent.{percent_decode}
pub use Rattle.sd_acl.specs.Descriptor.{DescriptorValue}
pub use Rattle.sd_acl.specs.declared.ace.Ace.{Ace}
pub use Rattle.sd_analysis.specs.Descendants.{descendant_parts, list_of}
pub use Rattle.sd_analysis.specs.Sufficient.{Parts, entries_or_none}
pub use Rattle.sd_analysis.specs.Who.{has_right, holds_for, is_held_by, is_in_base}
pub use Rattle.sd_analysis.specs.declared.descendants.Descendant.{Descendant}
pub use Rattle.sd_analysis.specs.declared.who_has.Access.{Access}
pub use Rattle.sd_analysis.specs.declared.who_has.Alternative.{Alternative}
pub use Rattle.sd_analysis.specs.declared.who_has.Holder.{Holder}
pub use Rattle.sd_analysis.specs.declared.who_has.Holder.TheVariants.{Everyone, Owner}
pub use Rattle.sd_answer.proofs.NoLines.{parts_empty}
pub use Rattle.sd_answer.proofs.OneToken.{groups_one, groups_or_none, token_one, token_or_none}
pub use Rattle.sd_answer.proofs.Words.{list_any-texts}
pub use Rattle.sd_line.proofs.WordsLeft.{one_joined}
pub use Rattle.sd_line.specs.Mask.{IsMaskIn, between_pluses}
pub use Rattle.sd_answer.specs.Parts.{parts_in}
pub use Rattle.sd_answer.specs.VerdictLines.{verdict_line}
pub use Rattle.sd_line.specs.Line.{LineOf, form, line_with}
pub use Rattle.sd_line.specs.Printed.{printed}
pub use Rattle.sd_line.specs.declared.print.Style.{Style}
pub use Rattle.sd_answer.specs.Who.{rights_asked}
pub use Rattle.sd_answer.specs.Word.{AreGroups, IsToken, texts}
pub use Rattle.sd_line.specs.declared.spelling.Spelling.{Spelling}
pub use Rattle.sd_check.proofs.LawProofs.{one_test}
pub use Rattle.sd_check.specs.Check.{dacl_entries, is_granted, judged, most, verdict}
pub use Rattle.sd_check.specs.Token.{TokenValue}
pub use Rattle.sd_check.specs.declared.token.GroupState.{GroupState}
pub use Rattle.sd_check.specs.declared.verdict.Verdict.TheVariants.{Granted}
pub use Rattle.sd_edit.proofs.Moved.{entry_there}
pub use Rattle.sd_edit.proofs.Rows.{one_path, path_itself}
pub use Rattle.sd_edit.specs.Answers.{answer, descriptor_at, kind_at, reply_for, reply_in}
pub use Rattle.sd_edit.specs.Descriptors.{descriptor_of_row}
pub use Rattle.sd_edit.specs.Journal.{replay}
pub use Rattle.sd_edit.specs.Machine.{Machine, Steps, accepted, due, floor_of, longer, with_edit, with_floor, with_look, with_publish}
pub use Rattle.sd_edit.specs.Plain.{PlainTree, dacl_at, row_at}
pub use Rattle.sd_edit.specs.Starts.{IsReaderCount, IsStartError}
pub use Rattle.sd_edit.specs.declared.edit.Edit.{Edit}
pub use Rattle.sd_edit.specs.declared.node.NodeRow.{NodeRow}
pub use Rattle.sd_edit.specs.declared.opening.RootSpec.{RootSpec}
pub use Rattle.sd_edit.specs.declared.refusal.EditRefusal.{EditRefusal}
pub use Rattle.sd_edit.specs.declared.reply.CheckReply.{CheckReply}
pub use Rattle.sd_edit.specs.declared.reply.CheckReply.TheVariants.{Verdict}
pub use Rattle.sd_edit.specs.declared.request.Reply.{Reply}
pub use Rattle.sd_edit.specs.declared.request.Request.{Request}
pub use Rattle.sd_edit.specs.declared.request.Request.TheVariants.{Publish}
pub use Rattle.sd_edit.specs.declared.start.StartError.{StartError}
pub use Rattle.sd_inheritance.specs.declared.kind.NodeKind.TheVariants.{Container}
pub use Rattle.sd_lines.specs.Answers.{AreAnswered}
pub use Rattle.sd_path.proofs.PathBytes.{length-up}
pub use Rattle.sd_path.proofs.Paths.{within_itself}
pub use Rattle.sd_path.specs.Names.{Names, is_root, is_within, moved_path, names_cmp, up}
pub use Rattle.sd_path.specs.PathText.{path_of}
pub use Rattle.sd_review.proofs.Silence.{silent_container, silent_node}
pub use Rattle.sd_review.specs.Compared.{IsOfBoth, IsRight, is_container, review_parts_in}
pub use Rattle.sd_review.specs.Laws.{AreGrantedAlike}
pub use Rattle.sd_review.specs.Lines.{lines_of, with_path}
pub use Rattle.sd_review.specs.Review.{Trees, former, stands_in, trees_of}
pub use Rattle.sd_review.specs.declared.compared.Compared.{Compared}
pub use Rattle.sd_review.specs.declared.review.Former.{Former}
pub use Rattle.sd_review.specs.declared.review.Former.TheVariants.{Moved, New, Same}
pub use Rattle.sd_script.specs.Argument.{IsNumber, dacl_of, descriptor, descriptor_in, import_of, node_of, path}
pub use Rattle.sd_script.specs.Command.{Argument, Arguments, Asks, Dacl, Groups, Imported, Listed, Mask, Node, Number, Parses, Path, Sid, Token, Value, asks, asks_where, command_named, command_of, is_empty, is_untimely, line_asks, names, reading, reads, reads_where, value_named, ◌▸◌}
pub use Rattle.sd_script.specs.Deletion.{delete_right, deletion_line, granted_by, parent_grants}
pub use Rattle.sd_script.specs.Dump.{AreAskedBy, IsAskedBy, IsReadBack, making, makings, wanted}
pub use Rattle.sd_script.specs.Expect.{expect_line, expects, is_met, last_after, spelled_byte}
pub use Rattle.sd_script.specs.Fault.{Reading, SomeOr, Then, UnlessMemory, line_of_fault}
pub use Rattle.sd_script.specs.Ids.{asked_of, is_id}
pub use Rattle.sd_script.specs.Importing.{IsImported, entries_at, imported_words}
pub use Rattle.sd_script.specs.Laws.{AsksNoAnalysis, BeginsAsCheck, DeletesAsChecked, HasOneAnswer, HasOneOf, HasOneOutput, IsGranted, NoCommandWithoutAnId, OnlyTheseAreGranted, SilentContainerPassesDownTheSame, SilentNodeIsUnchanged, SilentReviewChangesNothing, by_node, is_analysis, made_in}
pub use Rattle.sd_script.specs.Lines.{is_silent, word_len, words_of}
pub use Rattle.sd_script.specs.Listing.{is_split_below}
pub use Rattle.sd_script.specs.Moving.{IsMoved, moved_words}
pub use Rattle.sd_script.specs.Output.{IsAnswered, IsDone, IsMade, IsNext, IsOpened, IsTold, IsUntold, before_first_line, closing_of, is_open, opens, script_options_of}
pub use Rattle.sd_script.specs.Paths.{IsPath, path_word}
pub use Rattle.sd_script.specs.Printed.{IsNextServed, style_in, tag_in}
pub use Rattle.sd_script.specs.Question.{for_reader, outcome_of}
pub use Rattle.sd_script.specs.Reply.{alone, check_line, counted_line, node_why_lines, ok_line, plain_line, refused_line, reply_line, seen_line, seen_lines, shown_line, start_error_line, trimmed_line}
pub use Rattle.sd_script.specs.Review.{AreNodeLines, AreTold, IsCompared, IsNodeReview, IsReviewOf, gone_lines, has_no_words, reviewed_line, trees_in}
pub use Rattle.sd_script.specs.ScriptCounts.{tallied}
pub use Rattle.sd_script.specs.View.{IsViewed}
pub use Rattle.sd_script.specs.Who.{are_for, asks_no_right, is_for}
pub use Rattle.sd_script.specs.declared.command.ScriptCommand.{ScriptCommand}
pub use Rattle.sd_script.specs.declared.command.ScriptCommand.TheVariants.{Open}
pub use Rattle.sd_script.specs.declared.fault.LineFault.{LineFault}
pub use Rattle.sd_script.specs.declared.fault.LineStop.{LineStop}
pub use Rattle.sd_script.specs.declared.fault.LineStop.TheVariants.{Fault, Memory}
pub use Rattle.sd_script.specs.declared.line_request.LineRequest.{LineRequest}
pub use Rattle.sd_script.specs.declared.line_request.LineRequest.TheVariants.{Asking, Importing, Moving, Opening, Trimming, Viewing}
pub use Rattle.sd_script.specs.declared.importing.Given.{Given}
pub use Rattle.sd_script.specs.declared.paths.PathSpelling.{PathSpelling}
pub use Rattle.sd_script.specs.declared.paths.PathSpelling.TheVariants.{Percent, Plain}
pub use Rattle.sd_script.specs.declared.question.NodeQuestion.TheVariants.{Delete, Why}
pub use Rattle.sd_script.specs.declared.script_options.Notation.{Notation}
pub use Rattle.sd_script.specs.declared.script_options.ScriptOptions.{ScriptOptions}
pub use Rattle.sd_script.specs.declared.script_state.ScriptState.{ScriptState}
pub use Rattle.sd_script.specs.declared.session.Session.{Session}
pub use Rattle.sd_script.specs.declared.session.Session.TheVariants.{Opened}
pub use Rattle.sd_script.specs.declared.view.ViewRequest.{ViewRequest}
pub use Rattle.sd_script.specs.declared.view.ViewRequest.TheVariants.{Dump}
pub use Rattle.sd_sid.specs.Mapping.{MappingValue}
pub use Rattle.sd_sid.specs.Mask.{holds}
pub use Rattle.sd_sid.specs.Sid.{SidValue}
pub use Rattle.sd_text.proofs.Engine.{no_fault, one_fault, one_value}
pub use Rattle.sd_text.specs.Grammar.{Spells}
pub use Rattle.sd_text.specs.Rights.{mask_text}
pub use Rattle.sd_text.specs.Sddl.{sddl_in}
pub use Rattle.sd_text.specs.declared.alias.Aliases.{Aliases}
pub use Rattle.sd_text.specs.Sid.{sid_text_in}
pub use Rattle.std.proofs.Common.{Bool, Err, List, None, Ok, OnErr, OnOk, Option, Result, Some, [], add-one, ap, append-nil, append_assoc, arith, drop, false, inl, inr, length, lit<, not, refl, rules, subst, suc, sym, tests, true, zero, ℕ, ◌++◌, ◌+◌, ◌<◌, ◌==◌, ◌||◌, ◌∙◌, ◌∷◌, ◌≡◌, ◌≤◌}
pub use Rattle.std.proofs.Math.ListN.{drop_of_length-le, length-map}
pub use Rattle.std.proofs.Math.Seq.{drop-cons}
pub use Rattle.std.proofs.lemmas.Bool.{and_parts, cases_Bool, cases_lt, false_from_ne_true, false≢true, le-ltb, lt-ltb}
pub use Rattle.std.proofs.lemmas.Bool.Decides.{nat_tests}
pub use Rattle.std.proofs.lemmas.Iterator.{YieldsList-from_slice}
pub use Rattle.std.proofs.lemmas.Iterator.Consumers.{map_from_collect}
pub use Rattle.std.proofs.lemmas.Iterator.Search.{all_from_yields_List, any_from_yields_List, position_from_yields_List}
pub use Rattle.std.proofs.lemmas.Iterator.Splits.{YieldsList-from_str_split}
pub use Rattle.std.proofs.lemmas.List.{append_cancel_right, length-append, nil_from_length, take_all}
pub use Rattle.std.proofs.lemmas.List.Elements.{All-head, All-tail}
pub use Rattle.std.proofs.lemmas.List.Splits.{join_with_byte-slice_split, slice_split_first, slice_split_none}
pub use Rattle.std.proofs.lemmas.List.Sums.{fails_before_first, prefix_len-le-length}
pub use Rattle.std.proofs.lemmas.Option.{get_or_from_slice_get, slice_get_cases, slice_get_within}
pub use Rattle.std.proofs.lemmas.Result.{err_from_is_err_and}
pub use Rattle.std.proofs.lemmas.Slice.Eq.{bytes_eq-Decides}
pub use Rattle.std.proofs.lemmas.Str.Pattern.{contains_text}
pub use Rattle.std.specs.Bool.{Decides, one_answer}
pub use Rattle.std.specs.Char.{is_ascii_graphic}
pub use Rattle.std.specs.FinMap.{entries, find, get-entries, len, len-entries}
pub use Rattle.std.specs.List.{All, flat_map, join_with_byte, list_all, list_any, slice_split}
pub use Rattle.std.specs.Option.{ForSome}
pub use Rattle.std.specs.Ordering.{eq_by_cmp}
pub use Rattle.std.specs.Prelude.{IsErrAnd, MatchBool, bytes_eq, codes, if◌then◌else◌, is_some, nat_le, nat_lt, option_map, slice_get, take, ⊤, ◌⊎◌}
pub use Rattle.std.specs.Result.{result_transpose}
pub use Rattle.std.specs.Str.{IsUtf8}
pub use Rattle.std.specs.Str.Iter.{HasSubslice}
pub use Rattle.std.specs.Str.Lines.{lines, lines_of_parts}
