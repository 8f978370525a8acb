-- What these proofs cite of other modules, passed on from one place.
pub use Rattle.sd_lines.specs.Answers.{Answering, AreAnswered, Prints, PrintsAndLeaves, of_form}
pub use Rattle.sd_lines.specs.Decoder.{text_after, text_by, text_in}
pub use Rattle.sd_lines.specs.Lines.{HasNoEnd, IsEnded, IsLong, asked_of, end_byte, ended_line, lines_between, lines_in, text_of}
pub use Rattle.sd_lines.specs.Output.{AnswersEnded, AnswersPart, AppendsOutput}
pub use Rattle.sd_lines.specs.Steps.{Answered, Continues, ends_run}
pub use Rattle.sd_lines.specs.Streams.{AppendsBeginning}
pub use Rattle.sd_lines.specs.Utf16.{char_text, over_in, unfinished, unit, units_in, utf16_text}
pub use Rattle.sd_lines.specs.Watched.{has_failed, inner_of}
pub use Rattle.sd_lines.specs.declared.decoder.Coding.{Coding}
pub use Rattle.sd_lines.specs.declared.decoder.Coding.TheVariants.{Utf8}
pub use Rattle.sd_lines.specs.declared.ending.Ending.{Ending}
pub use Rattle.sd_lines.specs.declared.ending.Ending.TheVariants.{Feed, Zero}
pub use Rattle.sd_lines.specs.declared.form.Form.{Form}
pub use Rattle.sd_lines.specs.declared.form.TheConstants.{KEPT_BYTES}
pub use Rattle.sd_lines.specs.declared.input.TheConstants.{MAX_INPUT_BYTES}
pub use Rattle.sd_lines.specs.declared.utf16.ByteOrder.{ByteOrder}
pub use Rattle.memchr.specs.Find.{IsFirstByte, is_byte}
pub use Rattle.std.proofs.Common.{Bool, List, None, Option, Some, [], ap, append-nil, append_assoc, arith, cond, drop, eqb, false, get_or, inl, inr, leb, length, length-append, length-drop, length-take, lit<, ltb, refl, rules, sym, take, take-append-drop, tests, true, vec_len, ℕ, ◌&&◌, ◌++◌, ◌+◌, ◌-◌, ◌<◌, ◌^◌, ◌∙◌, ◌∷◌, ◌≡◌, ◌≤◌, ◌⊎◌}
pub use Rattle.std.proofs.KnownBytes.{Appends-nil, Appends-trans, Consumes-all, Consumes-kept, Consumes-trans}
pub use Rattle.std.proofs.Math.Seq.{take-append-add}
pub use Rattle.std.proofs.lemmas.Bool.{and_parts, cases_lt}
pub use Rattle.std.proofs.lemmas.Bool.Decides.{nat_tests}
pub use Rattle.std.proofs.lemmas.List.{drop_more, get_or-take, nil_from_length, take-append-le, take_all, take_rest}
pub use Rattle.std.proofs.lemmas.List.Elements.{All-append}
pub use Rattle.std.proofs.lemmas.List.Splits.{length-slice_split, slice_split_at, slice_split_none}
pub use Rattle.std.proofs.lemmas.List.Sums.{fails_before_first, passes_at_first, position_or_len_is}
pub use Rattle.std.proofs.lemmas.Result.{IfErr-weaker, err_from_is_err_and, on_ok_weaker}
pub use Rattle.std.proofs.lemmas.Str.{utf16_chars-nil, utf16_chars_lone, utf16_chars_pair}
pub use Rattle.std.specs.Char.{InScalarRange, IsScalar, OutOfScalarRange}
pub use Rattle.std.specs.Char.Utf16.{is_high_surrogate, is_low_surrogate, lone_unit_char, surrogate_pair_char, utf16_chars}
pub use Rattle.std.specs.Io.KnownBytes.{Appends, Consumes, IsAtEnd}
pub use Rattle.std.specs.List.{flat_map, position_or_len, slice_split}
pub use Rattle.std.specs.Prelude.{All, MatchOption, SomeIff, unwrap_or}
