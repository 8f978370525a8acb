-- What these proofs cite of other modules, passed on from one place.
pub use Rattle.sd_analysis.specs.Compare.{HasABit}
pub use Rattle.sd_analysis.specs.Sufficient.{Parts, parts_of}
pub use Rattle.sd_analysis.specs.declared.compare_report.Change.{Change}
pub use Rattle.sd_analysis.specs.declared.descendants.Descendant.{Descendant}
pub use Rattle.sd_analysis.specs.declared.who_has.Alternative.{Alternative}
pub use Rattle.sd_answer.specs.Compare.{change_line, changes_lines, gains_and_losses}
pub use Rattle.sd_answer.specs.Descendants.{descendants_lines, descendants_who_lines}
pub use Rattle.sd_answer.specs.Lines.{BitsForm, LineValue, Saying, bits_form, bits_line, is_lowest, joined, joined_at, lines_at, lines_below, same_saying, union, value_of, values}
pub use Rattle.sd_answer.specs.Lint.{list_lines}
pub use Rattle.sd_answer.specs.Who.{alternative_saying, joined_accesses, plain_sids}
pub use Rattle.sd_answer.specs.Why.{part_lines}
pub use Rattle.sd_answer.specs.Word.{AreEach, AreGroups, Ended, IsFirstNoGroup, IsFirstNoWord, IsFirstNone, IsGroup, IsToken, IsWord, Or, parts_token, texts, token_of}
pub use Rattle.sd_answer.specs.declared.lines.BitsLine.{BitsLine}
pub use Rattle.sd_answer.specs.declared.word.Word.{Word}
pub use Rattle.sd_answer.specs.declared.word.Word.TheVariants.{Group}
pub use Rattle.sd_check.specs.Token.{TokenValue}
pub use Rattle.sd_check.specs.declared.token.GroupState.{GroupState}
pub use Rattle.sd_explain.specs.Parts.{reason_in}
pub use Rattle.sd_sid.proofs.Masks.{flag_test}
pub use Rattle.sd_sid.specs.Mask.{holds}
pub use Rattle.sd_sid.specs.Sid.{SidValue}
pub use Rattle.sd_text.proofs.Engine.{no_fault, one_value}
pub use Rattle.sd_text.specs.Fault.{StandsIn}
pub use Rattle.sd_text.specs.Grammar.{Grammar, Spells}
pub use Rattle.sd_text.specs.Sid.{sid_text_in}
pub use Rattle.sd_text.specs.declared.alias.Aliases.{Aliases}
pub use Rattle.sd_text.specs.declared.fault.TextError.{TextError}
pub use Rattle.sd_text.specs.declared.fault.TextError.TheVariants.{Fault, Memory}
pub use Rattle.std.proofs.Common.{Bool, List, None, Option, Some, [], ap, append-nil, arith, fold, get_or, inl, inr, length, map, refl, rules, set, slice_get, subst, suc, sym, take, true, zero, ℕ, ◌%◌, ◌++◌, ◌+◌, ◌/◌, ◌<◌, ◌==◌, ◌∙◌, ◌∷◌, ◌≡◌}
pub use Rattle.std.proofs.lemmas.Bool.{cases_order, eq-eqb, eqb-true, false≢true, ltb-true}
pub use Rattle.std.proofs.lemmas.List.{append_cancel_right, get_or-map, length-map, map-append, map-set, take_more}
pub use Rattle.std.proofs.lemmas.List.Elements.{All-head}
pub use Rattle.std.proofs.lemmas.List.Quantifiers.{position-Some}
pub use Rattle.std.proofs.lemmas.List.Sums.{fold_push}
pub use Rattle.std.proofs.lemmas.Nat.Bits.{bit_at-suc, bit_at_lowest}
pub use Rattle.std.proofs.lemmas.Option.{slice_get_read}
pub use Rattle.std.specs.Borrow.{Bor}
pub use Rattle.std.specs.Int.{bit_at, trailing_zeros}
pub use Rattle.std.specs.Int.Width.{w32}
pub use Rattle.std.specs.List.{All, list_any, position, position_or_len}
pub use Rattle.std.specs.Prelude.{codes, if◌then◌else◌}
pub use Rattle.std.specs.Str.{bytes_eq}
pub use lib.Count.{under}
pub use lib.Pointwise.{bytes_decides}
