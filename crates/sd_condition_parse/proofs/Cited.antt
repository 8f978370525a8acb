-- What these proofs cite of other modules, passed on from one place.
pub use Rattle.sd_condition_parse.specs.Attribute.{unit_step}
pub use Rattle.sd_condition_parse.specs.Condition.{start, step}
pub use Rattle.sd_condition_parse.specs.Operator.{worded}
pub use Rattle.sd_condition_parse.specs.Outcome.{Parser, Refuses, steps}
pub use Rattle.sd_condition_parse.specs.Run.{run_len}
pub use Rattle.sd_condition_parse.specs.Value.{item_step}
pub use Rattle.sd_condition_parse.specs.declared.error.ConditionError.{ConditionError}
pub use Rattle.sd_condition_parse.specs.declared.error.ConditionError.TheVariants.{Fault, Memory}
pub use Rattle.sd_condition_parse.specs.declared.run.Class.TheVariants.{Unquoted}
pub use Rattle.sd_text.proofs.Engine.{shorter}
pub use Rattle.sd_text.proofs.Parts.{begins_takes}
pub use Rattle.sd_text.specs.Finding.{IsCapped, behind_part}
pub use Rattle.sd_text.specs.Grammar.{word}
pub use Rattle.sd_text.specs.Names.{rows}
pub use Rattle.sd_text.specs.Sid.{sid}
pub use Rattle.sd_text.specs.declared.fault.TextFault.{TextFault}
pub use Rattle.std.proofs.Common.{Bool, Err, List, Ok, [], ap, arith, codes, cond, drop, false, get_or, length, map-id, refl, subst, suc, sym, take, true, zero, ℕ, ◌+◌, ◌<◌, ◌∙◌, ◌≡◌, ◌≤◌}
pub use Rattle.std.proofs.lemmas.Iterator.{YieldsList-from_chars}
pub use Rattle.std.proofs.lemmas.Iterator.Consumers.{YieldsList-end}
pub use Rattle.std.proofs.lemmas.Result.{err_from_is_err_and}
pub use Rattle.std.proofs.lemmas.Str.{IsUtf8-from_is_utf8, is_utf8-from_IsUtf8}
pub use Rattle.std.specs.Char.{digit_value}
pub use Rattle.std.specs.Char.Escape.{encode_utf16}
pub use Rattle.std.specs.List.{flat_map}
pub use Rattle.std.specs.Str.{IsUtf8, is_utf8}
pub use Rattle.std.specs.Str.Parse.{AllDigits, digits_value}
