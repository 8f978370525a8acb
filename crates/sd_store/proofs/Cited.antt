-- What these proofs cite of other modules, passed on from one place.
pub use Rattle.atomic_table.proofs.Lists.{at_set, at_snoc}
pub use Rattle.left_right.specs.Register.{Admits, Turns, TurnsAt}
pub use Rattle.sd_edit.specs.Journal.{IsLawful, TreeValue}
pub use Rattle.sd_edit.specs.declared.edit.Edit.{Edit}
pub use Rattle.sd_edit.specs.declared.opening.Opening.{Opening}
pub use Rattle.sd_edit.specs.declared.reply.Answer.{Answer}
pub use Rattle.sd_history.specs.Chains.{Comparable, Sighting, items_from}
pub use Rattle.sd_store.specs.Audits.{AreAnswers, HasGrown, HaveGrown, IsAnswer, reply_by}
pub use Rattle.sd_store.specs.Marks.{Follow, IsOnePublish, ShowTree, last_of, marked, marks_with, with_shown}
pub use Rattle.sd_store.specs.Rules.{Fits, IsFrontOf, IsSound, Kept, Shows, StoreIdValue, newcomer, store_id, whole_of}
pub use Rattle.sd_store.specs.Sights.{Sight}
pub use Rattle.sd_store.specs.Workers.{AreDone, AreInformed, IsAnswered, IsDealt, IsDone, IsDrawn, IsDrawnAt, IsFresh, IsFurther, IsInformed, IsUnderWay, IsWorked}
pub use Rattle.sd_store.specs.declared.operation.Facts.{Facts}
pub use Rattle.sd_store.specs.declared.operation.Operation.{Operation}
pub use Rattle.sd_store.specs.declared.published.Published.{Published}
pub use Rattle.sd_store.specs.declared.query.Query.{Query}
pub use Rattle.sd_store.specs.declared.rule.KnownJournal.{KnownJournal}
pub use Rattle.std.proofs.Common.{All, Err, IfOk, List, MatchResult, None, Ok, OnOk, Result, Some, [], ap, append_assoc, arith, drop, false, fold, inl, inr, le_trans, length, length-append, length-set, refl, rules, slice_index_or, slice_set, subst, suc, sym, take, true, vec_capacity, vec_len, zero, ℕ, ⊎_elim, ◌%◌, ◌*◌, ◌++◌, ◌+◌, ◌-◌, ◌/◌, ◌<◌, ◌∙◌, ◌∷◌, ◌≡◌, ◌≢◌, ◌≤◌, ◌⊎◌}
pub use Rattle.std.proofs.Math.Nat.{div-eq-sub-div, lt_of_mul-lt-mul_left, mod-add-div, mod-eq-sub-mod, mod-lt}
pub use Rattle.std.proofs.Math.Seq.{set-append_seam}
pub use Rattle.std.proofs.lemmas.Grind.{get_or-set_at}
pub use Rattle.std.proofs.lemmas.List.{append-nil, get_or-set_other, get_or_append_left, get_or_push, length_push, take-append-le, take_all}
pub use lib.ListN.{get_elem?}
pub use mathlib.Core.List.{IsPrefix}
pub use mathlib.Core.Option.{some}
