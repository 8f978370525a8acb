-- What these proofs cite of other modules, passed on from one place.
pub use Rattle.sd_blocks.specs.Runs.{AreParts, IsRunAt, with_run, without_run, written}
pub use Rattle.sd_blocks.specs.Stored.{AreHalves, IsBlockOf, StartFrom, down, joined, lowered, up}
pub use Rattle.std.proofs.Common.{Err, List, Ok, OnErr, OnOk, Result, [], add-one, ap, append_assoc, arith, drop, get_or, inl, inr, length, length-append, map, refl, rules, suc, sym, take, zero, ℕ, ◌++◌, ◌+◌, ◌-◌, ◌/◌, ◌<◌, ◌∙◌, ◌∷◌, ◌≡◌, ◌≤◌, ◌⊎◌}
pub use Rattle.std.proofs.Math.ListN.{set}
pub use Rattle.std.proofs.Math.Seq.{drop-append-add, take-append-add}
pub use Rattle.std.proofs.lemmas.Bool.{cases_lt}
pub use Rattle.std.proofs.lemmas.Fn.{always_returns_same}
pub use Rattle.std.proofs.lemmas.List.{drop-append-le, drop-drop, drop-set-lt, drop_at, get_or-drop, get_or_default, length-drop, length-take, length-take-le, map_more, nil_from_length, set-append_left, set-append_right, take-append-drop, take-append-le, take-take, take_all, take_at, take_more_set, take_rest}
pub use Rattle.std.proofs.lemmas.List.Concat.{flat_map-append, get_or-flat_map}
pub use Rattle.std.proofs.lemmas.List.Edits.{insert-append_left, insert-append_right, length-insert, length-remove, remove-append_left, remove-append_right}
pub use Rattle.std.proofs.lemmas.List.Folds.{length-flat_map-take}
pub use Rattle.std.specs.List.{AllWithin, HoldsAt, insert, remove}
pub use Rattle.std.specs.List.Sorted.{IsNonDecreasingBy, IsPartitionPoint}
pub use Rattle.std.specs.Option.{option_to_list}
pub use Rattle.std.specs.Ordering.{ordering_index}
pub use Rattle.std.specs.declared.cmp.Ordering.{Ordering}
pub use Rattle.std.specs.declared.cmp.Ordering.TheVariants.{Equal, Greater, Less}
