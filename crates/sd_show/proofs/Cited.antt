-- What these proofs cite of other modules, passed on from one place.
pub use Rattle.std.proofs.Common.{List, None, Option, [], get_or, length, map, refl, sym, take, ℕ, ◌++◌, ◌+◌, ◌<◌, ◌≡◌, ◌∙◌, ◌∷◌}
pub use Rattle.std.specs.Borrow.{Bor}
pub use Rattle.std.specs.List.{flat_map}
pub use Rattle.sd_line.specs.declared.line.Value.{Value}
pub use Rattle.sd_show.specs.Control.{bits_of, rows, words_set}
pub use Rattle.sd_show.specs.Diff.{bit_changes, new_below, removed_below}
pub use Rattle.sd_show.specs.Entry.{entry_values}
pub use Rattle.sd_show.specs.Pairs.{counted_of, counts, partner, values}
pub use Rattle.sd_show.specs.Show.{entries_below}
