-- What these proofs cite of other modules, passed on from one place.
pub use Rattle.sd_path.specs.Names.{IsPath, Keeps, Names, ended, is_name, is_name_byte, is_root, is_within, moved_path, names_cmp, names_of, up}
pub use Rattle.sd_path.specs.PathText.{IsReadAs, between_slashes, fault_of, name_fault, slashed, unless}
pub use Rattle.sd_path.specs.declared.error.PathError.{PathError}
pub use Rattle.sd_path.specs.declared.error.PathError.TheVariants.{Memory, NameTooLong, Syntax, TooManyNames}
pub use Rattle.std.proofs.Common.{Err, List, None, Ok, Option, Result, Some, [], ap, append-nil, append_assoc, ap₂, arith, cond, drop, false, get_or, if◌then◌else◌, length, map, nat_cmp, nat_eq, nat_le, nat_lt, not, refl, rules, subst, suc, sym, take, true, zero, ℕ, ◌&&◌, ◌++◌, ◌+◌, ◌-◌, ◌<◌, ◌==◌, ◌||◌, ◌∙◌, ◌∷◌, ◌≡◌, ◌≢◌, ◌≤◌}
pub use Rattle.std.proofs.Math.Bool.{and_assoc}
pub use Rattle.std.proofs.Math.ListN.{get_or-append}
pub use Rattle.std.proofs.Math.Seq.{drop-append_seam, get_or-append_right, get_or-append_seam, take-append_seam}
pub use Rattle.std.proofs.lemmas.Bool.{and_from, and_parts, false≢true}
pub use Rattle.std.proofs.lemmas.Bool.Decides.{nat_tests}
pub use Rattle.std.proofs.lemmas.Cmp.{lists_total, nat_list_cmp_total, tied_back, tied_itself}
pub use Rattle.std.proofs.lemmas.Grind.{put_three}
pub use Rattle.std.proofs.lemmas.List.{get_or-take, length-append, length-take-le, take_all}
pub use Rattle.std.proofs.lemmas.List.Elements.{All-from_get_or}
pub use Rattle.std.proofs.lemmas.List.Folds.{list_all-append, list_all_at}
pub use Rattle.std.proofs.lemmas.List.Splits.{slice_split_first, slice_split_none}
pub use Rattle.std.proofs.lemmas.List.Sums.{fails_before_first, list_all-from_AllPass, passes_at_first, position_or_len_is, prefix_len-le-length, prefix_len_passes, prefix_len_stops}
pub use Rattle.std.proofs.lemmas.Result.{err_from_is_err_and}
pub use Rattle.std.proofs.lemmas.Slice.Eq.{bytes_eq-Decides}
pub use Rattle.std.specs.Cmp.{IsTotalOrder}
pub use Rattle.std.specs.Cmp.Derive.{then_next}
pub use Rattle.std.specs.Cmp.Lexicographic.{slice_cmp}
pub use Rattle.std.specs.FinMap.{IsAntisymmetric, nat_cmp-IsAntisymmetric, slice_cmp-IsAntisymmetric}
pub use Rattle.std.specs.List.{before_first, list_all, onto_first, position_or_len, prefix_len, starts_with}
pub use Rattle.std.specs.Option.{option_or}
pub use Rattle.std.specs.Ordering.{ordering_then}
pub use Rattle.std.specs.Str.{bytes_eq}
pub use Rattle.std.specs.declared.cmp.Ordering.{Ordering}
pub use Rattle.std.specs.declared.cmp.Ordering.TheVariants.{Equal, Greater, Less}
