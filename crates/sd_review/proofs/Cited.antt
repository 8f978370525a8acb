-- What these proofs cite of other modules, passed on from one place.
pub use Rattle.sd_acl.specs.Descriptor.{descriptor_of}
pub use Rattle.sd_acl.specs.declared.ace.Ace.{Ace}
pub use Rattle.sd_analysis.proofs.Deeper.{below_is_as_in_it}
pub use Rattle.sd_analysis.specs.Base.{HasBase}
pub use Rattle.sd_analysis.specs.Compare.{AreGains, HasABit}
pub use Rattle.sd_analysis.specs.Descendants.{AreDescendantChanges, IsDescendantChange, descendant_parts, descendants_of, list_of, stops_somewhere}
pub use Rattle.sd_analysis.specs.Sufficient.{Parts, entries_or_none, gains, token_of}
pub use Rattle.sd_analysis.specs.declared.compare_report.Change.{Change}
pub use Rattle.sd_analysis.specs.declared.descendants.Descendant.{Descendant}
pub use Rattle.sd_analysis.specs.declared.descendants.Descendant.TheVariants.{Container, ContainerBelow, Object, ObjectBelow}
pub use Rattle.sd_analysis.specs.declared.descendants_compare.DescendantChange.{DescendantChange}
pub use Rattle.sd_answer.proofs.NoLines.{no_gain_no_loss, parts_empty}
pub use Rattle.sd_answer.specs.Descendants.{descendant_lines}
pub use Rattle.sd_answer.specs.Parts.{parts_in}
pub use Rattle.sd_line.specs.Line.{LineOf}
pub use Rattle.sd_check.specs.Check.{is_granted}
pub use Rattle.sd_edit.specs.Journal.{TreeValue, replay}
pub use Rattle.sd_edit.specs.declared.edit.Edit.{Edit}
pub use Rattle.sd_edit.specs.declared.opening.Opening.{Opening}
pub use Rattle.sd_path.specs.Names.{Names}
pub use Rattle.sd_review.specs.Compared.{IsOf, IsRight, ReviewParts, review_parts_in}
pub use Rattle.sd_review.specs.Laws.{AreGrantedAlike, SilentContainerPassesDownTheSame, SilentNodeGrantsTheSame}
pub use Rattle.sd_review.specs.Lines.{with_path}
pub use Rattle.sd_review.specs.Origin.{origin, place_before}
pub use Rattle.sd_review.specs.Review.{Trees, trees_after}
pub use Rattle.sd_review.specs.declared.compared.Compared.{Compared}
pub use Rattle.sd_sid.specs.Mapping.{MappingValue}
pub use Rattle.sd_sid.specs.Mask.{holds}
pub use Rattle.std.proofs.Common.{Bool, List, None, Option, Some, [], ap, arith, drop, false, get_or, inl, inr, length, map, refl, subst, suc, sym, take, true, zero, ℕ, ◌++◌, ◌+◌, ◌-◌, ◌<◌, ◌∙◌, ◌∷◌, ◌≡◌, ◌≤◌}
pub use Rattle.std.proofs.Math.Seq.{drop-append_seam, take-length}
pub use Rattle.std.proofs.lemmas.List.{get_or-drop, length-drop}
pub use Rattle.std.proofs.lemmas.List.Elements.{All-cons, All-head, All-nil, All-tail}
pub use Rattle.std.specs.Bool.{one_answer}
pub use Rattle.std.specs.List.{All, flat_map}
pub use Rattle.std.specs.Prelude.{option_and_then, slice_get, ◌||◌}
