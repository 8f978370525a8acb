-- What these proofs cite of other modules, passed on from one place.
pub use Rattle.sd_edit.proofs.Journals.{lawful_none, lawful_push}
pub use Rattle.sd_edit.specs.Journal.{IsLawful, refusal}
pub use Rattle.sd_edit.specs.Machine.{IsReader, Machine, Runs, Steps, due, floor_of, longer, started, with_edit, with_floor, with_look, with_publish}
pub use Rattle.sd_edit.specs.declared.edit.Edit.{Edit}
pub use Rattle.sd_edit.specs.declared.opening.Opening.{Opening}
pub use Rattle.sd_edit.specs.declared.reply.Answer.{Answer}
pub use Rattle.sd_edit.specs.declared.request.Reply.{Reply}
pub use Rattle.sd_edit.specs.declared.request.Reply.TheVariants.{Answered, Edited, Learned, Memory, NoNotice, NoReader, Published, Refused, Shown, Told}
pub use Rattle.sd_edit.specs.declared.request.Request.{Request}
pub use Rattle.sd_edit.specs.declared.request.Request.TheVariants.{Learn, Publish}
pub use Rattle.sd_versions.specs.Desk.{AreWithin, beginnings, machine_of}
pub use Rattle.sd_versions.specs.Laws.{AnswersAreOfThePublished, Extends, FailureChangesNothing, FloorsNeverFall, IsSound, OpeningStays, PublishIsWhole, PublishedGrows, RunsAreSound}
pub use Rattle.sd_versions.specs.Versions.{VersionsValue, accepted}
pub use Rattle.std.proofs.Common.{List, None, [], ap, arith, drop, inl, inr, length, map, max, refl, replicate, slice_index_or, slice_set, subst, sym, take, vec_capacity, vec_len, ℕ, ◌++◌, ◌+◌, ◌<◌, ◌∙◌, ◌∷◌, ◌≡◌, ◌≤◌}
pub use Rattle.std.proofs.Math.Seq.{take-append_seam, take-length}
pub use Rattle.std.proofs.lemmas.Bool.{cases_order}
pub use Rattle.std.proofs.lemmas.Bool.Decides.{leb_tells}
pub use Rattle.std.proofs.lemmas.List.{append-nil, append_assoc, get_or-map, get_or-replicate, get_or-set_other, get_or-set_same, get_or_past, get_or_read, length-append, length-map, length-replicate, length-take-le, map-set, take-append-drop, take-append-le, take-take, take_all, take_more}
pub use Rattle.std.proofs.lemmas.List.Elements.{All-get_or, All-head, All-tail}
pub use Rattle.std.proofs.lemmas.Simd.{splat_is_map}
