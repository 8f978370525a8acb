-- What each request changes of a machine, and what a run does.
use Rattle.sd_versions.proofs.Cited.{Answer, Answered, AnswersAreOfThePublished, Edit, Edited, Extends, FailureChangesNothing, FloorsNeverFall, IsLawful, IsReader, IsSound, Learned, List, Machine, Memory, NoNotice, NoReader, None, Opening, OpeningStays, PublishIsWhole, Published, PublishedGrows, Refused, Reply, Request, Runs, RunsAreSound, Shown, Steps, Told, [], ap, append-nil, append_assoc, arith, cases_order, drop, due, floor_of, get_or-replicate, get_or-set_other, get_or-set_same, get_or_past, inl, inr, lawful_none, lawful_push, leb_tells, length, length-replicate, longer, refl, refusal, replicate, started, subst, sym, take, take-append-drop, take-append_seam, take-take, with_edit, with_floor, with_publish, ℕ, ◌++◌, ◌∙◌, ◌∷◌, ◌≡◌, ◌≤◌}
use Rattle.sd_edit.specs.Machine.{accepted}
use Rattle.sd_edit.specs.Machine.{accepted}
use Rattle.sd_edit.specs.declared.request.Request.TheVariants as asked

-- ---- beginnings

pub extends_itself : (xs : List Edit) → Extends xs xs
extends_itself xs = ([], sym (append-nil xs))

pub extends_further : (xs ys zs : List Edit) → Extends xs ys → Extends ys zs → Extends xs zs
extends_further xs ys zs first second =
    (second.0 ++ first.0, first.1 ∙ ap (λ es. es ++ first.0) second.1 ∙ append_assoc zs second.0 first.0)

-- of two beginnings the longer extends the other
begins_alike : (all xs ys : List Edit) → Extends all xs → Extends all ys → length xs ≤ length ys → Extends ys xs
begins_alike all xs ys first second short =
    let is-xs : take (length xs) all ≡ xs = ap (take (length xs)) first.1 ∙ take-append_seam xs first.0 in
    let is-ys : take (length ys) all ≡ ys = ap (take (length ys)) second.1 ∙ take-append_seam ys second.0 in
    let begins : take (length xs) ys ≡ xs =
    ap (take (length xs)) (sym is-ys) ∙ take-take (length xs) (length ys) all short ∙ is-xs in
    (drop (length xs) ys, sym (take-append-drop (length xs) ys) ∙ ap (λ es. es ++ drop (length xs) ys) begins)

longer_begins : (all xs ys : List Edit) → Extends all xs → Extends all ys → Extends all (longer xs ys)
longer_begins all xs ys first second =
    elim (leb_tells (length xs) (length ys)) [
      | inl less ↦ rw less.0 second
      | inr more ↦ rw more.0 first
    ]

longer_extends : (all xs ys : List Edit) → Extends all xs → Extends all ys → Extends (longer xs ys) xs
longer_extends all xs ys first second =
    elim (leb_tells (length xs) (length ys)) [
      | inl less ↦ rw less.0 (begins_alike all xs ys first second less.1)
      | inr more ↦ rw more.0 (extends_itself xs)
    ]

-- ---- the changes

record Moves (old new : Machine) : Type 0 where
  opening : new.opening ≡ old.opening
  grows : Extends new.published old.published
  floors : IsSound old → (reader : ℕ) → Extends (floor_of new reader) (floor_of old reader)
  sound : IsSound old → IsSound new

stays : (old : Machine) → Moves old old
stays old = record {
  opening = refl;
  grows = extends_itself old.published;
  floors = λ _ reader. extends_itself (floor_of old reader);
  sound = λ sound. sound;
}

then_moves : (old m new : Machine) → Moves old m → Moves m new → Moves old new
then_moves old m new first second = record {
  opening = second.opening ∙ first.opening;
  grows = extends_further new.published m.published old.published second.grows first.grows;
  floors = λ sound reader. extends_further (floor_of new reader) (floor_of m reader) (floor_of old reader) (second.floors (first.sound sound) reader) (first.floors sound reader);
  sound = λ sound. second.sound (first.sound sound);
}

edit_moves : (old : Machine) (edit : Edit) → due old edit ≡ None → Moves old (with_edit old edit)
edit_moves old edit fits = record {
  opening = refl;
  grows = extends_itself old.published;
  floors = λ _ reader. extends_itself (floor_of old reader);
  sound = λ sound. record {
    floors = sound.floors;
    lawful = subst (IsLawful old.opening) (append_assoc old.published old.pending (edit ∷ [])) (lawful_push old.opening (accepted old) edit sound.lawful fits);
  };
}

publish_moves : (old : Machine) → Moves old (with_publish old)
publish_moves old = record {
  opening = refl;
  grows = (old.pending, refl);
  floors = λ _ reader. extends_itself (floor_of old reader);
  sound = λ sound. record {
    floors = λ reader. extends_further (accepted old) old.published (floor_of old reader) (old.pending, refl) (sound.floors reader);
    lawful = subst (IsLawful old.opening) (sym (append-nil (accepted old))) sound.lawful;
  };
}

-- a fact for each reader's floor, where one has changed
each_floor : (P : ℕ → List Edit → Type 0) (old : Machine) (reader : ℕ) (floor : List Edit) → IsReader old reader
    → P reader floor → ((other : ℕ) → P other (floor_of old other)) → (other : ℕ) → P other (floor_of (with_floor old reader floor) other)
each_floor P old reader floor there here others other =
    elim (cases_order other reader) [
      | inl same ↦
          let is : floor_of (with_floor old reader floor) other ≡ floor =
          ap (floor_of (with_floor old reader floor)) same ∙ get_or-set_same old.floors reader floor [] there in
          subst (P other) (sym is) (subst (λ r. P r floor) (sym same) here)
      | inr apart ↦
          let differs : other ≡ reader → ⊥ = λ e. elim apart [ inl less ↦ absurd (omega (arith, e)) | inr more ↦ absurd (omega (arith, e)) ] in
          subst (P other) (sym (get_or-set_other old.floors reader other floor [] differs)) (others other)
    ]

floor_moves : (old : Machine) (reader : ℕ) (floor : List Edit) → IsReader old reader
    → (IsSound old → Extends old.published floor × Extends floor (floor_of old reader)) → Moves old (with_floor old reader floor)
floor_moves old reader floor there rises = record {
  opening = refl;
  grows = extends_itself old.published;
  floors = λ sound. each_floor (λ r xs. Extends xs (floor_of old r)) old reader floor there ((rises sound).1) (λ r. extends_itself (floor_of old r));
  sound = λ sound. record {
    floors = each_floor (λ _ xs. Extends old.published xs) old reader floor there ((rises sound).0) sound.floors;
    lawful = sound.lawful;
  };
}

look_moves : (old : Machine) (reader : ℕ) → IsReader old reader → Moves old (with_floor old reader old.published)
look_moves old reader there = floor_moves old reader old.published there (λ sound. (extends_itself old.published, sound.floors reader))

learn_moves : (old : Machine) (reader len : ℕ) → IsReader old reader
    → Moves old (with_floor old reader (longer (floor_of old reader) (take len old.published)))
learn_moves old reader len there =
    let told : Extends old.published (take len old.published) = (drop len old.published, sym (take-append-drop len old.published)) in
    floor_moves old reader (longer (floor_of old reader) (take len old.published)) there (λ sound. (
      longer_begins old.published (floor_of old reader) (take len old.published) (sound.floors reader) told,
      longer_extends old.published (floor_of old reader) (take len old.published) (sound.floors reader) told,
    ))

-- ---- one request

step_moves : (old : Machine) (request : Request) (reply : Reply) (new : Machine) → Steps old request reply new → Moves old new
step_moves old (asked.Edit edit) Edited new step = subst (Moves old) (sym step.1) (edit_moves old edit step.0)
step_moves old (asked.Edit edit) (Refused refusal) new step = subst (Moves old) (sym step.1) (stays old)
step_moves old (asked.Edit edit) Memory new step = subst (Moves old) (sym step.1) (stays old)
step_moves old asked.Publish (Published len) new step = subst (Moves old) (sym step.1) (publish_moves old)
step_moves old asked.Publish Memory new step = subst (Moves old) (sym step) (stays old)
step_moves old asked.Tell (Told len) new step = subst (Moves old) (sym step.1) (stays old)
step_moves old (asked.Learn reader len) NoReader new step = subst (Moves old) (sym step.1) (stays old)
step_moves old (asked.Learn reader len) NoNotice new step = subst (Moves old) (sym step.2) (stays old)
step_moves old (asked.Learn reader len) (Learned floor) new step = subst (Moves old) (sym step.3) (learn_moves old reader len step.0)
step_moves old (asked.Check reader path token mask) NoReader new step = subst (Moves old) (sym step.1) (stays old)
step_moves old (asked.Check reader path token mask) (Answered given) new step = subst (Moves old) (sym step.2) (look_moves old reader step.0)
step_moves old (asked.Show reader path) NoReader new step = subst (Moves old) (sym step.1) (stays old)
step_moves old (asked.Show reader path) (Shown seen descriptor) new step = subst (Moves old) (sym step.3) (look_moves old reader step.0)
step_moves old (asked.Show reader path) Memory new step = subst (Moves old) (sym step.2) (stays old)
step_moves old request reply new step = absurd step

pub publish_is_whole : PublishIsWhole
publish_is_whole old new (asked.Edit edit) Edited step = inl (ap (λ (m : Machine). m.published) step.1)
publish_is_whole old new (asked.Edit edit) (Refused refusal) step = inl (ap (λ (m : Machine). m.published) step.1)
publish_is_whole old new (asked.Edit edit) Memory step = inl (ap (λ (m : Machine). m.published) step.1)
publish_is_whole old new asked.Publish (Published len) step = inr (refl, ap (λ (m : Machine). m.published) step.1, ap (λ (m : Machine). m.pending) step.1)
publish_is_whole old new asked.Publish Memory step = inl (ap (λ (m : Machine). m.published) step)
publish_is_whole old new asked.Tell (Told len) step = inl (ap (λ (m : Machine). m.published) step.1)
publish_is_whole old new (asked.Learn reader len) NoReader step = inl (ap (λ (m : Machine). m.published) step.1)
publish_is_whole old new (asked.Learn reader len) NoNotice step = inl (ap (λ (m : Machine). m.published) step.2)
publish_is_whole old new (asked.Learn reader len) (Learned floor) step = inl (ap (λ (m : Machine). m.published) step.3)
publish_is_whole old new (asked.Check reader path token mask) NoReader step = inl (ap (λ (m : Machine). m.published) step.1)
publish_is_whole old new (asked.Check reader path token mask) (Answered given) step = inl (ap (λ (m : Machine). m.published) step.2)
publish_is_whole old new (asked.Show reader path) NoReader step = inl (ap (λ (m : Machine). m.published) step.1)
publish_is_whole old new (asked.Show reader path) (Shown seen descriptor) step = inl (ap (λ (m : Machine). m.published) step.3)
publish_is_whole old new (asked.Show reader path) Memory step = inl (ap (λ (m : Machine). m.published) step.2)
publish_is_whole old new request reply step = absurd step

pub failure_changes_nothing : FailureChangesNothing
failure_changes_nothing old new (asked.Edit edit) (Refused refusal) step failed = step.1
failure_changes_nothing old new (asked.Edit edit) Memory step failed = step.1
failure_changes_nothing old new asked.Publish Memory step failed = step
failure_changes_nothing old new (asked.Learn reader len) NoReader step failed = step.1
failure_changes_nothing old new (asked.Learn reader len) NoNotice step failed = step.2
failure_changes_nothing old new (asked.Check reader path token mask) NoReader step failed = step.1
failure_changes_nothing old new (asked.Show reader path) NoReader step failed = step.1
failure_changes_nothing old new (asked.Show reader path) Memory step failed = step.2
failure_changes_nothing old new (asked.Edit edit) Edited step failed = cc
failure_changes_nothing old new asked.Publish (Published len) step failed = cc
failure_changes_nothing old new asked.Tell (Told len) step failed = cc
failure_changes_nothing old new (asked.Learn reader len) (Learned floor) step failed = cc
failure_changes_nothing old new (asked.Check reader path token mask) (Answered given) step failed = cc
failure_changes_nothing old new (asked.Show reader path) (Shown seen descriptor) step failed = cc
failure_changes_nothing old new request reply step failed = absurd step

pub answers_are_of_the_published : AnswersAreOfThePublished
answers_are_of_the_published old new reader path token mask given sound step = (
  ap (λ (a : Answer). a.reply) step.1,
  ap (λ (a : Answer). a.seen) step.1,
  sound.floors reader,
  ap (λ (m : Machine). floor_of m reader) step.2 ∙ get_or-set_same old.floors reader old.published [] step.0,
)

-- ---- a list of requests

runs_move : (old : Machine) (requests : List Request) (replies : List Reply) (new : Machine) → Runs old requests replies new → Moves old new
runs_move old [] [] new runs = subst (Moves old) (sym runs) (stays old)
runs_move old [] (reply ∷ replies) new runs = absurd runs
runs_move old (request ∷ requests) [] new runs = absurd runs
runs_move old (request ∷ requests) (reply ∷ replies) new runs =
    then_moves old runs.0 new (step_moves old request reply runs.0 runs.1.0) (runs_move runs.0 requests replies new runs.1.1)

pub opening_stays : OpeningStays
opening_stays old new requests replies runs = (runs_move old requests replies new runs).opening

pub published_grows : PublishedGrows
published_grows old new requests replies runs = (runs_move old requests replies new runs).grows

pub floors_never_fall : FloorsNeverFall
floors_never_fall old new requests replies reader sound runs = (runs_move old requests replies new runs).floors sound reader

-- the start is sound
no_floor : (opening : Opening) (readers reader : ℕ) → floor_of (started opening readers) reader ≡ []
no_floor opening readers reader =
    let none : List Edit = [] in
    elim (leb_tells readers reader) [
      | inl over ↦ get_or_past (replicate readers none) reader [] (omega (arith, length-replicate readers none, over.1))
      | inr there ↦ get_or-replicate readers reader [] [] there.1
    ]

pub runs_are_sound : RunsAreSound
runs_are_sound opening readers requests replies m runs =
    (runs_move (started opening readers) requests replies m runs).sound (record {
      floors = λ reader. ([], sym (append-nil (floor_of (started opening readers) reader) ∙ no_floor opening readers reader));
      lawful = lawful_none opening;
    })
