use Rattle.sd_path.proofs.Cited.{ap, drop, is_within, length, moved_path, names_of, true, ◌++◌, ◌∙◌, ◌≡◌, ◌≤◌}
use Rattle.sd_path.proofs.Moved.{source_fits, count_fits, moved_keeps, moved_names}
use Rattle.sd_path.proofs.path.Path.moved.Goals as goal

pub split_at-requires : goal.split_at-requires
split_at-requires c =
    let within : is_within (names_of c.source.inside.bytes.now) (names_of c.self.inside.bytes.items) ≡ true = rw (c.source.view_is, c.self.view_is) c.requires.within in
    rw c.deref.ensures.value (source_fits c.source.inside.bytes.now c.source.inside.bytes.now c.self.inside.bytes.items _ _ _ c.source.invariant c.source.invariant c.self.invariant within)

pub overflow_sub-below : goal.overflow_sub-below
overflow_sub-below c =
    let within : is_within (names_of c.source.inside.bytes.now) (names_of c.self.inside.bytes.items) ≡ true = rw (c.source.view_is, c.self.view_is) c.requires.within in
    count_fits c.source.inside.bytes.now c.source.inside.bytes.now c.self.inside.bytes.items _ _ _ c.source.invariant c.source.invariant c.self.invariant within

pub invariant_of-result : goal.invariant_of-result
invariant_of-result c =
    let within : is_within (names_of c.source.inside.bytes.now) (names_of c.self.inside.bytes.items) ≡ true = rw (c.source.view_is, c.self.view_is) c.requires.within in
    let fits : length (moved_path (names_of c.source.inside.bytes.now) (names_of c.target.inside.bytes.now) (names_of c.self.inside.bytes.items)) ≤ 128 =
    rw (c.source.view_is, c.target.view_is, c.self.view_is) c.requires.fits in
    moved_keeps c.source.inside.bytes.now c.target.inside.bytes.now c.self.inside.bytes.items _ _ _ c.source.invariant c.target.invariant c.self.invariant within
    c.in_ok-bytes.bytes.items fits
    (c.in_ok-bytes.ensures ∙ ap (λ bs. c.target.inside.bytes.now ++ bs) (c.split_at.ensures.back ∙ ap (drop (length c.source.inside.bytes.now)) c.deref.ensures.value))

pub returns : goal.returns
returns c =
    let within : is_within (names_of c.source.inside.bytes.now) (names_of c.self.inside.bytes.items) ≡ true = rw (c.source.view_is, c.self.view_is) c.requires.within in
    let fits : length (moved_path (names_of c.source.inside.bytes.now) (names_of c.target.inside.bytes.now) (names_of c.self.inside.bytes.items)) ≤ 128 =
    rw (c.source.view_is, c.target.view_is, c.self.view_is) c.requires.fits in
    moved_names c.source.inside.bytes.now c.target.inside.bytes.now c.self.inside.bytes.items _ _ _ c.source.invariant c.target.invariant c.self.invariant within
    c.in_ok-bytes.bytes.items fits
    (c.in_ok-bytes.ensures ∙ ap (λ bs. c.target.inside.bytes.now ++ bs) (c.split_at.ensures.back ∙ ap (drop (length c.source.inside.bytes.now)) c.deref.ensures.value))
    ∙ (λ i. moved_path (c.source.view_is i) (c.target.view_is i) (c.self.view_is i))
