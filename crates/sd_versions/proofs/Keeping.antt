-- What a desk keeps: the two versions of its tree, and the floors.
use Rattle.sd_versions.proofs.Cited.{All-head, All-tail, AreWithin, Edit, IsReader, List, Machine, Opening, Publish, Published, Steps, VersionsValue, [], accepted, ap, arith, beginnings, floor_of, get_or-map, inl, inr, leb_tells, length, length-append, length-map, length-replicate, length-take-le, longer, machine_of, map, map-set, max, refl, replicate, slice_index_or, slice_set, splat_is_map, started, sym, take, take-append-le, take-length, take_all, with_floor, with_look, ℕ, ◌++◌, ◌<◌, ◌∙◌, ◌∷◌, ◌≡◌, ◌≤◌}

-- ---- the floors

pub is_reader : (t : VersionsValue) (ns : List ℕ) (reader : ℕ) → reader < length ns → IsReader (machine_of t ns) reader
is_reader t ns reader within = omega (arith, length-map ns (λ n. take n t.published))

pub floor_is : (t : VersionsValue) (ns : List ℕ) (reader : ℕ) → reader < length ns
    → floor_of (machine_of t ns) reader ≡ take (slice_index_or ns reader 0) t.published
floor_is t ns reader within = get_or-map (λ n. take n t.published) ns reader 0 [] within

pub longer_is : (journal : List Edit) (a b n : ℕ) → a ≤ length journal → b ≤ length journal → n ≡ max a b
    → longer (take a journal) (take b journal) ≡ take n journal
longer_is journal a b n low high is =
    let first : length (take a journal) ≡ a = length-take-le a journal low in
    let second : length (take b journal) ≡ b = length-take-le b journal high in
    rw (first, second) (elim (leb_tells a b) [
      | inl less ↦ rw less.0 (ap (λ k. take k journal) (omega (arith, less.1)))
      | inr more ↦ rw more.0 (ap (λ k. take k journal) (omega (arith, more.1)))
    ])

pub floor_set : (t : VersionsValue) (ns : List ℕ) (reader n : ℕ)
    → machine_of t (slice_set ns reader n) ≡ with_floor (machine_of t ns) reader (take n t.published)
floor_set t ns reader n =
    ap (λ fs. let m : Machine = record (machine_of t ns) { floors = fs } in m) (map-set (λ k. take k t.published) ns reader n)

pub look_set : (t : VersionsValue) (ns : List ℕ) (reader n : ℕ) → n ≡ length t.published
    → machine_of t (slice_set ns reader n) ≡ with_look (machine_of t ns) reader
look_set t ns reader n is =
    floor_set t ns reader n ∙ ap (with_floor (machine_of t ns) reader) (ap (λ k. take k t.published) is ∙ take-length t.published)

-- the floors stay where the journal grows
beginnings-more : (journal more : List Edit) (ns : List ℕ) → AreWithin journal ns
    → beginnings (journal ++ more) ns ≡ beginnings journal ns
beginnings-more journal more [] within = refl
beginnings-more journal more (n ∷ ns) within =
    let P : ℕ → Type 0 = λ k. k ≤ length journal in
    let first = take-append-le n journal more (All-head P n ns within) in
    let rest = beginnings-more journal more ns (All-tail P n ns within) in
    ap (λ x. x ∷ beginnings (journal ++ more) ns) first ∙ ap (λ xs. take n journal ∷ xs) rest

-- and they are within it
within_more : (journal more : List Edit) (ns : List ℕ) → AreWithin journal ns → AreWithin (journal ++ more) ns
within_more journal more ns within k d there = omega (arith, within k d there, length-append journal more)

-- of no journal there are only empty beginnings
beginnings-none : (ns : List ℕ) → beginnings [] ns ≡ map (λ _. []) ns
beginnings-none [] = refl
beginnings-none (n ∷ ns) =
    ap (λ (x : List Edit). x ∷ beginnings [] ns) (take_all n [] (omega arith)) ∙ ap (λ xs. [] ∷ xs) (beginnings-none ns)

pub started_is : (t : VersionsValue) (ns : List ℕ) (o : Opening) (readers : ℕ)
    → t.opening ≡ o → t.published ≡ [] → t.pending ≡ [] → ns ≡ replicate readers 0 → machine_of t ns ≡ started o readers
started_is t ns o readers opening published pending zeros =
    let floors : beginnings t.published ns ≡ replicate readers [] =
    ap (λ xs. beginnings xs ns) published ∙ ap (beginnings []) zeros ∙ beginnings-none (replicate readers 0)
    ∙ sym (splat_is_map (replicate readers 0) readers [] (length-replicate readers 0)) in
    rw (opening, floors, pending, published) refl

-- ---- a publish

module _ (t new : VersionsValue) (ns : List ℕ) (opening : new.opening ≡ t.opening) (published : new.published ≡ accepted t)
    (pending : new.pending ≡ []) (within : AreWithin t.published ns) where
  pub published_within : AreWithin new.published ns
  published_within = rw published (within_more t.published t.pending ns within)

  pub published_steps : (told : ℕ) → told ≡ length new.published → Steps (machine_of t ns) Publish (Published told) (machine_of new ns)
  published_steps told is =
      let floors : beginnings new.published ns ≡ beginnings t.published ns =
      ap (λ xs. beginnings xs ns) published ∙ beginnings-more t.published t.pending ns within in (
        is ∙ ap length published,
        rw (opening, floors, pending, published) refl,
      )
