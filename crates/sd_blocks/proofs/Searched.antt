-- A search over blocks is one over the list.
use Rattle.sd_blocks.proofs.Cited.{AllWithin, Equal, Greater, HoldsAt, IsNonDecreasingBy, IsPartitionPoint, Less, List, Ordering, StartFrom, [], ap, arith, cases_lt, get_or, get_or-flat_map, get_or_default, inl, inr, joined, length, length-flat_map-take, ordering_index, refl, suc, sym, take, zero, ℕ, ◌+◌, ◌-◌, ◌<◌, ◌∙◌, ◌∷◌, ◌≡◌, ◌≤◌}
use Rattle.sd_blocks.proofs.Starts.{joined_more, start_here}

least : (o : Ordering) → ordering_index o ≤ 0 → o ≡ Less
least Less h = refl
least Equal h = absurd (omega arith)
least Greater h = absurd (omega arith)

greatest : (o : Ordering) → 2 ≤ ordering_index o → o ≡ Greater
greatest Less h = absurd (omega arith)
greatest Equal h = absurd (omega arith)
greatest Greater h = refl

-- a block has an element, which stands in the list
pub some_at : {T : Type 0} (n : ℕ) (bs : List (ℕ × List T)) (k : ℕ) (b : ℕ × List T) → StartFrom n bs → k < length bs → b ≡ get_or bs k b → 0 < length b.1
some_at n [] k b s h is = absurd (omega arith)
some_at {T} n (c ∷ bs) zero b s h is = omega (arith, s.1, ap (λ (y : ℕ × List T). length y.1) is)
some_at n (c ∷ bs) (suc k) b s h is = some_at (n + length c.1) bs k b s.2 (omega arith) is

pub start_within : {T : Type 0} (bs : List (ℕ × List T)) (k : ℕ) (b : ℕ × List T) → StartFrom 0 bs → k < length bs → b ≡ get_or bs k b → length (joined (take k bs)) < length (joined bs)
start_within {T} bs k b s h is =
    omega (arith, some_at 0 bs k b s h is, ap (λ (y : ℕ × List T). length y.1) is, length-flat_map-take (λ (y : ℕ × List T). y.1) bs k b h)

-- a block ends within the list
pub block_end : {T : Type 0} (bs : List (ℕ × List T)) (k : ℕ) (b : ℕ × List T) (start : ℕ) → StartFrom 0 bs → k < length bs → b ≡ get_or bs k b → start ≡ b.0 → start + length b.1 ≤ length (joined bs)
block_end {T} bs k b start s h is starts =
    omega (arith, start_here bs k b start s h is starts, ap (λ (y : ℕ × List T). length y.1) is, length-flat_map-take (λ (y : ℕ × List T). y.1) bs k b h)

module _ {T : Type 0} (ord : T → Ordering) where
  -- what is below a `Less`, and above a `Greater`
  pub less_below : (xs : List T) (p : ℕ) (x : T) → p < length xs → x ≡ get_or xs p x → ord x ≡ Less → IsNonDecreasingBy (λ y. ordering_index (ord y)) xs → AllWithin (λ y. ord y ≡ Less) xs 0 p
  less_below xs p x inside is less rises k d _ below =
      let at_p : get_or xs p d ≡ x = get_or_default xs p d x inside ∙ sym is in
      let e : ordering_index (ord (get_or xs p d)) ≡ 0 = ap (λ y. ordering_index (ord y)) at_p ∙ ap ordering_index less in
      least (ord (get_or xs k d)) (omega (arith, e, rises k p d (omega arith) inside))

  pub greater_above : (xs : List T) (p : ℕ) (x : T) → p < length xs → x ≡ get_or xs p x → ord x ≡ Greater → IsNonDecreasingBy (λ y. ordering_index (ord y)) xs → AllWithin (λ y. ord y ≡ Greater) xs p (length xs)
  greater_above xs p x inside is more rises k d from below =
      let at_p : get_or xs p d ≡ x = get_or_default xs p d x inside ∙ sym is in
      let e : ordering_index (ord (get_or xs p d)) ≡ 2 = ap (λ y. ordering_index (ord y)) at_p ∙ ap ordering_index more in
      greatest (ord (get_or xs k d)) (omega (arith, e, rises p k d from below))

  -- a place of a block is one of the list
  in_block : (bs : List (ℕ × List T)) (k : ℕ) (b : ℕ × List T) → k < length bs → b ≡ get_or bs k b → (j : ℕ) (d : T) → j < length b.1 → get_or (joined bs) (length (joined (take k bs)) + j) d ≡ get_or b.1 j d
  in_block bs k b inside is j d within =
      let e1 : b.1 ≡ (get_or bs k b).1 = ap (λ (y : ℕ × List T). y.1) is in
      let there : j < length (get_or bs k b).1 = omega (arith, ap length e1) in
      get_or-flat_map (λ (y : ℕ × List T). y.1) bs k j b d inside there ∙ ap (λ ys. get_or ys j d) (sym e1)

  -- the parts of a list that rises do
  block_rises : (bs : List (ℕ × List T)) (k : ℕ) (b : ℕ × List T) → k < length bs → b ≡ get_or bs k b → (n : T → ℕ) → IsNonDecreasingBy n (joined bs) → IsNonDecreasingBy n b.1
  block_rises bs k b inside is n rises i j d le below =
      let e1 : b.1 ≡ (get_or bs k b).1 = ap (λ (y : ℕ × List T). y.1) is in
      let fits = length-flat_map-take (λ (y : ℕ × List T). y.1) bs k b inside in
      let here : length b.1 ≡ length (get_or bs k b).1 = ap length e1 in
      let one = in_block bs k b inside is i d (omega arith) in
      let other = in_block bs k b inside is j d below in
      let both = rises (length (joined (take k bs)) + i) (length (joined (take k bs)) + j) d (omega arith) (omega (arith, fits, here)) in
      omega (arith, both, ap n one, ap n other)

  -- the first element of a block is the list's at the block's start
  first_item : (bs : List (ℕ × List T)) (k : ℕ) (b : ℕ × List T) (xs : List T) (x : T) → StartFrom 0 bs → k < length bs → b ≡ get_or bs k b → xs ≡ b.1 → x ≡ get_or xs 0 x → x ≡ get_or (joined bs) (length (joined (take k bs))) x
  first_item bs k b xs x s inside is same first =
      let there = in_block bs k b inside is 0 x (some_at 0 bs k b s inside is) in
      let place : length (joined (take k bs)) + 0 ≡ length (joined (take k bs)) = omega arith in
      first ∙ ap (λ ys. get_or ys 0 x) same ∙ sym there ∙ ap (λ i. get_or (joined bs) i x) place

  pub step_below : (bs : List (ℕ × List T)) (k : ℕ) (b : ℕ × List T) (xs : List T) (x : T) → StartFrom 0 bs → k < length bs → b ≡ get_or bs k b → xs ≡ b.1 → x ≡ get_or xs 0 x → Less ≡ ord x → IsNonDecreasingBy (λ y. ordering_index (ord y)) (joined bs) → AllWithin (λ y. ord y ≡ Less) (joined bs) 0 (length (joined (take k bs)))
  step_below bs k b xs x s inside is same first less rises =
      less_below (joined bs) (length (joined (take k bs))) x (start_within bs k b s inside is) (first_item bs k b xs x s inside is same first) (sym less) rises

  pub step_above : (bs : List (ℕ × List T)) (k : ℕ) (b : ℕ × List T) (xs : List T) (x : T) → StartFrom 0 bs → k < length bs → b ≡ get_or bs k b → xs ≡ b.1 → x ≡ get_or xs 0 x → Greater ≡ ord x → IsNonDecreasingBy (λ y. ordering_index (ord y)) (joined bs) → AllWithin (λ y. ord y ≡ Greater) (joined bs) (length (joined (take k bs))) (length (joined bs))
  step_above bs k b xs x s inside is same first more rises =
      greater_above (joined bs) (length (joined (take k bs))) x (start_within bs k b s inside is) (first_item bs k b xs x s inside is same first) (sym more) rises

  -- the first element of a block is what is sought
  pub found_first : (bs : List (ℕ × List T)) (k : ℕ) (b : ℕ × List T) (xs : List T) (x : T) (start : ℕ) → StartFrom 0 bs → k < length bs → b ≡ get_or bs k b → start ≡ b.0 → xs ≡ b.1 → x ≡ get_or xs 0 x → Equal ≡ ord x → (start < length (joined bs)) × HoldsAt (λ y. ord y ≡ Equal) (joined bs) start
  found_first bs k b xs x start s inside is starts same first equal =
      let place = start_here bs k b start s inside is starts in
      let within = start_within bs k b s inside is in
      let here = first_item bs k b xs x s inside is same first in (
        omega (arith, place, within),
        λ d. ap (λ i. ord (get_or (joined bs) i d)) place ∙ ap ord (get_or_default (joined bs) (length (joined (take k bs))) d x within ∙ sym here) ∙ sym equal,
      )

  -- what is sought stands in the one block that is left
  pub end_found : (bs : List (ℕ × List T)) (k : ℕ) (b : ℕ × List T) (start j : ℕ) → StartFrom 0 bs → k < length bs → b ≡ get_or bs k b → start ≡ b.0 → j < length b.1 → HoldsAt (λ y. ord y ≡ Equal) b.1 j → HoldsAt (λ y. ord y ≡ Equal) (joined bs) (start + j)
  end_found bs k b start j s inside is starts below holds d =
      let place = start_here bs k b start s inside is starts in
      ap (λ i. ord (get_or (joined bs) (i + j) d)) place ∙ ap ord (in_block bs k b inside is j d below) ∙ holds d

  -- or nowhere
  pub end_absent : (bs : List (ℕ × List T)) (k high : ℕ) (b : ℕ × List T) (start j : ℕ) → StartFrom 0 bs → k < length bs → k < high → high ≤ k + 1 → b ≡ get_or bs k b → start ≡ b.0 → j ≤ length b.1
      → (IsNonDecreasingBy (λ y. ordering_index (ord y)) b.1 → IsPartitionPoint (λ y. ord y ≡ Less) (λ y. ord y ≡ Greater) b.1 j)
      → (IsNonDecreasingBy (λ y. ordering_index (ord y)) (joined bs) → AllWithin (λ y. ord y ≡ Less) (joined bs) 0 (length (joined (take k bs))))
      → (IsNonDecreasingBy (λ y. ordering_index (ord y)) (joined bs) → AllWithin (λ y. ord y ≡ Greater) (joined bs) (length (joined (take high bs))) (length (joined bs)))
      → IsNonDecreasingBy (λ y. ordering_index (ord y)) (joined bs) → IsPartitionPoint (λ y. ord y ≡ Less) (λ y. ord y ≡ Greater) (joined bs) (start + j)
  end_absent bs k high b start j s inside lt le is starts bound parted below above rises =
      let place = start_here bs k b start s inside is starts in
      let parts = parted (block_rises bs k b inside is (λ y. ordering_index (ord y)) rises) in
      let e1 : b.1 ≡ (get_or bs k b).1 = ap (λ (y : ℕ × List T). y.1) is in
      let size : length (joined (take (k + 1) bs)) ≡ length (joined (take k bs)) + length b.1 = omega (arith, joined_more bs k b inside, ap length e1) in
      let last : high ≡ k + 1 = omega arith in
      let end : length (joined (take high bs)) ≡ length (joined (take k bs)) + length b.1 = ap (λ i. length (joined (take i bs))) last ∙ size in (
        λ i d low up. elim (cases_lt i (length (joined (take k bs)))) [
          | inl before ↦ below rises i d low before
          | inr from ↦ (let same : length (joined (take k bs)) + (i - length (joined (take k bs))) ≡ i = omega arith in
              let there = in_block bs k b inside is (i - length (joined (take k bs))) d (omega (arith, place)) in
              ap (λ m. ord (get_or (joined bs) m d)) (sym same) ∙ ap ord there ∙ parts.0 (i - length (joined (take k bs))) d (omega arith) (omega (arith, place)))
        ],
        λ i d low up. elim (cases_lt i (length (joined (take high bs)))) [
          | inr behind ↦ above rises i d behind up
          | inl before ↦ (let same : length (joined (take k bs)) + (i - length (joined (take k bs))) ≡ i = omega (arith, place) in
              let there = in_block bs k b inside is (i - length (joined (take k bs))) d (omega (arith, place, end)) in
              ap (λ m. ord (get_or (joined bs) m d)) (sym same) ∙ ap ord there ∙ parts.1 (i - length (joined (take k bs))) d (omega (arith, place)) (omega (arith, place, end)))
        ],
      )
