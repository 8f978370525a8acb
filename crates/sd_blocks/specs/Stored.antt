-- How a list is stored: each block has a start and elements. A reader of the contracts needs none of this.
use Rattle.std.specs.Prelude.{◌≡◌, ℕ, ◌+◌, ◌-◌, ◌<◌, ◌≤◌, List, [], ◌∷◌, ◌++◌, length, take, slice_index_or}
use Rattle.std.specs.List.{flat_map}

-- the elements of the blocks, one block after another
abbrev pub joined : {T : Type 0} → List (ℕ × List T) → List T
joined bs = flat_map (λ b. b.1) bs

-- each block has elements, and the right start, where the first block's is n
abbrev pub StartFrom : {T : Type 0} → ℕ → List (ℕ × List T) → Type 0
StartFrom n [] = Unit {0}
StartFrom n (b ∷ bs) = (b.0 ≡ n) × (0 < length b.1) × StartFrom (n + length b.1) bs

-- the block with number k has the position, or is the last one and ends there
pub record IsBlockOf {T : Type 0} (blocks : List (ℕ × List T)) (at k : ℕ) : Type 0 where
  pub inside : k < length blocks
  pub first : (d : ℕ × List T) → (slice_index_or blocks k d).0 ≡ length (joined (take k blocks))
  pub from : (d : ℕ × List T) → (slice_index_or blocks k d).0 ≤ at
  pub to : (d : ℕ × List T) → at ≤ (slice_index_or blocks k d).0 + length (slice_index_or blocks k d).1
  pub before_end : (d : ℕ × List T) → at < length (joined blocks)
      → at < (slice_index_or blocks k d).0 + length (slice_index_or blocks k d).1

-- two blocks in place of one
pub record AreHalves {T : Type 0} (whole low high : ℕ × List T) : Type 0 where
  pub low_start : low.0 ≡ whole.0
  pub high_start : high.0 ≡ whole.0 + length low.1
  pub low_some : 0 < length low.1
  pub high_some : 0 < length high.1
  pub joins : low.1 ++ high.1 ≡ whole.1

-- a block one position further on, and one nearer
abbrev pub up : {T : Type 0} → ℕ × List T → ℕ × List T
up b = (b.0 + 1, b.1)

abbrev pub down : {T : Type 0} → ℕ × List T → ℕ × List T
down b = (b.0 - 1, b.1)

-- a block of a list that starts at a later position
abbrev pub lowered : {T : Type 0} → ℕ → ℕ × List T → ℕ × List T
lowered n b = (b.0 - n, b.1)
