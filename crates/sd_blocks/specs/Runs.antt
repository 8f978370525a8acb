-- Runs of a list: so many elements from a position on.
use Rattle.std.specs.Prelude.{◌≡◌, ℕ, ◌+◌, ◌<◌, List, ◌++◌, length, take, drop}

-- some of the elements from a position on, and at least one
pub record IsRunAt {T : Type 0} (xs : List T) (at : ℕ) (ys : List T) : Type 0 where
  pub some : 0 < length ys
  pub elements : ys ≡ take (length ys) (drop at xs)

-- the list without so many from a position on
abbrev pub without_run : {T : Type 0} → ℕ → ℕ → List T → List T
without_run from count xs = take from xs ++ drop (from + count) xs

-- the list with a run inserted before a position
abbrev pub with_run : {T : Type 0} → ℕ → List T → List T → List T
with_run at ys xs = take at xs ++ (ys ++ drop at xs)

-- the list without so many elements from a position on, and with a run at another, which is counted without them
abbrev pub exchanged : {T : Type 0} → ℕ → ℕ → ℕ → List T → List T → List T
exchanged from count to ys xs = with_run to ys (without_run from count xs)

-- the list with a run in place of as many elements
abbrev pub written : {T : Type 0} → ℕ → List T → List T → List T
written at ys xs = take at xs ++ (ys ++ drop (at + length ys) xs)

-- two runs in place of one
pub record AreParts {T : Type 0} (whole low high : List T) : Type 0 where
  pub low_some : 0 < length low
  pub high_some : 0 < length high
  pub joins : low ++ high ≡ whole
