-- When the parse of a condition allocates: once the tests that precede the tokens have passed.
use Rattle.std.specs.Prelude.{◌≡◌, ℕ, ◌%◌, ◌≤◌, List, length}
use Rattle.sd_sid.specs.SidBytes.{u32_at}

-- the data is a multiple of four bytes, which begin with `artx`
pub record TakesMemory (bytes : List ℕ) : Type 0 where
  pub long : 4 ≤ length bytes
  pub aligned : length bytes % 4 ≡ 0
  pub begins : u32_at bytes 0 ≡ 0x78747261
