-- Masks as sets of bits ([MS-DTYP] 2.4.3).
use Rattle.std.specs.Prelude.{ℕ, zero, suc, ◌+◌, ◌*◌, ◌^◌, Bool, ◌==◌, cond}
use Rattle.std.specs.Int.{bit_at}

-- whether the mask has the bit
abbrev pub holds : ℕ → ℕ → Bool
holds m b = bit_at m b == 1

-- the mask of the bits below n that pass a test
unfoldable pub mask_of : (ℕ → Bool) → ℕ → ℕ
mask_of p zero = 0
mask_of p (suc k) = cond (p k) 1 0 * 2 ^ k + mask_of p k
