-- The bits of changes, with one change more.
use Rattle.sd_c.proofs.Cited.{Bool, Change, [], ap, bit_at-zero, bits_of, get_or, holds, holds_place, is_mask_of, is_reported, length, list_any_more, lit<, mask_of, mask_of-alike, sym, take, ℕ, ◌+◌, ◌<◌, ◌==◌, ◌||◌, ◌∙◌, ◌≡◌}
use Rattle.std.proofs.Common.{List}

pub no_bits : 0 ≡ bits_of []
no_bits = is_mask_of (is_reported []) 0 (lit< tt) (λ k small. ap (λ n. n == 1) (bit_at-zero k))

pub more_bits : (changes : List Change) (i bits : ℕ) (c : Change) → i < length changes → c ≡ get_or changes i c
    → bits ≡ bits_of (take i changes)
    → mask_of (λ k. holds bits k || holds c.mask k) 32 ≡ bits_of (take (i + 1) changes)
more_bits changes i bits c low is so_far =
    mask_of-alike (λ k. holds bits k || holds c.mask k) (is_reported (take (i + 1) changes)) 32 (λ k small.
    ap (λ m. holds m k || holds c.mask k) so_far
    ∙ ap (λ (b : Bool). b || holds c.mask k) (holds_place (is_reported (take i changes)) k small)
    ∙ ap (λ (x : Change). is_reported (take i changes) k || holds x.mask k) is
    ∙ sym (list_any_more (λ (x : Change). holds x.mask k) changes i c low))
