-- Two tests in order, where the second is told by what isn't so.
use Rattle.std.proofs.Common.{◌≡◌, Bool, true, false, not, cond, Some, None, refl}

pub neither_fits : {A : Type 0} (one two : Bool) (a b : A) → one ≡ false → not two ≡ true → None ≡ cond one (Some a) (cond two (Some b) None)
neither_fits false false a b h k = refl
neither_fits false true a b h k = cc
neither_fits true two a b h k = cc

pub second_fits : {A : Type 0} (one two : Bool) (a b : A) → one ≡ false → not two ≡ false → Some b ≡ cond one (Some a) (cond two (Some b) None)
second_fits false true a b h k = refl
second_fits false false a b h k = cc
second_fits true two a b h k = cc
