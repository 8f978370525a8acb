-- What each row has that passes a test, by a list of such rows.
use Rattle.std.proofs.Common.{◌≡◌, Bool, true, false, List, [], ◌∷◌, ap, map, refl}
use Rattle.std.specs.Prelude.{filter, if◌then◌else◌}
use Rattle.sd_usage.specs.Texts.{each_of}

by_test : {Row Value : Type 0} (passes : Bool) (value : Row → Value) (row : Row) (rest : List Row) (values : List Value)
    → map value rest ≡ values
    → map value (if passes then row ∷ rest else rest) ≡ (if passes then value row ∷ values else values)
by_test true value row rest values same = ap (λ vs. value row ∷ vs) same
by_test false value row rest values same = same

pub filtered : {Row Value : Type 0} (test : Row → Bool) (value : Row → Value) (rows : List Row)
    → map value (filter test rows) ≡ each_of test value rows
filtered test value [] = refl
filtered test value (row ∷ rows) = by_test (test row) value row (filter test rows) (each_of test value rows) (filtered test value rows)
