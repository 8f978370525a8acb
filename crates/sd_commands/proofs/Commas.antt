-- Texts that commas part, and four masks.
use Rattle.sd_commands.proofs.Cited.{AreMasks, IfNone, List, MappingValue, None, Option, Some, [], arith, between_commas, length, length-slice_split, ℕ, ◌<◌, ◌==◌, ◌∷◌, ◌≡◌}

-- five texts or more are no four masks
pub no_more : (read write execute all : List ℕ) (more : List (List ℕ)) (g : MappingValue) → 0 < length more
    → AreMasks (read ∷ write ∷ execute ∷ all ∷ more) g → ⊥
no_more read write execute all [] g low is = omega arith
no_more read write execute all (text ∷ more) g low is = is

pub some_between : (text : List ℕ) → 0 < length (between_commas text)
some_between text = omega (arith, length-slice_split (λ b. b == 44) text)

-- no mapping is one, where the only one would be found
pub none_of : (found : Option MappingValue) (First Second : MappingValue → Type 0) → ((g : MappingValue) → First g → Second g → found ≡ Some g)
    → IfNone found ((g : MappingValue) → First g → Second g → ⊥)
none_of None First Second all = λ g first second. let no = all g first second in cc (no)
none_of (Some found) First Second all = tt
