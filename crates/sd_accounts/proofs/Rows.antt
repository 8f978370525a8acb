-- The rows of lines, one line after another.
use Rattle.std.proofs.Common.{◌≡◌, ◌++◌, inl, inr, ℕ, List, [], ◌∷◌, sym, subst}
use Rattle.sd_accounts.specs.Kept.{all_rows}
use Rattle.sd_accounts.specs.declared.row.Row.{Row}
use Rattle.sd_accounts.specs.Lines.{SaysMore}
use Rattle.sd_accounts.specs.Row.{AccountRow, AreRows, IsRow, SaysNothing, none, nothing, row}

more_nothing : (lines : List (List ℕ)) (rows : List AccountRow) (line : List ℕ) → AreRows lines rows → SaysNothing line → AreRows (lines ++ line ∷ []) rows
more_nothing _ _ line none says = nothing line [] [] says none
more_nothing _ _ line (nothing l ls rs n are) says = nothing l (ls ++ line ∷ []) rs n (more_nothing ls rs line are says)
more_nothing _ _ line (row l ls one rs is are) says = row l (ls ++ line ∷ []) one rs is (more_nothing ls rs line are says)

more_row : (lines : List (List ℕ)) (rows : List AccountRow) (line : List ℕ) (r : AccountRow) → AreRows lines rows → IsRow line r → AreRows (lines ++ line ∷ []) (rows ++ r ∷ [])
more_row _ _ line r none says = row line [] r [] says none
more_row _ _ line r (nothing l ls rs n are) says = nothing l (ls ++ line ∷ []) (rs ++ r ∷ []) n (more_row ls rs line r are says)
more_row _ _ line r (row l ls one rs is are) says = row l (ls ++ line ∷ []) one (rs ++ r ∷ []) is (more_row ls rs line r are says)

-- one line more
pub line_more : (lines : List (List ℕ)) (rows new : List AccountRow) (line : List ℕ) → AreRows lines rows → SaysMore line rows new → AreRows (lines ++ line ∷ []) new
line_more lines rows new line are (inl (says, same)) = subst (AreRows (lines ++ line ∷ [])) (sym same) (more_nothing lines rows line are says)
line_more lines rows new line are (inr (r, is, same)) = subst (AreRows (lines ++ line ∷ [])) (sym same) (more_row lines rows line r are is)

-- no lines have no rows
pub no_rows : (rows : List Row) → rows ≡ [] → AreRows [] (all_rows rows)
no_rows rows empty = subst (λ rs. AreRows [] (all_rows rs)) (sym empty) none
