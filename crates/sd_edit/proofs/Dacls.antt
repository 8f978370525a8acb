-- The DACL at a path, step by step down the path, and on which nodes it rests.
use Rattle.sd_edit.proofs.Cited.{Ace, List, MappingValue, Names, None, Option, PlainTree, [], ap, append-nil, append_assoc, cond, dacl_below, dacl_here, false, is_root, is_within, last_name, push-up, refl, row_at, sym, true, up, within-append, within-step, ℕ, ◌++◌, ◌∙◌, ◌∷◌, ◌≡◌}
use Rattle.sd_edit.specs.Plain.{dacl_at}

-- ---- the steps

below-append : (g : MappingValue) (t : PlainTree) (at : Names) (above : Option (List Ace)) (names more : Names)
    → dacl_below g t at above (names ++ more) ≡ dacl_below g t (at ++ names) (dacl_below g t at above names) more
below-append g t at above [] more = ap (λ p. dacl_below g t p above more) (sym (append-nil at))
below-append g t at above (n ∷ names) more =
    let here = dacl_here g (row_at t (at ++ n ∷ [])) above in
    below-append g t (at ++ n ∷ []) here names more
    ∙ ap (λ p. dacl_below g t p (dacl_below g t (at ++ n ∷ []) here names) more) (append_assoc at (n ∷ []) names)

-- the DACL below a path rests on the path's own DACL and the nodes below it
pub dacl_at-append : (g : MappingValue) (t : PlainTree) (path more : Names) → dacl_at g t (path ++ more) ≡ dacl_below g t path (dacl_at g t path) more
unfolding dacl_at
dacl_at-append g t path more = below-append g t [] (dacl_here g (row_at t []) None) path more

pub dacl_at_root : (g : MappingValue) (t : PlainTree) → dacl_at g t [] ≡ dacl_here g (row_at t []) None
unfolding dacl_at
dacl_at_root g t = refl

pub dacl_at-push : (g : MappingValue) (t : PlainTree) (path : Names) (name : List ℕ)
    → dacl_at g t (path ++ name ∷ []) ≡ dacl_here g (row_at t (path ++ name ∷ [])) (dacl_at g t path)
dacl_at-push g t path name = dacl_at-append g t path (name ∷ [])

pub dacl_at_up : (g : MappingValue) (t : PlainTree) (path : Names) → is_root path ≡ false → dacl_at g t path ≡ dacl_here g (row_at t path) (dacl_at g t (up path))
dacl_at_up g t path h =
    let is = push-up path h in
    ap (dacl_at g t) (sym is) ∙ dacl_at-push g t (up path) (last_name path)
    ∙ ap (λ p. dacl_here g (row_at t p) (dacl_at g t (up path))) is

-- the DACL right above a path, and None above the root
abbrev pub dacl_over : MappingValue → PlainTree → Names → Option (List Ace)
dacl_over g t path = cond (is_root path) None (dacl_at g t (up path))

pub dacl_at_here : (g : MappingValue) (t : PlainTree) (path : Names) → dacl_at g t path ≡ dacl_here g (row_at t path) (dacl_over g t path)
dacl_at_here g t [] = dacl_at_root g t
dacl_at_here g t (n ∷ path) = dacl_at_up g t (n ∷ path) refl

-- below a path with that DACL, a node's DACL is made of its row and the DACL of its parent
pub below_up : (g : MappingValue) (t : PlainTree) (at : Names) (above : Option (List Ace)) (rest : Names) → is_root rest ≡ false
    → dacl_below g t at above rest ≡ dacl_here g (row_at t (at ++ rest)) (dacl_below g t at above (up rest))
below_up g t at above rest h =
    let is = push-up rest h in
    let held = dacl_below g t at above (up rest) in
    ap (dacl_below g t at above) (sym is) ∙ below-append g t at above (up rest) (last_name rest ∷ [])
    ∙ ap (λ p. dacl_here g (row_at t p) held) (append_assoc at (up rest) (last_name rest ∷ []) ∙ ap (λ r. at ++ r) is)

-- ---- the nodes that decide

-- down the names two trees with the same nodes below a path go from one DACL to one
pub below_alike : (g : MappingValue) (t u : PlainTree) (at : Names) (above : Option (List Ace)) (names : Names)
    → ((name : List ℕ) (top : Names) → is_within (name ∷ top) names ≡ true → row_at t (at ++ name ∷ top) ≡ row_at u (at ++ name ∷ top))
    → dacl_below g t at above names ≡ dacl_below g u at above names
below_alike g t u at above [] same = refl
below_alike g t u at above (n ∷ names) same =
    ap (λ row. dacl_below g t (at ++ n ∷ []) (dacl_here g row above) names) (same n [] (within-append (n ∷ []) names))
    ∙ below_alike g t u (at ++ n ∷ []) (dacl_here g (row_at u (at ++ n ∷ [])) above) names
    (λ name top within.
    let place = append_assoc at (n ∷ []) (name ∷ top) in
    ap (row_at t) place ∙ same n (name ∷ top) (within-step n (name ∷ top) names ∙ within) ∙ sym (ap (row_at u) place))

-- trees with the same nodes on the way to a path have the same DACL there
pub dacl_at_alike : (g : MappingValue) (t u : PlainTree) (path : Names)
    → ((top : Names) → is_within top path ≡ true → row_at t top ≡ row_at u top)
    → dacl_at g t path ≡ dacl_at g u path
unfolding dacl_at
dacl_at_alike g t u path same =
    ap (λ row. dacl_below g t [] (dacl_here g row None) path) (same [] refl)
    ∙ below_alike g t u [] (dacl_here g (row_at u []) None) path (λ name top within. same (name ∷ top) within)

-- so a change at one node changes the DACLs at and below it alone
pub dacl_at_outside : (g : MappingValue) (t u : PlainTree) (at path : Names)
    → ((q : Names) → (q ≡ at → ⊥) → row_at t q ≡ row_at u q)
    → is_within at path ≡ false
    → dacl_at g t path ≡ dacl_at g u path
dacl_at_outside g t u at path same outside =
    dacl_at_alike g t u path
    (λ top within. same top (λ is. let h : is_within at path ≡ true = ap (λ p. is_within p path) (sym is) ∙ within in absurd cc))
