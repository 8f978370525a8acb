-- What is printed of the lines of a tree, and counted of them.
use Rattle.sd_script.proofs.Cited.{LineOf, List, [], ap, append-nil, append_assoc, flat_map, printed, sym, ℕ, ◌++◌, ◌∙◌, ◌∷◌, ◌≡◌}
use Rattle.std.proofs.Common.{refl}
use Rattle.std.proofs.lemmas.Grind.{flat_map-append}
use Rattle.std.proofs.lemmas.List.Folds.{flat_map-map}
use Rattle.std.specs.Prelude.{map}
use Rattle.sd_line.specs.Printed.{TagOf, printed_line}
use Rattle.sd_line.specs.declared.print.Style.{Style}

-- piece by piece
pub printed_pieces : {A : Type 0} (style : Style) (tag : TagOf) (f : A → List LineOf) (es : List A)
    → flat_map (λ e. printed style tag (f e)) es ≡ printed style tag (flat_map f es)
printed_pieces style tag f [] = refl
printed_pieces style tag f (e ∷ es) =
    ap (λ text. printed style tag (f e) ++ text) (printed_pieces style tag f es) ∙ sym (flat_map-append _ (f e) (flat_map f es))

-- the lines of the nodes, and a last one
pub printed_last : {A : Type 0} (style : Style) (tag : TagOf) (f : A → LineOf) (es : List A) (out nodes whole : List ℕ) (line last : LineOf)
    → nodes ≡ out ++ flat_map (λ e. printed_line style tag (f e)) es → line ≡ last → whole ≡ nodes ++ printed_line style tag line
    → whole ≡ out ++ printed style tag (map f es ++ last ∷ [])
printed_last style tag f es out nodes whole line last so_far is more =
    let print = printed_line style tag in
    more ∙ ap (λ text. text ++ print line) so_far ∙ ap (λ l. (out ++ flat_map (λ e. print (f e)) es) ++ print l) is
    ∙ append_assoc out (flat_map (λ e. print (f e)) es) (print last)
    ∙ ap (λ text. out ++ text) (ap (λ text. text ++ print last) (sym (flat_map-map print f es))
    ∙ ap (λ text. printed style tag (map f es) ++ text) (sym (append-nil (print last)))
    ∙ sym (flat_map-append print (map f es) (last ∷ [])))
