-- A review of two trees of a store is that of the store.
use Rattle.sd_review.proofs.Cited.{Edit, List, Opening, TreeValue, Trees, ap, drop, drop-append_seam, length, replay, trees_after, ◌++◌, ◌∙◌, ◌≡◌}

abbrev trees : Opening → List Edit → Opening → List Edit → List Edit → Trees
trees a xs b ys zs = record { mapping = a.mapping; old = replay a xs; new = replay b ys; pending = zs }

pub one_store : (o a b : Opening) (published pending xs ys : List Edit) → a ≡ o → xs ≡ published → b ≡ o → ys ≡ published ++ pending
    → trees a xs b ys (drop (length xs) ys) ≡ trees_after o published pending
one_store o a b published pending xs ys is_a is_xs is_b is_ys =
    ap (λ q. trees q xs b ys (drop (length xs) ys)) is_a ∙ ap (λ es. trees o es b ys (drop (length es) ys)) is_xs
    ∙ ap (λ q. trees o published q ys (drop (length published) ys)) is_b
    ∙ ap (λ es. trees o published o es (drop (length published) es)) is_ys
    ∙ ap (trees o published o (published ++ pending)) (drop-append_seam published pending)
