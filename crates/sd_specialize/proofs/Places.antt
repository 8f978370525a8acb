-- Where the marker of an entry is; and the entries with a condition so far, or others that are looked for, and classes.
use Rattle.std.proofs.Common.{◌≡◌, ℕ, ◌+◌, ◌<◌, ◌++◌, ◌∷◌, [], not, cond, List, Option, Some, None, Bor, ap, arith, get_or, length, refl, sym, take, ◌∙◌}
use Rattle.std.proofs.lemmas.List.{take_more}
use Rattle.std.proofs.lemmas.List.Elements.{filter_map-append}
use Rattle.std.proofs.lemmas.List.Sums.{fold_push, prefix_len-le-length}
use Rattle.std.specs.List.{cons_option, filter_map, position, position_or_len}
use Rattle.std.specs.Option.{option_to_list}
use Rattle.sd_whole.specs.declared.ace.TypedAce.{TypedAce}
use Rattle.sd_whole.specs.declared.ace.WholeAce.{WholeAce}
use Rattle.sd_whole.specs.declared.types.Guid.{Guid}
use Rattle.sd_specialize.specs.Children.{handed_class, with_class, with_classes}
use Rattle.sd_specialize.specs.Marked.{conditional_in, conditionals_of, lent_marks, mark_place, same_mark}

-- ---- the place of a mark

lent_place : (e : TypedAce) (marks : List (Bor TypedAce)) → mark_place (lent_marks marks) e ≡ position_or_len (λ (mark : Bor TypedAce). same_mark e mark.now) marks
lent_place e [] = refl
lent_place e (m ∷ marks) = ap (λ n. cond (not (same_mark e m.now)) (1 + n) 0) (lent_place e marks)

module _ (e : TypedAce) (marks : List (Bor TypedAce)) where
  pub place_some : (place : ℕ) → position (λ (mark : Bor TypedAce). same_mark e mark.now) marks ≡ Some place → place ≡ mark_place (lent_marks marks) e
  place_some place is = grind (arith, is, lent_place e marks)

  pub place_none : position (λ (mark : Bor TypedAce). same_mark e mark.now) marks ≡ None → length marks ≡ mark_place (lent_marks marks) e
  place_none is = grind (arith, is, lent_place e marks, prefix_len-le-length (λ (mark : Bor TypedAce). not (same_mark e mark.now)) marks)

-- ---- one entry more

as_list : (found : Option TypedAce) → cons_option found [] ≡ option_to_list found
as_list None = refl
as_list (Some one) = refl

pub one_found : (find : WholeAce → Option TypedAce) (es : List WholeAce) (i : ℕ) (e : WholeAce) (old new : List TypedAce) → i < length es → e ≡ get_or es i e
    → old ≡ filter_map find (take i es) → new ≡ old ++ option_to_list (find e) → new ≡ filter_map find (take (i + 1) es)
one_found find es i e old new low is was whole =
    whole ∙ ap (λ (all : List TypedAce). all ++ option_to_list (find e)) was
    ∙ sym (ap (filter_map find) (take_more es i e low ∙ ap (λ x. take i es ++ x ∷ []) (sym is))
    ∙ filter_map-append find (take i es) (e ∷ [])
    ∙ ap (λ all. filter_map find (take i es) ++ all) (as_list (find e)))

pub one_more : (es : List WholeAce) (i : ℕ) (e : WholeAce) (old new : List TypedAce) → i < length es → e ≡ get_or es i e
    → old ≡ conditionals_of (take i es) → new ≡ old ++ option_to_list (conditional_in e) → new ≡ conditionals_of (take (i + 1) es)
one_more = one_found conditional_in

pub class_more : (before : List Guid) (es : List WholeAce) (i : ℕ) (e : WholeAce) (old new : List Guid) → i < length es → e ≡ get_or es i e
    → old ≡ with_classes before (take i es) → new ≡ with_class old (handed_class e) → new ≡ with_classes before (take (i + 1) es)
class_more before es i e old new low is was one =
    one ∙ ap (λ all. with_class all (handed_class e)) was
    ∙ sym (ap (with_classes before) (take_more es i e low ∙ ap (λ x. take i es ++ x ∷ []) (sym is))
    ∙ fold_push (λ found entry. with_class found (handed_class entry)) before (take i es) e)
