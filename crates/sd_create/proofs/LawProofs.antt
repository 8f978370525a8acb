-- The laws of new objects.
use Rattle.std.proofs.Common.{◌≡◌, ℕ, Bool, true, false, not, ◌&&◌, ◌||◌, cond, List, [], ◌∷◌, ◌++◌, map, bit_and, bit_or, refl, sym, ◌∙◌, ap, ap₂, append-nil}
use Rattle.std.specs.List.{filter, flat_map}
use Rattle.std.proofs.Math.Bool.{and-false}
use Rattle.std.proofs.lemmas.List.{map-append}
use Rattle.std.proofs.lemmas.List.Elements.{filter-append}
use Rattle.sd_sid.specs.Mask.{holds}
use Rattle.sd_sid.proofs.Masks.{holds-and, holds-or}
use Rattle.sd_acl.specs.Ace.{passes_on}
use Rattle.sd_acl.specs.declared.ace.Ace.{Ace}
use Rattle.sd_acl.specs.declared.descriptor.DaclOf.TheVariants.{List as Entries}
use Rattle.sd_inheritance.specs.Inheritance.{pass_on}
use Rattle.sd_inheritance.specs.Inheritance as tree
use Rattle.sd_inheritance.specs.declared.kind.NodeKind.{NodeKind}
use Rattle.sd_inheritance.specs.declared.kind.NodeKind.TheVariants.{Container, Object}
use Rattle.sd_whole.specs.Entry.{flags_of, for_children_alone}
use Rattle.sd_whole.specs.Reading.{WholeAcl}
use Rattle.sd_whole.specs.Values.{WholeListValue}
use Rattle.sd_whole.specs.Writing.{is_without}
use Rattle.sd_whole.specs.declared.ace.WholeAce.{WholeAce}
use Rattle.sd_whole.specs.declared.ace.WholeAce.TheVariants.{Plain, Typed, Opaque}
use Rattle.sd_create.specs.Acl.{SourcesValue, contains_inheritable, following, inherited, is_followed, is_of_parent, of_given}
use Rattle.sd_create.specs.Entry.{NewValue, by_kind, concrete, effective_copy, given_copies, hands_on, inherited_copies, is_for_class}
use Rattle.sd_create.specs.Entry.{is_inherited, is_split, own_copies, waiting_copy, whole_copy, with_flags}
use Rattle.sd_create.specs.Laws.{InheritedFollowsTheParent, PlainIsAsInATree, ProtectedTakesNothing, WithoutAListTheParentDecides, inherited_part}

-- ---- allows and denies

object_case : (oi : Bool) (effective : Ace) → cond (oi && true) (Plain effective ∷ []) [] ≡ map Plain (cond oi (effective ∷ []) [])
object_case true effective = refl
object_case false effective = refl

container_case : (ci oi np split : Bool) (effective waiting whole : Ace)
    → cond (ci && true) (cond np (Plain effective ∷ []) (cond split (Plain effective ∷ Plain waiting ∷ []) (Plain whole ∷ [])))
    (cond (oi || ci) (cond np [] (Plain waiting ∷ [])) [])
    ≡ map Plain (cond ci (cond np (effective ∷ []) (cond split (effective ∷ waiting ∷ []) (whole ∷ [])))
    (cond oi (cond np [] (waiting ∷ [])) []))
container_case true oi true split effective waiting whole = refl
container_case true oi false true effective waiting whole = refl
container_case true oi false false effective waiting whole = refl
container_case false true true split effective waiting whole = refl
container_case false true false split effective waiting whole = refl
container_case false false np split effective waiting whole = refl

one_plain : (kind : NodeKind) (o : NewValue) (e : Ace) → by_kind kind o (Plain e) ≡ map Plain (pass_on o.mapping kind o.owner o.group e)
one_plain Object o e = object_case (tree.object_inherit e) (tree.effective_copy o.mapping o.owner o.group e)
one_plain Container o e =
    container_case (tree.container_inherit e) (tree.object_inherit e) (tree.no_propagate e) (tree.is_split e)
    (tree.effective_copy o.mapping o.owner o.group e) (tree.waiting_copy e) (tree.whole_copy e)

pub plain_is_as_in_a_tree : PlainIsAsInATree
plain_is_as_in_a_tree o [] = refl
plain_is_as_in_a_tree o (e ∷ es) =
    ap₂ (λ xs ys. xs ++ ys) (one_plain o.kind o e) (plain_is_as_in_a_tree o es)
    ∙ sym (map-append Plain (pass_on o.mapping o.kind o.owner o.group e) (flat_map (pass_on o.mapping o.kind o.owner o.group) es))

-- ---- which copies are inherited

flags_with : (flags : ℕ) (e : WholeAce) → flags_of (with_flags flags e) ≡ flags
flags_with flags (Plain e) = refl
flags_with flags (Typed e) = refl
flags_with flags (Opaque e) = refl

flags_concrete : (o : NewValue) (flags : ℕ) (e : WholeAce) → flags_of (concrete o flags e) ≡ flags
flags_concrete o flags (Plain e) = refl
flags_concrete o flags (Typed e) = refl
flags_concrete o flags (Opaque e) = refl

or_true : (x : Bool) → (x || true) ≡ true
or_true true = refl
or_true false = refl

-- a copy with ID among the flags that are set is inherited
marked : (flags set : ℕ) → holds set 4 ≡ true → holds (bit_or flags set) 4 ≡ true
marked flags set h = holds-or flags set 4 ∙ ap (λ x. holds flags 4 || x) h ∙ or_true (holds flags 4)

all_pass : (e : WholeAce) (es : List WholeAce) → is_inherited e ≡ true → filter is_inherited es ≡ es → filter is_inherited (e ∷ es) ≡ e ∷ es
all_pass e es h k = ap (λ b. cond b (e ∷ filter is_inherited es) (filter is_inherited es)) h ∙ ap (λ xs. e ∷ xs) k

none_pass : (e : WholeAce) (es : List WholeAce) → is_inherited e ≡ false → filter is_inherited es ≡ [] → filter is_inherited (e ∷ es) ≡ []
none_pass e es h k = ap (λ b. cond b (e ∷ filter is_inherited es) (filter is_inherited es)) h ∙ k

effective_is : (o : NewValue) (e : WholeAce) → is_inherited (effective_copy o e) ≡ true
effective_is o e = ap (λ f. holds f 4) (flags_concrete o _ e) ∙ marked (bit_and (flags_of e) 0xC0) 0x10 refl

waiting_is : (e : WholeAce) → is_inherited (waiting_copy e) ≡ true
waiting_is e = ap (λ f. holds f 4) (flags_with _ e) ∙ marked (bit_and (flags_of e) 0xC3) 0x18 refl

whole_is : (e : WholeAce) → is_inherited (whole_copy e) ≡ true
whole_is e = ap (λ f. holds f 4) (flags_with _ e) ∙ marked (bit_and (flags_of e) 0xC3) 0x10 refl

-- the filter keeps a list that it keeps in either case
kept_either : (b : Bool) (xs ys : List WholeAce) → filter is_inherited xs ≡ xs → filter is_inherited ys ≡ ys → filter is_inherited (cond b xs ys) ≡ cond b xs ys
kept_either true xs ys h k = h
kept_either false xs ys h k = k

one_kept : (e : WholeAce) → is_inherited e ≡ true → filter is_inherited (e ∷ []) ≡ e ∷ []
one_kept e h = all_pass e [] h refl

inherited_is : (kind : NodeKind) (o : NewValue) (e : WholeAce) → filter is_inherited (by_kind kind o e) ≡ by_kind kind o e
inherited_is Object o e =
    kept_either (holds (flags_of e) 0 && is_for_class o e) (effective_copy o e ∷ []) [] (one_kept (effective_copy o e) (effective_is o e)) refl
inherited_is Container o e =
    let effective = one_kept (effective_copy o e) (effective_is o e) in
    let waiting = one_kept (waiting_copy e) (waiting_is e) in
    let whole = one_kept (whole_copy e) (whole_is e) in
    kept_either (holds (flags_of e) 1 && is_for_class o e) _ _
    (kept_either (holds (flags_of e) 2) (effective_copy o e ∷ []) _ effective
    (kept_either (is_split e) (effective_copy o e ∷ waiting_copy e ∷ []) (whole_copy e ∷ []) (all_pass (effective_copy o e) (waiting_copy e ∷ []) (effective_is o e) waiting) whole))
    (kept_either (passes_on (flags_of e)) _ [] (kept_either (holds (flags_of e) 2) [] (waiting_copy e ∷ []) refl waiting) refl)

pub all_inherited : (o : NewValue) (parent : List WholeAce) → filter is_inherited (inherited o parent) ≡ inherited o parent
all_inherited o [] = refl
all_inherited o (e ∷ es) =
    filter-append is_inherited (inherited_copies o e) (inherited o es)
    ∙ ap₂ (λ xs ys. xs ++ ys) (inherited_is o.kind o e) (all_inherited o es)

-- ---- what the creator gave is not inherited

none_either : (b : Bool) (xs ys : List WholeAce) → filter is_inherited xs ≡ [] → filter is_inherited ys ≡ [] → filter is_inherited (cond b xs ys) ≡ []
none_either true xs ys h k = h
none_either false xs ys h k = k

pub own_not : (o : NewValue) (e : WholeAce) → is_inherited e ≡ false → filter is_inherited (own_copies o e) ≡ []
own_not o e h =
    let kept = ap (λ f. holds f 4) (flags_concrete o (bit_and (flags_of e) 0xC0) e) ∙ holds-and (flags_of e) 0xC0 4 ∙ and-false (holds (flags_of e) 4) in
    let waits = ap (λ f. holds f 4) (flags_with (bit_or (flags_of e) 0x08) e) ∙ holds-or (flags_of e) 0x08 4 ∙ ap (λ x. x || false) h in
    let stays = ap (λ f. holds f 4) (flags_concrete o (flags_of e) e) ∙ h in
    none_either (for_children_alone (flags_of e)) (e ∷ []) _ (none_pass e [] h refl)
    (none_either (hands_on o.kind (flags_of e) && is_split e) _ _
    (none_pass (concrete o (bit_and (flags_of e) 0xC0) e) (with_flags (bit_or (flags_of e) 0x08) e ∷ []) kept (none_pass (with_flags (bit_or (flags_of e) 0x08) e) [] waits refl))
    (none_pass (concrete o (flags_of e) e) [] stays refl))

given_not : (o : NewValue) (e : WholeAce) (b : Bool) → is_inherited e ≡ b → filter is_inherited (cond b [] (own_copies o e)) ≡ []
given_not o e true h = refl
given_not o e false h = own_not o e h

pub none_given : (o : NewValue) (given : List WholeAce) → filter is_inherited (flat_map (given_copies o) given) ≡ []
none_given o [] = refl
none_given o (e ∷ es) =
    filter-append is_inherited (given_copies o e) (flat_map (given_copies o) es)
    ∙ ap₂ (λ xs ys. xs ++ ys) (given_not o e (is_inherited e) refl) (none_given o es)

-- ---- lists

-- from the parent's list alone, or behind what the creator gave
part_of : (alone followed : Bool) (parent given : List WholeAce) → filter is_inherited parent ≡ parent → filter is_inherited given ≡ []
    → cond alone (filter is_inherited parent) (filter is_inherited (given ++ cond followed parent [])) ≡ cond (alone || followed) parent []
part_of true followed parent given h k = h
part_of false true parent given h k = filter-append is_inherited given parent ∙ ap₂ (λ xs ys. xs ++ ys) k h
part_of false false parent given h k = filter-append is_inherited given [] ∙ ap (λ xs. xs ++ []) k

split : (o : NewValue) (s : SourcesValue) (given : WholeListValue) (acl : WholeAcl) (alone : Bool) → acl ≡ Entries given
    → inherited_part (cond alone (Entries (inherited o s.parent)) (of_given o s acl))
    ≡ cond alone (filter is_inherited (inherited o s.parent)) (filter is_inherited (flat_map (given_copies o) given.entries ++ following o s))
split o s given acl true h = refl
split o s given acl false h = ap (λ acl. inherited_part (of_given o s acl)) h

pub inherited_follows_the_parent : InheritedFollowsTheParent
inherited_follows_the_parent o s given h =
    split o s given s.given (is_of_parent s) h
    ∙ part_of (is_of_parent s) (is_followed s) (inherited o s.parent) (flat_map (given_copies o) given.entries) (all_inherited o s.parent) (none_given o given.entries)

pub without_a_list_the_parent_decides : WithoutAListTheParentDecides
without_a_list_the_parent_decides o s h k =
    ap (λ alone. cond alone (Entries (inherited o s.parent)) (of_given o s s.given)) (ap₂ (λ x y. x && (y || s.is_default)) k h)

pub protected_takes_nothing : ProtectedTakesNothing
protected_takes_nothing o s given h p d =
    let own = flat_map (given_copies o) given.entries in
    ap (λ alone. cond alone (Entries (inherited o s.parent)) (of_given o s s.given))
    (ap₂ (λ acl default. contains_inheritable s.parent && (is_without acl || default)) h d ∙ and-false (contains_inheritable s.parent))
    ∙ ap (of_given o s) h
    ∙ ap (λ x. Entries (own ++ cond (s.is_automatic && not x) (inherited o s.parent) [])) p
    ∙ ap (λ x. Entries (own ++ cond x (inherited o s.parent) [])) (and-false s.is_automatic)
    ∙ ap Entries (append-nil own)
