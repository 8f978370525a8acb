-- The laws of what is inherited again.
use Rattle.std.proofs.Common.{◌≡◌, ℕ, Bool, true, false, not, ◌&&◌, ◌||◌, cond, List, [], ◌∷◌, ◌++◌, refl, sym, ◌∙◌, ap, ap₂, append-nil}
use Rattle.std.proofs.Common.{Result, Ok, Err, Option, Some, None, true≢false}
use Rattle.std.specs.List.{filter, flat_map, list_any}
use Rattle.std.proofs.lemmas.List.Elements.{filter-append}
use Rattle.sd_sid.specs.Mask.{holds}
use Rattle.sd_sid.specs.Sid.{SidValue}
use Rattle.sd_acl.specs.Ace.{passes_on}
use Rattle.sd_acl.specs.declared.descriptor.DaclOf.{DaclOf}
use Rattle.sd_acl.specs.declared.descriptor.DaclOf.TheVariants.{Absent, Null, List as Entries}
use Rattle.sd_inheritance.specs.declared.kind.NodeKind.{NodeKind}
use Rattle.sd_inheritance.specs.declared.kind.NodeKind.TheVariants.{Container, Object}
use Rattle.sd_whole.specs.Entry.{flags_of}
use Rattle.sd_whole.specs.Reading.{WholeAcl}
use Rattle.sd_whole.specs.Values.{WholeListValue}
use Rattle.sd_whole.specs.Writing.{is_without}
use Rattle.sd_whole.specs.declared.ace.WholeAce.{WholeAce}
use Rattle.sd_whole.specs.declared.descriptor.WholeDescriptor.{WholeDescriptor}
use Rattle.sd_wire.specs.Reading.{is_set}
use Rattle.sd_create.specs.Acl.{SourcesValue, computed, contains_inheritable, following, inherited, is_inheritable, is_of_parent, of_given, otherwise_of, stays_protected}
use Rattle.sd_create.specs.Entry.{NewValue, by_kind, effective_copy, given_copies, inherited_copies, is_for_class, is_inherited, is_split, own_copies, waiting_copy, whole_copy}
use Rattle.sd_create.specs.Propagation.{InheritanceValue, acl_after, child_object, control_after, dacl_after, descriptor_after, held}
use Rattle.sd_create.specs.Propagation.{own_entries, renewed, sacl_after}
use Rattle.sd_create.specs.Create.{◌>>=◌, entries_of, present}
use Rattle.sd_create.specs.declared.fault.CreateFault.{CreateFault}
use Rattle.sd_create.specs.declared.fault.CreateFault.TheVariants.{NoOwner, NoGroup}
use Rattle.sd_create.specs.Laws.{CreatedStays, ProtectedStays, TwiceIsOnce, inherited_part}
use Rattle.sd_create.proofs.LawProofs.{all_inherited, none_given, own_not}

-- ---- own entries

own_first : (e : WholeAce) (es : List WholeAce) (b : Bool) → is_inherited e ≡ b → own_entries (e ∷ es) ≡ cond (not b) (e ∷ own_entries es) (own_entries es)
own_first e es b h = ap (λ b. cond (not b) (e ∷ own_entries es) (own_entries es)) h

none_own_at : (e : WholeAce) (es : List WholeAce) (b : Bool) → is_inherited e ≡ b → own_entries (filter is_inherited es) ≡ [] → own_entries (cond b (e ∷ filter is_inherited es) (filter is_inherited es)) ≡ []
none_own_at e es true h k = own_first e (filter is_inherited es) true h ∙ k
none_own_at e es false h k = k

-- no inherited entry is the object's own
none_own : (es : List WholeAce) → own_entries (filter is_inherited es) ≡ []
none_own [] = refl
none_own (e ∷ es) = none_own_at e es (is_inherited e) refl (none_own es)

inherited_not_own : (o : NewValue) (parent : List WholeAce) → own_entries (inherited o parent) ≡ []
inherited_not_own o parent = ap own_entries (sym (all_inherited o parent)) ∙ none_own (inherited o parent)

all_own_at : (e : WholeAce) (es : List WholeAce) (b : Bool) → is_inherited e ≡ b → cond b (e ∷ filter is_inherited es) (filter is_inherited es) ≡ [] → (filter is_inherited es ≡ [] → own_entries es ≡ es) → own_entries (e ∷ es) ≡ e ∷ es
all_own_at e es true h k all = absurd cc
all_own_at e es false h k all = own_first e es false h ∙ ap (λ xs. e ∷ xs) (all k)

-- without inherited entries all are the object's own
all_own : (es : List WholeAce) → filter is_inherited es ≡ [] → own_entries es ≡ es
all_own [] h = refl
all_own (e ∷ es) h = all_own_at e es (is_inherited e) refl h (all_own es)

own_again_at : (e : WholeAce) (es : List WholeAce) (b : Bool) → is_inherited e ≡ b → own_entries (own_entries es) ≡ own_entries es → own_entries (cond (not b) (e ∷ own_entries es) (own_entries es)) ≡ cond (not b) (e ∷ own_entries es) (own_entries es)
own_again_at e es true h k = k
own_again_at e es false h k = own_first e (own_entries es) false h ∙ ap (λ xs. e ∷ xs) k

own_again : (es : List WholeAce) → own_entries (own_entries es) ≡ own_entries es
own_again [] = refl
own_again (e ∷ es) = own_again_at e es (is_inherited e) refl (own_again es)

-- own entries, and what is inherited after them, inherit the same again
again : (o : NewValue) (parent own : List WholeAce) → own_entries own ≡ own → own_entries (own ++ inherited o parent) ++ inherited o parent ≡ own ++ inherited o parent
again o parent own h =
    ap (λ xs. xs ++ inherited o parent) (filter-append (λ e. not (is_inherited e)) own (inherited o parent)
    ∙ ap₂ (λ xs ys. xs ++ ys) h (inherited_not_own o parent) ∙ append-nil own)

-- ---- twice

absent_twice : (o : NewValue) (parent : List WholeAce) (b : Bool) → contains_inheritable parent ≡ b
    → renewed o parent (cond b (Entries (inherited o parent)) Absent) ≡ cond b (Entries (inherited o parent)) Absent
absent_twice o parent true h = ap Entries (again o parent [] refl)
absent_twice o parent false h = ap (λ b. cond b (Entries (inherited o parent)) Absent) h

pub twice_is_once : TwiceIsOnce
twice_is_once o parent Absent = absent_twice o parent (contains_inheritable parent) refl
twice_is_once o parent Null = refl
twice_is_once o parent (Entries es) = ap Entries (again o parent (own_entries es) (own_again es))

-- ---- a list that passes on nothing

or_left : (x y : Bool) → (x || y) ≡ false → x ≡ false
or_left true y h = h
or_left false y h = refl

or_right : (x y : Bool) → (x || y) ≡ false → y ≡ false
or_right true y h = absurd (true≢false h)
or_right false y h = h

nothing_of_one : (kind : NodeKind) (o : NewValue) (e : WholeAce) → passes_on (flags_of e) ≡ false → by_kind kind o e ≡ []
nothing_of_one Object o e h = ap (λ x. cond (x && is_for_class o e) (effective_copy o e ∷ []) []) (or_left (holds (flags_of e) 0) (holds (flags_of e) 1) h)
nothing_of_one Container o e h =
    ap₂ (λ x y. cond (x && is_for_class o e)
    (cond (holds (flags_of e) 2) (effective_copy o e ∷ []) (cond (is_split e) (effective_copy o e ∷ waiting_copy e ∷ []) (whole_copy e ∷ [])))
    (cond y (cond (holds (flags_of e) 2) [] (waiting_copy e ∷ [])) []))
    (or_right (holds (flags_of e) 0) (holds (flags_of e) 1) h) h

nothing_inherited : (o : NewValue) (parent : List WholeAce) → contains_inheritable parent ≡ false → inherited o parent ≡ []
nothing_inherited o [] h = refl
nothing_inherited o (e ∷ es) h =
    ap₂ (λ xs ys. xs ++ ys) (nothing_of_one o.kind o e (or_left (is_inheritable e) (contains_inheritable es) h))
    (nothing_inherited o es (or_right (is_inheritable e) (contains_inheritable es) h))

-- ---- what was created

own_of_token_at : (o : NewValue) (e : WholeAce) (es : List WholeAce) (b : Bool) → is_inherited e ≡ b → cond b (e ∷ filter is_inherited es) (filter is_inherited es) ≡ []
    → (filter is_inherited es ≡ [] → filter is_inherited (flat_map (own_copies o) es) ≡ []) → filter is_inherited (own_copies o e ++ flat_map (own_copies o) es) ≡ []
own_of_token_at o e es true h k rest = absurd cc
own_of_token_at o e es false h k rest =
    filter-append is_inherited (own_copies o e) (flat_map (own_copies o) es) ∙ ap₂ (λ xs ys. xs ++ ys) (own_not o e h) (rest k)

own_of_token : (o : NewValue) (es : List WholeAce) → filter is_inherited es ≡ [] → filter is_inherited (flat_map (own_copies o) es) ≡ []
own_of_token o [] h = refl
own_of_token o (e ∷ es) h = own_of_token_at o e es (is_inherited e) refl h (own_of_token o es)

-- after own entries nothing is inherited
without_more : (o : NewValue) (parent es : List WholeAce) → filter is_inherited es ≡ [] → contains_inheritable parent ≡ false
    → own_entries es ++ inherited o parent ≡ es
without_more o parent es h k = ap₂ (λ xs ys. xs ++ ys) (all_own es h) (nothing_inherited o parent k) ∙ append-nil es

token_stays : (o : NewValue) (parent : List WholeAce) (acl : WholeAcl) → inherited_part (held acl) ≡ [] → contains_inheritable parent ≡ false
    → renewed o parent (otherwise_of o acl) ≡ otherwise_of o acl
token_stays o parent Absent h k = ap (λ b. cond b (Entries (inherited o parent)) Absent) k
token_stays o parent Null h k = refl
token_stays o parent (Entries list) h k = ap Entries (without_more o parent (flat_map (own_copies o) list.entries) (own_of_token o list.entries h) k)

and_true : (x y : Bool) → (x && true) ≡ y → x ≡ y
and_true true y h = h
and_true false y h = h

-- what the creator gave, and all that is inherited after it
given_stays : (o : NewValue) (s : SourcesValue) (given : List WholeAce) → s.is_automatic ≡ true → s.is_protected ≡ false
    → own_entries (flat_map (given_copies o) given ++ following o s) ++ inherited o s.parent ≡ flat_map (given_copies o) given ++ following o s
given_stays o s given a p =
    let own = flat_map (given_copies o) given in
    let all = ap₂ (λ x y. own ++ cond (x && not y) (inherited o s.parent) []) a p in
    ap (λ xs. own_entries xs ++ inherited o s.parent) all ∙ again o s.parent own (all_own own (none_given o given)) ∙ sym all

by_given : (o : NewValue) (s : SourcesValue) (acl : WholeAcl) → (contains_inheritable s.parent && (is_without acl || s.is_default)) ≡ false
    → s.is_automatic ≡ true → s.is_protected ≡ false → inherited_part (held s.otherwise) ≡ []
    → renewed o s.parent (of_given o s acl) ≡ of_given o s acl
by_given o s Absent h a p t = token_stays o s.parent s.otherwise t (and_true (contains_inheritable s.parent) false h)
by_given o s Null h a p t = refl
by_given o s (Entries list) h a p t = ap Entries (given_stays o s list.entries a p)

by_parent : (o : NewValue) (s : SourcesValue) (b : Bool) → is_of_parent s ≡ b → s.is_automatic ≡ true → (not b && s.is_protected) ≡ false
    → inherited_part (held s.otherwise) ≡ []
    → renewed o s.parent (cond b (Entries (inherited o s.parent)) (of_given o s s.given)) ≡ cond b (Entries (inherited o s.parent)) (of_given o s s.given)
by_parent o s true h a p t = ap Entries (again o s.parent [] refl)
by_parent o s false h a p t = by_given o s s.given h a p t

pub created_stays : CreatedStays
created_stays o s a p t = by_parent o s (is_of_parent s) refl a p t

-- ---- protected lists

-- a step that came to a value came past its first one
step : {A B : Type 0} (r : Result A CreateFault) (f : A → Result B CreateFault) (y : B) → (r >>= f) ≡ Ok y → (x : A) × (r ≡ Ok x) × (f x ≡ Ok y)
step (Ok x) f y h = (x, refl, h)
step (Err fault) f y h = absurd cc

ok_same : {A : Type 0} (x y : A) → ◌≡◌ {A = Result A CreateFault} (Ok x) (Ok y) → x ≡ y
ok_same x y h = cc

kept_when : (o : NewValue) (parent : List WholeAce) (acl after : WholeAcl) (b : Bool) → acl_after o b parent acl ≡ Ok after → b ≡ true → after ≡ acl
kept_when o parent acl after true h k = sym (ok_same acl after h)
kept_when o parent acl after false h k = absurd cc

pub protected_stays : ProtectedStays
protected_stays i d h =
    let of_owner = step (present NoOwner i.child.owner) _ d h in
    let of_group = step (present NoGroup i.child.group) _ d of_owner.2 in
    let o = child_object i of_owner.0 of_group.0 in
    let of_sacl = step (sacl_after i o) _ d of_group.2 in
    let of_dacl = step (dacl_after i o) _ d of_sacl.2 in
    let same = ok_same (record i.child { control = control_after i; sacl = of_sacl.0; dacl = of_dacl.0 }) d of_dacl.2 in (
      λ k. ap (λ d. d.dacl) (sym same) ∙ kept_when o (entries_of i.parent.dacl) i.child.dacl of_dacl.0 (is_set 0x1000 i.child.control) of_dacl.1 k,
      λ k. ap (λ d. d.sacl) (sym same) ∙ kept_when o (entries_of i.parent.sacl) i.child.sacl of_sacl.0 (is_set 0x2000 i.child.control) of_sacl.1 k,
    )
