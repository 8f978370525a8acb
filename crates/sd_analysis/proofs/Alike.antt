-- Lists that act alike: those that are equal, and one after another. What is handed on by a list is what its parts hand on.
use Rattle.sd_analysis.proofs.Cited.{Ace, ActAlike, ActUnlike, Container, ContainerBelow, DecideAlike, Descendant, GroupState, InheritAlike, List, MappingValue, NodeKind, Object, ObjectBelow, Option, SidValue, Some, [], ap, creator_group, creator_owner, drop, eqb-suc-zero, false≢true, flat_map-append, inherited_entries, inl, inr, length, list_of, pass_on, refl, remove, suc, sym, take, true, verdict, zero, ℕ, ◌++◌, ◌==◌, ◌∙◌, ◌∷◌, ◌≡◌}
use Rattle.sd_inheritance.specs.declared.kind.NodeKind.TheVariants as kinds

module _ (g : MappingValue) (base : List (SidValue × GroupState)) where
  pub decide_same : (owner : Option SidValue) (es others : List Ace) → others ≡ es → DecideAlike owner g base es others
  decide_same owner es others same t r has = ap (λ (xs : List Ace). verdict owner (Some xs) g t r) same

  pub inherit_same : (es others : List Ace) → others ≡ es → InheritAlike g base es others
  inherit_same es others same = record {
    verdicts = decide_same (Some creator_owner) es others same;
    emptiness = ap (λ (xs : List Ace). length xs == 0) same;
  }

  module _ (owner : Option SidValue) where
    pub act_same : (es others : List Ace) → others ≡ es → ActAlike owner g base es others
    act_same es others same = record {
      itself = decide_same owner es others same;
      below = λ d. inherit_same (list_of g d es) (list_of g d others) (ap (list_of g d) same);
    }

    pub act_after : (es mid others : List Ace) → ActAlike owner g base es mid → ActAlike owner g base mid others → ActAlike owner g base es others
    act_after es mid others one next = record {
      itself = λ t r has. next.itself t r has ∙ one.itself t r has;
      below = λ d. record {
        verdicts = λ t r has. (next.below d).verdicts t r has ∙ (one.below d).verdicts t r has;
        emptiness = (next.below d).emptiness ∙ (one.below d).emptiness;
      };
    }

    pub not_both : (es others : List Ace) → ActUnlike owner g base es others → ActAlike owner g base es others → ⊥
    not_both es others unlike alike = elim unlike [
      | inl here ↦ here.differs (alike.itself here.token here.request here.has_base)
      | inr below ↦ elim below.1 [
        | inl one ↦ one.differs ((alike.below below.0).verdicts one.token one.request one.has_base)
        | inr emptied ↦ emptied (alike.below below.0).emptiness
      ]
    ]

-- ---- what the parts of a list hand on

parts_handed : (g : MappingValue) (kind : NodeKind) (xs ys : List Ace) → inherited_entries g kind (xs ++ ys) ≡ inherited_entries g kind xs ++ inherited_entries g kind ys
parts_handed g kind xs ys = flat_map-append (pass_on g kind creator_owner creator_group) xs ys

pub parts_listed : (g : MappingValue) (d : Descendant) (xs ys : List Ace) → list_of g d (xs ++ ys) ≡ list_of g d xs ++ list_of g d ys
parts_listed g Object xs ys = parts_handed g kinds.Object xs ys
parts_listed g Container xs ys = parts_handed g kinds.Container xs ys
parts_listed g ObjectBelow xs ys =
    ap (inherited_entries g kinds.Object) (parts_handed g kinds.Container xs ys) ∙ parts_handed g kinds.Object (inherited_entries g kinds.Container xs) (inherited_entries g kinds.Container ys)
parts_listed g ContainerBelow xs ys =
    ap (inherited_entries g kinds.Container) (parts_handed g kinds.Container xs ys) ∙ parts_handed g kinds.Container (inherited_entries g kinds.Container xs) (inherited_entries g kinds.Container ys)

split_at : (place : ℕ) (es : List Ace) → take place es ++ (take 1 (drop place es) ++ drop (suc place) es) ≡ es
split_at zero [] = refl
split_at zero (e ∷ es) = refl
split_at (suc place) [] = refl
split_at (suc place) (e ∷ es) = ap (λ xs. e ∷ xs) (split_at place es)

none_in : {X : Type 0} (xs : List X) → (length xs == 0) ≡ true → xs ≡ []
none_in [] none = refl
none_in (x ∷ xs) none = absurd (false≢true (sym (eqb-suc-zero (length xs)) ∙ none))

-- without an entry that hands nothing on the same is handed on
pub handed_without : (g : MappingValue) (d : Descendant) (es : List Ace) (place : ℕ) → (length (list_of g d (take 1 (drop place es))) == 0) ≡ true
    → list_of g d (remove es place) ≡ list_of g d es
handed_without g d es place none =
    let front = take place es in
    let one = take 1 (drop place es) in
    let back = drop (suc place) es in
    parts_listed g d front back
    ∙ ap (λ (xs : List Ace). list_of g d front ++ (xs ++ list_of g d back)) (sym (none_in (list_of g d one) none))
    ∙ ap (λ (xs : List Ace). list_of g d front ++ xs) (sym (parts_listed g d one back))
    ∙ sym (parts_listed g d front (one ++ back)) ∙ ap (list_of g d) (split_at place es)
