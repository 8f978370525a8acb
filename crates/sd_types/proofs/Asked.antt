-- The list that a DACL is for a chain grants a right as the first entry that speaks of it for the chain says.
use Rattle.std.proofs.Common.{◌≡◌, ◌∙◌, inl, inr, ℕ, ◌+◌, Bool, true, false, not, cond, ◌&&◌, ◌||◌, List, [], ◌∷◌, Option, Some, None, Result, Ok, Err, refl, sym, ap}
use Rattle.std.specs.Bool.{beq}
use Rattle.std.specs.List.{cons_option}
use Rattle.std.specs.Prelude.{if◌then◌else◌}
use Rattle.std.proofs.lemmas.Bool.{cases_Bool, false≢true}
use Rattle.std.proofs.lemmas.Slice.Eq.{bytes_eq-Decides}
use Rattle.sd_acl.specs.Ace.{is_allow}
use Rattle.sd_acl.specs.declared.ace.Ace.{Ace}
use Rattle.sd_acl.specs.declared.ace.AceKind.{AceKind}
use Rattle.sd_acl.specs.declared.ace.AceKind.TheVariants.{Allow, Deny}
use Rattle.sd_check.specs.Check.{decides, first, is_allowed_by}
use Rattle.sd_check.specs.declared.grounds.Pass.{Pass}
use Rattle.sd_check.specs.declared.grounds.Pass.TheVariants.{First, Second}
use Rattle.sd_sid.specs.Mapping.{MappingValue}
use Rattle.sd_sid.specs.Sid.{SidValue}
use Rattle.sd_specialize.proofs.Grants.{decides_nothing}
use Rattle.sd_specialize.proofs.Lists.{found, listed}
use Rattle.sd_specialize.proofs.NoMore.{decided}
use Rattle.sd_specialize.specs.Context.{ContextValue}
use Rattle.sd_specialize.specs.Entry.{allows_by_condition, allows_type, applies_as, applies_in, deciding_for, denies_by_condition, denies_type, effective_for, entry_for, other_for, plain_for, typed_for, without_part}
use Rattle.sd_specialize.specs.Entry as whole
use Rattle.sd_specialize.specs.Laws.{asking}
use Rattle.sd_specialize.specs.Specialize.{entries_for, specialized_list}
use Rattle.sd_specialize.specs.declared.fault.RefusedKind.{RefusedKind}
use Rattle.sd_specialize.specs.declared.fault.RefusedKind.TheVariants.{PassesDiffer}
use Rattle.sd_whole.specs.Entry.{for_children_alone}
use Rattle.sd_whole.specs.Kind.{plain_kind}
use Rattle.sd_whole.specs.declared.ace.TypedAce.{TypedAce}
use Rattle.sd_whole.specs.declared.ace.WholeAce.{WholeAce}
use Rattle.sd_whole.specs.declared.ace.WholeAce.TheVariants.{Plain, Typed, Opaque}
use Rattle.sd_whole.specs.declared.kind.WholeKind.{WholeKind}
use Rattle.sd_whole.specs.declared.kind.WholeKind.TheVariants as kinds
use Rattle.sd_whole.specs.declared.types.Guid.{Guid}
use Rattle.sd_types.proofs.Lists.{or_left}
use Rattle.sd_types.specs.Propagation.{Saying, allows, first_for, own_chain, said_by, sayings, type_as, type_of}
use Rattle.sd_types.specs.Tree.{Chain}

-- ---- an entry about its own type

own_allows : (o : Option Guid) → allows_type (own_chain o) o ≡ true
own_allows None = refl
own_allows (Some g) = or_left _ false ((bytes_eq-Decides g.bytes g.bytes).1 refl)

own_denies : (o : Option Guid) → denies_type (own_chain o) o ≡ true
own_denies None = refl
own_denies (Some g) = or_left _ false ((bytes_eq-Decides g.bytes g.bytes).1 refl)

plain_has_no_type : (kind : WholeKind) (e : TypedAce) (x : AceKind) → plain_kind kind ≡ Some x → type_as kind e ≡ None
plain_has_no_type kinds.ObjectAllow e x is = absurd cc
plain_has_no_type kinds.ObjectDeny e x is = absurd cc
plain_has_no_type kinds.CallbackObjectAllow e x is = absurd cc
plain_has_no_type kinds.CallbackObjectDeny e x is = absurd cc
plain_has_no_type _ e x is = refl

module _ (c : ContextValue) (a : Guid) (q : Chain) where
  -- a chain that has a type is asked by a deny for a type as by an allow
  denies_as_allows : (o : Option Guid) → denies_type (a ∷ q) o ≡ allows_type (a ∷ q) o
  denies_as_allows None = refl
  denies_as_allows (Some g) = refl

  -- an entry for a type of the chain is what it is about its own type

  same_applies : (kind : WholeKind) (e : TypedAce) (pass : Pass) → allows_type (a ∷ q) (type_as kind e) ≡ true
      → applies_as kind (asking c (a ∷ q)) pass e ≡ applies_as kind (asking c (own_chain (type_as kind e))) pass e
  same_applies kinds.ObjectAllow e pass h = h ∙ sym (own_allows e.types.object)
  same_applies kinds.ObjectDeny e pass h = denies_as_allows e.types.object ∙ (h ∙ sym (own_denies e.types.object))
  same_applies kinds.CallbackObjectAllow e pass h =
      ap (λ b. b && allows_by_condition c pass e) (h ∙ sym (own_allows e.types.object))
  same_applies kinds.CallbackObjectDeny e pass h =
      ap (λ b. b && denies_by_condition c pass e) (denies_as_allows e.types.object ∙ (h ∙ sym (own_denies e.types.object)))
  same_applies _ e pass h = refl

  module _ (e : TypedAce) (h : allows_type (a ∷ q) (type_as e.kind e) ≡ true) where
    same_deciding : (kind : AceKind) → deciding_for (asking c (a ∷ q)) kind e ≡ deciding_for (asking c (own_chain (type_as e.kind e))) kind e
    same_deciding kind =
        let entry : Bool → Bool → Result Ace RefusedKind = λ one two.
        if not (not c.is_restricted || beq two one) then Err PassesDiffer
        else if one then Ok (plain_for c kind e.flags.0 e.mask e.sid)
        else Ok (without_part c e.flags.0 e.sid) in
        ap (λ one. entry one (applies_in (asking c (a ∷ q)) Second e)) (same_applies e.kind e First h)
        ∙ ap (λ two. entry (applies_in (asking c (own_chain (type_as e.kind e))) First e) two) (same_applies e.kind e Second h)

    same_effective : (d : Option AceKind) → effective_for d (asking c (a ∷ q)) e ≡ effective_for d (asking c (own_chain (type_as e.kind e))) e
    same_effective None = refl
    same_effective (Some kind) = same_deciding kind

    same_typed : (d : Option AceKind) → typed_for d (asking c (a ∷ q)) e ≡ typed_for d (asking c (own_chain (type_as e.kind e))) e
    same_typed (Some kind) = refl
    same_typed None =
        ap (λ r. if for_children_alone e.flags.0 then Ok (without_part c e.flags.0 e.sid) else r) (same_effective (whole.decides e.kind))

  same_entry : (e : WholeAce) → allows_type (a ∷ q) (type_of e) ≡ true
      → entry_for (asking c (a ∷ q)) e ≡ entry_for (asking c (own_chain (type_of e))) e
  same_entry (Plain e) h = refl
  same_entry (Typed e) h = same_typed e h (plain_kind e.kind)
  same_entry (Opaque e) h = refl

  -- an entry for another type names no right

  not_applied : (kind : WholeKind) (e : TypedAce) (pass : Pass) → allows_type (a ∷ q) (type_as kind e) ≡ false
      → applies_as kind (asking c (a ∷ q)) pass e ≡ false
  not_applied kinds.ObjectAllow e pass h = h
  not_applied kinds.ObjectDeny e pass h = denies_as_allows e.types.object ∙ h
  not_applied kinds.CallbackObjectAllow e pass h = ap (λ b. b && allows_by_condition c pass e) h
  not_applied kinds.CallbackObjectDeny e pass h =
      ap (λ b. b && denies_by_condition c pass e) (denies_as_allows e.types.object ∙ h)
  not_applied _ e pass h = absurd (false≢true (sym h))

  module _ (e : TypedAce) (p : Ace) (h : allows_type (a ∷ q) (type_as e.kind e) ≡ false) where
    none_deciding : (kind : AceKind) → deciding_for (asking c (a ∷ q)) kind e ≡ Ok p → p.mask ≡ 0
    none_deciding kind is =
        let same : p ≡ without_part c e.flags.0 e.sid =
        decided _ (applies_in (asking c (a ∷ q)) First e) _ _ p is
        ∙ ap (λ b. if b then plain_for c kind e.flags.0 e.mask e.sid else without_part c e.flags.0 e.sid) (not_applied e.kind e First h) in
        ap (λ (x : Ace). x.mask) same

    none_effective : (d : Option AceKind) → effective_for d (asking c (a ∷ q)) e ≡ Ok p → p.mask ≡ 0
    none_effective None is = absurd cc
    none_effective (Some kind) is = none_deciding kind is

    none_other : (inherit_only : Bool)
        → (if inherit_only then Ok (without_part c e.flags.0 e.sid) else effective_for (whole.decides e.kind) (asking c (a ∷ q)) e) ≡ Ok p
        → p.mask ≡ 0
    none_other true is = let same : without_part c e.flags.0 e.sid ≡ p = cc is in ap (λ (x : Ace). x.mask) (sym same)
    none_other false is = none_effective (whole.decides e.kind) is

    none_typed : (d : Option AceKind) → plain_kind e.kind ≡ d → typed_for d (asking c (a ∷ q)) e ≡ Ok p → p.mask ≡ 0
    none_typed None of is = none_other (for_children_alone e.flags.0) is
    none_typed (Some kind) of is =
        absurd (false≢true (sym h ∙ ap (allows_type (a ∷ q)) (plain_has_no_type e.kind e kind of)))

  none_entry : (e : WholeAce) (p : Ace) → allows_type (a ∷ q) (type_of e) ≡ false → entry_for (asking c (a ∷ q)) e ≡ Ok p → p.mask ≡ 0
  none_entry (Plain e) p h is = absurd (false≢true (sym h))
  none_entry (Typed e) p h is = none_typed e p h (plain_kind e.kind) refl is
  none_entry (Opaque e) p h is = absurd (false≢true (sym h))

  -- ---- a list

  module _ (g : MappingValue) (who : AceKind → SidValue → Bool) (b : ℕ) where
    allowed_as : (kind : AceKind) → is_allow kind ≡ allows (Some kind)
    allowed_as Allow = refl
    allowed_as Deny = refl

    passed_over : (type : Option Guid) → allows_type (a ∷ q) type ≡ false → (e : Ace) (rest : List Saying) (d : Bool)
        → first_for (a ∷ q) (cons_option (if d then Some (record { kind = e.kind; type = type }) else None) rest)
        ≡ first_for (a ∷ q) rest
    passed_over type h e rest true = ap (λ x. if x then Some e.kind else first_for (a ∷ q) rest) h
    passed_over type h e rest false = refl

    -- what is said of another type has no part
    other_said : (type : Option Guid) → allows_type (a ∷ q) type ≡ false → (r : Result Ace RefusedKind) (rest : List Saying)
        → first_for (a ∷ q) (cons_option (said_by g who b type r) rest) ≡ first_for (a ∷ q) rest
    other_said type h (Err kind) rest = refl
    other_said type h (Ok e) rest = passed_over type h e rest (decides g who b e)

    own_said : (type : Option Guid) → allows_type (a ∷ q) type ≡ true → (e : Ace) (rest : List Saying) (others : List Ace)
        → is_allowed_by (first g who others b) ≡ allows (first_for (a ∷ q) rest) → (d : Bool)
        → is_allowed_by (cond d (Some e) (first g who others b))
        ≡ allows (first_for (a ∷ q) (cons_option (if d then Some (record { kind = e.kind; type = type }) else None) rest))
    own_said type h e rest others same true =
        allowed_as e.kind ∙ sym (ap (λ x. allows (if x then Some e.kind else first_for (a ∷ q) rest)) h)
    own_said type h e rest others same false = same

    one_more : (e : WholeAce) (p : Ace) (es : List WholeAce) (others : List Ace) → entry_for (asking c (a ∷ q)) e ≡ Ok p
        → is_allowed_by (first g who others b) ≡ allows (first_for (a ∷ q) (sayings c g who b es))
        → is_allowed_by (first g who (p ∷ others) b) ≡ allows (first_for (a ∷ q) (sayings c g who b (e ∷ es)))
    one_more e p es others is same = elim (cases_Bool (allows_type (a ∷ q) (type_of e))) [
      | inl own ↦
          let about : entry_for (asking c (own_chain (type_of e))) e ≡ Ok p = sym (same_entry e own) ∙ is in
          own_said (type_of e) own p (sayings c g who b es) others same (decides g who b p)
          ∙ sym (ap (λ r. allows (first_for (a ∷ q) (cons_option (said_by g who b (type_of e) r) (sayings c g who b es)))) about)
      | inr other ↦
          ap (λ d. is_allowed_by (cond d (Some p) (first g who others b))) (decides_nothing g who b p (none_entry e p other is))
          ∙ (same ∙ sym (ap allows (other_said (type_of e) other (entry_for (asking c (own_chain (type_of e))) e) (sayings c g who b es))))
    ]

    each_said : (n : ℕ) (es : List WholeAce) (plain : List Ace) → entries_for (asking c (a ∷ q)) n es ≡ Ok plain
        → is_allowed_by (first g who plain b) ≡ allows (first_for (a ∷ q) (sayings c g who b es))
    each_said n [] plain is =
        let none : plain ≡ [] = cc is in ap (λ (l : List Ace). is_allowed_by (first g who l b)) none
    each_said n (e ∷ es) plain is =
        let f = found n (entry_for (asking c (a ∷ q)) e) (entries_for (asking c (a ∷ q)) (n + 1) es) plain is in
        ap (λ (l : List Ace). is_allowed_by (first g who l b)) f.are
        ∙ one_more e f.first es f.rest f.is_first (each_said (n + 1) es f.rest f.are_rest)

    pub chain_is_asked : (es : List WholeAce) (plain : List Ace) → specialized_list (asking c (a ∷ q)) es ≡ Ok plain
        → is_allowed_by (first g who plain b) ≡ allows (first_for (a ∷ q) (sayings c g who b es))
    chain_is_asked es plain is = each_said 1 es plain (listed (entries_for (asking c (a ∷ q)) 1 es) plain is)
