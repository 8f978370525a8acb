-- A question to which no more allows apply than to another, and no fewer denies, grants no more.
use Rattle.std.proofs.Common.{◌≡◌, ℕ, ◌+◌, ◌∷◌, [], List, Bool, true, false, not, ◌⊎◌, Option, Some, None, Ok, Err, arith, refl, sym, ◌∙◌, inl, inr}
use Rattle.std.specs.Prelude.{if◌then◌else◌}
use Rattle.std.proofs.lemmas.Bool.{cases_Bool, false≢true}
use Rattle.sd_acl.specs.Ace.{is_allow}
use Rattle.sd_acl.specs.declared.ace.Ace.{Ace}
use Rattle.sd_acl.specs.declared.ace.AceKind.{AceKind}
use Rattle.sd_acl.specs.declared.ace.AceKind.TheVariants.{Allow, Deny}
use Rattle.sd_check.specs.Check.{decides, first, is_allowed_by, is_granted, is_limit, limits_owner}
use Rattle.sd_check.specs.Token.{TokenValue}
use Rattle.sd_check.specs.declared.grounds.Pass.TheVariants.{First}
use Rattle.sd_sid.specs.Mapping.{MappingValue}
use Rattle.sd_sid.specs.Sid.{SidValue}
use Rattle.sd_whole.specs.Entry.{for_children_alone}
use Rattle.sd_whole.specs.Kind.{plain_kind}
use Rattle.sd_whole.specs.declared.ace.TypedAce.{TypedAce}
use Rattle.sd_whole.specs.declared.ace.WholeAce.{WholeAce}
use Rattle.sd_whole.specs.declared.ace.WholeAce.TheVariants.{Plain, Typed, Opaque}
use Rattle.sd_whole.specs.declared.kind.WholeKind.{WholeKind}
use Rattle.sd_specialize.proofs.Grants.{decides_nothing, more_granted}
use Rattle.sd_specialize.proofs.Lists.{Is, found, listed}
use Rattle.sd_specialize.specs.Context.{ContextValue}
use Rattle.sd_specialize.specs.Entry.{applies_as, applies_in, effective_for, entry_for, passes_agree, plain_for, typed_for, without_part}
use Rattle.sd_specialize.specs.Entry as whole
use Rattle.sd_specialize.specs.Specialize.{entries_for, specialized_list}
use Rattle.sd_specialize.specs.declared.fault.RefusedKind.{RefusedKind}
use Rattle.sd_specialize.specs.declared.fault.RefusedKind.TheVariants.{PassesDiffer}

-- an allow that applies for the one applies for the other, and a deny that applies for the other applies for the one
pub record AppliesNoMore (c k : ContextValue) : Type 0 where
  pub self : c.principal_self ≡ k.principal_self
  pub allows : (e : TypedAce) (kind : WholeKind) → whole.decides kind ≡ Some Allow
      → applies_as kind c First e ≡ true → applies_as kind k First e ≡ true
  pub denies : (e : TypedAce) (kind : WholeKind) → whole.decides kind ≡ Some Deny
      → applies_as kind k First e ≡ true → applies_as kind c First e ≡ true

-- ---- an entry

-- both are one; or the one names no right and the other allows; or the one denies and the other names no right
pub record NoMore (a b : Ace) : Type 0 where
  pub shapes : (a ≡ b) ⊎ (((a.mask ≡ 0) × (is_allow b.kind ≡ true)) ⊎ ((is_allow a.kind ≡ false) × (b.mask ≡ 0)))
  pub limits : is_limit b ≡ is_limit a

same_entry : (a b : Ace) → a ≡ b → NoMore a b
same_entry a b same = record { shapes = inl same; limits = rw same refl }

both_same : (x a b : Ace) → Is (Ok x) a → Is (Ok x) b → NoMore a b
both_same x a b h k = same_entry a b cc

-- an entry that is decided by two tests
pub decided : (agree applies : Bool) (x y p : Ace)
    → (if not agree then Err PassesDiffer else if applies then Ok x else Ok y) ≡ Ok p → p ≡ (if applies then x else y)
decided true true x y p h = cc
decided true false x y p h = cc
decided false applies x y p h = absurd cc

module _ (c k : ContextValue) (no_more : AppliesNoMore c k) where
  same_plain : (kind : AceKind) (flags mask : ℕ) (sid : SidValue) → plain_for c kind flags mask sid ≡ plain_for k kind flags mask sid
  same_plain kind flags mask sid = rw no_more.self refl

  both_plain : (kind : AceKind) (flags mask : ℕ) (sid : SidValue) (a b : Ace) → Is (Ok (plain_for c kind flags mask sid)) a
      → Is (Ok (plain_for k kind flags mask sid)) b → NoMore a b
  both_plain kind flags mask sid a b one other = both_same (plain_for k kind flags mask sid) a b (rw (same_plain kind flags mask sid) at one) other

module _ (c k : ContextValue) (no_more : AppliesNoMore c k) (e : TypedAce) (a b : Ace) where
  allow_no_more : (one other : Bool) → (one ≡ true → other ≡ true)
      → a ≡ (if one then plain_for c Allow e.flags.0 e.mask e.sid else without_part c e.flags.0 e.sid)
      → b ≡ (if other then plain_for k Allow e.flags.0 e.mask e.sid else without_part k e.flags.0 e.sid) → NoMore a b
  allow_no_more true true more is-a is-b = same_entry a b (is-a ∙ same_plain c k no_more Allow e.flags.0 e.mask e.sid ∙ sym is-b)
  allow_no_more false true more is-a is-b =
      rw (is-a, is-b, no_more.self) (record { shapes = inr (inl (refl, refl)); limits = refl })
  allow_no_more true false more is-a is-b = absurd (false≢true (more refl))
  allow_no_more false false more is-a is-b = same_entry a b (is-a ∙ same_plain c k no_more Allow e.flags.0 0 e.sid ∙ sym is-b)

  deny_no_more : (one other : Bool) → (other ≡ true → one ≡ true)
      → a ≡ (if one then plain_for c Deny e.flags.0 e.mask e.sid else without_part c e.flags.0 e.sid)
      → b ≡ (if other then plain_for k Deny e.flags.0 e.mask e.sid else without_part k e.flags.0 e.sid) → NoMore a b
  deny_no_more true true less is-a is-b = same_entry a b (is-a ∙ same_plain c k no_more Deny e.flags.0 e.mask e.sid ∙ sym is-b)
  deny_no_more true false less is-a is-b =
      rw (is-a, is-b, no_more.self) (record { shapes = inr (inr (refl, refl)); limits = refl })
  deny_no_more false true less is-a is-b = absurd (false≢true (less refl))
  deny_no_more false false less is-a is-b = same_entry a b (is-a ∙ same_plain c k no_more Allow e.flags.0 0 e.sid ∙ sym is-b)

  effective_no_more : (decision : Option AceKind) → whole.decides e.kind ≡ decision
      → effective_for decision c e ≡ Ok a → effective_for decision k e ≡ Ok b → NoMore a b
  effective_no_more None is one other = absurd cc
  effective_no_more (Some Allow) is one other =
      allow_no_more (applies_in c First e) (applies_in k First e) (no_more.allows e e.kind is)
      (decided (passes_agree c e) (applies_in c First e) _ _ a one) (decided (passes_agree k e) (applies_in k First e) _ _ b other)
  effective_no_more (Some Deny) is one other =
      deny_no_more (applies_in c First e) (applies_in k First e) (no_more.denies e e.kind is)
      (decided (passes_agree c e) (applies_in c First e) _ _ a one) (decided (passes_agree k e) (applies_in k First e) _ _ b other)

  other_no_more : (inherit_only : Bool)
      → (if inherit_only then Ok (without_part c e.flags.0 e.sid) else effective_for (whole.decides e.kind) c e) ≡ Ok a
      → (if inherit_only then Ok (without_part k e.flags.0 e.sid) else effective_for (whole.decides e.kind) k e) ≡ Ok b
      → NoMore a b
  other_no_more true one other = both_plain c k no_more Allow e.flags.0 0 e.sid a b one other
  other_no_more false one other = effective_no_more (whole.decides e.kind) refl one other

  typed_no_more : (plain : Option AceKind) → typed_for plain c e ≡ Ok a → typed_for plain k e ≡ Ok b → NoMore a b
  typed_no_more None one other = other_no_more (for_children_alone e.flags.0) one other
  typed_no_more (Some kind) one other = both_plain c k no_more kind e.flags.0 e.mask e.sid a b one other

opaque_no_more : (inherit_only : Bool) (x a b : Ace) (kind : RefusedKind)
    → (if inherit_only then Ok x else Err kind) ≡ Ok a → (if inherit_only then Ok x else Err kind) ≡ Ok b → NoMore a b
opaque_no_more true x a b kind one other = both_same x a b one other
opaque_no_more false x a b kind one other = absurd cc

entry_no_more : (c k : ContextValue) (no_more : AppliesNoMore c k) (e : WholeAce) (a b : Ace)
    → entry_for c e ≡ Ok a → entry_for k e ≡ Ok b → NoMore a b
entry_no_more c k no_more (Plain e) a b one other = both_plain c k no_more e.kind e.flags.0 e.mask e.sid a b one other
entry_no_more c k no_more (Typed e) a b one other = typed_no_more c k no_more e a b (plain_kind e.kind) one other
entry_no_more c k no_more (Opaque e) a b one other =
    opaque_no_more (for_children_alone e.flags.0) (without_part c e.flags.0 whole.nobody) a b _ one other

-- ---- a list

module _ (g : MappingValue) (who : AceKind → SidValue → Bool) (bit : ℕ) (a b : Ace) (xs ys : List Ace)
    (rest : is_allowed_by (first g who xs bit) ≡ true → is_allowed_by (first g who ys bit) ≡ true)
    (h : is_allowed_by (first g who (a ∷ xs) bit) ≡ true) where
  after_same : a ≡ b → is_allowed_by (first g who (b ∷ ys) bit) ≡ true
  after_same same =
      let now : is_allowed_by (first g who (b ∷ xs) bit) ≡ true = rw same at h in
      elim (cases_Bool (decides g who bit b)) [ inl is ↦ grind (arith, is, now) | inr isnt ↦ grind (arith, isnt, now, rest) ]

  after_allow : a.mask ≡ 0 → is_allow b.kind ≡ true → is_allowed_by (first g who (b ∷ ys) bit) ≡ true
  after_allow none allows =
      let passes = decides_nothing g who bit a none in
      elim (cases_Bool (decides g who bit b)) [
        | inl is ↦ grind (arith, is, allows)
        | inr isnt ↦ grind (arith, isnt, passes, h, rest)
      ]

  after_deny : is_allow a.kind ≡ false → b.mask ≡ 0 → is_allowed_by (first g who (b ∷ ys) bit) ≡ true
  after_deny denies none =
      let passes = decides_nothing g who bit b none in
      elim (cases_Bool (decides g who bit a)) [
        | inl is ↦ absurd (grind (arith, is, h, denies))
        | inr isnt ↦ grind (arith, isnt, passes, h, rest)
      ]

  still_allowed : NoMore a b → is_allowed_by (first g who (b ∷ ys) bit) ≡ true
  still_allowed no_more = elim no_more.shapes [
    | inl same ↦ after_same same
    | inr others ↦ elim others [ inl x ↦ after_allow x.0 x.1 | inr x ↦ after_deny x.0 x.1 ]
  ]

-- what one list allows the other does, and they limit the owner alike
pub record NoMoreIn (xs ys : List Ace) : Type 0 where
  pub allowed : (g : MappingValue) (who : AceKind → SidValue → Bool) (bit : ℕ)
      → is_allowed_by (first g who xs bit) ≡ true → is_allowed_by (first g who ys bit) ≡ true
  pub limits : limits_owner (Some ys) ≡ limits_owner (Some xs)

list_no_more : (c k : ContextValue) (no_more : AppliesNoMore c k) (n : ℕ) (es : List WholeAce) (xs ys : List Ace)
    → entries_for c n es ≡ Ok xs → entries_for k n es ≡ Ok ys → NoMoreIn xs ys
list_no_more c k no_more n [] xs ys one other =
    let same : xs ≡ ys = cc in
    rw same (record { allowed = λ g who bit x. x; limits = refl })
list_no_more c k no_more n (e ∷ es) xs ys one other =
    let f = found n (entry_for c e) (entries_for c (n + 1) es) xs one in
    let l = found n (entry_for k e) (entries_for k (n + 1) es) ys other in
    let here = entry_no_more c k no_more e f.first l.first f.is_first l.is_first in
    let others = list_no_more c k no_more (n + 1) es f.rest l.rest f.are_rest l.are_rest in
    rw (f.are, l.are) (record {
      allowed = λ g who bit x. still_allowed g who bit f.first l.first f.rest l.rest (others.allowed g who bit) x here;
      limits = cc (here.limits, others.limits);
    })

-- a bit that the one list grants is granted by the other
abbrev pub GrantsNoMore : List Ace → List Ace → Type 0
GrantsNoMore one other = (owner : Option SidValue) (g : MappingValue) (t : TokenValue) (b : ℕ)
    → is_granted owner (Some one) g t b ≡ true → is_granted owner (Some other) g t b ≡ true

pub grants_no_more : (c k : ContextValue) → AppliesNoMore c k → (es : List WholeAce) (xs ys : List Ace)
    → specialized_list c es ≡ Ok xs → specialized_list k es ≡ Ok ys → GrantsNoMore xs ys
grants_no_more c k applies es xs ys one other owner g t b =
    let no_more = list_no_more c k applies 1 es xs ys (listed (entries_for c 1 es) xs one) (listed (entries_for k 1 es) ys other) in
    more_granted owner g t b xs ys (λ who. no_more.allowed g who b) (λ limits. sym no_more.limits ∙ limits)
