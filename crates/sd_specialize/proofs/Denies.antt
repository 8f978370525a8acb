-- One more deny grants nothing.
use Rattle.std.proofs.Common.{◌≡◌, ℕ, ◌+◌, ◌++◌, ◌∷◌, [], List, Bool, true, false, not, Option, Some, None, Ok, Err, ◌⊎◌, arith, refl, sym, ◌∙◌, inl, inr}
use Rattle.std.specs.Prelude.{if◌then◌else◌}
use Rattle.std.proofs.lemmas.Bool.{cases_Bool, false≢true}
use Rattle.sd_acl.specs.Ace.{is_allow}
use Rattle.sd_acl.specs.declared.ace.Ace.{Ace}
use Rattle.sd_acl.specs.declared.ace.AceKind.{AceKind}
use Rattle.sd_acl.specs.declared.ace.AceKind.TheVariants.{Allow, Deny}
use Rattle.sd_check.specs.Check.{decides, first, is_allowed_by, is_granted, limits_owner}
use Rattle.sd_check.specs.Token.{TokenValue}
use Rattle.sd_check.specs.declared.grounds.Pass.TheVariants.{First}
use Rattle.sd_sid.specs.Mapping.{MappingValue}
use Rattle.sd_sid.specs.Sid.{SidValue}
use Rattle.sd_whole.specs.Entry.{for_children_alone}
use Rattle.sd_whole.specs.Kind.{plain_kind}
use Rattle.sd_whole.specs.declared.ace.TypedAce.{TypedAce}
use Rattle.sd_whole.specs.declared.ace.WholeAce.{WholeAce}
use Rattle.sd_whole.specs.declared.ace.WholeAce.TheVariants.{Plain, Typed, Opaque}
use Rattle.sd_whole.specs.declared.kind.WholeKind.{WholeKind}
use Rattle.sd_whole.specs.declared.kind.WholeKind.TheVariants as WholeKinds
use Rattle.sd_specialize.proofs.Grants.{decides_nothing, more_granted}
use Rattle.sd_specialize.proofs.Lists.{Is, Split, found, listed, split}
use Rattle.sd_specialize.specs.Context.{ContextValue}
use Rattle.sd_specialize.specs.Entry.{applies_in, effective_for, entry_for, passes_agree, plain_for, typed_for, without_part}
use Rattle.sd_specialize.specs.Entry as whole
use Rattle.sd_specialize.specs.Laws.{DenyNeverGrants, decision}
use Rattle.sd_specialize.specs.Specialize.{entries_for}
use Rattle.sd_specialize.specs.declared.fault.RefusedKind.TheVariants.{PassesDiffer}

-- without an entry that allows nothing, what was allowed still is
pub still_allowed : (g : MappingValue) (who : AceKind → SidValue → Bool) (b : ℕ) (front back : List Ace) (p : Ace)
    → (decides g who b p ≡ true → is_allow p.kind ≡ false)
    → is_allowed_by (first g who (front ++ p ∷ back) b) ≡ true → is_allowed_by (first g who (front ++ back) b) ≡ true
still_allowed g who b [] back p denies h =
    elim (cases_Bool (decides g who b p)) [ inl is ↦ absurd (grind (arith, is, h, denies is)) | inr isnt ↦ grind (arith, isnt, h) ]
still_allowed g who b (x ∷ front) back p denies h =
    elim (cases_Bool (decides g who b x)) [ inl is ↦ grind (arith, is, h) | inr isnt ↦ grind (arith, isnt, h, still_allowed g who b front back p denies) ]

-- and the owner isn't limited more
pub still_limits : (front back : List Ace) (p : Ace) → limits_owner (Some (front ++ back)) ≡ true → limits_owner (Some (front ++ p ∷ back)) ≡ true
still_limits [] back p h = grind (arith, h)
still_limits (x ∷ front) back p h = grind (arith, h, still_limits front back p)

-- ---- what a deny is for a question: it denies, or names no right

pub record Denies (p : Ace) : Type 0 where
  pub either : (is_allow p.kind ≡ false) ⊎ (p.mask ≡ 0)

plain_denies : (c : ContextValue) (kind : AceKind) (flags mask : ℕ) (sid : SidValue) (p : Ace) → Some kind ≡ Some Deny
    → Is (Ok (plain_for c kind flags mask sid)) p → Denies p
plain_denies c Allow flags mask sid p is h = absurd cc
plain_denies c Deny flags mask sid p is h =
    let same : p ≡ plain_for c Deny flags mask sid = cc in
    record { either = inl (rw same refl) }

nothing_denies : (c : ContextValue) (flags : ℕ) (sid : SidValue) (p : Ace)
    → Is (Ok (without_part c flags sid)) p → Denies p
nothing_denies c flags sid p h =
    let same : p ≡ without_part c flags sid = cc in
    record { either = inr (rw same refl) }

deciding_denies : (c : ContextValue) (agree applies : Bool) (e : TypedAce) (p : Ace)
    → (if not agree then Err PassesDiffer else if applies then Ok (plain_for c Deny e.flags.0 e.mask e.sid)
    else Ok (without_part c e.flags.0 e.sid)) ≡ Ok p → Denies p
deciding_denies c true true e p h = plain_denies c Deny e.flags.0 e.mask e.sid p refl h
deciding_denies c true false e p h = nothing_denies c e.flags.0 e.sid p h
deciding_denies c false applies e p h = absurd cc

effective_denies : (c : ContextValue) (k : Option AceKind) (e : TypedAce) (p : Ace) → k ≡ Some Deny
    → effective_for k c e ≡ Ok p → Denies p
effective_denies c None e p is h = absurd cc
effective_denies c (Some Allow) e p is h = absurd cc
effective_denies c (Some Deny) e p is h = deciding_denies c (passes_agree c e) (applies_in c First e) e p h

other_denies : (c : ContextValue) (inherit_only : Bool) (e : TypedAce) (p : Ace) → whole.decides e.kind ≡ Some Deny
    → (if inherit_only then Ok (without_part c e.flags.0 e.sid) else effective_for (whole.decides e.kind) c e) ≡ Ok p → Denies p
other_denies c true e p is h = nothing_denies c e.flags.0 e.sid p h
other_denies c false e p is h = effective_denies c (whole.decides e.kind) e p is h

-- an allow or a deny decides as it says
plain_decision : (kind : WholeKind) (k : AceKind) → plain_kind kind ≡ Some k → whole.decides kind ≡ Some k
plain_decision WholeKinds.Allow k h = h
plain_decision WholeKinds.Deny k h = h
plain_decision _ k h = absurd cc

typed_denies : (c : ContextValue) (e : TypedAce) (p : Ace) (k : Option AceKind) → plain_kind e.kind ≡ k → whole.decides e.kind ≡ Some Deny
    → typed_for k c e ≡ Ok p → Denies p
typed_denies c e p None plain is h = other_denies c (for_children_alone e.flags.0) e p is h
typed_denies c e p (Some kind) plain is h =
    plain_denies c kind e.flags.0 e.mask e.sid p (sym (plain_decision e.kind kind plain) ∙ is) h

pub entry_denies : (c : ContextValue) (e : WholeAce) (p : Ace) → decision e ≡ Some Deny → entry_for c e ≡ Ok p → Denies p
entry_denies c (Plain e) p is h = plain_denies c e.kind e.flags.0 e.mask e.sid p is h
entry_denies c (Typed e) p is h = typed_denies c e p (plain_kind e.kind) refl is h
entry_denies c (Opaque e) p is h = absurd cc

denying : (g : MappingValue) (who : AceKind → SidValue → Bool) (b : ℕ) (p : Ace) → Denies p → decides g who b p ≡ true → is_allow p.kind ≡ false
denying g who b p denies is = elim denies.either [ inl isnt ↦ isnt | inr none ↦ absurd (false≢true (sym (decides_nothing g who b p none) ∙ is)) ]

-- a list that is found with an entry has what the entry is for the question
pub record Has (c : ContextValue) (e : WholeAce) : Type 0 where
  pub plain : Ace
  pub is : entry_for c e ≡ Ok plain

pub has : (c : ContextValue) (n : ℕ) (before after : List WholeAce) (e : WholeAce) (with : List Ace)
    → entries_for c n (before ++ e ∷ after) ≡ Ok with → Has c e
has c n [] after e with h =
    let f = found n (entry_for c e) (entries_for c (n + 1) after) with h in
    record { plain = f.first; is = f.is_first }
has c n (x ∷ before) after e with h =
    let f = found n (entry_for c x) (entries_for c (n + 1) (before ++ e ∷ after)) with h in
    has c (n + 1) before after e f.rest f.are_rest

still_granted : (p : Ace) (with without : List Ace) → Split p with without → Denies p
    → (owner : Option SidValue) (g : MappingValue) (t : TokenValue) (b : ℕ)
    → is_granted owner (Some with) g t b ≡ true → is_granted owner (Some without) g t b ≡ true
still_granted p with without s denies owner g t b =
    rw (s.with_it, s.without_it)
    (more_granted owner g t b (s.front ++ p ∷ s.back) (s.front ++ s.back)
    (λ who. still_allowed g who b s.front s.back p (denying g who b p denies))
    (still_limits s.front s.back p))

pub deny_never_grants : DenyNeverGrants
deny_never_grants c before after e with without is h k =
    let all = listed (entries_for c 1 (before ++ e ∷ after)) with h in
    let there = has c 1 before after e with all in
    let s = split c 1 1 before after e there.plain with without there.is all (listed (entries_for c 1 (before ++ after)) without k) in
    still_granted there.plain with without s (entry_denies c e there.plain is there.is)
