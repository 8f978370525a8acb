-- What is granted on the whole object is granted on each part of it.
use Rattle.std.proofs.Common.{◌≡◌, [], List, true, Option, Some, None, arith, refl}
use Rattle.sd_acl.specs.declared.ace.AceKind.TheVariants.{Allow, Deny}
use Rattle.sd_check.specs.declared.grounds.Pass.TheVariants.{First}
use Rattle.sd_whole.specs.declared.ace.TypedAce.{TypedAce}
use Rattle.sd_whole.specs.declared.kind.WholeKind.{WholeKind}
use Rattle.sd_whole.specs.declared.kind.WholeKind.TheVariants as kinds
use Rattle.sd_whole.specs.declared.types.Guid.{Guid}
use Rattle.sd_specialize.proofs.NoMore.{AppliesNoMore, grants_no_more}
use Rattle.sd_specialize.specs.Context.{ContextValue}
use Rattle.sd_specialize.specs.Entry.{allows_type, applies_as, denies_type}
use Rattle.sd_specialize.specs.Entry as whole
use Rattle.sd_specialize.specs.Laws.{WholeIsEveryPart, asking}

allow_for_any : (chain : List Guid) (o : Option Guid) → allows_type [] o ≡ true → allows_type chain o ≡ true
allow_for_any chain None h = refl
allow_for_any chain (Some type) h = absurd cc

deny_for_all : (chain : List Guid) (o : Option Guid) → denies_type chain o ≡ true → denies_type [] o ≡ true
deny_for_all chain None h = refl
deny_for_all chain (Some type) h = refl

module _ (c : ContextValue) (chain : List Guid) where
  -- an allow that applies to the whole object applies to each part
  allow_applies : (e : TypedAce) (kind : WholeKind) → whole.decides kind ≡ Some Allow
      → applies_as kind (asking c []) First e ≡ true → applies_as kind (asking c chain) First e ≡ true
  allow_applies e kinds.Allow is h = refl
  allow_applies e kinds.ObjectAllow is h = allow_for_any chain e.types.object h
  allow_applies e kinds.CallbackAllow is h = h
  allow_applies e kinds.CallbackObjectAllow is h = grind (arith, h, allow_for_any chain e.types.object)
  allow_applies e kinds.Deny is h = refl
  allow_applies e kinds.ObjectDeny is h = absurd cc
  allow_applies e kinds.CallbackDeny is h = absurd cc
  allow_applies e kinds.CallbackObjectDeny is h = absurd cc
  allow_applies e _ is h = absurd cc

  -- a deny that applies to a part applies to the whole object
  deny_applies : (e : TypedAce) (kind : WholeKind) → whole.decides kind ≡ Some Deny
      → applies_as kind (asking c chain) First e ≡ true → applies_as kind (asking c []) First e ≡ true
  deny_applies e kinds.Deny is h = refl
  deny_applies e kinds.ObjectDeny is h = deny_for_all chain e.types.object h
  deny_applies e kinds.CallbackDeny is h = h
  deny_applies e kinds.CallbackObjectDeny is h = grind (arith, h, deny_for_all chain e.types.object)
  deny_applies e _ is h = absurd cc

  part_grants_more : AppliesNoMore (asking c []) (asking c chain)
  part_grants_more = record { self = refl; allows = allow_applies; denies = deny_applies }

pub whole_is_every_part : WholeIsEveryPart
whole_is_every_part c chain es whole part one other =
    grants_no_more (asking c []) (asking c chain) (part_grants_more c chain) es whole part one other
