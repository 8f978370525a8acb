-- What follows from the rules, over all lists, tokens and requests.
use Rattle.std.specs.Prelude.{◌≡◌, ℕ, Bool, true, false, ◌&&◌, ◌||◌, ◌==◌, List, [], ◌∷◌, ◌++◌, Option, Some, None, Ok}
use Rattle.std.specs.Prelude.{is_some}
use Rattle.std.specs.List.{list_any}
use Rattle.sd_sid.specs.Mapping.{MappingValue}
use Rattle.sd_sid.specs.Sid.{SidValue, same_sid}
use Rattle.sd_acl.specs.Ace.{is_inherit_only}
use Rattle.sd_acl.specs.Descriptor.{DescriptorValue}
use Rattle.sd_acl.specs.declared.ace.Ace.{Ace}
use Rattle.sd_acl.specs.declared.ace.AceKind.{AceKind}
use Rattle.sd_acl.specs.declared.ace.AceKind.TheVariants.{Deny}
use Rattle.sd_acl.specs.declared.descriptor.DaclOf.TheVariants.{Absent, Null, List as Entries}
use Rattle.sd_check.specs.Check.{is_granted, is_limit, verdict}
use Rattle.sd_check.specs.Token.{TokenValue}
use Rattle.sd_check.specs.declared.grounds.Pass.{Pass}
use Rattle.sd_evaluation.specs.declared.truth.Truth.TheVariants.{Unknown}
use Rattle.sd_whole.specs.Entry.{for_children_alone}
use Rattle.sd_whole.specs.declared.ace.TypedAce.{TypedAce}
use Rattle.sd_whole.specs.declared.ace.WholeAce.{WholeAce}
use Rattle.sd_whole.specs.declared.ace.WholeAce.TheVariants.{Plain, Typed, Opaque}
use Rattle.sd_whole.specs.declared.descriptor.WholeDescriptor.{WholeDescriptor}
use Rattle.sd_whole.specs.declared.kind.WholeKind.TheVariants.{CallbackAllow, CallbackDeny}
use Rattle.sd_whole.specs.declared.types.Guid.{Guid}
use Rattle.sd_whole.specs.Plain.{plain_part}
use Rattle.sd_whole.specs.Reading.{WholeAcl}
use Rattle.sd_whole.specs.Whole.{IsWholeDescriptor}
use Rattle.sd_specialize.specs.Context.{ContextValue}
use Rattle.sd_specialize.specs.Entry.{decides, entry_for, plain_for, principal_self, without_part}
use Rattle.sd_specialize.specs.Specialize.{specialized, specialized_list}

-- the entry is for PRINCIPAL SELF
abbrev pub is_for_self : WholeAce → Bool
is_for_self (Plain e) = same_sid e.sid principal_self
is_for_self (Typed e) = same_sid e.sid principal_self
is_for_self (Opaque e) = false

-- an entry of the DACL is
abbrev pub has_self : WholeAcl → Bool
has_self Absent = false
has_self Null = false
has_self (Entries list) = list_any is_for_self list.entries

-- a descriptor with a plain part is that part for every question, if it has no entry for PRINCIPAL SELF or the question
-- names nobody for it
abbrev pub PlainStaysPlain : Type 0
PlainStaysPlain = (c : ContextValue) (d : WholeDescriptor) (plain : DescriptorValue) → IsWholeDescriptor d
    → (is_some c.principal_self && has_self d.dacl) ≡ false → plain_part d ≡ Ok plain → specialized c d ≡ Ok plain

-- an entry has no part where it is for children alone, or names no right; but an effective one for OWNER RIGHTS limits
-- the owner
pub record HasNoPart (e : Ace) : Type 0 where
  pub silent : (is_inherit_only e || e.mask == 0) ≡ true
  pub limits_not : is_limit e ≡ false

-- without an entry that has no part each verdict is what it was
abbrev pub NoPartChangesNothing : Type 0
NoPartChangesNothing =
    (c : ContextValue) (before after : List WholeAce) (e : WholeAce) (plain : Ace) (with without : List Ace)
    → entry_for c e ≡ Ok plain → HasNoPart plain
    → specialized_list c (before ++ e ∷ after) ≡ Ok with → specialized_list c (before ++ after) ≡ Ok without
    → (owner : Option SidValue) (g : MappingValue) (t : TokenValue) (r : ℕ)
    → verdict owner (Some with) g t r ≡ verdict owner (Some without) g t r

-- what an entry decides, if it is one of a DACL
abbrev pub decision : WholeAce → Option AceKind
decision (Plain e) = Some e.kind
decision (Typed e) = decides e.kind
decision (Opaque e) = None

-- a bit that is granted with one more deny, of whatever type and condition, is granted without it
abbrev pub DenyNeverGrants : Type 0
DenyNeverGrants =
    (c : ContextValue) (before after : List WholeAce) (e : WholeAce) (with without : List Ace)
    → decision e ≡ Some Deny
    → specialized_list c (before ++ e ∷ after) ≡ Ok with → specialized_list c (before ++ after) ≡ Ok without
    → (owner : Option SidValue) (g : MappingValue) (t : TokenValue) (b : ℕ)
    → is_granted owner (Some with) g t b ≡ true → is_granted owner (Some without) g t b ≡ true

-- where its condition is unknown, a conditional allow has no part, and a conditional deny denies
pub record FailsClosed (c : ContextValue) (e : TypedAce) : Type 0 where
  pub allow : e.kind ≡ CallbackAllow → entry_for c (Typed e) ≡ Ok (without_part c e.flags.0 e.sid)
  pub deny : e.kind ≡ CallbackDeny → entry_for c (Typed e) ≡ Ok (plain_for c Deny e.flags.0 e.mask e.sid)

abbrev pub UnknownFailsClosed : Type 0
UnknownFailsClosed = (c : ContextValue) (e : TypedAce) → for_children_alone e.flags.0 ≡ false
    → ((pass : Pass) (kind : AceKind) → c.truth pass kind e.trailing ≡ Unknown) → FailsClosed c e

-- the question about these object types in place of its own
abbrev pub asking : ContextValue → List Guid → ContextValue
asking c chain = record {
  chain = chain;
  principal_self = c.principal_self;
  is_restricted = c.is_restricted;
  truth = c.truth;
}

-- a bit that is granted on the whole object is granted on each part of it
abbrev pub WholeIsEveryPart : Type 0
WholeIsEveryPart =
    (c : ContextValue) (chain : List Guid) (es : List WholeAce) (whole part : List Ace)
    → specialized_list (asking c []) es ≡ Ok whole → specialized_list (asking c chain) es ≡ Ok part
    → (owner : Option SidValue) (g : MappingValue) (t : TokenValue) (b : ℕ)
    → is_granted owner (Some whole) g t b ≡ true → is_granted owner (Some part) g t b ≡ true
