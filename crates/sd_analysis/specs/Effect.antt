-- Whether an entry of a list matters to any token at all: to what the object grants, or what is made in it, if it is a
-- container.
use Rattle.std.specs.Prelude.{◌≡◌, ◌⊎◌, ℕ, ◌==◌, List, Option, Some, length, remove}
use Rattle.sd_sid.specs.Mapping.{MappingValue}
use Rattle.sd_sid.specs.Sid.{SidValue}
use Rattle.sd_acl.specs.declared.ace.Ace.{Ace}
use Rattle.sd_check.specs.Check.{verdict}
use Rattle.sd_check.specs.Token.{TokenValue}
use Rattle.sd_check.specs.declared.token.GroupState.{GroupState}
use Rattle.sd_check.specs.declared.verdict.Verdict.{Verdict}
use Rattle.sd_check.specs.declared.verdict.Verdict.TheVariants.{Granted, Denied, Reserved, EmptyRequest}
use Rattle.sd_inheritance.specs.Inheritance.{creator_owner}
use Rattle.sd_analysis.specs.Base.{HasBase}
use Rattle.sd_analysis.specs.Descendants.{list_of}
use Rattle.sd_analysis.specs.declared.descendants.Descendant.{Descendant}

-- ---- two lists of one object

-- by both every request of each token with the base has the same verdict, also of restricted tokens and of those with
-- privileges
abbrev pub DecideAlike : Option SidValue → MappingValue → List (SidValue × GroupState) → List Ace → List Ace → Type 0
DecideAlike owner g base es others =
    (t : TokenValue) (r : ℕ) → HasBase base t → verdict owner (Some others) g t r ≡ verdict owner (Some es) g t r

-- some request of such a token has another
pub record Differ (owner : Option SidValue) (g : MappingValue) (base : List (SidValue × GroupState))
    (es others : List Ace) : Type 0 where
  pub token : TokenValue
  pub has_base : HasBase base token
  pub request : ℕ
  pub differs : verdict owner (Some others) g token request ≡ verdict owner (Some es) g token request → ⊥

-- ---- two lists of something that is made in a container, whose owner is S-1-3-0. Where nothing is handed on, whoever
-- makes it gives it another list ([MS-DTYP] 2.5.3.4): so both are empty or neither is

pub record InheritAlike (g : MappingValue) (base : List (SidValue × GroupState)) (es others : List Ace) : Type 0 where
  pub verdicts : DecideAlike (Some creator_owner) g base es others
  pub emptiness : (length others == 0) ≡ (length es == 0)

abbrev pub InheritUnlike : MappingValue → List (SidValue × GroupState) → List Ace → List Ace → Type 0
InheritUnlike g base es others =
    Differ (Some creator_owner) g base es others ⊎ ((length others == 0) ≡ (length es == 0) → ⊥)

-- ---- two lists of an object that may be a container

pub record ActAlike (owner : Option SidValue) (g : MappingValue) (base : List (SidValue × GroupState))
    (es others : List Ace) : Type 0 where
  pub itself : DecideAlike owner g base es others
  pub below : (d : Descendant) → InheritAlike g base (list_of g d es) (list_of g d others)

abbrev pub ActUnlike : Option SidValue → MappingValue → List (SidValue × GroupState) → List Ace → List Ace → Type 0
ActUnlike owner g base es others =
    Differ owner g base es others ⊎ ((d : Descendant) × InheritUnlike g base (list_of g d es) (list_of g d others))

-- ---- an entry

-- the list without the entry at the place acts as the whole one does
abbrev pub HasNoEffect : Option SidValue → List Ace → MappingValue → List (SidValue × GroupState) → ℕ → Type 0
HasNoEffect owner es g base place = ActAlike owner g base es (remove es place)

abbrev pub HasEffect : Option SidValue → List Ace → MappingValue → List (SidValue × GroupState) → ℕ → Type 0
HasEffect owner es g base place = ActUnlike owner g base es (remove es place)

-- ---- a verdict

-- the bits that it grants
abbrev pub granted_by : Verdict → ℕ
granted_by (Granted mask) = mask
granted_by (Denied missing) = 0
granted_by (Reserved bits) = 0
granted_by EmptyRequest = 0
