-- The tokens that an analysis speaks of. What a check grants to one, bit by bit, is `is_granted` of sd_check.
use Rattle.std.specs.Prelude.{◌≡◌, ◌↔◌, ℕ, ◌<◌, ◌^◌, true, false, List, Option}
use Rattle.sd_sid.specs.Mapping.{MappingValue}
use Rattle.sd_sid.specs.Sid.{SidValue}
use Rattle.sd_acl.specs.declared.ace.Ace.{Ace}
use Rattle.sd_acl.specs.declared.ace.AceKind.{AceKind}
use Rattle.sd_check.specs.Check.{is_granted, verdict}
use Rattle.sd_check.specs.Token.{TokenValue, a_group_stands_for, is_restricted, no_privileges, stands_for}
use Rattle.sd_check.specs.declared.token.GroupState.{GroupState}
use Rattle.sd_check.specs.declared.verdict.Verdict.TheVariants.{Granted}

-- The base is what every token of the analysis has: groups with their states. A token has the base where it stands for
-- each SID that the base stands for, in entries of that kind. So a SID that the base has enabled is the user's or an
-- enabled group's. One that it has for denies alone may also be enabled: the base says what is there at least. As in a
-- token, a SID in both states is enabled, and a disabled group counts for nothing. Every token has the empty base.
abbrev pub HasBase : List (SidValue × GroupState) → TokenValue → Type 0
HasBase base t = (kind : AceKind) (s : SidValue) → a_group_stands_for base kind s ≡ true → stands_for t kind s ≡ true

-- nothing restricts the token, and it has no privilege
pub record IsPlain (t : TokenValue) : Type 0 where
  pub unrestricted : is_restricted t ≡ false
  pub unprivileged : t.privileges ≡ no_privileges

-- a check of one bit below place 21 grants it where the bit is granted
abbrev pub BitIsItsCheck : Type 0
BitIsItsCheck =
    (owner : Option SidValue) (dacl : Option (List Ace)) (g : MappingValue) (t : TokenValue) (b : ℕ)
    → b < 21
    → (verdict owner dacl g t (2 ^ b) ≡ Granted (2 ^ b)) ↔ (is_granted owner dacl g t b ≡ true)
