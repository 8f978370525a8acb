-- A token: who asks, and which SIDs it stands for ([MS-DTYP] 2.5.2).
use Rattle.std.specs.Prelude.{Bool, true, false, not, ◌&&◌, ◌||◌, ◌==◌, List, [], length}
use Rattle.std.specs.List.{list_any}
use Rattle.sd_sid.specs.Sid.{SidValue, same_sid}
use Rattle.sd_acl.specs.declared.ace.AceKind.{AceKind}
use Rattle.sd_acl.specs.declared.ace.AceKind.TheVariants.{Allow, Deny}
use Rattle.sd_check.specs.declared.token.GroupState.{GroupState}
use Rattle.sd_check.specs.declared.token.GroupState.TheVariants.{Enabled, DenyOnly, Disabled}
use Rattle.sd_check.specs.declared.token.Privileges.{Privileges}

-- neither of the privileges that a check looks at
abbrev pub no_privileges : Privileges
no_privileges = record { security = false; take_ownership = false }

-- a user, which counts for both kinds of entries or for denies alone, its groups, each place with its state, the SIDs
-- that restrict it, and its privileges
pub record TokenValue : Type 0 where
  pub user : SidValue
  pub user_state : GroupState
  pub groups : List (SidValue × GroupState)
  pub restricting : List SidValue
  pub privileges : Privileges

-- the token of a user and groups, which nothing restricts, and without privileges
abbrev pub plain_token : SidValue → List (SidValue × GroupState) → TokenValue
plain_token user groups = record {
  user = user;
  user_state = Enabled;
  groups = groups;
  restricting = [];
  privileges = no_privileges;
}

-- an enabled user or group counts for both kinds, a deny-only one for denies, a disabled one for nothing
abbrev pub counts : AceKind → GroupState → Bool
counts kind Enabled = true
counts Allow DenyOnly = false
counts Deny DenyOnly = true
counts kind Disabled = false

-- some place of the groups has the SID, and counts
abbrev pub a_group_stands_for : List (SidValue × GroupState) → AceKind → SidValue → Bool
a_group_stands_for groups kind s = list_any (λ (group : SidValue × GroupState). same_sid group.0 s
    && counts kind group.1) groups

-- the user has the SID and counts, or a group does
abbrev pub stands_for : TokenValue → AceKind → SidValue → Bool
stands_for t kind s = (same_sid t.user s && counts kind t.user_state) || a_group_stands_for t.groups kind s

-- a token without restricting SIDs isn't restricted
abbrev pub is_restricted : TokenValue → Bool
is_restricted t = not (length t.restricting == 0)

-- one of the restricting SIDs is this one. The user and the groups have no part in it, nor has an entry's kind
abbrev pub is_restricting : TokenValue → SidValue → Bool
is_restricting t s = list_any (λ one. same_sid one s) t.restricting
