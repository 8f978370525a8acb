-- The SIDs of the token of a user that logged on, with the groups of its account and of its logon alone.
use Rattle.std.specs.Prelude.{◌≡◌, ℕ, false, List, [], ◌∷◌, ◌++◌}
use Rattle.sd_sid.specs.Sid.{SidValue}
use Rattle.sd_text.specs.declared.alias.Aliases.{Aliases}
use Rattle.sd_accounts.specs.Groups.{AreGroupsOf}
use Rattle.sd_accounts.specs.Row.{AccountRow}
use Rattle.sd_named.specs.Arguments.{MayLogOn, added, logon_groups, starts}
use Rattle.sd_named.specs.Trustee.{Means}
use Rattle.sd_named.specs.declared.word.Role.TheVariants.{Enabled}

-- the SIDs, and those of the groups that aren't among them
abbrev pub joined : (sids groups : List SidValue) → List SidValue
joined sids groups = sids ++ added Enabled [] groups sids

-- the user's own, those of its logon, and the groups that are reached from these
pub record AreTokenSids (rows : List AccountRow) (user : SidValue) (sids : List SidValue) : Type 0 where
  pub groups : List SidValue
  pub are_groups : AreGroupsOf rows (starts false user []) groups
  pub are_sids : sids ≡ joined (joined (user ∷ []) (logon_groups false user)) groups

-- of whom the text means, who may log on
pub record AreSidsOfUser (rows : List AccountRow) (known : Aliases) (user : List ℕ) (sids : List SidValue)
    : Type 0 where
  pub sid : SidValue
  pub means : Means rows known user sid
  pub may_log_on : MayLogOn rows sid
  pub are_of : AreTokenSids rows sid sids
