-- Which entries of a list can all go: judged from the last to the first, each in the list without those that can.
use Rattle.std.specs.Prelude.{◌≡◌, ◌↔◌, ℕ, suc, ◌<◌, Bool, true, false, List, [], ◌∷◌, ◌++◌, Option, length}
use Rattle.std.specs.Prelude.{take, drop, remove, slice_index_or, slice_set}
use Rattle.sd_sid.specs.Mapping.{MappingValue}
use Rattle.sd_sid.specs.Sid.{SidValue}
use Rattle.sd_acl.specs.declared.ace.Ace.{Ace}
use Rattle.sd_check.specs.declared.token.GroupState.{GroupState}
use Rattle.sd_analysis.specs.Effect.{ActAlike, HasEffect, HasNoEffect}

-- the entries that aren't marked
abbrev pub unmarked : List Bool → List Ace → List Ace
unmarked [] es = es
unmarked (mark ∷ marks) [] = []
unmarked (true ∷ marks) (e ∷ es) = unmarked marks es
unmarked (false ∷ marks) (e ∷ es) = e ∷ unmarked marks es

-- the list in which the entry at the place is judged: it, all before, and of those after it the unmarked ones
abbrev pub judged_in : List Bool → List Ace → ℕ → List Ace
judged_in marks es place = take (suc place) es ++ unmarked (drop (suc place) marks) (drop (suc place) es)

abbrev pub is_marked : List Bool → ℕ → Bool
is_marked marks place = slice_index_or marks place false

-- what the judging of one entry leaves: all as it was, where the entry has an effect
pub record Stays (owner : Option SidValue) (es : List Ace) (g : MappingValue)
    (base : List (SidValue × GroupState)) (place : ℕ) (marks : List Bool) (left : List Ace)
    (now : List Bool) : Type 0 where
  pub effect : HasEffect owner es g base place
  pub list : left ≡ es
  pub marks_stay : now ≡ marks

-- what the judging of one entry leaves where it has no effect: the list without it, and its mark
pub record Goes (owner : Option SidValue) (es : List Ace) (g : MappingValue)
    (base : List (SidValue × GroupState)) (place : ℕ) (marks : List Bool) (left : List Ace)
    (now : List Bool) : Type 0 where
  pub no_effect : HasNoEffect owner es g base place
  pub list : left ≡ remove es place
  pub marked : now ≡ slice_set marks place true

-- the marks say which entries are redundant
pub record AreRedundant (owner : Option SidValue) (es : List Ace) (g : MappingValue)
    (base : List (SidValue × GroupState)) (marks : List Bool) : Type 0 where
  pub each : length marks ≡ length es
  -- without all of these the list acts as the whole one does
  pub together : ActAlike owner g base es (unmarked marks es)
  -- an entry is one of these where it has no effect beside those that stay after it, and no other is
  pub no_effect : (place : ℕ) → place < length es → is_marked marks place ≡ true
      → HasNoEffect owner (judged_in marks es place) g base place
  pub effect : (place : ℕ) → place < length es → is_marked marks place ≡ false
      → HasEffect owner (judged_in marks es place) g base place
  -- there is none just where each entry has an effect by itself
  pub none : ((place : ℕ) → is_marked marks place ≡ false)
      ↔ ((place : ℕ) → place < length es → HasEffect owner es g base place)
