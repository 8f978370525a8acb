-- The users in turn.
use Rattle.std.proofs.Common.{Bor, Bool, List, get_or, length, refl, subst, suc, sym, take, zero, ℕ, [], ◌+◌, ◌++◌, ◌<◌, ◌∷◌, ◌∙◌, ◌≡◌, ◌||◌, ap}
use Rattle.std.proofs.lemmas.List.{length-map, map-append, take_more}
use Rattle.std.proofs.lemmas.List.Elements.{Contains-get_or}
use Rattle.std.specs.List.{Contains}
use Rattle.sd_sid.specs.Sid.{SidValue}
use Rattle.sd_accounts.specs.Row.{AccountRow}
use Rattle.sd_accounts.specs.Users.{named, named_user}
use Rattle.sd_commands.specs.declared.settings.Settings.{Settings}
use Rattle.sd_named.specs.declared.word.NamedWord.{NamedWord}
use Rattle.sd_people.specs.Asked.{EachAsked}
use Rattle.sd_people.specs.Lines.{Told}
use Rattle.sd_people.specs.People.{AreTold, IsGrantedNothing, IsOfUser, Said, further, passed}

module _ (rows : List AccountRow) (settings : Settings) (words : List NamedWord) (each : EachAsked) where
  -- what is said of one user more
  pub one_more : (users : List (SidValue × Bor (List ℕ))) (i : ℕ) (d : SidValue × Bor (List ℕ)) (told more new : List Told) (left some : Bool)
      → i < length users → AreTold rows settings words each (named (take i users)) told left
      → IsOfUser rows settings words each (named_user (get_or users i d)) (Said more some) → new ≡ told ++ more
      → AreTold rows settings words each (named (take (i + 1) users)) new (left || some)
  one_more users i d told more new left some low are is whole =
      let taken = ap named (take_more users i d low) ∙ map-append named_user (take i users) (get_or users i d ∷ []) in
      rw (whole, taken) (further (named (take i users)) told left (named_user (get_or users i d)) more some are is)

  -- and where one user more is passed over
  pub one_passed : (users : List (SidValue × Bor (List ℕ))) (i : ℕ) (d : SidValue × Bor (List ℕ)) (told : List Told) (left : Bool)
      → i < length users → AreTold rows settings words each (named (take i users)) told left
      → IsGrantedNothing rows settings words each (get_or users i d).0 → AreTold rows settings words each (named (take (i + 1) users)) told left
  one_passed users i d told left low are nothing =
      let taken = ap named (take_more users i d low) ∙ map-append named_user (take i users) (get_or users i d ∷ []) in
      rw taken (passed (named (take i users)) told left (named_user (get_or users i d)) are nothing)

place_named : (users : List (SidValue × Bor (List ℕ))) (i : ℕ) (user : SidValue × Bor (List ℕ))
    → get_or (named users) i (named_user user) ≡ named_user (get_or users i user)
place_named [] i user = refl
place_named (u ∷ users) zero user = refl
place_named (u ∷ users) (suc i) user = place_named users i user

-- a user at a place is one of the users
pub at_place : (users : List (SidValue × Bor (List ℕ))) (i : ℕ) (user : SidValue × Bor (List ℕ)) → i < length users → user ≡ get_or users i user
    → Contains (named users) (named_user user)
at_place users i user low is =
    let low_named : i < length (named users) = subst (λ n. i < n) (sym (length-map users named_user)) low in
    subst (Contains (named users)) (place_named users i user ∙ ap named_user (sym is)) (Contains-get_or (named users) i (named_user user) low_named)
