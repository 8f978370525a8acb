-- The code's tables of aliases are those of the grammar.
use Rattle.sd_text.proofs.Cited.{Domain, DomainAlias, Err, Grammar, List, Name, None, Ok, Option, SidValue, Some, WellKnown, account_sid, aliases, ap, are_placed, find, named, no_alias, one_of, refl, renamed, sym, true, well_known, ℕ, ◌∙◌, ◌≡◌}
use Rattle.sd_text.specs.Sid.{domain_alias}
use Rattle.sd_text.proofs.Placed.{placed_renamed}
use Rattle.sd_text.proofs.Tables.{named_renamed}

-- a name of a table, or what stands there in its place, where the table's names stand for something else
module _ (names : List (Name WellKnown)) (aliases : List (Name SidValue)) (same : renamed well_known names ≡ aliases) (other : Grammar SidValue) where
  pub alias_found : (text : List ℕ) (known : WellKnown) (rest : List ℕ) → named names text ≡ Some (known, rest) → find (one_of aliases other) text ≡ Ok (well_known known, rest)
  alias_found text known rest e = rw (sym same, named_renamed well_known names text, e) refl

  pub no_alias_found : (text : List ℕ) → named names text ≡ None → find (one_of aliases other) text ≡ find other text
  no_alias_found text e = rw (sym same, named_renamed well_known names text, e) refl

-- an alias of the domain's
pub account_found : (names : List (Name ℕ)) (domain : Domain) (text : List ℕ) (relative : ℕ) (rest : List ℕ) → named names text ≡ Some (relative, rest) → find (domain_alias names (Some domain)) text ≡ Ok (account_sid domain relative, rest)
unfolding domain_alias
account_found names domain text relative rest e = rw (named_renamed (account_sid domain) names text, e) refl

-- one for which no domain is given
pub needs_a_domain : (names : List (Name ℕ)) (text : List ℕ) (relative : ℕ) (rest : List ℕ) → named names text ≡ Some (relative, rest) → find (domain_alias names None) text ≡ Err (DomainAlias, text)
unfolding domain_alias
needs_a_domain names text relative rest e = rw e refl

-- none of them
pub no_account_found : (names : List (Name ℕ)) (domain : Option Domain) (text : List ℕ) → named names text ≡ None → find (domain_alias names domain) text ≡ find no_alias text
unfolding domain_alias
no_account_found names None text e = rw e refl
no_account_found names (Some domain) text e = rw (named_renamed (account_sid domain) names text, e) refl

-- the places of the aliases are those of the code's rows
pub known_placed : (places : List ℕ) (names : List (Name WellKnown)) → renamed well_known names ≡ aliases → are_placed places 0 aliases ≡ true → are_placed places 0 names ≡ true
known_placed places names same placed = sym (placed_renamed well_known places 0 names) ∙ ap (are_placed places 0) same ∙ placed
