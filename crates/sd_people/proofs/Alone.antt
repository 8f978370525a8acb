-- Which name is a SID's.
use Rattle.std.proofs.Common.{◌≡◌, ◌∙◌, ℕ, true, false, List, Some, ap, subst, sym}
use Rattle.std.proofs.lemmas.Bool.{true≢false}
use Rattle.sd_sid.specs.Sid.{SidValue, same_sid}
use Rattle.sd_sid.proofs.Compared.{same_sid-itself, same_sid-true}
use Rattle.sd_text.specs.declared.alias.Aliases.{Aliases}
use Rattle.sd_accounts.specs.Names.{first_name}
use Rattle.sd_accounts.specs.Row.{AccountRow}
use Rattle.sd_accounts.specs.declared.names.NameError.{NameError}
use Rattle.sd_accounts.specs.declared.names.NameError.TheVariants.{Unknown, Ambiguous}
use Rattle.sd_named.specs.Trustee.{Means, MeansNone}
use Rattle.sd_people.specs.Names.{IsNameOf, has_byte}

module _ (rows : List AccountRow) (known : Aliases) (sid : SidValue) (name : List ℕ) (first : first_name rows sid ≡ Some name) where
  -- a SID has one first name
  one_first : (other : List ℕ) → IsNameOf rows known sid other → other ≡ name
  one_first other is = let same : Some other ≡ Some name = sym is.first ∙ first in cc

  meant : (other : List ℕ) → IsNameOf rows known sid other → Means rows known name sid
  meant other is = subst (λ n. Means rows known n sid) (one_first other is) is.means

  pub alone : (one : SidValue) → Means rows known name one → same_sid one sid ≡ true → has_byte 34 name ≡ false → IsNameOf rows known sid name
  alone one means same unquoted = record {
    first = first;
    means = subst (Means rows known name) (same_sid-true one sid same) means;
    unquoted = unquoted;
  }

  pub not_quoted : has_byte 34 name ≡ true → (other : List ℕ) → IsNameOf rows known sid other → ⊥
  not_quoted quoted other is = true≢false (sym quoted ∙ ap (has_byte 34) (sym (one_first other is)) ∙ is.unquoted)

  pub not_another : (one : SidValue) → Means rows known name one → same_sid one sid ≡ false → (other : List ℕ) → IsNameOf rows known sid other → ⊥
  not_another one means apart other is =
      true≢false (sym (same_sid-itself sid) ∙ ap (λ s. same_sid s sid) (sym ((meant other is).1 one means.0)) ∙ apart)

  pub not_nobody : (error : NameError) → MeansNone rows known name error → (other : List ℕ) → IsNameOf rows known sid other → ⊥
  not_nobody Unknown none other is = none sid (meant other is).0
  not_nobody Ambiguous none other is = none.4 ((meant other is).1 none.0 none.2 ∙ sym ((meant other is).1 none.1 none.3))
