-- Whom a text means, by what it spells and by what it names.
use Rattle.std.proofs.Common.{◌≡◌, ◌∙◌, ℕ, List, Result, Ok, Err, IfOk, inl, inr, refl}
use Rattle.sd_sid.specs.Sid.{SidValue}
use Rattle.sd_text.specs.Grammar.{Spells}
use Rattle.sd_text.specs.Sid.{sid_text_in}
use Rattle.sd_text.specs.declared.alias.Aliases.{Aliases}
use Rattle.sd_text.proofs.Engine.{one_value}
use Rattle.sd_accounts.specs.Names.{NamesNone, NamesOne, NamesTwo}
use Rattle.sd_accounts.specs.Row.{AccountRow}
use Rattle.sd_accounts.specs.declared.names.NameError.{NameError}
use Rattle.sd_accounts.specs.declared.names.NameError.TheVariants.{Unknown, Ambiguous}
use Rattle.sd_named.specs.Trustee.{IsBeside, MayMean, MeansWhom}

module _ (rows : List AccountRow) (known : Aliases) (text : List ℕ) where
  -- one that is neither spelled nor named
  neither : ((sid : SidValue) → Spells (sid_text_in known) text sid → ⊥) → NamesNone rows text → (sid : SidValue) → MayMean rows known text sid → ⊥
  neither unspelled none sid (inl s) = unspelled sid s
  neither unspelled none sid (inr n) = none sid n

  -- where none is spelled, the one that is named
  named_one : ((sid : SidValue) → Spells (sid_text_in known) text sid → ⊥) → (named : SidValue) → NamesOne rows text named
      → (sid : SidValue) → MayMean rows known text sid → sid ≡ named
  named_one unspelled named one sid (inl s) = absurd (unspelled sid s)
  named_one unspelled named one sid (inr n) = one.1 sid n

  -- where none is named, the one that is spelled
  spelled_one : NamesNone rows text → (spelled : SidValue) → Spells (sid_text_in known) text spelled
      → (sid : SidValue) → MayMean rows known text sid → sid ≡ spelled
  spelled_one none spelled s sid (inl t) = one_value (sid_text_in known) text sid spelled t s
  spelled_one none spelled s sid (inr n) = absurd (none sid n)

  -- where both are one
  both_one : (spelled named : SidValue) → Spells (sid_text_in known) text spelled → NamesOne rows text named → named ≡ spelled
      → (sid : SidValue) → MayMean rows known text sid → sid ≡ spelled
  both_one spelled named s one same sid (inl t) = one_value (sid_text_in known) text sid spelled t s
  both_one spelled named s one same sid (inr n) = one.1 sid n ∙ same

  pub of_named : ((sid : SidValue) → Spells (sid_text_in known) text sid → ⊥) → (named : Result SidValue NameError)
      → IfOk named (NamesOne rows text) → (named ≡ Err Unknown → NamesNone rows text) → (named ≡ Err Ambiguous → NamesTwo rows text)
      → MeansWhom rows known text named
  of_named unspelled (Ok sid) one unknown ambiguous = (inr one.0, named_one unspelled sid one)
  of_named unspelled (Err Unknown) one unknown ambiguous = neither unspelled (unknown refl)
  of_named unspelled (Err Ambiguous) one unknown ambiguous = let two = ambiguous refl in (two.0, two.1, inr two.2, inr two.3, two.4)

  pub of_beside : (spelled : SidValue) → Spells (sid_text_in known) text spelled → (named one : Result SidValue NameError)
      → IfOk named (NamesOne rows text) → (named ≡ Err Unknown → NamesNone rows text) → (named ≡ Err Ambiguous → NamesTwo rows text)
      → IsBeside spelled named one → MeansWhom rows known text one
  of_beside spelled s (Ok named) (Ok sid) names unknown ambiguous is = rw is.0 (inl s, both_one spelled named s names is.1)
  of_beside spelled s (Ok named) (Err Unknown) names unknown ambiguous is = absurd is
  of_beside spelled s (Ok named) (Err Ambiguous) names unknown ambiguous is = (named, spelled, inr names.0, inl s, is)
  of_beside spelled s (Err Unknown) one names unknown ambiguous is = rw is (inl s, spelled_one (unknown refl) spelled s)
  of_beside spelled s (Err Ambiguous) one names unknown ambiguous is =
      let two = ambiguous refl in rw is (two.0, two.1, inr two.2, inr two.3, two.4)
