-- A SID in full is parsed as that SID, whether it has an alias or not.
use Rattle.std.proofs.Common.{ℕ, ◌≡◌, ◌++◌, ◌∙◌, List, [], Ok, Option, Some, None, ap, inl, refl, subst, sym}
use Rattle.std.proofs.Common.{rules, unwrap_or}
use Rattle.std.proofs.lemmas.List.{append-nil}
use Rattle.std.specs.Fmt.{digits}
use Rattle.std.specs.List.{AllByRecursion}
use Rattle.sd_sid.specs.Sid.{IsSid, SidValue}
use Rattle.sd_text.proofs.CanonSids.{Stops, sid_read}
use Rattle.sd_text.proofs.Engine.{find_spells}
use Rattle.sd_text.proofs.Tables.{alias_row}
use Rattle.sd_text.specs.Alias.{alias_in, aliases}
use Rattle.sd_text.specs.Canon.{authority_canon, full_canon, sid_canon}
use Rattle.sd_text.specs.Finding.{find}
use Rattle.sd_text.specs.Grammar.{Name, Spells}
use Rattle.sd_text.specs.Sid.{authority, sid, sid_text_in, sub, subs_of}
use Rattle.sd_text.specs.declared.alias.Aliases.{Aliases}

InFull : Name SidValue → Type 0
InFull name = (known : Aliases) → find (sid known) (full_canon name.stands_for) ≡ Ok (name.stands_for, [])

in_full_rows : AllByRecursion InFull aliases
unfolding InFull aliases sid authority subs_of sub authority_canon full_canon digits
in_full_rows = search rules

stops : Stops []
stops = record { no_digit = refl; no_dash = refl }

full_read : (known : Aliases) (s : SidValue) → IsSid s → find (sid known) (full_canon s) ≡ Ok (s, [])
unfolding sid_canon InFull
full_read known s is = by (alias_in aliases s) refl
  where
    by : (found : Option (List ℕ)) → alias_in aliases s ≡ found → find (sid known) (full_canon s) ≡ Ok (s, [])
    by None e =
        let same : full_canon s ≡ sid_canon s ++ [] = ap (λ found. unwrap_or found (full_canon s)) (sym e) ∙ sym (append-nil (sid_canon s)) in
        ap (find (sid known)) same ∙ sid_read known s [] is stops
    by (Some letters) e =
        let row = alias_row InFull aliases s letters in_full_rows e in
        subst (λ t. find (sid known) (full_canon t) ≡ Ok (t, [])) row.3 (row.1 known)

-- the text of a SID in full spells the SID
pub full_spelled : (known : Aliases) (s : SidValue) → IsSid s → Spells (sid_text_in known) (full_canon s) s
full_spelled known s is = (s, [], find_spells (sid known) (full_canon s) s [] (full_read known s is), (tt, [], inl (refl, (refl, refl)), (refl, refl)))
