-- The printed SID of an entry is parsed as that SID, a label's also by the alias of its level.
use Rattle.std.proofs.Common.{List, None, Ok, Option, Some, [], inl, inr, refl, sym, ℕ, ◌++◌, ◌∷◌, ◌≡◌}
use Rattle.std.specs.Prelude.{◌==◌}
use Rattle.std.specs.List.{AllByRecursion}
use Rattle.std.proofs.lemmas.Bool.{eqb-true}
use Rattle.sd_sid.specs.Sid.{IsSid, SidValue}
use Rattle.sd_text.proofs.CanonSids.{Stops, sid_read}
use Rattle.sd_text.proofs.Parts.{chosen}
use Rattle.sd_text.proofs.Tables.{alias_row}
use Rattle.sd_text.specs.Alias.{alias_in, aliases}
use Rattle.sd_text.specs.Canon.{full_canon, sid_canon}
use Rattle.sd_text.specs.Finding.{find}
use Rattle.sd_text.specs.Grammar.{Name, named}
use Rattle.sd_text.specs.declared.alias.Aliases.{Aliases}
use Rattle.sd_whole.specs.declared.kind.WholeKind.{WholeKind}
use Rattle.sd_whole.specs.declared.kind.WholeKind.TheVariants as kinds
use Rattle.sd_whole_parse.specs.Fields.{trustee_of}
use Rattle.sd_whole_text.specs.Level.{level_alias, level_names, level_sid, only_level, or_canon, trustee_text}
use Rattle.sd_whole_text.specs.Level.{alias_in as level_in}
use Rattle.std.proofs.Common.{rules}

-- ---- the aliases of levels

LevelReads : Name ℕ → Type 0
LevelReads name = (rest : List ℕ) → named level_names (name.letters ++ rest) ≡ Some (name.stands_for, rest)

level_rows : AllByRecursion LevelReads level_names
unfolding LevelReads
level_rows = (λ rest. refl, (λ rest. refl, (λ rest. refl, (λ rest. refl, (λ rest. refl, tt)))))

-- the row whose alias stands for the level
level_row : (P : Name ℕ → Type 0) (names : List (Name ℕ)) (level : ℕ) (letters : List ℕ) → AllByRecursion P names → level_in names level ≡ Some letters → (name : Name ℕ) × P name × (name.letters ≡ letters) × (name.stands_for ≡ level)
level_row P [] level letters all e = absurd cc
level_row P (name ∷ names) level letters all e =
    elim (chosen (name.stands_for == level) _ _ _ e) [
      | inl h ↦ let same : name.letters ≡ letters = cc in (name, all.0, same, eqb-true name.stands_for level h.0)
      | inr h ↦ level_row P names level letters all.1 h.1
    ]

-- a SID with such an alias is that of a level
only_one : (subs : List ℕ) (letters : List ℕ) → only_level subs ≡ Some letters → (level : ℕ) × (subs ≡ level ∷ []) × (level_in level_names level ≡ Some letters)
only_one [] letters e = absurd cc
only_one (level ∷ []) letters e = (level, refl, e)
only_one (level ∷ other ∷ others) letters e = absurd cc

is_level : (authority : ℕ) (subs : List ℕ) (level : ℕ) → authority ≡ 16 → subs ≡ level ∷ [] → level_sid level ≡ record { authority = authority; subs = subs }
is_level authority subs level a s = rw (a, s) refl

level_of : (s : SidValue) (letters : List ℕ) → level_alias s ≡ Some letters → (level : ℕ) × (level_sid level ≡ s) × (level_in level_names level ≡ Some letters)
level_of s letters e =
    elim (chosen (s.authority == 16) _ _ _ e) [
      | inl h ↦ let one = only_one s.subs letters h.1 in (one.0, is_level s.authority s.subs one.0 (eqb-true s.authority 16 h.0) one.1, one.2)
      | inr h ↦ absurd cc
    ]

-- ---- other SIDs of labels

IsNoLevel : Name SidValue → Type 0
IsNoLevel name = (rest : List ℕ) → named level_names (name.letters ++ rest) ≡ None

other_rows : AllByRecursion IsNoLevel aliases
unfolding aliases IsNoLevel
other_rows = search rules

no_level : (s : SidValue) (rest : List ℕ) → named level_names (sid_canon s ++ rest) ≡ None
unfolding sid_canon full_canon IsNoLevel
no_level s rest = by_alias (alias_in aliases s) refl
  where
    by_alias : (found : Option (List ℕ)) → alias_in aliases s ≡ found → named level_names (sid_canon s ++ rest) ≡ None
    by_alias None e = rw e refl
    by_alias (Some letters) e = let row = alias_row IsNoLevel aliases s letters other_rows e in rw (e, sym row.2) (row.1 rest)

-- ---- SIDs of all kinds

label_read : (known : Aliases) (s : SidValue) (rest : List ℕ) → IsSid s → Stops rest → find (trustee_of kinds.MandatoryLabel known) (or_canon (level_alias s) s ++ rest) ≡ Ok (s, rest)
unfolding trustee_of LevelReads
label_read known s rest is stops = by_alias (level_alias s) refl
  where
    by_alias : (found : Option (List ℕ)) → level_alias s ≡ found → find (trustee_of kinds.MandatoryLabel known) (or_canon found s ++ rest) ≡ Ok (s, rest)
    by_alias None e = rw (no_level s rest) (sid_read known s rest is stops)
    by_alias (Some letters) e =
        let level = level_of s letters e in
        let row = level_row LevelReads level_names level.0 letters level_rows level.2 in
        rw (sym row.2, row.1 rest, row.3, level.1) refl

pub trustee_read : (kind : WholeKind) (known : Aliases) (s : SidValue) (rest : List ℕ) → IsSid s → Stops rest → find (trustee_of kind known) (trustee_text kind s ++ rest) ≡ Ok (s, rest)
unfolding trustee_of
trustee_read kinds.MandatoryLabel known s rest is stops = label_read known s rest is stops
trustee_read kind known s rest is stops = sid_read known s rest is stops
