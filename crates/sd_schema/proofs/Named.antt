-- The rows that a text names.
use Rattle.std.proofs.Common.{◌≡◌, ◌∙◌, ◌+◌, ◌<◌, ◌≤◌, ℕ, List, [], ◌∷◌, Bool, true, false, Some, None, Err, Ok, cond, drop, get_or, length, refl, ap, sym}
use Rattle.std.proofs.lemmas.List.{drop_more, drop_all}
use Rattle.std.specs.List.{find, list_any}
use Rattle.std.specs.Prelude.{◌||◌, if◌then◌else◌, option_map}
use Rattle.sd_whole.specs.declared.types.Guid.{Guid}
use Rattle.sd_schema.specs.Kept.{all_rows, row_of}
use Rattle.sd_schema.specs.Names.{first_named, guid_named, if_one, is_another, is_named}
use Rattle.sd_schema.specs.Row.{SchemaRow}
use Rattle.sd_schema.specs.declared.names.TypeNameFault.TheVariants.{Ambiguous}
use Rattle.sd_schema.specs.declared.row.Row.{Row}

-- a test of what the rows say
any_of : (test : SchemaRow → Bool) (rows : List Row) → list_any (λ row. test (row_of row)) rows ≡ list_any test (all_rows rows)
any_of test [] = refl
any_of test (row ∷ rows) = ap (λ b. test (row_of row) || b) (any_of test rows)

next : (rows : List Row) (i : ℕ) (row : Row) (text : List ℕ) → i < length rows → row ≡ get_or rows i row
    → first_named (all_rows (drop i rows)) text ≡ first_named (row_of row ∷ all_rows (drop (i + 1) rows)) text
next rows i row text low is = ap (λ l. first_named (all_rows l) text) (drop_more rows i row low ∙ ap (λ r. r ∷ drop (i + 1) rows) (sym is))

-- the next row is named
pub named_here : (rows : List Row) (i : ℕ) (row : Row) (text : List ℕ) → i < length rows → row ≡ get_or rows i row → is_named text (row_of row) ≡ true
    → first_named (all_rows (drop i rows)) text ≡ Some row.guid
named_here rows i row text low is named =
    next rows i row text low is ∙ ap (λ b. option_map (λ (r : SchemaRow). r.guid) (cond b (Some (row_of row)) (find (is_named text) (all_rows (drop (i + 1) rows))))) named

-- it isn't
pub named_later : (rows : List Row) (i : ℕ) (row : Row) (text : List ℕ) → i < length rows → row ≡ get_or rows i row → is_named text (row_of row) ≡ false
    → first_named (all_rows (drop i rows)) text ≡ first_named (all_rows (drop (i + 1) rows)) text
named_later rows i row text low is other =
    next rows i row text low is ∙ ap (λ b. option_map (λ (r : SchemaRow). r.guid) (cond b (Some (row_of row)) (find (is_named text) (all_rows (drop (i + 1) rows))))) other

-- no row is left
pub named_never : (rows : List Row) (i : ℕ) (text : List ℕ) → length rows ≤ i → first_named (all_rows (drop i rows)) text ≡ None
named_never rows i text over = ap (λ l. first_named (all_rows l) text) (drop_all i rows over)

-- another one is named, or none
pub one_or_two : (rows : List Row) (text : List ℕ) (guid : Guid) (another : Bool) → Some guid ≡ first_named (all_rows rows) text
    → another ≡ list_any (λ row. is_another text guid (row_of row)) rows
    → guid_named (all_rows rows) text ≡ (if another then Err Ambiguous else Ok guid)
one_or_two rows text guid another first is =
    ap (if_one (all_rows rows) text) (sym first)
    ∙ ap (λ b. if b then Err Ambiguous else Ok guid) (sym (any_of (is_another text guid) rows) ∙ sym is)
