-- The printed flags of an entry are parsed as these flags.
use Rattle.std.proofs.Common.{List, Ok, Some, [], append-nil, append_assoc, ap, cond, inl, inr, refl, sym, true, ℕ, ◌++◌, ◌<◌, ◌^◌, ◌∙◌, ◌∷◌, ◌≡◌}
use Rattle.std.specs.Prelude.{Bool, bit_and, bit_or, codes, fold, ◌==◌, ◌&&◌}
use Rattle.std.specs.List.{AllByRecursion, flat_map}
use Rattle.std.proofs.lemmas.Bool.{eqb-true, and_parts}
use Rattle.sd_text.proofs.Parts.{went}
use Rattle.sd_text.proofs.Tables.{IsTogether, run_start, run_more, run_end}
use Rattle.sd_text.specs.Canon.{flag_canon, flags_canon, where_set}
use Rattle.sd_text.specs.Entry.{flag_names}
use Rattle.sd_text.specs.Finding.{find}
use Rattle.sd_text.specs.Grammar.{Name, named}
use Rattle.sd_text.specs.Rights.{bits, bits_of}
use Rattle.sd_whole.specs.declared.kind.WholeKind.{WholeKind}
use Rattle.sd_whole.specs.declared.kind.WholeKind.TheVariants as kinds
use Rattle.sd_whole_parse.specs.Fields.{all_flag_names, filter_flag_names, flags_of}
use Rattle.sd_whole_text.specs.Flags.{flags_text}
use Rattle.sd_wire.specs.Reading.{is_set}
use Rattle.sd_claim_laws.proofs.Tried.{all_below, each_below}

-- ---- a run of the names of the flags that are set

-- the name stands in the table
abbrev pub IsIn : List (Name ℕ) → Name ℕ → Type 0
IsIn all name = (rest : List ℕ) → named all (name.letters ++ rest) ≡ Some (name.stands_for, rest)

-- the bits so far, and the name's where it is set
abbrev pub with_flag : ℕ → ℕ → Name ℕ → ℕ
with_flag flags sum name = cond (bit_and flags name.stands_for == 0) sum (bit_or sum name.stands_for)

pub reach : (all : List (Name ℕ)) (flags : ℕ) (names : List (Name ℕ)) (start : List ℕ) (sum : ℕ) (rest : List ℕ) → AllByRecursion (IsIn all) names
    → IsTogether all bit_or 0 start sum (flat_map (flag_canon flags) names ++ rest) → IsTogether all bit_or 0 start (fold (with_flag flags) sum names) rest
reach all flags [] start sum rest in_table so_far = so_far
reach all flags (name ∷ names) start sum rest in_table so_far =
    elim (went (bit_and flags name.stands_for == 0)) [
      | inl h ↦ rw h (reach all flags names start sum rest in_table.1 (rw h at so_far))
      | inr h ↦
          let after = flat_map (flag_canon flags) names ++ rest in
          let here : IsTogether all bit_or 0 start sum (name.letters ++ after) = rw (h, append_assoc name.letters (flat_map (flag_canon flags) names) rest) at so_far in
          rw h (reach all flags names start (bit_or sum name.stands_for) rest in_table.1 (run_more all bit_or 0 start sum (name.letters ++ after) name.stands_for after here (in_table.0 after)))
    ]

-- ---- the names of one kind of entries: the first ones are printed of these bits, the last ones of those

abbrev critical : List (Name ℕ)
critical = bits (codes "CR") 0x20 ∷ []

abbrev protected : List (Name ℕ)
protected = bits (codes "TP") 0x40 ∷ critical

flag_rows : AllByRecursion (IsIn all_flag_names) flag_names
flag_rows = (λ rest. refl, (λ rest. refl, (λ rest. refl, (λ rest. refl, (λ rest. refl, (λ rest. refl, (λ rest. refl, tt)))))))

critical_rows : AllByRecursion (IsIn all_flag_names) critical
critical_rows = (λ rest. refl, tt)

filter_rows : AllByRecursion (IsIn filter_flag_names) flag_names
filter_rows = (λ rest. refl, (λ rest. refl, (λ rest. refl, (λ rest. refl, (λ rest. refl, (λ rest. refl, (λ rest. refl, tt)))))))

protected_rows : AllByRecursion (IsIn filter_flag_names) protected
protected_rows = (λ rest. refl, (λ rest. refl, tt))

-- the bits of both parts are the flags: each of the 256 is tried
comes_back : ℕ → Bool
comes_back flags = fold (with_flag flags) (fold (with_flag flags) 0 flag_names) critical == flags

filter_comes_back : ℕ → Bool
filter_comes_back flags = fold (with_flag flags) (fold (with_flag (bit_and flags 0xbf)) 0 flag_names) protected == flags

tried : all_below (λ flags. comes_back flags && filter_comes_back flags) 256 ≡ true
unfolding all_below comes_back filter_comes_back
tried = refl

-- what is printed where a bit is set is printed of a name
as_name : (letters : List ℕ) (bit flags : ℕ) → where_set (is_set bit flags) letters ≡ flag_canon flags (bits letters bit)
as_name letters bit flags = elim (went (bit_and flags bit == 0)) [ inl h ↦ rw h refl | inr h ↦ rw h refl ]

all_read : (flags : ℕ) (rest : List ℕ) → flags < 2 ^ 8 → find (bits_of all_flag_names) ((flags_canon flags ++ where_set (is_set 0x20 flags) (codes "CR")) ++ 59 ∷ rest) ≡ Ok (flags, 59 ∷ rest)
unfolding bits_of flags_canon comes_back
all_read flags rest lt =
    let tests = and_parts (comes_back flags) (filter_comes_back flags) (each_below (λ flags. comes_back flags && filter_comes_back flags) 256 flags tried lt) in
    let same = eqb-true (fold (with_flag flags) (fold (with_flag flags) 0 flag_names) critical) flags tests.0 in
    let first = flat_map (flag_canon flags) flag_names in
    let last = flat_map (flag_canon flags) critical ++ 59 ∷ rest in
    let text : (first ++ where_set (is_set 0x20 flags) (codes "CR")) ++ 59 ∷ rest ≡ first ++ last =
    append_assoc first (where_set (is_set 0x20 flags) (codes "CR")) (59 ∷ rest) ∙ ap (λ (letters : List ℕ). first ++ (letters ++ 59 ∷ rest)) (as_name (codes "CR") 0x20 flags ∙ sym (append-nil (flag_canon flags (bits (codes "CR") 0x20)))) in
    let start = first ++ last in
    let half = reach all_flag_names flags flag_names start 0 last flag_rows (run_start all_flag_names bit_or 0 start) in
    let whole = reach all_flag_names flags critical start (fold (with_flag flags) 0 flag_names) (59 ∷ rest) critical_rows half in
    rw text (run_end all_flag_names bit_or 0 start flags (59 ∷ rest) (rw same at whole) refl)

filter_read : (flags : ℕ) (rest : List ℕ) → flags < 2 ^ 8 → find (bits_of filter_flag_names) (((flags_canon (bit_and flags 0xbf) ++ where_set (is_set 0x40 flags) (codes "TP")) ++ where_set (is_set 0x20 flags) (codes "CR")) ++ 59 ∷ rest) ≡ Ok (flags, 59 ∷ rest)
unfolding bits_of flags_canon filter_comes_back
filter_read flags rest lt =
    let tests = and_parts (comes_back flags) (filter_comes_back flags) (each_below (λ flags. comes_back flags && filter_comes_back flags) 256 flags tried lt) in
    let same = eqb-true (fold (with_flag flags) (fold (with_flag (bit_and flags 0xbf)) 0 flag_names) protected) flags tests.1 in
    let first = flat_map (flag_canon (bit_and flags 0xbf)) flag_names in
    let tp = flag_canon flags (bits (codes "TP") 0x40) in
    let cr = flag_canon flags (bits (codes "CR") 0x20) in
    let last = flat_map (flag_canon flags) protected ++ 59 ∷ rest in
    let grouped : ((first ++ tp) ++ cr) ++ 59 ∷ rest ≡ first ++ last = simp (append_assoc, append-nil) in
    let text : ((first ++ where_set (is_set 0x40 flags) (codes "TP")) ++ where_set (is_set 0x20 flags) (codes "CR")) ++ 59 ∷ rest ≡ first ++ last =
    rw (as_name (codes "TP") 0x40 flags, as_name (codes "CR") 0x20 flags) grouped in
    let start = first ++ last in
    let half = reach filter_flag_names (bit_and flags 0xbf) flag_names start 0 last filter_rows (run_start filter_flag_names bit_or 0 start) in
    let whole = reach filter_flag_names flags protected start (fold (with_flag (bit_and flags 0xbf)) 0 flag_names) (59 ∷ rest) protected_rows half in
    rw text (run_end filter_flag_names bit_or 0 start flags (59 ∷ rest) (rw same at whole) refl)

pub flags_read : (kind : WholeKind) (flags : ℕ) (rest : List ℕ) → flags < 2 ^ 8 → find (flags_of kind) (flags_text kind flags ++ 59 ∷ rest) ≡ Ok (flags, 59 ∷ rest)
unfolding flags_of flags_text
flags_read kinds.AccessFilter flags rest lt = filter_read flags rest lt
flags_read kind flags rest lt = all_read flags rest lt
