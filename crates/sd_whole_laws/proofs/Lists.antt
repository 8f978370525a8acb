-- The printed text of a list's entries is parsed as these entries.
use Rattle.std.proofs.Common.{List, Ok, [], append-nil, append_assoc, ap, arith, false, length, refl, suc, zero, ℕ, ◌++◌, ◌<◌, ◌∙◌, ◌∷◌, ◌≡◌, ◌≤◌}
use Rattle.std.specs.Prelude.{codes}
use Rattle.std.specs.List.{AllByRecursion, flat_map}
use Rattle.std.proofs.lemmas.List.{length-append}
use Rattle.std.proofs.lemmas.List.Sums.{sum_by-append, sum_by-cons}
use Rattle.sd_text.specs.Grammar.{begins}
use Rattle.sd_text.specs.declared.alias.Aliases.{Aliases}
use Rattle.sd_text.specs.declared.right_names.RightNames.{RightNames}
use Rattle.sd_whole.specs.Entry.{whole_ace_size, whole_acl_size}
use Rattle.sd_whole.specs.declared.ace.WholeAce.{WholeAce}
use Rattle.sd_whole_parse.proofs.Loop.{entry_behind, from_here}
use Rattle.sd_whole_parse.specs.Entry.{entries_found}
use Rattle.sd_whole_parse.specs.Spaces.{at_entry}
use Rattle.sd_whole_text.specs.Entry.{entry_text}
use Rattle.sd_whole_laws.proofs.Entries.{IsReadable}

-- what follows a list begins neither with an entry, nor with spaces before one
pub record Ends (rest : List ℕ) : Type 0 where
  pub no_entry : begins rest (codes "(") ≡ false
  pub no_space : at_entry rest ≡ rest

-- their text, and what follows
abbrev pub text_of : RightNames → List WholeAce → List ℕ → List ℕ
text_of names es rest = flat_map (entry_text names) es ++ rest

-- nor do entries
pub starts_here : (known : Aliases) (names : RightNames) (es : List WholeAce) (rest : List ℕ) → AllByRecursion (IsReadable known names) es → Ends rest → at_entry (text_of names es rest) ≡ text_of names es rest
starts_here known names [] rest each ends = ends.no_space
starts_here known names (e ∷ es) rest each ends =
    let text : text_of names (e ∷ es) rest ≡ 40 ∷ each.0.behind (text_of names es rest) = append_assoc (entry_text names e) (flat_map (entry_text names) es) rest ∙ each.0.opens (text_of names es rest) in
    rw text refl

-- an entry's text isn't empty
takes_some : (known : Aliases) (names : RightNames) (e : WholeAce) (rest : List ℕ) → IsReadable known names e → length rest < length (entry_text names e ++ rest)
takes_some known names e rest is =
    let whole = ap length (is.opens []) in
    let parts = length-append (entry_text names e) [] in
    omega (arith, length-append (entry_text names e) rest, whole, parts)

entries_again : (known : Aliases) (names : RightNames) (n : ℕ) (before es : List WholeAce) (rest : List ℕ) → AllByRecursion (IsReadable known names) es → Ends rest
    → whole_acl_size (before ++ es) ≤ 65535 → length (text_of names es rest) ≤ n → from_here (entry_behind known) n before (text_of names es rest) ≡ Ok (before ++ es, rest)
entries_again known names zero before [] rest each ends fits enough = rw (append-nil before) refl
entries_again known names (suc n) before [] rest each ends fits enough = rw (ends.no_entry, append-nil before) refl
entries_again known names n before (e ∷ es) rest each ends fits enough =
    let later = text_of names es rest in
    let text : text_of names (e ∷ es) rest ≡ 40 ∷ each.0.behind later = append_assoc (entry_text names e) (flat_map (entry_text names) es) rest ∙ each.0.opens later in
    let shorter = takes_some known names e later each.0 in
    let whole : text_of names (e ∷ es) rest ≡ entry_text names e ++ later = append_assoc (entry_text names e) (flat_map (entry_text names) es) rest in
    let some : length later < n = omega (arith, ap length whole, shorter, enough) in
    let parts = sum_by-append whole_ace_size before (e ∷ es) in
    let first = sum_by-cons whole_ace_size e es in
    let one = each.0.read (whole_acl_size before) later (omega (arith, fits, parts, first)) in
    let here = starts_here known names es rest each.1 ends in
    let next : whole_acl_size ((before ++ e ∷ []) ++ es) ≤ 65535 = rw append_assoc fits in
    rw text (by_count n some (each.0.behind later) one here (λ m le. entries_again known names m (before ++ e ∷ []) es rest each.1 ends next le))
  where
    by_count : (k : ℕ) → length (text_of names es rest) < k → (inside : List ℕ) → entry_behind known before inside ≡ Ok (e, at_entry (text_of names es rest)) → at_entry (text_of names es rest) ≡ text_of names es rest
        → ((m : ℕ) → length (text_of names es rest) ≤ m → from_here (entry_behind known) m (before ++ e ∷ []) (text_of names es rest) ≡ Ok ((before ++ e ∷ []) ++ es, rest))
        → from_here (entry_behind known) k before (40 ∷ inside) ≡ Ok (before ++ e ∷ es, rest)
    by_count zero some inside one here others = absurd (omega arith)
    by_count (suc k) some inside one here others = rw (one, here, others k (omega arith), append_assoc before (e ∷ []) es) refl

-- all entries
pub entries_read : (known : Aliases) (names : RightNames) (es : List WholeAce) (rest : List ℕ) → AllByRecursion (IsReadable known names) es → Ends rest → whole_acl_size es ≤ 65535 → entries_found known (text_of names es rest) ≡ Ok (es, rest)
unfolding entries_found
entries_read known names es rest each ends fits = entries_again known names (length (text_of names es rest)) [] es rest each ends fits (omega arith)
