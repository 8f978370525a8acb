-- Reading the entries of a list, one after the other.
use Rattle.std.proofs.Common.{List, Ok, Err, [], arith, drop, false, inl, inr, length, refl, suc, sym, true, zero, ℕ, ◌++◌, ◌+◌, ◌∷◌, ◌≡◌, ◌≤◌, ◌∙◌}
use Rattle.std.specs.Prelude.{codes, ◌==◌}
use Rattle.std.proofs.lemmas.Bool.{eqb-true}
use Rattle.std.proofs.lemmas.List.Sums.{sum_by_push}
use Rattle.sd_whole_parse.proofs.Opening.{Kept, opening_there}
use Rattle.sd_text.proofs.Parts.{begins_takes, chosen, found_is}
use Rattle.sd_text.specs.Entry.{opening}
use Rattle.sd_text.specs.Finding.{Found, find, find_items}
use Rattle.sd_text.specs.Grammar.{begins, end}
use Rattle.sd_text.specs.declared.alias.Aliases.{Aliases}
use Rattle.sd_text.specs.declared.fault.TextFault.{TextFault}
use Rattle.std.specs.List.{AllByRecursion}
use Rattle.sd_whole.specs.Whole.{IsWholeAce}
use Rattle.sd_whole.specs.Entry.{whole_ace_size, whole_acl_size}
use Rattle.sd_whole.specs.declared.ace.WholeAce.{WholeAce}
use Rattle.sd_whole_parse.specs.Entry.{entries_found, entry_found}

-- what a loop over items that a parenthesis opens finds from here on, if at most n follow
abbrev pub from_here : {A : Type 0} → (List A → List ℕ → Found A) → ℕ → List A → List ℕ → Found (List A)
from_here item n before text = find_items opening (λ earlier u. item earlier) n before text

-- these items have been read: what is found from here on is what is found of the whole
pub record Reaches {A : Type 0} (item : List A → List ℕ → Found A) (whole : Found (List A)) (done : List A) (rest : List ℕ) : Type 0 where
  pub most : ℕ
  pub enough : length rest ≤ most
  pub same : from_here item most done rest ≡ whole

module _ {A : Type 0} (item : List A → List ℕ → Found A) (whole : Found (List A)) (done : List A) (rest : List ℕ) where
  pub reaches_more : (x : A) (after : List ℕ) → Reaches item whole done rest → begins rest (codes "(") ≡ true → item done (drop 1 rest) ≡ Ok (x, after) → length after ≤ length (drop 1 rest) → Reaches item whole (done ++ x ∷ []) after
  reaches_more x after reached opens one shorter = by_most reached.most reached.enough reached.same
    where
      by_most : (n : ℕ) → length rest ≤ n → from_here item n done rest ≡ whole → Reaches item whole (done ++ x ∷ []) after
      by_most zero le same = absurd (let lt = begins_takes rest (codes "(") opens in omega arith)
      by_most (suc n) le same = record {
        most = n;
        enough = let lt = begins_takes rest (codes "(") opens in omega arith;
        same = rw (opens, one) at same;
      }

  pub reaches_end : Reaches item whole done rest → begins rest (codes "(") ≡ false → whole ≡ Ok (done, rest)
  reaches_end reached ends = sym reached.same ∙ by_most reached.most
    where
      by_most : (n : ℕ) → from_here item n done rest ≡ Ok (done, rest)
      by_most zero = refl
      by_most (suc n) = rw ends refl

  pub reaches_fault : (d : TextFault × List ℕ) → Reaches item whole done rest → begins rest (codes "(") ≡ true → item done (drop 1 rest) ≡ Err d → whole ≡ Err d
  reaches_fault d reached opens fails = sym reached.same ∙ by_most reached.most reached.enough
    where
      by_most : (n : ℕ) → length rest ≤ n → from_here item n done rest ≡ Err d
      by_most zero le = absurd (let lt = begins_takes rest (codes "(") opens in omega arith)
      by_most (suc n) le = rw (opens, fails) refl

-- entries of a list, each knowing the size of the list before it
abbrev pub entry_behind : Aliases → List WholeAce → List ℕ → Found WholeAce
entry_behind known before = entry_found known (whole_acl_size before)

-- what all have, they and one more have
each_push : {A : Type 0} (P : A → Type 0) (xs : List A) (x : A) → AllByRecursion P xs → P x → AllByRecursion P (xs ++ x ∷ [])
each_push P [] x all one = (one, tt)
each_push P (y ∷ xs) x all one = (all.0, each_push P xs x all.1 one)

-- entries were parsed, and their list's size
pub record Parsed (known : Aliases) (start : List ℕ) (entries : List WholeAce) (size : ℕ) (rest : List ℕ) : Type 0 where
  pub reached : Reaches (entry_behind known) (entries_found known start) entries rest
  pub sized : size ≡ whole_acl_size entries
  pub fits : size ≤ 65535
  pub opened : Kept start rest
  pub each : AllByRecursion IsWholeAce entries

pub parsed_none : (known : Aliases) (start : List ℕ) → Parsed known start [] 8 start
unfolding entries_found
parsed_none known start = record {
  reached = record { most = length start; enough = omega arith; same = refl };
  sized = refl;
  fits = omega arith;
  opened = λ opens. opens;
  each = tt;
}

pub parsed_more : {known : Aliases} {start : List ℕ} {entries : List WholeAce} {size : ℕ} {rest : List ℕ} {e : WholeAce} {after : List ℕ}
    → Parsed known start entries size rest → begins rest (codes "(") ≡ true → entry_found known size (drop 1 rest) ≡ Ok (e, after) → length after ≤ length (drop 1 rest)
    → size + whole_ace_size e ≤ 65535 → IsWholeAce e → Parsed known start (entries ++ e ∷ []) (size + whole_ace_size e) after
parsed_more {known = known} {start = start} {entries = entries} {rest = rest} {e = e} {after = after} so_far opens one shorter fits whole = record {
  reached = reaches_more (entry_behind known) (entries_found known start) entries rest e after so_far.reached opens (rw (sym so_far.sized) one) shorter;
  sized = let sized = so_far.sized in omega (arith, sum_by_push whole_ace_size entries e);
  fits = fits;
  opened = λ _. so_far.opened (opening_there rest opens);
  each = each_push IsWholeAce entries e so_far.each whole;
}

-- the list's end
pub parsed_end : {known : Aliases} {start : List ℕ} {entries : List WholeAce} {size : ℕ} {rest : List ℕ} → Parsed known start entries size rest → begins rest (codes "(") ≡ false → entries_found known start ≡ Ok (entries, rest)
parsed_end {known = known} {start = start} {entries = entries} {rest = rest} so_far ends = reaches_end (entry_behind known) (entries_found known start) entries rest so_far.reached ends

-- a fault in an entry
pub parsed_fault : {known : Aliases} {start : List ℕ} {entries : List WholeAce} {size : ℕ} {rest : List ℕ} (d : TextFault × List ℕ) → Parsed known start entries size rest → begins rest (codes "(") ≡ true → entry_found known size (drop 1 rest) ≡ Err d → entries_found known start ≡ Err d
parsed_fault {known = known} {start = start} {entries = entries} {rest = rest} d so_far opens fails = reaches_fault (entry_behind known) (entries_found known start) entries rest d so_far.reached opens (rw (sym so_far.sized) fails)

-- nothing follows the end of a text
pub nothing_left : (text rest : List ℕ) → find end text ≡ Ok (tt, rest) → rest ≡ []
nothing_left [] rest e = sym (found_is tt tt [] rest e).1
nothing_left (c ∷ text) rest e =
    elim (chosen (length (c ∷ text) == 0) _ _ _ e) [
      | inl h ↦ absurd (let no = eqb-true (length (c ∷ text)) 0 h.0 in omega arith)
      | inr h ↦ absurd cc
    ]
