-- Reading the entries of a list.
use Rattle.sd_text.proofs.Cited.{Ace, Err, Grammar, IfOk, List, Ok, Result, [], ace_size, acl_size_of, ap, arith, begins, codes, drop, false, find, has_one, opening, refl, sum_by_push, sym, true, ℕ, ◌++◌, ◌+◌, ◌∙◌, ◌∷◌, ◌≡◌, ◌≤◌}
use Rattle.std.specs.Prelude.{Bool}
use Rattle.sd_acl.specs.declared.list.AclTooLarge.{AclTooLarge}
use Rattle.sd_text.proofs.Loops.{Reaches, item_more}

-- these entries have been read, and this is behind them
abbrev pub EntriesReach : (ℕ → Grammar Ace) → List ℕ → List Ace → List ℕ → Type 0
EntriesReach entry start es rest = Reaches opening (λ before u. entry (acl_size_of before)) start es rest

-- an entry was parsed after these
pub has_one-push : (es : List Ace) (e : Ace) → has_one (es ++ e ∷ []) ≡ true
has_one-push [] e = refl
has_one-push (x ∷ es) e = refl

-- entries were parsed, which all are stored unless an allocation failed; this is what follows them
pub record Parsed (entry : ℕ → Grammar Ace) (start : List ℕ) (items : List Ace) (stored : Bool) (size : ℕ) (rest : List ℕ) : Type 0 where
  pub entries : List Ace
  pub reached : EntriesReach entry start entries rest
  pub sized : size ≡ acl_size_of entries
  pub fits : size ≤ 65535
  pub kept : stored ≡ true → items ≡ entries
  pub lost : stored ≡ false → has_one entries ≡ true

-- what an entry adds to the list
pub acl_size-push : (es : List Ace) (e : Ace) → acl_size_of (es ++ e ∷ []) ≡ acl_size_of es + ace_size e
acl_size-push es e = omega (arith, sum_by_push ace_size es e)

-- the list of entries that fit
pub list_made : (made : Result (List Ace) AclTooLarge) (list entries : List Ace) → IfOk made (λ l. (l ≡ entries) × (acl_size_of entries ≤ 65535)) → made ≡ Ok list → list ≡ entries
list_made (Ok l) list entries h e = (let same : l ≡ list = ok_list l list e in sym same) ∙ h.0
  where
    ok_list : (a b : List Ace) → ◌≡◌ {A = Result (List Ace) AclTooLarge} (Ok a) (Ok b) → a ≡ b
    ok_list a b e = cc
list_made (Err x) list entries h e = absurd cc

-- one more entry, which is stored unless this or an earlier allocation fails
pub parsed_more : {entry : ℕ → Grammar Ace} {start : List ℕ} {items more : List Ace} {stored still : Bool} {size : ℕ} {rest : List ℕ} {e : Ace} {after : List ℕ}
    → Parsed entry start items stored size rest → begins rest (codes "(") ≡ true → find (entry size) (drop 1 rest) ≡ Ok (e, after) → size + ace_size e ≤ 65535
    → (still ≡ true → (stored ≡ true) × (more ≡ items ++ e ∷ [])) → Parsed entry start more still (size + ace_size e) after
parsed_more {e = e} so_far opens one fits kept = record {
  entries = so_far.entries ++ e ∷ [];
  reached = item_more so_far.reached opens (rw (sym so_far.sized) one);
  sized = let grown = acl_size-push so_far.entries e in let sized = so_far.sized in omega arith;
  fits = fits;
  kept = λ is. let k = kept is in k.1 ∙ ap (λ es. es ++ e ∷ []) (so_far.kept k.0);
  lost = λ isnt. has_one-push so_far.entries e;
}
