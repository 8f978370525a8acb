-- The entries of a list, one by one.
use Rattle.std.proofs.Common.{◌≡◌, ℕ, ◌+◌, ◌<◌, ◌++◌, ◌∷◌, [], List, Result, Ok, Err, ap, arith, drop, get_or, length, refl, sym, ◌∙◌}
use Rattle.std.proofs.lemmas.List.{append_assoc, drop_more}
use Rattle.sd_acl.specs.declared.ace.Ace.{Ace}
use Rattle.sd_whole.specs.declared.ace.WholeAce.{WholeAce}
use Rattle.sd_specialize.specs.Context.{ContextValue}
use Rattle.sd_specialize.specs.Entry.{entry_for}
use Rattle.sd_specialize.specs.Specialize.{EntryRule, entries_by, entries_for, fitting, numbered, ◌>>=◌}
use Rattle.sd_specialize.specs.declared.fault.RefusedKind.{RefusedKind}
use Rattle.sd_specialize.specs.declared.fault.SpecializeFault.{SpecializeFault}

-- what is found is this entry
abbrev pub Is : Result Ace RefusedKind → Ace → Type 0
Is r p = r ≡ Ok p

-- a list that is found has a first entry and others
pub record Found (r : Result Ace RefusedKind) (others : Result (List Ace) SpecializeFault) (plain : List Ace) : Type 0 where
  pub first : Ace
  pub rest : List Ace
  pub is_first : r ≡ Ok first
  pub are_rest : others ≡ Ok rest
  pub are : plain ≡ first ∷ rest

pub found : (n : ℕ) (r : Result Ace RefusedKind) (others : Result (List Ace) SpecializeFault) (plain : List Ace)
    → (numbered n r >>= λ first. (others >>= λ rest. Ok (first ∷ rest))) ≡ Ok plain → Found r others plain
found n (Ok e) (Ok rest) plain h = record { first = e; rest = rest; is_first = refl; are_rest = refl; are = cc }
found n (Ok e) (Err fault) plain h = absurd cc
found n (Err kind) others plain h = absurd cc

fits_is : (es plain : List Ace) → fitting es ≡ Ok plain → es ≡ plain
fits_is es plain h = grind (arith, h)

-- a list that is found within the size is what its entries are
pub listed : (found : Result (List Ace) SpecializeFault) (plain : List Ace) → (found >>= fitting) ≡ Ok plain → found ≡ Ok plain
listed (Ok es) plain h = ap Ok (fits_is es plain h)
listed (Err fault) plain h = absurd cc

-- the entries don't depend on their numbers
pub numbers : (c : ContextValue) (m n : ℕ) (es : List WholeAce) (xs ys : List Ace)
    → entries_for c m es ≡ Ok xs → entries_for c n es ≡ Ok ys → xs ≡ ys
numbers c m n [] xs ys h k = cc
numbers c m n (e ∷ es) xs ys h k =
    let f = found m (entry_for c e) (entries_for c (m + 1) es) xs h in
    let l = found n (entry_for c e) (entries_for c (n + 1) es) ys k in
    let same = numbers c (m + 1) (n + 1) es f.rest l.rest f.are_rest l.are_rest in
    cc (f.are, l.are, f.is_first, l.is_first, same)

-- ---- one entry more

pub record Split (p : Ace) (with without : List Ace) : Type 0 where
  pub front : List Ace
  pub back : List Ace
  pub with_it : with ≡ front ++ p ∷ back
  pub without_it : without ≡ front ++ back

pub split : (c : ContextValue) (m n : ℕ) (before after : List WholeAce) (e : WholeAce) (p : Ace) (with without : List Ace)
    → entry_for c e ≡ Ok p → entries_for c m (before ++ e ∷ after) ≡ Ok with → entries_for c n (before ++ after) ≡ Ok without
    → Split p with without
split c m n [] after e p with without is h k =
    let f = found m (entry_for c e) (entries_for c (m + 1) after) with h in
    let same = numbers c (m + 1) n after f.rest without f.are_rest k in
    record { front = []; back = without; with_it = cc (f.are, f.is_first, is, same); without_it = refl }
split c m n (x ∷ before) after e p with without is h k =
    let f = found m (entry_for c x) (entries_for c (m + 1) (before ++ e ∷ after)) with h in
    let l = found n (entry_for c x) (entries_for c (n + 1) (before ++ after)) without k in
    let s = split c (m + 1) (n + 1) before after e p f.rest l.rest is f.are_rest l.are_rest in
    record {
      front = f.first ∷ s.front;
      back = s.back;
      with_it = cc (f.are, s.with_it);
      without_it = cc (l.are, l.is_first, f.is_first, s.without_it);
    }

-- ---- one entry more of those so far

bound_once : (r : Result Ace SpecializeFault) (rest : Result (List Ace) SpecializeFault) (plain : List Ace) (p : Ace) → r ≡ Ok p
    → ((r >>= λ first. (rest >>= λ others. Ok (first ∷ others))) >>= λ others. Ok (plain ++ others))
    ≡ (rest >>= λ others. Ok ((plain ++ p ∷ []) ++ others))
bound_once r (Ok others) plain p is = rw is (ap Ok (sym (append_assoc plain (p ∷ []) others)))
bound_once r (Err fault) plain p is = rw is refl

pub grown : (rule : EntryRule) (es : List WholeAce) (i : ℕ) (e : WholeAce) (p : Ace) (plain new : List Ace)
    → i < length es → e ≡ get_or es i e → numbered (i + 1) (rule e) ≡ Ok p
    → entries_by rule 1 es ≡ (entries_by rule (i + 1) (drop i es) >>= λ others. Ok (plain ++ others)) → new ≡ plain ++ p ∷ []
    → entries_by rule 1 es ≡ (entries_by rule ((i + 1) + 1) (drop (i + 1) es) >>= λ others. Ok (new ++ others))
grown rule es i e p plain new low is found was whole =
    let rest : drop i es ≡ e ∷ drop (i + 1) es = drop_more es i e low ∙ ap (λ x. x ∷ drop (i + 1) es) (sym is) in
    rw whole (was ∙ ap (λ xs. entries_by rule (i + 1) xs >>= λ others. Ok (plain ++ others)) rest
    ∙ bound_once (numbered (i + 1) (rule e)) (entries_by rule ((i + 1) + 1) (drop (i + 1) es)) plain p found)
