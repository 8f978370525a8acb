-- What an edit that isn't refused has passed.
use Rattle.sd_edit.proofs.Cited.{AclTooLarge, AddContainer, AddObject, AllByRecursion, Bool, Edit, EditRefusal, JournalFull, LimitsValue, List, MappingValue, Move, None, Option, PlainTree, ProtectKeeping, Remove, SetDacl, SetGroup, SetOwner, Some, [], ap, cond, early_refusal, edited, false, first_fit, has_large_dacl, is_early, is_without_memory, late_refusal, late_tests, nat_le, option_or, refl, refusal_in, room_tests, sym, true, ℕ, ◌++◌, ◌∙◌, ◌∷◌, ◌≡◌}

passed : (b : Bool) (x : EditRefusal) (rest : Option EditRefusal) → cond b (Some x) rest ≡ None → (b ≡ false) × (rest ≡ None)
passed true x rest e = absurd cc
passed false x rest e = (refl, e)

-- where there is no refusal, no test fits
pub none_fits : (tests : List (Bool × EditRefusal)) → first_fit tests ≡ None → AllByRecursion (λ test. test.0 ≡ false) tests
none_fits [] e = tt
none_fits (test ∷ tests) e = let parts = passed test.0 test.1 (first_fit tests) e in (parts.0, none_fits tests parts.1)

neither : (a b : Option EditRefusal) → option_or a b ≡ None → (a ≡ None) × (b ≡ None)
neither None b e = (refl, e)
neither (Some x) b e = absurd cc

-- an edit that isn't refused is refused neither early nor late
pub not_refused : (limits : LimitsValue) (g : MappingValue) (t : PlainTree) (count : ℕ) (e : Edit) → refusal_in limits g t count e ≡ None
    → (early_refusal t e ≡ None) × (late_refusal limits g t count e ≡ None)
not_refused limits g t count e h = neither (early_refusal t e) (late_refusal limits g t count e) h

-- tests in two lists, one behind the other
pub fits_first : (xs ys : List (Bool × EditRefusal)) (refusal : EditRefusal) → first_fit xs ≡ Some refusal → first_fit (xs ++ ys) ≡ Some refusal
fits_first [] ys refusal e = absurd cc
fits_first (x ∷ xs) ys refusal e = by_test x.0 e (fits_first xs ys refusal)
  where
    by_test : (b : Bool) → cond b (Some x.1) (first_fit xs) ≡ Some refusal → (first_fit xs ≡ Some refusal → first_fit (xs ++ ys) ≡ Some refusal)
        → cond b (Some x.1) (first_fit (xs ++ ys)) ≡ Some refusal
    by_test true h later = h
    by_test false h later = later h

pub fits_later : (xs ys : List (Bool × EditRefusal)) → first_fit xs ≡ None → first_fit (xs ++ ys) ≡ first_fit ys
fits_later [] ys e = refl
fits_later (x ∷ xs) ys e =
    let parts = passed x.0 x.1 (first_fit xs) e in
    ap (λ b. cond b (Some x.1) (first_fit (xs ++ ys))) parts.0 ∙ fits_later xs ys parts.1

-- no test that may take memory has a refusal that is found without
pub late_refused : (tests : List (Bool × EditRefusal)) → AllByRecursion (λ test. is_without_memory test.1 ≡ false) tests → is_early (first_fit tests) ≡ false
late_refused [] h = refl
late_refused (test ∷ tests) h = by_test test.0 h.0 (late_refused tests h.1)
  where
    by_test : (b : Bool) → is_without_memory test.1 ≡ false → is_early (first_fit tests) ≡ false → is_early (cond b (Some test.1) (first_fit tests)) ≡ false
    by_test true h rest = h
    by_test false h rest = rest

pub are_late : (l : LimitsValue) (g : MappingValue) (t : PlainTree) (n : ℕ) (e : Edit)
    → AllByRecursion (λ test. is_without_memory test.1 ≡ false) (late_tests l g t n e)
are_late l g t n (AddContainer path owner group dacl) = (refl, (refl, (refl, (refl, tt))))
are_late l g t n (AddObject path owner group dacl) = (refl, (refl, (refl, (refl, tt))))
are_late l g t n (SetOwner path owner) = (refl, (refl, tt))
are_late l g t n (SetGroup path group) = (refl, (refl, tt))
are_late l g t n (SetDacl path dacl) = (refl, (refl, tt))
are_late l g t n (Remove path) = (refl, (refl, tt))
are_late l g t n (ProtectKeeping path) = (refl, (refl, tt))
are_late l g t n (Move source target) = (refl, (refl, (refl, tt)))

-- ---- the refusal, put together

pub refusal_by_parts : (limits : LimitsValue) (g : MappingValue) (t : PlainTree) (n : ℕ) (e : Edit) (r : Option EditRefusal) → early_refusal t e ≡ None → has_large_dacl g (edited g t e) ≡ false
    → r ≡ first_fit (room_tests limits t e ++ (nat_le limits.edits n, JournalFull) ∷ []) → refusal_in limits g t n e ≡ r
refusal_by_parts limits g t n e r early large rest-is =
    let rest = first_fit (room_tests limits t e ++ (nat_le limits.edits n, JournalFull) ∷ []) in
    ap (λ o. option_or o (cond (has_large_dacl g (edited g t e)) (Some AclTooLarge) rest)) early
    ∙ ap (λ b. cond b (Some AclTooLarge) rest) large ∙ sym rest-is
