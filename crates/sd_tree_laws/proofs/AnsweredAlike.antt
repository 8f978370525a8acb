-- Journals that make one tree answer alike.
use Rattle.sd_tree_laws.proofs.Cited.{AclTooLarge, Bool, Edit, EditRefusal, JournalFull, LimitsValue, List, MappingValue, None, Option, PlainTree, SameTreeAnswersAlike, Some, [], ap, cond, descriptor_at, early_refusal, edited, false, first_fit, has_large_dacl, kind_at, length, nat_le, option_or, refl, refusal, refusal_in, replay, reply_in, room_tests, true, ℕ, ◌++◌, ◌∙◌, ◌∷◌, ◌≡◌, ◌≢◌}

-- a last test, which fits or not, where what it tells isn't told
last_test : (tests : List (Bool × EditRefusal)) (a b : Bool) (x : EditRefusal) → first_fit (tests ++ (a, x) ∷ []) ≢ Some x → first_fit (tests ++ (b, x) ∷ []) ≢ Some x
    → first_fit (tests ++ (b, x) ∷ []) ≡ first_fit (tests ++ (a, x) ∷ [])
last_test [] true b x h k = absurd (h refl)
last_test [] false true x h k = absurd (k refl)
last_test [] false false x h k = refl
last_test (test ∷ tests) a b x h k = by_test test.0 h k (last_test tests a b x)
  where
    by_test : (c : Bool) → cond c (Some test.1) (first_fit (tests ++ (a, x) ∷ [])) ≢ Some x → cond c (Some test.1) (first_fit (tests ++ (b, x) ∷ [])) ≢ Some x
        → (first_fit (tests ++ (a, x) ∷ []) ≢ Some x → first_fit (tests ++ (b, x) ∷ []) ≢ Some x → first_fit (tests ++ (b, x) ∷ []) ≡ first_fit (tests ++ (a, x) ∷ []))
        → cond c (Some test.1) (first_fit (tests ++ (b, x) ∷ [])) ≡ cond c (Some test.1) (first_fit (tests ++ (a, x) ∷ []))
    by_test true h k later = refl
    by_test false h k later = later h k

behind : (early a b : Option EditRefusal) (x : EditRefusal) → option_or early a ≢ Some x → option_or early b ≢ Some x → (a ≢ Some x → b ≢ Some x → b ≡ a) → option_or early b ≡ option_or early a
behind None a b x h k later = later h k
behind (Some y) a b x h k later = refl

-- the refusal by two lengths of a journal
by_length : (l : LimitsValue) (g : MappingValue) (t : PlainTree) (n m : ℕ) (e : Edit) → refusal_in l g t n e ≢ Some JournalFull → refusal_in l g t m e ≢ Some JournalFull → refusal_in l g t m e ≡ refusal_in l g t n e
by_length l g t n m e h k =
    let tests = (has_large_dacl g (edited g t e), AclTooLarge) ∷ room_tests l t e in
    behind (early_refusal t e) _ _ JournalFull h k (last_test tests (nat_le l.edits n) (nat_le l.edits m) JournalFull)

pub same_tree_answers_alike : SameTreeAnswersAlike
same_tree_answers_alike o o' journal journal' mapping limits tree = record {
  answers = λ path token asked i. reply_in (mapping i) (tree i) path token asked;
  descriptors = λ path i. descriptor_at (mapping i) (tree i) path;
  kinds = λ path. ap (λ t. kind_at t path) tree;
  refusals = λ edit h k.
      let same : refusal o' journal' edit ≡ refusal_in o.limits o.mapping (replay o journal) (length journal') edit = λ i. refusal_in (limits i) (mapping i) (tree i) (length journal') edit in
      same ∙ by_length o.limits o.mapping (replay o journal) (length journal) (length journal') edit h (λ e. k (same ∙ e));
}
