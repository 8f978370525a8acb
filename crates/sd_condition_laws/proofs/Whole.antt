-- The text of a condition is parsed as the condition.
use Rattle.std.proofs.Common.{List, Ok, Some, [], ap, append-nil, append_assoc, codes, false, refl, subst, sym, true, ℕ, ◌++◌, ◌∙◌, ◌∷◌, ◌≡◌}
use Rattle.sd_condition.specs.Laws.{AreTokens}
use Rattle.sd_condition.specs.Writing.{is_condition}
use Rattle.sd_condition.specs.declared.token.Token.{Token}
use Rattle.sd_condition_laws.proofs.Formed.{IsTruth, conditions_are_formed}
use Rattle.sd_condition_laws.proofs.Runs.{in_parentheses}
use Rattle.sd_condition_laws.proofs.States.{Arrives, state}
use Rattle.sd_condition_laws.proofs.Trees.{trees_read}
use Rattle.sd_condition_laws.specs.Laws.{ConditionsComeBack}
use Rattle.sd_condition_parse.proofs.Repeated.{left_done, left_start}
use Rattle.sd_condition_parse.specs.Condition.{closed, condition_found, operator_step, start, step, words}
use Rattle.sd_condition_parse.specs.Outcome.{steps}
use Rattle.sd_condition_text.proofs.Trees.{trees_say_the_tokens}
use Rattle.sd_condition_text.specs.Text.{condition_text, tree_text}
use Rattle.sd_condition_text.specs.Tree.{Tree, postfix}
use Rattle.sd_text.specs.declared.alias.Aliases.{Aliases}

-- the steps end where the first parenthesis closes
ended : (known : Aliases) (whole : List ℕ) (tree : Tree) (rest : List ℕ) (there : Arrives known whole tree [] false [] rest) → steps (step known) start whole ≡ Ok (state (there.so_far ++ closed there.level) there.level [] true, rest)
unfolding step operator_step
ended known whole tree rest there = left_done (step known) start whole (state there.so_far there.level [] true) (41 ∷ rest) (state (there.so_far ++ closed there.level) there.level [] true) rest there.at refl

found : (known : Aliases) (ts : List Token) (tree : Tree) (inner rest : List ℕ) → AreTokens ts → is_condition ts ≡ true → IsTruth tree → postfix tree ≡ ts → tree_text tree ≡ Some inner
    → condition_found known (40 ∷ (inner ++ 41 ∷ rest)) ≡ Ok (ts, rest)
unfolding condition_found words
found known ts tree inner rest are is truth says e =
    let whole = inner ++ 41 ∷ rest in
    let there = trees_read known whole tree inner truth (subst AreTokens (sym says) are) e [] false [] rest (left_start (step known) start whole) in
    let end = ended known whole tree rest there in
    let said : there.so_far ++ closed there.level ≡ ts = there.same ∙ append-nil (postfix tree) ∙ says in
    rw (end, said, is) refl

pub conditions_come_back : ConditionsComeBack
unfolding condition_text
conditions_come_back known ts text rest are is e =
    let formed = conditions_are_formed ts is in
    let inner = in_parentheses (tree_text formed.0) text (rw formed.1 at e) in
    subst (λ (t : List ℕ). condition_found known t ≡ Ok (ts, rest)) (ap (λ (t : List ℕ). 40 ∷ t) (sym (append_assoc inner.0 (codes ")") rest)) ∙ ap (λ (t : List ℕ). t ++ rest) inner.2)
    (found known ts formed.0 inner.0 rest are is formed.2 (trees_say_the_tokens ts formed.0 formed.1) inner.1)
