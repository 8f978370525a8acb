-- Conditions as text ([MS-DTYP] 2.5.1.1, cond-expr), parsed to their tokens in postfix order: `||` binds weakest, then
-- `&&`, then `!`, which stands before a parenthesis; both join from the left. An operator that joins waits for its
-- right operand. Of those that wait in one level of parentheses at the same time, one at most is an `||`, and one at
-- most an `&&`, which is later and takes its operand first.
use Rattle.std.specs.Prelude.{ℕ, Bool, true, false, List, [], ◌∷◌, ◌++◌, codes, Ok, Err, if◌then◌else◌}
use Rattle.sd_condition.specs.Writing.{is_condition}
use Rattle.sd_condition.specs.declared.operator.Operator.{Operator}
use Rattle.sd_condition.specs.declared.operator.Operator.TheVariants.{And, Or, Not}
use Rattle.sd_condition.specs.declared.token.Token.{Token}
use Rattle.sd_condition.specs.declared.token.Token.TheVariants as tokens
use Rattle.sd_condition_parse.specs.Outcome.{Parser, found, choose, steps, ◌>>=◌}
use Rattle.sd_condition_parse.specs.Run.{space}
use Rattle.sd_condition_parse.specs.Term.{term}
use Rattle.sd_condition_parse.specs.declared.state.Level.{Level}
use Rattle.sd_text.specs.Finding.{Found, behind_part, find}
use Rattle.sd_text.specs.Grammar.{begins, word}
use Rattle.sd_text.specs.declared.alias.Aliases.{Aliases}
use Rattle.sd_text.specs.declared.fault.TextFault.TheVariants.{AclTooLarge}

-- ---- levels of parentheses

-- what is known between two words of the text
pub record StateValue : Type 0 where
  pub tokens : List Token  -- the tokens so far
  pub level : Level  -- the innermost open parenthesis
  pub outer : List Level  -- those around it, from the inside
  pub has_operand : Bool  -- whether an operand precedes this place: then no other one follows

-- a level just opened, after a `!` or not
abbrev pub opened : Bool → Level
opened negated = record { negated = negated; or_waits = false; and_waits = false }

abbrev pub start : StateValue
start = record { tokens = []; level = opened false; outer = []; has_operand = false }

-- the operator, if it is there
abbrev pub where_set : Bool → Operator → List Token
where_set there operator = if there then tokens.Operator operator ∷ [] else []

-- a parenthesis opens
abbrev pub enter : Bool → StateValue → StateValue
enter negated s = record s { level = opened negated; outer = s.level ∷ s.outer }

-- more tokens
abbrev pub with_tokens : List Token → StateValue → StateValue
with_tokens ts s = record s { tokens = s.tokens ++ ts }

-- a term stands there
abbrev pub with_term : List Token → StateValue → StateValue
with_term ts s = record (with_tokens ts s) { has_operand = true }

-- `&&`: an `&&` that waits has both operands now
abbrev pub join_and : StateValue → StateValue
join_and s = record s {
  tokens = s.tokens ++ where_set s.level.and_waits And;
  level = record s.level { and_waits = true };
  has_operand = false;
}

-- `||`: so has each operator that waits
abbrev pub join_or : StateValue → StateValue
join_or s = record s {
  tokens = s.tokens ++ where_set s.level.and_waits And ++ where_set s.level.or_waits Or;
  level = record s.level { or_waits = true; and_waits = false };
  has_operand = false;
}

-- `)`: the level is an operand of the one around it, if there is one
abbrev pub closed : Level → List Token
closed level = where_set level.and_waits And ++ where_set level.or_waits Or ++ where_set level.negated Not

abbrev pub leave : StateValue → List Level → Bool × StateValue
leave s [] = (false, s)
leave s (level ∷ outer) = (true, record s { level = level; outer = outer })

abbrev pub close : StateValue → Bool × StateValue
close s = leave (record s { tokens = s.tokens ++ closed s.level }) s.outer

-- ---- the words of a condition: each step is the next state, and whether the condition goes on

-- where an operand is due
unfoldable pub operand_step : Aliases → StateValue → Parser (Bool × StateValue)
operand_step known s =
    choose (λ text. begins text (codes "(")) (find (word (codes "(")) >>= λ u. found (true, enter false s))
    (choose (λ text. begins text (codes "!"))
    (find (word (codes "!")) >>= λ u. space >>= λ v. find (word (codes "(")) >>= λ w. found (true, enter true s))
    (term known >>= λ ts. found (true, with_term ts s)))

-- after an operand
unfoldable pub operator_step : StateValue → Parser (Bool × StateValue)
operator_step s =
    choose (λ text. begins text (codes "&&")) (find (word (codes "&&")) >>= λ u. found (true, join_and s))
    (choose (λ text. begins text (codes "||")) (find (word (codes "||")) >>= λ u. found (true, join_or s))
    (find (word (codes ")")) >>= λ u. found (close s)))

unfoldable pub step : Aliases → StateValue → Parser (Bool × StateValue)
step known s = space >>= λ u. (if s.has_operand then operator_step s else operand_step known s)

-- ---- conditions

-- the words after the first parenthesis, up to the one that closes it
unfoldable pub words : Aliases → Parser StateValue
words known = find (word (codes "(")) >>= λ u. steps (step known) start

-- the condition in parentheses that the text begins with. The data of its tokens has at most 65,535 bytes, since the
-- size of an entry has 16 bits (2.4.4.1): where it has more, the fault is at the condition's start
unfoldable pub condition_found : Aliases → List ℕ → Found (List Token)
condition_found known text = behind_part (words known text)
    (λ s rest. if is_condition s.tokens then Ok (s.tokens, rest) else Err (AclTooLarge, text))
