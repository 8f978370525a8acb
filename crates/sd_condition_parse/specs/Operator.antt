-- The words and the signs of operators in a condition's text ([MS-DTYP] 2.5.1.1, cond-expr).
use Rattle.std.specs.Prelude.{ℕ, Bool, ◌&&◌, ◌==◌, List, [], ◌∷◌, length, drop, Option, Some, None, Ok, codes}
use Rattle.std.specs.Prelude.{if◌then◌else◌}
use Rattle.sd_condition.specs.declared.operator.Operator.{Operator}
use Rattle.sd_condition.specs.declared.operator.Operator.TheVariants as operators
use Rattle.sd_condition_parse.specs.Outcome.{Parser}
use Rattle.sd_condition_parse.specs.Run.{run_len}
use Rattle.sd_condition_parse.specs.declared.run.Class.TheVariants.{Plain}
use Rattle.sd_text.specs.Grammar.{Name, name_for, begins, named}

-- the text begins with this word, of either case, after which no name goes on
abbrev pub is_word : List ℕ → List ℕ → Bool
is_word text letters = begins text letters && run_len Plain (drop (length letters) text) == 0

-- the meaning of the word of the table that is there, and the text after it
abbrev pub worded : {A : Type 0} → List (Name A) → List ℕ → Option (A × List ℕ)
worded [] text = None
worded (name ∷ names) text =
    if is_word text name.letters then Some (name.stands_for, drop (length name.letters) text) else worded names text

-- the words before an attribute (exists-op)
abbrev pub exists_words : List (Name Operator)
exists_words = name_for (codes "Exists") operators.Exists ∷ name_for (codes "Not_Exists") operators.NotExists ∷ []

-- the words before SIDs (memberof-op)
abbrev pub member_words : List (Name Operator)
member_words =
    name_for (codes "Member_of") operators.MemberOf ∷ name_for (codes "Device_Member_of") operators.DeviceMemberOf
    ∷ name_for (codes "Member_of_Any") operators.MemberOfAny
    ∷ name_for (codes "Device_Member_of_Any") operators.DeviceMemberOfAny
    ∷ name_for (codes "Not_Member_of") operators.NotMemberOf
    ∷ name_for (codes "Not_Device_Member_of") operators.NotDeviceMemberOf
    ∷ name_for (codes "Not_Member_of_Any") operators.NotMemberOfAny
    ∷ name_for (codes "Not_Device_Member_of_Any") operators.NotDeviceMemberOfAny ∷ []

-- the words between an attribute and what it is compared with (contains-op, anyof-op)
abbrev pub comparing_words : List (Name Operator)
comparing_words =
    name_for (codes "Contains") operators.Contains ∷ name_for (codes "Any_of") operators.AnyOf
    ∷ name_for (codes "Not_Contains") operators.NotContains ∷ name_for (codes "Not_Any_of") operators.NotAnyOf ∷ []

-- the signs there (rel-op); a longer one precedes its prefix
abbrev pub signs : List (Name Operator)
signs =
    name_for (codes "==") operators.Equal ∷ name_for (codes "!=") operators.NotEqual
    ∷ name_for (codes "<=") operators.LessOrEqual ∷ name_for (codes ">=") operators.GreaterOrEqual
    ∷ name_for (codes "<") operators.Less ∷ name_for (codes ">") operators.Greater ∷ []

-- what is there, or nothing, and the text after it
abbrev pub optional : {A : Type 0} → Option (A × List ℕ) → Parser (Option A)
optional None text = Ok (None, text)
optional (Some x) text = Ok (Some x.0, x.1)

abbrev pub first_of : {A : Type 0} → Option A → Option A → Option A
first_of None other = other
first_of (Some x) other = Some x

-- the operator of a comparison, if one is there
unfoldable pub comparison : Parser (Option Operator)
comparison text = optional (first_of (named signs text) (worded comparing_words text)) text
