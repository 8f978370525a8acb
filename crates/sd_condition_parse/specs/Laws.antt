-- The laws of a condition's text.
use Rattle.std.specs.Prelude.{◌≡◌, ℕ, ◌<◌, ◌^◌, true, List, ◌++◌, is_some, Some, Ok, FitsSigned}
use Rattle.std.specs.Int.{w64}
use Rattle.std.specs.List.{AllByRecursion}
use Rattle.sd_sid.specs.Sid.{IsSid, SidValue}
use Rattle.sd_condition.specs.Stack.{outcome}
use Rattle.sd_condition.specs.declared.attribute.Scope.TheVariants.{Local}
use Rattle.sd_condition.specs.declared.integer.Integer.{Integer}
use Rattle.sd_condition_parse.specs.Attribute.{attribute}
use Rattle.sd_condition_parse.specs.Condition.{StateValue, words}
use Rattle.sd_condition_parse.specs.Integer.{integer}
use Rattle.sd_condition_parse.specs.Run.{run_len}
use Rattle.sd_condition_parse.specs.Value.{literal_sid, octets}
use Rattle.sd_condition_parse.specs.declared.run.Class.TheVariants.{Digit, Plain}
use Rattle.sd_condition_text.specs.Attribute.{plain_name}
use Rattle.sd_condition_text.specs.Value.{integer_text, octets_text, sid_text}
use Rattle.sd_text.specs.declared.alias.Aliases.{Aliases}

-- the tokens of a condition's words leave one condition, so nothing but their size is a fault of them
abbrev pub WordsLeaveACondition : Type 0
WordsLeaveACondition = (known : Aliases) (text rest : List ℕ) (s : StateValue) → words known text ≡ Ok (s, rest)
    → is_some (outcome s.tokens) ≡ true

-- the printed text of a SID is parsed as the SID
abbrev pub SidsComeBack : Type 0
SidsComeBack = (known : Aliases) (s : SidValue) (rest : List ℕ) → IsSid s
    → literal_sid known (sid_text s ++ rest) ≡ Ok (s, rest)

-- the printed text of an integer, where no letter or digit follows it, is parsed as the integer
abbrev pub IntegersComeBack : Type 0
IntegersComeBack = (i : Integer) (text rest : List ℕ) → FitsSigned w64 i.value → integer_text i ≡ Some text
    → run_len Plain rest ≡ 0 → integer (text ++ rest) ≡ Ok (i, rest)

-- the printed text of octets, where no hexadecimal digit follows it, is parsed as the octets
abbrev pub OctetsComeBack : Type 0
OctetsComeBack = (list rest : List ℕ) → AllByRecursion (λ octet. octet < 2 ^ 8) list → run_len Digit rest ≡ 0
    → octets (octets_text list ++ rest) ≡ Ok (list, rest)

-- the printed name of an attribute without a prefix, where no more of a name follows it, is parsed as the attribute
abbrev pub PlainNamesComeBack : Type 0
PlainNamesComeBack = (name text rest : List ℕ) → plain_name name ≡ Some text → run_len Plain rest ≡ 0
    → attribute (text ++ rest) ≡ Ok (record { scope = Local; name = name }, rest)
