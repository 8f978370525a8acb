-- The rows of an accounts file: which lines say what.
use Rattle.std.specs.Prelude.{◌≡◌, ◌⊎◌, ◌==◌, ◌<◌, ℕ, nat_lt, Bool, ◌||◌, false, List, [], ◌∷◌, length, map}
use Rattle.std.specs.Prelude.{Option, Some, None, codes, if◌then◌else◌}
use Rattle.std.specs.List.{before_first, after_first, position_or_len, slice_split, list_any}
use Rattle.std.specs.Str.Lines.{strip_carriage_return}
use Rattle.sd_sid.specs.Sid.{SidValue}
use Rattle.sd_text.specs.Grammar.{Spells}
use Rattle.sd_text.specs.Sid.{sid_text}

-- what one row says:
-- User sid name, Group sid name: the SID is of a user or of a group, and this is a name of it.
-- Member group member: the group has this member.
-- Primary user group: the user's primary group is this one.
-- Disabled user: the user's account is disabled.
pub data AccountRow : Type 0 where
  User : SidValue → List ℕ → AccountRow
  Group : SidValue → List ℕ → AccountRow
  Member : SidValue → SidValue → AccountRow
  Primary : SidValue → SidValue → AccountRow
  Disabled : SidValue → AccountRow

-- the lines of a text, without the carriage return at the end of one
abbrev pub lines_of : List ℕ → List (List ℕ)
lines_of text = map strip_carriage_return (slice_split (λ b. b == 10) text)

-- the text before the first such character, or all of it
abbrev pub before : ℕ → List ℕ → List ℕ
before mark text = before_first (λ b. b == mark) text

-- the text after the first such character, if there is one
abbrev pub after : ℕ → List ℕ → Option (List ℕ)
after mark text = if nat_lt (position_or_len (λ b. b == mark) text) (length text)
    then Some (after_first (λ b. b == mark) text) else None

-- the first word of a text, and what follows the blank after it, if there is one
abbrev pub first_word : List ℕ → List ℕ
first_word text = before 32 text

abbrev pub after_word : List ℕ → Option (List ℕ)
after_word text = after 32 text

-- an empty line and a comment say nothing
abbrev pub SaysNothing : List ℕ → Type 0
SaysNothing line = (line ≡ []) ⊎ ((comment : List ℕ) × (line ≡ 35 ∷ comment))

-- what is left of a line begins with the text of this SID; and what is left after its first word
abbrev pub BeginsWithSid : Option (List ℕ) → SidValue → Type 0
BeginsWithSid None sid = ⊥
BeginsWithSid (Some text) sid = Spells sid_text (first_word text) sid

abbrev pub left_after : Option (List ℕ) → Option (List ℕ)
left_after None = None
left_after (Some text) = after_word text

-- a control character
abbrev pub is_control : ℕ → Bool
is_control c = nat_lt c 32 || (c == 127)

-- a name has at least one character, and no control character
abbrev pub IsName : List ℕ → Type 0
IsName name = (0 < length name) × (list_any is_control name ≡ false)

-- what is left of a line is a SID and then a name; two SIDs; or one SID
abbrev pub IsSidAndName : Option (List ℕ) → SidValue → List ℕ → Type 0
IsSidAndName left sid name = BeginsWithSid left sid × (left_after left ≡ Some name) × IsName name

abbrev pub AreTwoSids : Option (List ℕ) → SidValue → SidValue → Type 0
AreTwoSids left one two = BeginsWithSid left one × BeginsWithSid (left_after left) two
    × (left_after (left_after left) ≡ None)

abbrev pub IsOneSid : Option (List ℕ) → SidValue → Type 0
IsOneSid left sid = BeginsWithSid left sid × (left_after left ≡ None)

-- the line says this
abbrev pub IsRow : List ℕ → AccountRow → Type 0
IsRow line (User sid name) = (first_word line ≡ codes "user") × IsSidAndName (after_word line) sid name
IsRow line (Group sid name) = (first_word line ≡ codes "group") × IsSidAndName (after_word line) sid name
IsRow line (Member group member) = (first_word line ≡ codes "member") × AreTwoSids (after_word line) group member
IsRow line (Primary user group) = (first_word line ≡ codes "primary") × AreTwoSids (after_word line) user group
IsRow line (Disabled user) = (first_word line ≡ codes "disabled") × IsOneSid (after_word line) user

-- the lines say these rows, in their order
pub data AreRows : List (List ℕ) → List AccountRow → Type 0 where
  none : AreRows [] []
  nothing : (line : List ℕ) (lines : List (List ℕ)) (rows : List AccountRow)
      → SaysNothing line → AreRows lines rows → AreRows (line ∷ lines) rows
  row : (line : List ℕ) (lines : List (List ℕ)) (one : AccountRow) (rows : List AccountRow)
      → IsRow line one → AreRows lines rows → AreRows (line ∷ lines) (one ∷ rows)
