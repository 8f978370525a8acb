-- The faults of an accounts file: which line says nothing that a line may say, and why.
use Rattle.std.specs.Prelude.{◌≡◌, ◌⊎◌, ◌+◌, ℕ, List, [], ◌∷◌, ◌++◌, length, Option, Some, None, Contains, codes}
use Rattle.sd_sid.specs.Sid.{SidValue}
use Rattle.sd_accounts.specs.declared.fault.AccountsFault.{AccountsFault}
use Rattle.sd_accounts.specs.declared.fault.AccountsFault.TheVariants.{Keyword, Sid, Name, Surplus, Incomplete}
use Rattle.sd_accounts.specs.Row.{AccountRow, AreRows, BeginsWithSid, IsName, SaysNothing, after_word, first_word}
use Rattle.sd_accounts.specs.Row.{left_after}

-- the words with which a row begins, and a line that says that rows are missing
abbrev pub keywords : List (List ℕ)
keywords = codes "user" ∷ codes "group" ∷ codes "member" ∷ codes "primary" ∷ codes "disabled"
    ∷ codes "incomplete" ∷ []

-- what is left of a line begins with no text of a SID; is no name; or is something
abbrev pub BeginsWithNoSid : Option (List ℕ) → Type 0
BeginsWithNoSid left = (sid : SidValue) → BeginsWithSid left sid → ⊥

abbrev pub IsNoName : Option (List ℕ) → Type 0
IsNoName left = (name : List ℕ) → left ≡ Some name → IsName name → ⊥

abbrev pub IsSomething : Option (List ℕ) → Type 0
IsSomething left = left ≡ None → ⊥

-- why what is left of a line is no SID and name; no two SIDs; or no SID
abbrev pub IsNoSidAndName : Option (List ℕ) → AccountsFault → Type 0
IsNoSidAndName left Keyword = ⊥
IsNoSidAndName left Sid = BeginsWithNoSid left
IsNoSidAndName left Name = ((sid : SidValue) × BeginsWithSid left sid) × IsNoName (left_after left)
IsNoSidAndName left Surplus = ⊥
IsNoSidAndName left Incomplete = ⊥

abbrev pub AreNoTwoSids : Option (List ℕ) → AccountsFault → Type 0
AreNoTwoSids left Keyword = ⊥
AreNoTwoSids left Sid = BeginsWithNoSid left ⊎ BeginsWithNoSid (left_after left)
AreNoTwoSids left Name = ⊥
AreNoTwoSids left Surplus = ((one : SidValue) × BeginsWithSid left one)
    × ((two : SidValue) × BeginsWithSid (left_after left) two) × IsSomething (left_after (left_after left))
AreNoTwoSids left Incomplete = ⊥

abbrev pub IsNoOneSid : Option (List ℕ) → AccountsFault → Type 0
IsNoOneSid left Keyword = ⊥
IsNoOneSid left Sid = BeginsWithNoSid left
IsNoOneSid left Name = ⊥
IsNoOneSid left Surplus = ((sid : SidValue) × BeginsWithSid left sid) × IsSomething (left_after left)
IsNoOneSid left Incomplete = ⊥

-- why the line says nothing that a row may say
pub data IsNoRow (line : List ℕ) : AccountsFault → Type 0 where
  no_keyword : (Contains keywords (first_word line) → ⊥) → IsNoRow line Keyword
  incomplete : first_word line ≡ codes "incomplete" → IsNoRow line Incomplete
  no_user : (fault : AccountsFault) → first_word line ≡ codes "user" → IsNoSidAndName (after_word line) fault
      → IsNoRow line fault
  no_group : (fault : AccountsFault) → first_word line ≡ codes "group" → IsNoSidAndName (after_word line) fault
      → IsNoRow line fault
  no_member : (fault : AccountsFault) → first_word line ≡ codes "member" → AreNoTwoSids (after_word line) fault
      → IsNoRow line fault
  no_primary : (fault : AccountsFault) → first_word line ≡ codes "primary" → AreNoTwoSids (after_word line) fault
      → IsNoRow line fault
  no_disabled : (fault : AccountsFault) → first_word line ≡ codes "disabled" → IsNoOneSid (after_word line) fault
      → IsNoRow line fault

-- the line of this number, counted from 1, is the first that is neither a row nor says nothing, and this is why
pub record IsFirstNoRow (lines : List (List ℕ)) (number : ℕ) (fault : AccountsFault) : Type 0 where
  pub before : List (List ℕ)
  pub rows : List AccountRow
  pub line : List ℕ
  pub after : List (List ℕ)
  pub parts : lines ≡ before ++ line ∷ after
  pub place : number ≡ length before + 1
  pub are_rows : AreRows before rows
  pub something : SaysNothing line → ⊥
  pub no_row : IsNoRow line fault
