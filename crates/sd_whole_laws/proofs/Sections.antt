-- The printed section of a SACL or a DACL, of the owner or the group, is parsed as it is.
use Rattle.std.proofs.Common.{List, None, Ok, Option, Some, [], append_assoc, drop, false, length, refl, true, ℕ, ◌++◌, ◌∷◌, ◌≡◌, ◌≤◌, ◌∙◌}
use Rattle.std.specs.Prelude.{Bool, IfSome, codes}
use Rattle.std.specs.List.{AllByRecursion, flat_map}
use Rattle.sd_acl.specs.declared.descriptor.DaclOf.TheVariants.{Absent, Null, List as Entries}
use Rattle.sd_sid.specs.Sid.{IsSid, SidValue}
use Rattle.sd_text.proofs.CanonSids.{Stops, sid_read}
use Rattle.sd_text.specs.Canon.{section_canon, sid_canon, where_set}
use Rattle.sd_text.specs.Finding.{find}
use Rattle.sd_text.specs.Grammar.{begins}
use Rattle.sd_text.specs.Sddl.{no_words, sid_section, words}
use Rattle.sd_text.specs.declared.alias.Aliases.{Aliases}
use Rattle.sd_text.specs.declared.descriptor.DaclWords.{DaclWords}
use Rattle.sd_text.specs.declared.right_names.RightNames.{RightNames}
use Rattle.sd_whole.specs.Entry.{whole_acl_size}
use Rattle.sd_whole.specs.declared.ace.WholeAce.{WholeAce}
use Rattle.sd_whole_parse.specs.Acl.{acl_behind, acl_section, list_of}
use Rattle.sd_whole_text.specs.Entry.{entry_text}
use Rattle.sd_whole_laws.proofs.Entries.{IsReadable}
use Rattle.sd_whole_laws.proofs.Lists.{Ends, entries_read, starts_here, text_of}

-- ---- what follows the DACL or the SACL

-- nothing, or a SACL
pub data After : Type 0 where
  nothing : After
  sacl : List ℕ → After

abbrev pub after_text : After → List ℕ
after_text nothing = []
after_text (sacl text) = codes "S:" ++ text

pub after_ends : (after : After) → Ends (after_text after)
after_ends nothing = record { no_entry = refl; no_space = refl }
after_ends (sacl text) = record { no_entry = refl; no_space = refl }

-- ---- keywords

abbrev pub words_of : Bool → Bool → Bool → Bool → DaclWords
words_of p r i none = record { protected = p; auto_req = r; auto_inherited = i; no_access_control = none }

abbrev pub letters : Bool → Bool → Bool → List ℕ
letters p r i = where_set p (codes "P") ++ where_set r (codes "AR") ++ where_set i (codes "AI")

-- what holds of three tests, however they go
of_three : (P : Bool → Bool → Bool → Type 0) → P true true true → P true true false → P true false true → P true false false → P false true true → P false true false → P false false true → P false false false → (p r i : Bool) → P p r i
of_three P a b c d e f g h true true true = a
of_three P a b c d e f g h true true false = b
of_three P a b c d e f g h true false true = c
of_three P a b c d e f g h true false false = d
of_three P a b c d e f g h false true true = e
of_three P a b c d e f g h false true false = f
of_three P a b c d e f g h false false true = g
of_three P a b c d e f g h false false false = h

before_entry : (text : List ℕ) (p r i : Bool) → find words (letters p r i ++ 40 ∷ text) ≡ Ok (words_of p r i false, 40 ∷ text)
unfolding words
before_entry text = of_three (λ p r i. find words (letters p r i ++ 40 ∷ text) ≡ Ok (words_of p r i false, 40 ∷ text)) refl refl refl refl refl refl refl refl

before_end : (after : After) (p r i : Bool) → find words (letters p r i ++ after_text after) ≡ Ok (words_of p r i false, after_text after)
unfolding words
before_end nothing = of_three (λ p r i. find words (letters p r i ++ []) ≡ Ok (words_of p r i false, [])) refl refl refl refl refl refl refl refl
before_end (sacl text) = of_three (λ p r i. find words (letters p r i ++ 83 ∷ 58 ∷ text) ≡ Ok (words_of p r i false, 83 ∷ 58 ∷ text)) refl refl refl refl refl refl refl refl

without_control : (after : After) (p r i : Bool) → find words (letters p r i ++ (codes "NO_ACCESS_CONTROL" ++ after_text after)) ≡ Ok (words_of p r i true, after_text after)
unfolding words
without_control nothing = of_three (λ p r i. find words (letters p r i ++ (codes "NO_ACCESS_CONTROL" ++ [])) ≡ Ok (words_of p r i true, [])) refl refl refl refl refl refl refl refl
without_control (sacl text) = of_three (λ p r i. find words (letters p r i ++ (codes "NO_ACCESS_CONTROL" ++ 83 ∷ 58 ∷ text)) ≡ Ok (words_of p r i true, 83 ∷ 58 ∷ text)) refl refl refl refl refl refl refl refl

before_entries : (known : Aliases) (names : RightNames) (es : List WholeAce) (after : After) (p r i : Bool) → AllByRecursion (IsReadable known names) es
    → find words (letters p r i ++ text_of names es (after_text after)) ≡ Ok (words_of p r i false, text_of names es (after_text after))
before_entries known names [] after p r i each = before_end after p r i
before_entries known names (e ∷ es) after p r i each =
    let text : text_of names (e ∷ es) (after_text after) ≡ 40 ∷ each.0.behind (text_of names es (after_text after)) =
    append_assoc (entry_text names e) (flat_map (entry_text names) es) (after_text after) ∙ each.0.opens (text_of names es (after_text after)) in
    rw text (before_entry (each.0.behind (text_of names es (after_text after))) p r i)

-- ---- the sections of lists

-- the head of a section is parsed as it
abbrev pub IsHead : List ℕ → Type 0
IsHead head = (text : List ℕ) → (begins (head ++ text) head ≡ true) × (drop (length head) (head ++ text) ≡ text)

regroup : (head words rest after : List ℕ) → (head ++ words ++ rest) ++ after ≡ head ++ (words ++ (rest ++ after))
regroup head words rest after = simp append_assoc

pub list_read : (known : Aliases) (names : RightNames) (head : List ℕ) (p r i : Bool) (es : List WholeAce) (after : After) → IsHead head → AllByRecursion (IsReadable known names) es → whole_acl_size es ≤ 65535
    → acl_section known head ((head ++ letters p r i ++ flat_map (entry_text names) es) ++ after_text after) ≡ Ok (record { acl = Entries (list_of es); words = words_of p r i false }, after_text after)
unfolding acl_section acl_behind
list_read known names head p r i es after is each fits =
    let here = is (letters p r i ++ text_of names es (after_text after)) in
    rw (
      regroup head (letters p r i) (flat_map (entry_text names) es) (after_text after),
      here.0,
      here.1,
      before_entries known names es after p r i each,
      starts_here known names es (after_text after) each (after_ends after),
      entries_read known names es (after_text after) each (after_ends after) fits,
    ) refl

pub null_read : (known : Aliases) (head : List ℕ) (p r i : Bool) (after : After) → IsHead head
    → acl_section known head ((head ++ letters p r i ++ codes "NO_ACCESS_CONTROL") ++ after_text after) ≡ Ok (record { acl = Null; words = words_of p r i true }, after_text after)
unfolding acl_section acl_behind
null_read known head p r i after is =
    let here = is (letters p r i ++ (codes "NO_ACCESS_CONTROL" ++ after_text after)) in
    rw (regroup head (letters p r i) (codes "NO_ACCESS_CONTROL") (after_text after), here.0, here.1, without_control after p r i) refl

pub absent_read : (known : Aliases) (head : List ℕ) (after : After) → begins (after_text after) head ≡ false → acl_section known head (after_text after) ≡ Ok (record { acl = Absent; words = no_words }, after_text after)
unfolding acl_section
absent_read known head after none = rw none refl

-- ---- the section of a SID

pub trustee_section : (known : Aliases) (head : List ℕ) (o : Option SidValue) (rest : List ℕ) → IsHead head → IfSome o IsSid → Stops rest → begins rest head ≡ false → find (sid_section known head) (section_canon head o ++ rest) ≡ Ok (o, rest)
unfolding sid_section
trustee_section known head None rest opens is stops other = rw other refl
trustee_section known head (Some s) rest opens is stops other =
    let here = opens (sid_canon s ++ rest) in rw (append_assoc head (sid_canon s) rest, here.0, here.1, sid_read known s rest is stops) refl
