-- A line is read as one thing, or has one fault.
use Rattle.sd_script.proofs.Cited.{Aliases, AreGroups, Argument, Arguments, Asks, Bool, Dacl, DescriptorValue, Err, Groups, Imported, Listed, IsMaskIn, IsNumber, IsPath, IsToken, LineFault, List, Mask, Names, Node, None, Notation, Number, Ok, Option, Path, PathSpelling, Percent, Plain, Reading, Result, ScriptCommand, Sid, Some, SomeOr, Spelling, Spells, Then, Token, [], ap, asks, asks_where, between_pluses, cases_Bool, command_of, dacl_of, descriptor, descriptor_in, false, groups_one, import_of, inl, inr, is_untimely, line_asks, mask_text, no_fault, node_of, one_fault, one_joined, one_value, reading, reads, reads_where, sddl_in, sid_text_in, sym, token_one, true, words_of, ℕ, ◌∙◌, ◌∷◌, ◌≡◌, ◌▸◌}
use Rattle.sd_script.specs.Argument.{list_of, mask}
use Rattle.sd_script.specs.Command.{Requested}
use Rattle.sd_script.specs.Fault.{Just}
use Rattle.sd_line.specs.Request.{requested}
use Rattle.sd_line.specs.declared.spelling.Spelling.TheVariants as spellings
use Rattle.sd_script.specs.declared.fault.LineFault.TheVariants as faults
use Rattle.sd_text.proofs.Parts.{found_is, stopped_is}
use Rattle.sd_whole.specs.Plain.{plain_part}
use Rattle.sd_whole.specs.declared.descriptor.WholeDescriptor.{WholeDescriptor}
use Rattle.sd_whole.specs.declared.plain.OddEntry.{OddEntry}
use Rattle.sd_whole_parse.specs.Part.{IsWhole, left_out_of}
use Rattle.sd_whole_parse.specs.declared.part.LeftOut.{LeftOut}

-- ---- readings

-- at most one thing is read
abbrev pub IsOne : {A : Type 0} → Reading A → Type 0
IsOne {A = A} reading = (r s : Result A LineFault) → reading r → reading s → r ≡ s

SomeOr-one : {A : Type 0} (P : A → Type 0) (fault : LineFault) → ((a b : A) → P a → P b → a ≡ b) → IsOne (SomeOr P fault)
SomeOr-one P fault one (Ok a) (Ok b) x y = ap Ok (one a b x y)
SomeOr-one P fault one (Ok a) (Err f) x y = absurd (y.0 a x)
SomeOr-one P fault one (Err f) (Ok a) x y = absurd (x.0 a y)
SomeOr-one P fault one (Err f) (Err g) x y = cc (x.1, y.1)

Then-one : {A B : Type 0} (first : Reading A) (next : A → Reading B) → IsOne first → ((a : A) → IsOne (next a)) → IsOne (Then first next)
Then-one first next one more r s (inl (a, x, after)) (inl (b, y, other)) =
    let same : a ≡ b = cc (one (Ok a) (Ok b) x y) in more b r s (rw same at after) other
Then-one first next one more r s (inl x) (inr y) = absurd (cc (one (Ok x.0) (Err y.0) x.1 y.1))
Then-one first next one more r s (inr x) (inl y) = absurd (cc (one (Err x.0) (Ok y.0) x.1 y.1))
Then-one first next one more r s (inr x) (inr y) = cc (one (Err x.0) (Err y.0) x.1 y.1, x.2, y.2)

-- ---- arguments

one_path : (paths : PathSpelling) (word : List ℕ) (a b : Names) → IsPath paths word a → IsPath paths word b → a ≡ b
one_path Plain word a b x y = cc (x, y)
one_path Percent word a b x y = cc (x.3, y.3)

one_mask : (spelling : Spelling) (word : List ℕ) (a b : ℕ) → IsMaskIn spelling word a → IsMaskIn spelling word b → a ≡ b
one_mask spellings.Number word a b x y = one_value mask_text word a b x y
one_mask (spellings.Names kind) [] a b x y = x ∙ sym y
one_mask (spellings.Names kind) (c ∷ word) a b x y = one_joined kind 0 (between_pluses (c ∷ word)) a b x y

abbrev part_is : {A : Type 0} → A → Result A OddEntry
part_is a = Ok a

one_part : {A : Type 0} (a b : A) → part_is a ≡ part_is b → a ≡ b
one_part a b same = cc

abbrev odd_is : {A : Type 0} → OddEntry → Result A OddEntry
odd_is odd = Err odd

one_odd : {A : Type 0} (a b : OddEntry) → odd_is {A = A} a ≡ odd_is b → a ≡ b
one_odd a b same = cc

no_part : {A : Type 0} (a : A) (odd : OddEntry) → part_is a ≡ odd_is odd → ⊥
no_part a odd same = cc

-- what one text spells is one
same_whole : (known : Aliases) (word : List ℕ) (w v : WholeDescriptor) → IsWhole known word w → IsWhole known word v → w ≡ v
same_whole known word w v x y = (found_is w v [] [] (sym x ∙ y)).0

-- and so is its plain part
same_part : (known : Aliases) (word : List ℕ) (w v : WholeDescriptor) → IsWhole known word w → IsWhole known word v → plain_part w ≡ plain_part v
same_part known word w v x y = ap plain_part (same_whole known word w v x y)

-- a descriptor, and what was left out
both_one : (a b : DescriptorValue × LeftOut) → a.0 ≡ b.0 → a.1 ≡ b.1 → ◌≡◌ {A = Result (DescriptorValue × LeftOut) LineFault} (Ok a) (Ok b)
both_one a b first second = λ i. Ok (first i, second i)

-- a text has one descriptor or one fault, whether it may be that of a whole one or not
one_whole : (known : Aliases) (word : List ℕ) → IsOne (descriptor_in known true word)
one_whole known word (Ok a) (Ok b) (w, x, part, l) (v, y, other, m) =
    both_one a b (one_part a.0 b.0 (sym part ∙ same_part known word w v x y ∙ other)) (l ∙ ap left_out_of (same_whole known word w v x y) ∙ sym m)
one_whole known word (Ok a) (Err f) (w, x, part, l) (inl (fault, place, (there, y, at), is)) = absurd cc
one_whole known word (Ok a) (Err f) (w, x, part, l) (inr (odd, (t, v, y, none), is)) = absurd (no_part a.0 odd (sym part ∙ same_part known word w v x y ∙ none))
one_whole known word (Err f) (Ok a) (inl (fault, place, (there, y, at), is)) (w, x, part, l) = absurd cc
one_whole known word (Err f) (Ok a) (inr (odd, (t, v, y, none), is)) (w, x, part, l) = absurd (no_part a.0 odd (sym part ∙ same_part known word w v x y ∙ none))
one_whole known word (Err f) (Err g) (inl (fault, place, (there, x, at), is)) (inl (other, spot, (rest, y, on), was)) =
    let same = stopped_is fault other there rest (sym x ∙ y) in cc (same.0, same.1, at, on, is, was)
one_whole known word (Err f) (Err g) (inl (fault, place, (there, x, at), is)) (inr (odd, (t, v, y, none), was)) = absurd cc
one_whole known word (Err f) (Err g) (inr (odd, (t, v, y, none), was)) (inl (fault, place, (there, x, at), is)) = absurd cc
one_whole known word (Err f) (Err g) (inr (odd, (t, v, x, none), is)) (inr (other, (u, w, y, neither), was)) =
    let same : odd ≡ other = one_odd {A = DescriptorValue} odd other (sym none ∙ same_part known word v w x y ∙ neither) in cc (same, is, was)

one_plain : (known : Aliases) (word : List ℕ) → IsOne (descriptor_in known false word)
one_plain known word (Ok a) (Ok b) x y = both_one a b (one_value (sddl_in known) word a.0 b.0 x.0 y.0) (x.1 ∙ sym y.1)
one_plain known word (Ok a) (Err f) x (inl y) = absurd (no_fault (sddl_in known) word a.0 y.0 y.1 x.0 y.2)
one_plain known word (Ok a) (Err f) x (inr y) = absurd (cc y.1.0)
one_plain known word (Err f) (Ok a) (inl x) y = absurd (no_fault (sddl_in known) word a.0 x.0 x.1 y.0 x.2)
one_plain known word (Err f) (Ok a) (inr x) y = absurd (cc x.1.0)
one_plain known word (Err f) (Err g) (inl x) (inl y) =
    let same = one_fault (sddl_in known) word x.0 y.0 x.1 y.1 x.2 y.2 in cc (same.0, same.1, x.3, y.3)
one_plain known word (Err f) (Err g) (inl x) (inr y) = absurd (cc y.1.0)
one_plain known word (Err f) (Err g) (inr x) y = absurd (cc x.1.0)

one_descriptor : (known : Aliases) (whole : Bool) (word : List ℕ) → IsOne (descriptor_in known whole word)
one_descriptor known true = one_whole known
one_descriptor known false = one_plain known

-- what a descriptor is for
described-one : {A : Type 0} (notation : Notation) (word : List ℕ) (f : DescriptorValue × LeftOut → Result A LineFault)
    → IsOne (Then (descriptor notation word) (λ d read. read ≡ f d))
described-one notation word f =
    Then-one (descriptor notation word) (λ d read. read ≡ f d) (one_descriptor notation.aliases notation.whole word) (λ d r s x y. x ∙ sym y)

mask-one : (notation : Notation) (word : List ℕ) → IsOne (mask notation word)
mask-one notation word = SomeOr-one (IsMaskIn notation.spelling word) faults.Mask (one_mask notation.spelling word)

argument-one : (notation : Notation) (argument : Argument) → IsOne (reading notation argument)
argument-one notation (Number word) = SomeOr-one (IsNumber word) faults.Number (λ a b x y. sym x.1 ∙ y.1)
argument-one notation (Path word) = SomeOr-one (IsPath notation.paths word) faults.Path (one_path notation.paths word)
argument-one notation (Sid word) =
    SomeOr-one (Spells (sid_text_in notation.aliases) word) faults.Sid (one_value (sid_text_in notation.aliases) word)
argument-one notation (Mask word) = mask-one notation word
argument-one notation (Requested word) =
    Then-one (mask notation word) (λ asked. Just (requested notation.kind asked)) (mask-one notation word) (λ asked r s x y. x ∙ sym y)
argument-one notation (Node word) = described-one notation word node_of
argument-one notation (Dacl word) = described-one notation word dacl_of
argument-one notation (Imported word) = described-one notation word import_of
argument-one notation (Listed word) = described-one notation word list_of
argument-one notation (Token user words) =
    SomeOr-one (IsToken notation.aliases user words) faults.Token (token_one notation.aliases user words)
argument-one notation (Groups words) = SomeOr-one (AreGroups notation.aliases words) faults.Token (groups_one notation.aliases words)

-- ---- lines

reads-one : (notation : Notation) (arguments : Arguments) → IsOne (reads notation arguments)
reads-one notation (Asks asked) = λ r s x y. x ∙ sym y
reads-one notation (argument ▸ next) =
    Then-one (reading notation argument) (λ value. reads notation (next value)) (argument-one notation argument) (λ value. reads-one notation (next value))

where-one : (notation : Notation) (is_open : Bool) (name : ScriptCommand) (arguments : Option Arguments) → IsOne (reads_where notation is_open name arguments)
where-one notation is_open name None r s x y = x ∙ sym y
where-one notation is_open name (Some arguments) r s x y = elim (cases_Bool (is_untimely is_open name)) [
  | inl late ↦ (rw late at x) ∙ sym (rw late at y)
  | inr timely ↦ reads-one notation arguments r s (rw timely at x) (rw timely at y)
]

command-one : (notation : Notation) (is_open : Bool) (command : Option (ScriptCommand × List (List ℕ))) → IsOne (asks_where notation is_open command)
command-one notation is_open None r s x y = x ∙ sym y
command-one notation is_open (Some (name, arguments)) r s x y = where-one notation is_open name (asks name arguments) r s x y

-- a line asks for one thing, or has one fault
pub line-one : (notation : Notation) (is_open : Bool) (text : List ℕ) → IsOne (line_asks notation is_open text)
line-one notation is_open text r s (inl x) (inl y) = command-one notation is_open (command_of (words_of text)) r s x.1 y.1
line-one notation is_open text r s (inl x) (inr y) = absurd (y.0 x.0)
line-one notation is_open text r s (inr x) (inl y) = absurd (x.0 y.0)
line-one notation is_open text r s (inr x) (inr y) = x.1 ∙ sym y.1
