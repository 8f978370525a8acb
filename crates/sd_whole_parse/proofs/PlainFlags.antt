-- What the text of a plain descriptor spells: entries with named flags, and no words without a DACL.
use Rattle.std.proofs.Common.{List, [], arith, false, inl, inr, lit<, refl, subst, suc, sym, true, zero, ℕ, ◌++◌, ◌<◌, ◌∙◌, ◌∷◌, ◌≡◌}
use Rattle.std.specs.Prelude.{Bool, bit_and, bit_or, fold, not, ◌==◌, ◌&&◌, ◌||◌}
use Rattle.std.specs.List.{AllByRecursion}
use Rattle.std.proofs.lemmas.Bool.{and_parts, cases_lt, eq-eqb, eqb-true}
use Rattle.std.proofs.lemmas.Nat.{and_or_apart}
use Rattle.sd_acl.specs.Ace.{acl_size_of, all_named}
use Rattle.sd_acl.specs.Dacl.{Dacl}
use Rattle.sd_acl.specs.Descriptor.{HasNamedFlags, HaveNamedFlags}
use Rattle.sd_acl.specs.declared.ace.Ace.{Ace}
use Rattle.sd_acl.specs.declared.descriptor.DaclOf.TheVariants.{Absent, Null, List as Entries}
use Rattle.sd_text.proofs.Engine.{spells_find}
use Rattle.sd_text.proofs.Tables.{bits_below, named_all}
use Rattle.sd_text.specs.Entry.{entries, entry, entry_end, flag_names, opening}
use Rattle.sd_text.specs.Grammar.{Items, spells, value}
use Rattle.sd_text.specs.Rights.{bits_of}
use Rattle.sd_text.specs.Sddl.{dacl_behind, dacl_section}
use Rattle.sd_text.specs.declared.alias.Aliases.{Aliases}
use Rattle.sd_text.specs.declared.descriptor.DaclWords.{DaclWords}

-- ---- bytes without the flag that has no name

all_below : (ℕ → Bool) → ℕ → Bool
all_below p zero = true
all_below p (suc n) = p n && all_below p n

each_below : (p : ℕ → Bool) (n k : ℕ) → all_below p n ≡ true → k < n → p k ≡ true
unfolding all_below
each_below p zero k all lt = absurd (omega arith)
each_below p (suc n) k all lt =
    let both = and_parts (p n) (all_below p n) all in
    elim (cases_lt k n) [ inl below ↦ each_below p n k both.1 below | inr above ↦ let same : n ≡ k = omega arith in rw (sym same) both.0 ]

stays_named : ℕ → Bool
stays_named flags = not (bit_and flags 0x20 == 0) || (bit_and flags all_named == flags)

tried : all_below stays_named 256 ≡ true
unfolding all_below stays_named
tried = refl

without_it : (flags : ℕ) → flags < 256 → bit_and flags 0x20 ≡ 0 → bit_and flags all_named ≡ flags
unfolding stays_named
without_it flags lt none =
    let test = each_below stays_named 256 flags tried lt in
    eqb-true (bit_and flags all_named) flags (rw (eq-eqb (bit_and flags 0x20) 0 none) at test)

-- ---- the flags of an entry

-- a mask without it
abbrev IsClear : ℕ → Type 0
IsClear mask = bit_and mask 0x20 ≡ 0

fold_clear : (start : ℕ) (masks : List ℕ) → IsClear start → AllByRecursion IsClear masks → IsClear (fold bit_or start masks)
fold_clear start [] clear all = clear
fold_clear start (mask ∷ masks) clear all =
    fold_clear (bit_or start mask) masks (and_or_apart 0x20 start mask all.0 ∙ clear) all.1

names_clear : AllByRecursion (λ name. IsClear name.stands_for) flag_names
names_clear = (refl, (refl, (refl, (refl, (refl, (refl, (refl, tt)))))))

items_clear : (before : List ℕ) (text : List ℕ) (masks : List ℕ) (behind : List ℕ) → Items flag_names (λ earlier mask. spells (value mask)) before text masks behind → AllByRecursion IsClear masks
items_clear before text [] behind items = tt
items_clear before text (mask ∷ masks) behind items =
    (subst IsClear (sym items.4.0) (named_all IsClear flag_names text items.0 items.1 names_clear items.3), items_clear (before ++ mask ∷ []) items.2 masks behind items.5)

flags_named : (text : List ℕ) (flags : ℕ) (behind : List ℕ) → spells (bits_of flag_names) text flags behind → bit_and flags all_named ≡ flags
unfolding bits_of
flags_named text flags behind s =
    let below = bits_below 8 flag_names (lit< tt, (lit< tt, (lit< tt, (lit< tt, (lit< tt, (lit< tt, (lit< tt, tt))))))) text flags behind (spells_find (bits_of flag_names) text flags behind s) in
    let clear : IsClear flags = subst IsClear (sym s.3.0) (fold_clear 0 s.0 refl (items_clear [] text s.0 s.1 s.2.0)) in
    without_it flags below clear

-- ---- entries

entry_named : (known : Aliases) (size : ℕ) (text : List ℕ) (e : Ace) (behind : List ℕ) → spells (entry known size) text e behind → HasNamedFlags e
unfolding entry entry_end
entry_named known size text e behind s =
    let first = s.3 in
    let flags = first.3 in
    let second = flags.3 in
    let mask = second.3 in
    let third = mask.3 in
    let object = third.3 in
    let inherit = object.3 in
    let trustee = inherit.3 in
    elim trustee.3 [
      | inl h ↦ absurd h.1
      | inr h ↦ subst HasNamedFlags (sym h.1.3.0) (flags_named first.1 flags.0 flags.1 flags.2)
    ]

items_named : (known : Aliases) (before : List Ace) (text : List ℕ) (es : List Ace) (behind : List ℕ)
    → Items opening (λ earlier u. spells (entry known (acl_size_of earlier))) before text es behind → AllByRecursion HasNamedFlags es
items_named known before text [] behind items = tt
items_named known before text (e ∷ es) behind items =
    (entry_named known (acl_size_of before) items.1 e items.2 items.4, items_named known (before ++ e ∷ []) items.2 es behind items.5)

entries_named : (known : Aliases) (text : List ℕ) (es : List Ace) (behind : List ℕ) → spells (entries known) text es behind → AllByRecursion HasNamedFlags es
unfolding entries
entries_named known text es behind s = items_named known [] text es behind s.0

-- ---- the section of a DACL

-- without a DACL there are no words
abbrev pub HasNoWords : Dacl → (protected auto_req auto_inherited : Bool) → Type 0
HasNoWords Absent p r i = (p ≡ false) × (r ≡ false) × (i ≡ false)
HasNoWords Null p r i = Unit {0}
HasNoWords (Entries es) p r i = Unit {0}

behind_named : (known : Aliases) (words : DaclWords) (text : List ℕ) (part : _) (behind : List ℕ) → spells (dacl_behind known words) text part behind
    → HaveNamedFlags part.dacl × HasNoWords part.dacl part.words.protected part.words.auto_req part.words.auto_inherited
unfolding dacl_behind
behind_named known words text part behind s = elim s [
  | inl h ↦ rw h.1.0 (tt, tt)
  | inr h ↦ rw h.1.3.0 (entries_named known text h.1.0 h.1.1 h.1.2, tt)
]

pub section_named : (known : Aliases) (text : List ℕ) (part : _) (behind : List ℕ) → spells (dacl_section known) text part behind
    → HaveNamedFlags part.dacl × HasNoWords part.dacl part.words.protected part.words.auto_req part.words.auto_inherited
unfolding dacl_section
section_named known text part behind s = elim s [
  | inl h ↦ let words = h.1.3 in behind_named known words.0 words.1 part behind words.3
  | inr h ↦ rw h.1.0 (tt, (refl, refl, refl))
]
