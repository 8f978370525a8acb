-- What find answers is what the relations say, for each grammar; so a text has one value or one fault.
use Rattle.sd_text.proofs.Cited.{Err, Found, GivesUnlessMemory, Grammar, HasFault, IfOk, IsErrOf, IsOkAnd, Items, List, Memory, Name, None, Ok, Option, Some, Spells, SpellsOne, TextFault, [], and_then, ap, append-nil, append_assoc, arith, begins, begins_digit, behind_part, choose, digits_len, digits_value, drop, end, eqb-true, false, faults, find, find_items, inl, inr, le-ltb, length, length-drop, lt-ltb, ltb-false, ltb-true, many, name_or, named, nat_lt, number, ok_or, one_of, refl, refused, spells, subst, suc, sym, take, true, value, whole, word, zero, ℕ, ◌++◌, ◌+◌, ◌-◌, ◌==◌, ◌∙◌, ◌∷◌, ◌≡◌, ◌≤◌, ◌⊎◌}
use Rattle.std.specs.Prelude.{Bool}
use Rattle.sd_text.proofs.Parts.{went, found, found_is, stopped, stopped_is, named_takes, named_none}
use Rattle.sd_text.proofs.Runs.{run_of, run_digits, run_behind, run_begins}

length-drop-le : (n : ℕ) (text : List ℕ) → length (drop n text) ≤ length text
length-drop-le n text = omega (arith, length-drop n text)

-- ---- what is found stands in the text

-- a value that was found is spelled there, a fault stands there, and the text from there on is no longer
abbrev Stands : {A : Type 0} → Grammar A → List ℕ → Found A → Type 0
Stands g text (Ok x) = spells g text x.0 x.1 × (length x.1 ≤ length text)
Stands g text (Err e) = faults g text e.0 e.1 × (length e.1 ≤ length text)

-- a part of a choice
part_stands : {A : Type 0} (part g : Grammar A) (text : List ℕ) → ((a : A) (behind : List ℕ) → spells part text a behind → spells g text a behind) → ((f : TextFault) (there : List ℕ) → faults part text f there → faults g text f there) → (r : Found A) → Stands part text r → Stands g text r
part_stands part g text spelled faulted (Ok x) is = (spelled x.0 x.1 is.0, is.1)
part_stands part g text spelled faulted (Err e) is = (faulted e.0 e.1 is.0, is.1)

then_stands : {A B : Type 0} (p : Grammar A) (next : A → Grammar B) (text : List ℕ) (r : Found A) → Stands p text r → ((a : A) (mid : List ℕ) → Stands (next a) mid (find (next a) mid)) → Stands (and_then p next) text (behind_part r (λ a mid. find (next a) mid))
then_stands p next text (Err e) first rest = (inl first.0, first.1)
then_stands {B = B} p next text (Ok x) first rest = behind (find (next x.0) x.1) (rest x.0 x.1)
  where
    behind : (r : Found B) → Stands (next x.0) x.1 r → Stands (and_then p next) text r
    behind (Ok y) second = ((x.0, x.1, first.0, second.0), omega arith)
    behind (Err e) second = (inr (x.0, x.1, first.0, second.0), omega arith)

one_stands : {A : Type 0} (names : List (Name A)) (p : Grammar A) (text : List ℕ) (o : Option (A × List ℕ)) → named names text ≡ o → Stands p text (find p text) → Stands (one_of names p) text (name_or o (λ a mid. Ok (a, mid)) (find p text))
one_stands names p text None none other = part_stands p (one_of names p) text (λ a behind is. inr (none, is)) (λ f there is. (none, is)) (find p text) other
one_stands names p text (Some x) name other = let lt = named_takes names text x.0 x.1 name in (inl name, omega arith)

module _ {A B : Type 0} (names : List (Name B)) (item : List A → B → Grammar A) where
  abbrev items_of : ℕ → List A → List ℕ → Found (List A)
  items_of n before text = find_items names (λ earlier b. find (item earlier b)) n before text

  abbrev Spelled : List A → List ℕ → List A → List ℕ → Type 0
  Spelled before text xs behind = Items names (λ earlier b. spells (item earlier b)) before text xs behind

  -- the items that were found, up to where no name or a fault stands
  abbrev ItemsStand : List A → List ℕ → Found (List A) → Type 0
  ItemsStand before text (Ok x) = (ys : List A) × (x.0 ≡ before ++ ys) × Spelled before text ys x.1 × (named names x.1 ≡ None) × (length x.1 ≤ length text)
  ItemsStand before text (Err e) = (ys : List A) × (last : List ℕ) × (b : B) × (mid : List ℕ) × Spelled before text ys last × (named names last ≡ Some (b, mid)) × faults (item (before ++ ys) b) mid e.0 e.1 × (length e.1 ≤ length text)

  -- an item, and those after it
  items_after : (before : List A) (text : List ℕ) (b : B) (mid : List ℕ) (x : A) (after : List ℕ) → named names text ≡ Some (b, mid) → spells (item before b) mid x after → length after ≤ length text → (r : Found (List A)) → ItemsStand (before ++ x ∷ []) after r → ItemsStand before text r
  items_after before text b mid x after name one le (Ok y) rest = (x ∷ rest.0, rest.1 ∙ append_assoc before (x ∷ []) rest.0, (b, mid, after, name, one, rest.2), rest.3, omega arith)
  items_after before text b mid x after name one le (Err e) rest = (x ∷ rest.0, rest.1, rest.2, rest.3, (b, mid, after, name, one, rest.4), rest.5, rw (sym (append_assoc before (x ∷ []) rest.0)) rest.6, omega arith)

  -- what is found of an item, and behind it
  item_stands : (n : ℕ) (before : List A) (text : List ℕ) (b : B) (mid : List ℕ) → ((x : A) (after : List ℕ) → length after ≤ n → ItemsStand (before ++ x ∷ []) after (items_of n (before ++ x ∷ []) after)) → length text ≤ suc n → named names text ≡ Some (b, mid) → (r : Found A) → Stands (item before b) mid r → ItemsStand before text (behind_part r (λ x after. items_of n (before ++ x ∷ []) after))
  item_stands n before text b mid rest le name (Err e) one =
      let lt = named_takes names text b mid name in ([], text, b, mid, refl, name, rw (append-nil before) one.0, omega arith)
  item_stands n before text b mid rest le name (Ok x) one =
      let lt = named_takes names text b mid name in
      items_after before text b mid x.0 x.1 name one.0 (omega arith) (items_of n (before ++ x.0 ∷ []) x.1) (rest x.0 x.1 (omega arith))

  items_stand : ((before : List A) (b : B) (mid : List ℕ) → Stands (item before b) mid (find (item before b) mid)) → (n : ℕ) (before : List A) (text : List ℕ) → length text ≤ n → ItemsStand before text (items_of n before text)
  items_stand one zero before [] le = ([], sym (append-nil before), refl, named_none names, omega arith)
  items_stand one zero before (c ∷ text) le = absurd (omega arith)
  items_stand one (suc n) before text le = by_name (named names text) refl (λ x after. items_stand one n (before ++ x ∷ []) after)
    where
      by_name : (o : Option (B × List ℕ)) → named names text ≡ o → ((x : A) (after : List ℕ) → length after ≤ n → ItemsStand (before ++ x ∷ []) after (items_of n (before ++ x ∷ []) after)) → ItemsStand before text (name_or o (λ b mid. behind_part (find (item before b) mid) (λ x after. items_of n (before ++ x ∷ []) after)) (Ok (before, text)))
      by_name None none rest = ([], sym (append-nil before), refl, none, omega arith)
      by_name (Some x) name rest = item_stands n before text x.0 x.1 rest le name (find (item before x.0) x.1) (one before x.0 x.1)

  many_stands : (text : List ℕ) (r : Found (List A)) → ItemsStand [] text r → Stands (many names item) text r
  many_stands text (Ok x) is = ((rw is.1 is.2, is.3), is.4)
  many_stands text (Err e) is = ((is.0, is.1, is.2, is.3, is.4, is.5, is.6), is.7)

stands : {A : Type 0} (g : Grammar A) (text : List ℕ) → Stands g text (find g text)
stands (value a) text = ((refl, refl), omega arith)
stands (refused f) text = ((refl, refl), omega arith)
stands (choose test p q) text =
    elim (went (test text)) [
      | inl h ↦ rw h (part_stands p (choose test p q) text (λ a behind is. inl (h, is)) (λ f there is. inl (h, is)) (find p text) (stands p text))
      | inr h ↦ rw h (part_stands q (choose test p q) text (λ a behind is. inr (h, is)) (λ f there is. inr (h, is)) (find q text) (stands q text))
    ]
stands (and_then p next) text = then_stands p next text (find p text) (stands p text) (λ a mid. stands (next a) mid)
stands (word letters) text =
    elim (went (begins text letters)) [
      | inl h ↦ rw h ((h, refl), length-drop-le (length letters) text)
      | inr h ↦ rw h ((h, refl, refl), omega arith)
    ]
stands (number head radix limit) text =
    let run = drop head text in
    let len = digits_len radix run in
    elim (went (begins_digit radix run)) [
      | inr h ↦ rw h (inl (refl, refl, h), length-drop-le head text)
      | inl h ↦ elim (went (nat_lt (digits_value radix (take len run)) limit)) [
        | inl k ↦ rw (h, k) ((take len run, run_of radix run h, refl, ltb-true _ _ k), omega (arith, length-drop len run, length-drop head text))
        | inr k ↦ rw (h, k) (inr (refl, refl, take len run, drop len run, run_of radix run h, ltb-false _ _ k), omega arith)
      ]
    ]
stands (one_of names p) text = one_stands names p text (named names text) refl (stands p text)
stands (many names item) text = many_stands names item text _ (items_stand names item (λ before b mid. stands (item before b) mid) (length text) [] text (omega arith))

-- what is found is spelled
pub find_spells : {A : Type 0} (g : Grammar A) (text : List ℕ) (a : A) (behind : List ℕ) → find g text ≡ Ok (a, behind) → spells g text a behind
find_spells g text a behind e = (subst (λ r. Stands g text r) e (stands g text)).0

-- what is behind a part is no longer than the text
pub shorter : {A : Type 0} (g : Grammar A) (text : List ℕ) (a : A) (behind : List ℕ) → find g text ≡ Ok (a, behind) → length behind ≤ length text
shorter g text a behind e = (subst (λ r. Stands g text r) e (stands g text)).1

-- a fault that is found stands there
pub find_faults : {A : Type 0} (g : Grammar A) (text : List ℕ) (f : TextFault) (there : List ℕ) → find g text ≡ Err (f, there) → faults g text f there
find_faults g text f there e = (subst (λ r. Stands g text r) e (stands g text)).0

-- a fault stands in the text
fault_within : {A : Type 0} (g : Grammar A) (text : List ℕ) (f : TextFault) (there : List ℕ) → find g text ≡ Err (f, there) → length there ≤ length text
fault_within g text f there e = (subst (λ r. Stands g text r) e (stands g text)).1

-- ---- and what stands there is found

module _ {A B : Type 0} (names : List (Name B)) (item : List A → B → Grammar A) where
  items_found : ((before : List A) (b : B) (text : List ℕ) (a : A) (behind : List ℕ) → spells (item before b) text a behind → find (item before b) text ≡ Ok (a, behind))
      → (n : ℕ) (before : List A) (text : List ℕ) (xs : List A) (behind : List ℕ) → length text ≤ n → Spelled names item before text xs behind → (r : Found (List A)) → ((m : ℕ) → length behind ≤ m → items_of names item m (before ++ xs) behind ≡ r) → items_of names item n before text ≡ r
  items_found complete n before text [] behind le is r last = rw (sym is, sym (append-nil before)) (last n (rw is le))
  items_found complete zero before text (x ∷ xs) behind le is r last = absurd (let lt = named_takes names text is.0 is.1 is.3 in omega arith)
  items_found complete (suc n) before text (x ∷ xs) behind le is r last =
      let lt = named_takes names text is.0 is.1 is.3 in
      let one = complete before is.0 is.1 x is.2 is.4 in
      let no_longer = shorter (item before is.0) is.1 x is.2 one in
      rw (is.3, one) (items_found complete n (before ++ x ∷ []) is.2 xs behind (omega arith) is.5 r (λ m h. rw append_assoc (last m h)))

  items_end : (n : ℕ) (before : List A) (text : List ℕ) → named names text ≡ None → items_of names item n before text ≡ Ok (before, text)
  items_end zero before text none = refl
  items_end (suc n) before text none = rw none refl

  items_stop : (n : ℕ) (before : List A) (text : List ℕ) (b : B) (mid : List ℕ) (d : TextFault × List ℕ) → length text ≤ n → named names text ≡ Some (b, mid) → find (item before b) mid ≡ Err d → items_of names item n before text ≡ Err d
  items_stop zero before text b mid d le name fails = absurd (let lt = named_takes names text b mid name in omega arith)
  items_stop (suc n) before text b mid d le name fails = rw (name, fails) refl

-- what is spelled is found
pub spells_find : {A : Type 0} (g : Grammar A) (text : List ℕ) (a : A) (behind : List ℕ) → spells g text a behind → find g text ≡ Ok (a, behind)
spells_find (value b) text a behind s = rw (s.0, s.1) refl
spells_find (refused f) text a behind s = absurd s
spells_find (choose test p q) text a behind s = elim s [ inl h ↦ rw h.0 (spells_find p text a behind h.1) | inr h ↦ rw h.0 (spells_find q text a behind h.1) ]
spells_find (and_then p next) text a behind s = rw (spells_find p text s.0 s.1 s.2) (spells_find (next s.0) s.1 a behind s.3)
spells_find (word letters) text a behind s = rw (s.0, s.1) refl
spells_find (number head radix limit) text n behind s =
    let run = drop head text in
    let digits = run_digits radix run s.0 behind s.1 in
    rw (run_begins radix run s.0 behind s.1, digits, run_behind radix run s.0 behind s.1, sym s.2, lt-ltb n limit s.3) refl
spells_find (one_of names p) text a behind s = elim s [ inl h ↦ rw h refl | inr h ↦ rw h.0 (spells_find p text a behind h.1) ]
spells_find (many names item) text xs behind s =
    items_found names item (λ before b. spells_find (item before b)) (length text) [] text xs behind (omega arith) s.0 (Ok (xs, behind)) (λ m h. items_end names item m xs behind s.1)

-- and a fault that stands there is found
pub faults_find : {A : Type 0} (g : Grammar A) (text : List ℕ) (f : TextFault) (there : List ℕ) → faults g text f there → find g text ≡ Err (f, there)
faults_find (value b) text f there s = absurd s
faults_find (refused d) text f there s = rw (s.0, s.1) refl
faults_find (choose test p q) text f there s = elim s [ inl h ↦ rw h.0 (faults_find p text f there h.1) | inr h ↦ rw h.0 (faults_find q text f there h.1) ]
faults_find (and_then p next) text f there s =
    elim s [
      | inl h ↦ rw (faults_find p text f there h) refl
      | inr h ↦ rw (spells_find p text h.0 h.1 h.2) (faults_find (next h.0) h.1 f there h.3)
    ]
faults_find (word letters) text f there s = rw (s.0, s.1, s.2) refl
faults_find (number head radix limit) text f there s =
    let run = drop head text in
    elim s [
      | inl h ↦ let none : begins_digit radix run ≡ false = rw h.1 at h.2 in rw (none, h.0, h.1) refl
      | inr h ↦ rw (run_begins radix run h.2 h.3 h.4, run_digits radix run h.2 h.3 h.4, le-ltb (digits_value radix h.2) limit h.5, h.0, h.1) refl
    ]
faults_find (one_of names p) text f there s = rw s.0 (faults_find p text f there s.1)
faults_find (many names item) text f there s =
    items_found names item (λ before b. spells_find (item before b)) (length text) [] text s.0 s.1 (omega arith) s.4 (Err (f, there))
    (λ m h. items_stop names item m s.0 s.1 s.2 s.3 (f, there) h s.5 (faults_find (item s.0 s.2) s.3 f there s.6))

-- ---- the laws

-- a text has one value
pub one_value : {A : Type 0} (g : Grammar A) (text : List ℕ) (a b : A) → Spells g text a → Spells g text b → a ≡ b
one_value g text a b s t = (found_is a b [] [] (sym (spells_find g text a [] s) ∙ spells_find g text b [] t)).0

-- a text with a value has no fault
pub no_fault : {A : Type 0} (g : Grammar A) (text : List ℕ) (a : A) (f : TextFault) (place : ℕ) → Spells g text a → HasFault g text f place → ⊥
no_fault g text a f place s h = let no : found a [] ≡ stopped f h.0 = sym (spells_find g text a [] s) ∙ faults_find g text f h.0 h.1 in cc

-- a text has one fault at most, at one place
pub one_fault : {A : Type 0} (g : Grammar A) (text : List ℕ) (f d : TextFault) (p q : ℕ) → HasFault g text f p → HasFault g text d q → (f ≡ d) × (p ≡ q)
one_fault {A = A} g text f d p q h k =
    let same = stopped_is {A = A} f d h.0 k.0 (sym (faults_find g text f h.0 h.1) ∙ faults_find g text d k.0 k.1) in
    let lengths = ap length same.1 in
    (same.0, omega arith)

-- ---- what a public call answers

-- nothing is behind a whole text
whole_spelled : {A : Type 0} (part : Grammar A) (text : List ℕ) (a : A) (rest : List ℕ) → spells (whole part) text a rest → Spells (whole part) text a
whole_spelled part text a rest is = subst (λ behind. spells (whole part) text a behind) (is.3.3.1 ∙ ends is.1 is.3.0 is.3.1 is.3.2) is
  where
    ends : (mid : List ℕ) (u : Unit {0}) (after : List ℕ) → spells end mid u after → after ≡ []
    ends [] u after is = elim is [ inl h ↦ h.1.1 | inr h ↦ absurd h.1 ]
    ends (c ∷ mid) u after is = elim is [ inl h ↦ absurd (let no = eqb-true (length (c ∷ mid)) 0 h.0 in omega arith) | inr h ↦ absurd h.1 ]

pub whole_value : {A : Type 0} (part : Grammar A) (text : List ℕ) (a : A) (rest : List ℕ) → find (whole part) text ≡ Ok (a, rest) → Spells (whole part) text a
whole_value part text a rest e = whole_spelled part text a rest (find_spells (whole part) text a rest e)

-- of a parser that takes memory: what it answers is spelled, and out of memory comes only where a value that takes some is
module _ {X A : Type 0} (view : X → A) (takes : A → Bool) (part : Grammar A) (text rest : List ℕ) where
  pub value_answered : (o : Option X) → GivesUnlessMemory view takes (Ok o) rest (find (whole part) text) → IfOk (ok_or o Memory) (λ x. Spells (whole part) text (view x))
  value_answered (Some x) gives = whole_value part text (view x) rest gives
  value_answered None gives = tt

  pub memory_answered : (o : Option X) → GivesUnlessMemory view takes (Ok o) rest (find (whole part) text) → IsErrOf (ok_or o Memory) Memory → SpellsOne takes (whole part) text
  memory_answered (Some x) gives is = absurd cc
  memory_answered None gives is = by_parsing (find (whole part) text) refl gives
    where
      by_parsing : (r : Found A) → find (whole part) text ≡ r → IsOkAnd r (λ x. (x.1 ≡ rest) × (takes x.0 ≡ true)) → SpellsOne takes (whole part) text
      by_parsing (Ok x) e found = (x.0, whole_value part text x.0 x.1 e, found.1)
      by_parsing (Err d) e found = absurd found

-- a fault that is found stands at the place where the reader stopped
pub fault_at : {A : Type 0} (g : Grammar A) (text : List ℕ) (f : TextFault) (there : List ℕ) (place : ℕ) → find g text ≡ Err (f, there) → (length there ≤ length text → place + length there ≡ length text) → HasFault g text f place
fault_at g text f there place e at = (there, find_faults g text f there e, at (fault_within g text f there e))

-- each text has a value or a fault
pub value_or_fault : {A : Type 0} (part : Grammar A) (text : List ℕ) → ((a : A) × Spells (whole part) text a) ⊎ ((f : TextFault) × (place : ℕ) × HasFault (whole part) text f place)
value_or_fault {A = A} part text = either (find (whole part) text) (stands (whole part) text)
  where
    either : (r : Found A) → Stands (whole part) text r → ((a : A) × Spells (whole part) text a) ⊎ ((f : TextFault) × (place : ℕ) × HasFault (whole part) text f place)
    either (Ok x) is = inl (x.0, whole_spelled part text x.0 x.1 is.0)
    either (Err e) is = inr (e.0, length text - length e.1, (e.1, is.0, omega arith))
