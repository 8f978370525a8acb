-- Paths as texts: how their names are found and judged.
use Rattle.sd_path.proofs.Cited.{All-from_get_or, Err, IsPath, IsReadAs, Keeps, List, Memory, NameTooLong, Names, None, Ok, Option, PathError, Result, Some, Syntax, TooManyNames, [], ap, append-nil, append_assoc, ap₂, arith, before_first, between_slashes, cond, drop, ended, fails_before_first, false, fault_of, get_or, get_or-take, is_name, is_name_byte, is_root, length, length-take-le, list_all, list_all-from_AllPass, list_all_at, map, name_fault, names_of, nat_tests, not, onto_first, option_or, passes_at_first, position_or_len, position_or_len_is, prefix_len, prefix_len-le-length, prefix_len_passes, prefix_len_stops, refl, slashed, slice_split_first, slice_split_none, suc, sym, take, take_all, true, unless, up, zero, ℕ, ◌++◌, ◌+◌, ◌-◌, ◌<◌, ◌==◌, ◌||◌, ◌∙◌, ◌∷◌, ◌≡◌, ◌≢◌, ◌≤◌}
use Rattle.sd_path.specs.PathText.{path_of}
use Rattle.sd_path.proofs.PathBytes.{names_of-path, Keeps-ended}

-- ---- the bytes of a name at the front

-- the front ends at the first byte that no name has
pub prefix_len-is : (bs : List ℕ) (i : ℕ) → i ≤ length bs
    → ((k : ℕ) → k < i → (get_or bs k 0 == 0x2F || get_or bs k 0 == 0) ≡ false)
    → (i < length bs → (get_or bs i 0 == 0x2F || get_or bs i 0 == 0) ≡ true) → i ≡ prefix_len is_name_byte bs
prefix_len-is bs i within before at = sym (position_or_len_is (λ b. b == 0x2F || b == 0) bs i 0 within before at)

pub slash_stops : (b : ℕ) → b ≡ 0x2F → (b == 0x2F || b == 0) ≡ true
slash_stops b e = rw e refl

pub zero_stops : (b : ℕ) → b ≡ 0 → (b == 0x2F || b == 0) ≡ true
zero_stops b e = rw e refl

-- ---- the first name

name_byte-no_slash : (b : ℕ) → is_name_byte b ≡ true → (b == 0x2F) ≡ false
name_byte-no_slash b h = grind (arith, nat_tests)

stop-slash : (b : ℕ) → (b == 0x2F || b == 0) ≡ true → b ≢ 0 → (b == 0x2F) ≡ true
stop-slash b h other = grind (arith, nat_tests)

-- where the front doesn't end at a zero byte, it is what stands before the first slash
pub front_is_first : (bs : List ℕ) (n : ℕ) → n ≡ prefix_len is_name_byte bs → (n < length bs → get_or bs n 0 ≢ 0)
    → n ≡ position_or_len (λ b. b == 0x2F) bs
front_is_first bs n e other =
    let within : n ≤ length bs = rw e (prefix_len-le-length is_name_byte bs) in
    sym (position_or_len_is (λ b. b == 0x2F) bs n 0 within
    (λ k below. name_byte-no_slash (get_or bs k 0) (prefix_len_passes is_name_byte bs k 0 (omega arith)))
    (λ below. stop-slash (get_or bs n 0)
    (rw e (passes_at_first (λ b. b == 0x2F || b == 0) bs 0 (omega arith)))
    (other below)))

pub front_has_name_bytes : (bs : List ℕ) (n : ℕ) → n ≡ prefix_len is_name_byte bs → list_all is_name_byte (take n bs) ≡ true
front_has_name_bytes bs n e =
    let within : n ≤ length bs = rw e (prefix_len-le-length is_name_byte bs) in
    let size : length (take n bs) ≡ n = length-take-le n bs within in
    list_all-from_AllPass is_name_byte (take n bs)
    (All-from_get_or (λ b. is_name_byte b ≡ true) (take n bs) 0 (λ i below.
    let under : i < n = omega arith in
    rw (get_or-take n bs i 0 under) (prefix_len_passes is_name_byte bs i 0 (omega arith))))

-- a zero byte behind the front stands before the first slash
zero_is_before : (bs : List ℕ) (n q : ℕ) → n ≡ prefix_len is_name_byte bs → n < length bs → get_or bs n 0 ≡ 0
    → q ≡ position_or_len (λ b. b == 0x2F) bs → q ≤ n → ⊥
zero_is_before bs n q e below zero_there eq before =
    let slash : (get_or bs q 0 == 0x2F) ≡ true = rw eq (passes_at_first (λ b. b == 0x2F) bs 0 (omega arith)) in
    let front : q < n → is_name_byte (get_or bs q 0) ≡ true = λ (h : q < n). prefix_len_passes is_name_byte bs q 0 (omega arith) in
    let no_slash : q < n → (get_or bs q 0 == 0x2F) ≡ false = λ (h : q < n). name_byte-no_slash (get_or bs q 0) (front h) in
    let at : n ≤ q → (get_or bs q 0 == 0x2F) ≡ false = λ (h : n ≤ q). let same : q ≡ n = omega arith in rw same (rw zero_there refl) in
    grind (arith, slash, no_slash, at)

pub zero_is_no_name : (bs : List ℕ) (n : ℕ) → n ≡ prefix_len is_name_byte bs → n < length bs → get_or bs n 0 ≡ 0
    → list_all is_name_byte (before_first (λ b. b == 0x2F) bs) ≡ false
zero_is_no_name bs n e below zero_there =
    let q = position_or_len (λ b. b == 0x2F) bs in
    let later : n < q = grind (arith, zero_is_before bs n q e below zero_there refl) in
    let size : length (take q bs) ≡ q = length-take-le q bs (prefix_len-le-length (λ b. not (b == 0x2F)) bs) in
    list_all_at is_name_byte (take q bs) n 0 (omega arith)
    (rw (get_or-take q bs n 0 later) (rw zero_there refl))

-- the fault of a name by its length
pub fault-bytes : (name : List ℕ) → list_all is_name_byte name ≡ false → name_fault name ≡ Some Syntax
fault-bytes name h = rw h (grind (arith, nat_tests))

pub fault-long : (name : List ℕ) → list_all is_name_byte name ≡ true → 255 < length name → name_fault name ≡ Some NameTooLong
fault-long name h long = rw h (grind (arith, nat_tests))

pub fault-none : (name : List ℕ) → list_all is_name_byte name ≡ true → 0 < length name → length name ≤ 255 → name_fault name ≡ None
fault-none name h some short = rw h (grind (arith, nat_tests))

-- the first name, where the front isn't followed by a zero byte
pub first_is_front : (bs : List ℕ) (n : ℕ) → n ≡ prefix_len is_name_byte bs → (n < length bs → get_or bs n 0 ≢ 0)
    → before_first (λ b. b == 0x2F) bs ≡ take n bs
first_is_front bs n e other = ap (λ k. take k bs) (sym (front_is_first bs n e other))

length-front : (bs : List ℕ) (n : ℕ) → n ≡ prefix_len is_name_byte bs → length (take n bs) ≡ n
length-front bs n e = length-take-le n bs (rw e (prefix_len-le-length is_name_byte bs))

pub first-zero : (bs : List ℕ) (n : ℕ) → n ≡ prefix_len is_name_byte bs → n < length bs → get_or bs n 0 ≡ 0
    → name_fault (before_first (λ b. b == 0x2F) bs) ≡ Some Syntax
first-zero bs n e below zero_there = fault-bytes (before_first (λ b. b == 0x2F) bs) (zero_is_no_name bs n e below zero_there)

pub first-long : (bs : List ℕ) (n : ℕ) → n ≡ prefix_len is_name_byte bs → (n < length bs → get_or bs n 0 ≢ 0) → 255 < n
    → name_fault (before_first (λ b. b == 0x2F) bs) ≡ Some NameTooLong
first-long bs n e other long =
    let size = length-front bs n e in
    ap name_fault (first_is_front bs n e other) ∙ fault-long (take n bs) (front_has_name_bytes bs n e) (omega arith)

pub first-none : (bs : List ℕ) (n : ℕ) → n ≡ prefix_len is_name_byte bs → (n < length bs → get_or bs n 0 ≢ 0) → n ≢ 0 → n ≤ 255
    → name_fault (before_first (λ b. b == 0x2F) bs) ≡ None
first-none bs n e other some short =
    let size = length-front bs n e in
    ap name_fault (first_is_front bs n e other) ∙ fault-none (take n bs) (front_has_name_bytes bs n e) (omega arith) (omega arith)

-- ---- a whole text as one name

pub whole-cut : (bs : List ℕ) (n : ℕ) → n ≡ prefix_len is_name_byte bs → n < length bs → name_fault bs ≡ Some Syntax
whole-cut bs n e below =
    fault-bytes bs (list_all_at is_name_byte bs n 0 below (rw e (prefix_len_stops is_name_byte bs 0 (omega (arith, e)))))

pub whole-empty : (bs : List ℕ) → length bs ≡ 0 → name_fault bs ≡ Some Syntax
whole-empty [] e = refl
whole-empty (b ∷ bs) e = absurd (omega arith)

pub whole-within : (bs : List ℕ) (n : ℕ) → n ≡ prefix_len is_name_byte bs → n ≤ length bs
whole-within bs n e = rw e (prefix_len-le-length is_name_byte bs)

whole-bytes : (bs : List ℕ) (n : ℕ) → n ≡ prefix_len is_name_byte bs → length bs ≤ n → list_all is_name_byte bs ≡ true
whole-bytes bs n e all = ap (list_all is_name_byte) (sym (take_all n bs all)) ∙ front_has_name_bytes bs n e

pub whole-long : (bs : List ℕ) (n : ℕ) → n ≡ prefix_len is_name_byte bs → length bs ≤ n → 255 < length bs → name_fault bs ≡ Some NameTooLong
whole-long bs n e all long = fault-long bs (whole-bytes bs n e all) long

pub whole-none : (bs : List ℕ) (n : ℕ) → n ≡ prefix_len is_name_byte bs → length bs ≤ n → 0 < length bs → length bs ≤ 255 → name_fault bs ≡ None
whole-none bs n e all some short = fault-none bs (whole-bytes bs n e all) some short

pub whole-name : (bs : List ℕ) (n : ℕ) → n ≡ prefix_len is_name_byte bs → length bs ≤ n → 0 < length bs → length bs ≤ 255 → is_name bs ≡ true
whole-name bs n e all some short = rw (whole-bytes bs n e all) (grind (arith, nat_tests))

-- ---- the names, one after the other

pub between-last : (bs : List ℕ) → length bs ≡ position_or_len (λ b. b == 0x2F) bs
    → between_slashes bs ≡ before_first (λ b. b == 0x2F) bs ∷ []
between-last bs e =
    let whole : before_first (λ b. b == 0x2F) bs ≡ bs = take_all (position_or_len (λ b. b == 0x2F) bs) bs (omega arith) in
    slice_split_none (λ b. b == 0x2F) bs
    (All-from_get_or (λ b. (b == 0x2F) ≡ false) bs 0 (λ i below. fails_before_first (λ b. b == 0x2F) bs i 0 (omega arith)))
    ∙ ap (λ name. name ∷ []) (sym whole)

pub between-first : (bs : List ℕ) (n : ℕ) → n ≡ position_or_len (λ b. b == 0x2F) bs → n < length bs
    → between_slashes bs ≡ before_first (λ b. b == 0x2F) bs ∷ between_slashes (drop (n + 1) bs)
between-first bs n e below =
    slice_split_first (λ b. b == 0x2F) bs 0 (omega arith)
    ∙ ap (λ k. before_first (λ b. b == 0x2F) bs ∷ between_slashes (drop (k + 1) bs)) (sym e)

pub slash_below : (bs : List ℕ) (n : ℕ) → n ≡ position_or_len (λ b. b == 0x2F) bs → n ≢ length bs → n < length bs
slash_below bs n e other = let h : n ≤ length bs = rw e (prefix_len-le-length (λ b. not (b == 0x2F)) bs) in omega arith

between-some : (bs : List ℕ) → (more : Names) × (between_slashes bs ≡ before_first (λ b. b == 0x2F) bs ∷ more)
between-some bs =
    elim (position_or_len (λ b. b == 0x2F) bs == length bs) as (λ t. (position_or_len (λ b. b == 0x2F) bs == length bs) ≡ t → (more : Names) × (between_slashes bs ≡ before_first (λ b. b == 0x2F) bs ∷ more)) [
      | true ↦ λ e. ([], between-last bs (grind (arith, nat_tests, e)))
      | false ↦ λ e. (between_slashes (drop (position_or_len (λ b. b == 0x2F) bs + 1) bs), between-first bs _ refl (grind (arith, nat_tests, e, prefix_len-le-length (λ b. not (b == 0x2F)) bs)))
    ] refl

fault-first : (left : ℕ) (names : Names) (name : List ℕ) (more : Names) → names ≡ name ∷ more → 0 < left
    → fault_of left names ≡ option_or (name_fault name) (fault_of (left - 1) more)
fault-first zero names name more e h = absurd (omega arith)
fault-first (suc left) names name more e h =
    ap (fault_of (suc left)) e
    ∙ ap (λ n. option_or (name_fault name) (fault_of n more)) (omega arith)

pub fault-here : (left : ℕ) (bs : List ℕ) (fault : PathError) → 0 < left
    → name_fault (before_first (λ b. b == 0x2F) bs) ≡ Some fault → fault_of left (between_slashes bs) ≡ Some fault
fault-here left bs fault h e =
    fault-first left (between_slashes bs) _ (between-some bs).0 (between-some bs).1 h
    ∙ ap (λ o. option_or o (fault_of (left - 1) (between-some bs).0)) e

fault-nothing : (left : ℕ) → fault_of left [] ≡ None
fault-nothing left = refl

pub fault-last : (left : ℕ) (bs : List ℕ) → 0 < left → length bs ≡ position_or_len (λ b. b == 0x2F) bs
    → name_fault (before_first (λ b. b == 0x2F) bs) ≡ None → fault_of left (between_slashes bs) ≡ None
fault-last left bs h end e =
    fault-first left (between_slashes bs) _ [] (between-last bs end) h
    ∙ ap (λ o. option_or o (fault_of (left - 1) [])) e

pub fault-more : (left n : ℕ) (bs : List ℕ) → 0 < left → n ≡ position_or_len (λ b. b == 0x2F) bs → n < length bs
    → name_fault (before_first (λ b. b == 0x2F) bs) ≡ None
    → fault_of left (between_slashes bs) ≡ fault_of (left - 1) (between_slashes (drop (n + 1) bs))
fault-more left n bs h at below e =
    fault-first left (between_slashes bs) _ (between_slashes (drop (n + 1) bs)) (between-first bs n at below) h
    ∙ ap (λ o. option_or o (fault_of (left - 1) (between_slashes (drop (n + 1) bs)))) e

pub fault-too_many : (bs : List ℕ) → fault_of 0 (between_slashes bs) ≡ Some TooManyNames
fault-too_many bs = ap (fault_of 0) (between-some bs).1

-- ---- the bytes of a path from its text

ended-onto : (b : ℕ) (bs name : List ℕ) (more : Names) → between_slashes bs ≡ name ∷ more
    → ended (onto_first b (between_slashes bs)) ≡ b ∷ ended (between_slashes bs)
ended-onto b bs name more e = rw e refl

-- each slash as a zero byte
abbrev pub zero_for_slash : ℕ → ℕ
zero_for_slash b = cond (b == 0x2F) 0 b

pub ended-between : (bs : List ℕ) → ended (between_slashes bs) ≡ map zero_for_slash bs ++ 0 ∷ []
ended-between [] = refl
ended-between (b ∷ bs) =
    elim (b == 0x2F) as (λ t. ended (cond t ([] ∷ between_slashes bs) (onto_first b (between_slashes bs))) ≡ cond t 0 b ∷ (map zero_for_slash bs ++ 0 ∷ [])) [
      | true ↦ ap (λ cs. 0 ∷ cs) (ended-between bs)
      | false ↦ ended-onto b bs _ (between-some bs).0 (between-some bs).1 ∙ ap (λ cs. b ∷ cs) (ended-between bs)
    ]

-- names without a fault are a path
name-from_fault : (name : List ℕ) → name_fault name ≡ None → is_name name ≡ true
name-from_fault name h = grind (arith, nat_tests)

option_or-none : (o p : Option PathError) → option_or o p ≡ None → (o ≡ None) × (p ≡ None)
option_or-none None p h = (refl, h)
option_or-none (Some x) p h = cc

path-from_fault : (most : ℕ) (names : Names) → fault_of most names ≡ None → (length names ≤ most) × (list_all is_name names ≡ true)
path-from_fault most [] h = (omega arith, refl)
path-from_fault zero (name ∷ names) h = cc
path-from_fault (suc most) (name ∷ names) h =
    let parts = option_or-none (name_fault name) (fault_of most names) h in
    let rest = path-from_fault most names parts.1 in
    (omega (arith, rest.0), rw (name-from_fault name parts.0) rest.1)

pub IsPath-from_fault : (names : Names) → fault_of 128 names ≡ None → IsPath names
IsPath-from_fault names h =
    let p = path-from_fault 128 names h in record { at_most = p.0; named = p.1 }

-- ---- what a text says, by its first byte

pub path_of-empty : (text : List ℕ) → length text ≡ 0 → path_of text ≡ Err Syntax
unfolding path_of
path_of-empty [] e = refl
path_of-empty (b ∷ bs) e = absurd (omega arith)

pub path_of-other : (text : List ℕ) (b : ℕ) (bs : List ℕ) → text ≡ b ∷ bs → b ≢ 0x2F → path_of text ≡ Err Syntax
unfolding path_of
path_of-other text b bs e other =
    let t : (b == 0x2F) ≡ false = grind (arith, nat_tests) in ap path_of e ∙ rw t refl

pub path_of-root : (text : List ℕ) (b : ℕ) (bs : List ℕ) → text ≡ b ∷ bs → b ≡ 0x2F → (length bs == 0) ≡ true → path_of text ≡ Ok []
unfolding path_of
path_of-root text b bs e slash none = ap path_of e ∙ rw (slash, none) refl

pub path_of-names : (text : List ℕ) (b : ℕ) (bs : List ℕ) → text ≡ b ∷ bs → b ≡ 0x2F → (length bs == 0) ≡ false
    → path_of text ≡ unless (fault_of 128 (between_slashes bs)) (between_slashes bs)
unfolding path_of
path_of-names text b bs e slash some = ap path_of e ∙ rw (slash, some) refl

-- no name wants memory
name_fault-memory : (name : List ℕ) → name_fault name ≢ Some Memory
name_fault-memory name = λ e. grind (arith, nat_tests, e)

fault_of-memory : (most : ℕ) (names : Names) → fault_of most names ≢ Some Memory
fault_of-memory most [] = λ e. cc e
fault_of-memory zero (name ∷ names) = λ e. cc e
fault_of-memory (suc most) (name ∷ names) =
    elim (name_fault name) as (λ o. name_fault name ≡ o → option_or o (fault_of most names) ≢ Some Memory) [
      | None ↦ λ h. fault_of-memory most names
      | Some fault ↦ λ h. λ e. name_fault-memory name (h ∙ e)
    ] refl

IsReadAs-fault : (said : Result Names PathError) (fault : PathError) → fault ≢ Memory → said ≡ Err fault → IsReadAs said (Err fault)
IsReadAs-fault said Syntax other e = e
IsReadAs-fault said NameTooLong other e = e
IsReadAs-fault said TooManyNames other e = e
IsReadAs-fault said Memory other e = absurd (other refl)

pub read-fault : (text : List ℕ) (b : ℕ) (bs : List ℕ) (fault : PathError) → text ≡ b ∷ bs → b ≡ 0x2F → (length bs == 0) ≡ false
    → fault_of 128 (between_slashes bs) ≡ Some fault → IsReadAs (path_of text) (Err fault)
read-fault text b bs fault e slash some h =
    IsReadAs-fault (path_of text) fault (λ m. fault_of-memory 128 (between_slashes bs) (h ∙ ap Some m))
    (path_of-names text b bs e slash some ∙ ap (λ o. unless o (between_slashes bs)) h)

pub read-memory : (text : List ℕ) (b : ℕ) (bs : List ℕ) → text ≡ b ∷ bs → b ≡ 0x2F → (length bs == 0) ≡ false
    → fault_of 128 (between_slashes bs) ≡ None → IsReadAs (path_of text) (Err Memory)
read-memory text b bs e slash some h =
    let said : path_of text ≡ Ok (between_slashes bs) =
    path_of-names text b bs e slash some ∙ ap (λ o. unless o (between_slashes bs)) h in
    rw said (ap is_root (between-some bs).1)

pub read-path : (text : List ℕ) (b : ℕ) (bs kept : List ℕ) → text ≡ b ∷ bs → b ≡ 0x2F → (length bs == 0) ≡ false
    → fault_of 128 (between_slashes bs) ≡ None → kept ≡ ended (between_slashes bs) → path_of text ≡ Ok (names_of kept)
read-path text b bs kept e slash some h k =
    let named = IsPath-from_fault (between_slashes bs) h in
    path_of-names text b bs e slash some
    ∙ ap (λ o. unless o (between_slashes bs)) h
    ∙ ap Ok (sym (ap names_of k ∙ names_of-path (between_slashes bs) named))

pub Keeps-read : (bs kept : List ℕ) (count : ℕ) → fault_of 128 (between_slashes bs) ≡ None → count ≡ length (between_slashes bs)
    → kept ≡ ended (between_slashes bs) → Keeps kept count
Keeps-read bs kept count h c k = rw (c, k) (Keeps-ended (between_slashes bs) (IsPath-from_fault (between_slashes bs) h))

-- ---- the text of a path

pub slashed-push : (names : Names) (name : List ℕ) → slashed (names ++ name ∷ []) ≡ slashed names ++ (0x2F ∷ name)
slashed-push [] name = ap (λ bs. 0x2F ∷ bs) (append-nil name)
slashed-push (n ∷ names) name = ap (λ bs. 0x2F ∷ bs) (ap (λ bs. n ++ bs) (slashed-push names name) ∙ sym (append_assoc n (slashed names) (0x2F ∷ name)))

-- a path is written as what holds it, a slash and its last name
pub slashed-up : (path above : Names) (name written : List ℕ) → path ≡ up path ++ name ∷ [] → above ≡ up path → written ≡ name
    → slashed above ++ (0x2F ∷ [] ++ written) ≡ slashed path
slashed-up path above name written parts is same =
    ap₂ (λ p bs. slashed p ++ (0x2F ∷ bs)) is same ∙ sym (slashed-push (up path) name) ∙ ap slashed (sym parts)
