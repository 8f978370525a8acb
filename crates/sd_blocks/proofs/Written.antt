-- What a change of one block does to the list.
use Rattle.sd_blocks.proofs.Cited.{Err, IsBlockOf, List, Ok, OnOk, Result, StartFrom, [], ap, append_assoc, arith, drop, get_or, get_or-flat_map, joined, length, length-append, refl, set, set-append_left, set-append_right, suc, sym, take, zero, ℕ, ◌++◌, ◌+◌, ◌-◌, ◌<◌, ◌∙◌, ◌∷◌, ◌≡◌}

-- the list round one block
pub joined_round : {T : Type 0} (bs : List (ℕ × List T)) (k : ℕ) (d : ℕ × List T) → k < length bs → joined bs ≡ joined (take k bs) ++ ((get_or bs k d).1 ++ joined (drop (suc k) bs))
joined_round [] k d h = absurd (omega arith)
joined_round (b ∷ bs) zero d h = refl
joined_round (b ∷ bs) (suc k) d h =
    ap (λ ys. b.1 ++ ys) (joined_round bs k d (omega arith)) ∙ sym (append_assoc b.1 (joined (take k bs)) ((get_or bs k d).1 ++ joined (drop (suc k) bs)))

pub joined_set : {T : Type 0} (bs : List (ℕ × List T)) (k : ℕ) (b' : ℕ × List T) → k < length bs → joined (set bs k b') ≡ joined (take k bs) ++ (b'.1 ++ joined (drop (suc k) bs))
joined_set [] k b' h = absurd (omega arith)
joined_set (b ∷ bs) zero b' h = refl
joined_set (b ∷ bs) (suc k) b' h =
    ap (λ ys. b.1 ++ ys) (joined_set bs k b' (omega arith)) ∙ sym (append_assoc b.1 (joined (take k bs)) (b'.1 ++ joined (drop (suc k) bs)))

-- a write in the middle of three parts
set_middle : {T : Type 0} (xs ys zs : List T) (j : ℕ) (x : T) → j < length ys → set (xs ++ (ys ++ zs)) (length xs + j) x ≡ xs ++ (set ys j x ++ zs)
set_middle xs ys zs j x h =
    let right = set-append_right xs (ys ++ zs) (length xs) (length xs + j) x refl (omega arith) in
    let left = set-append_left ys zs j x h in
    let same : (length xs + j) - length xs ≡ j = omega arith in
    right ∙ ap (λ i. xs ++ set (ys ++ zs) i x) same ∙ ap (λ l. xs ++ l) left

-- a write in a block
pub joined_written : {T : Type 0} (bs : List (ℕ × List T)) (k j : ℕ) (d b' : ℕ × List T) (x : T) → k < length bs → j < length (get_or bs k d).1 → b'.1 ≡ set (get_or bs k d).1 j x → joined (set bs k b') ≡ set (joined bs) (length (joined (take k bs)) + j) x
joined_written bs k j d b' x inside within is =
    joined_set bs k b' inside
    ∙ ap (λ ys. joined (take k bs) ++ (ys ++ joined (drop (suc k) bs))) is
    ∙ sym (set_middle (joined (take k bs)) (get_or bs k d).1 (joined (drop (suc k) bs)) j x within)
    ∙ ap (λ l. set l (length (joined (take k bs)) + j) x) (sym (joined_round bs k d inside))

-- the starts stay right where a block keeps its start and its length
pub starts_set : {T : Type 0} (n : ℕ) (bs : List (ℕ × List T)) (k : ℕ) (d b' : ℕ × List T) → StartFrom n bs → k < length bs → b'.0 ≡ (get_or bs k d).0 → length b'.1 ≡ length (get_or bs k d).1 → StartFrom n (set bs k b')
starts_set n [] k d b' s h start len = tt
starts_set n (b ∷ bs) zero d b' s h start len = (start ∙ s.0, omega (arith, s.1, len), rw len s.2)
starts_set n (b ∷ bs) (suc k) d b' s h start len = (s.0, s.1, starts_set (n + length b.1) bs k d b' s.2 (omega arith) start len)

-- an element of a block is the list's at its place
pub get_joined : {T : Type 0} (bs : List (ℕ × List T)) (at k : ℕ) (b : ℕ × List T) (start : ℕ) (x : T) → IsBlockOf bs at k → at < length (joined bs) → b ≡ get_or bs k b → start ≡ b.0 → x ≡ get_or b.1 (at - start) x → x ≡ get_or (joined bs) at x
get_joined {T} bs at k b start x found in_list is starts here =
    let e0 : b.0 ≡ (get_or bs k b).0 = ap (λ (y : ℕ × List T). y.0) is in
    let e1 : b.1 ≡ (get_or bs k b).1 = ap (λ (y : ℕ × List T). y.1) is in
    let within : at - start < length (get_or bs k b).1 = omega (arith, found.from b, found.before_end b in_list) in
    let place : length (joined (take k bs)) + (at - start) ≡ at = omega (arith, found.first b, found.from b) in
    let there = get_or-flat_map (λ (y : ℕ × List T). y.1) bs k (at - start) b x found.inside within in
    here ∙ ap (λ ys. get_or ys (at - start) x) e1 ∙ sym there ∙ ap (λ i. get_or (joined bs) i x) place

-- the joined list keeps its length where a block becomes another of the block's length
joined_same_length : {T : Type 0} (bs : List (ℕ × List T)) (k : ℕ) (d b' : ℕ × List T) → k < length bs → length b'.1 ≡ length (get_or bs k d).1 → length (joined (set bs k b')) ≡ length (joined bs)
joined_same_length bs k d b' h same =
    ap length (joined_set bs k b' h)
    ∙ omega (arith, same, length-append (joined (take k bs)) (b'.1 ++ joined (drop (suc k) bs)), length-append b'.1 (joined (drop (suc k) bs)), length-append (joined (take k bs)) ((get_or bs k d).1 ++ joined (drop (suc k) bs)), length-append (get_or bs k d).1 (joined (drop (suc k) bs)))
    ∙ ap length (sym (joined_round bs k d h))

-- what a block says of the list, once it is written
pub written : {T : Type 0} (bs : List (ℕ × List T)) (at k : ℕ) (b b' : ℕ × List T) (start : ℕ) (x : T) → IsBlockOf bs at k → at < length (joined bs) → b ≡ get_or bs k b → start ≡ b.0 → b'.1 ≡ set b.1 (at - start) x → joined (set bs k b') ≡ set (joined bs) at x
written {T} bs at k b b' start x found in_list is starts wrote =
    let e0 : b.0 ≡ (get_or bs k b).0 = ap (λ (y : ℕ × List T). y.0) is in
    let e1 : b.1 ≡ (get_or bs k b).1 = ap (λ (y : ℕ × List T). y.1) is in
    let within : at - start < length (get_or bs k b).1 = omega (arith, found.from b, found.before_end b in_list) in
    let place : length (joined (take k bs)) + (at - start) ≡ at = omega (arith, found.first b, found.from b) in
    joined_written bs k (at - start) b b' x found.inside within (wrote ∙ ap (λ ys. set ys (at - start) x) e1)
    ∙ ap (λ i. set (joined bs) i x) place

pub written_ok : {T E R : Type 0} (r : Result R E) (bs : List (ℕ × List T)) (at k : ℕ) (b b' : ℕ × List T) (start : ℕ) (x : T) → IsBlockOf bs at k → at < length (joined bs) → b ≡ get_or bs k b → start ≡ b.0 → OnOk r (b'.1 ≡ set b.1 (at - start) x) → OnOk r (joined (set bs k b') ≡ set (joined bs) at x)
written_ok (Ok _) bs at k b b' start x found in_list is starts wrote = written bs at k b b' start x found in_list is starts wrote
written_ok (Err _) bs at k b b' start x found in_list is starts wrote = tt

-- the invariant, once a block is written that keeps its start and its length
pub kept_starts : {T : Type 0} (bs : List (ℕ × List T)) (len at k : ℕ) (b b' : ℕ × List T) → StartFrom 0 bs → len ≡ length (joined bs) → IsBlockOf bs at k → b ≡ get_or bs k b → b'.0 ≡ b.0 → length b'.1 ≡ length b.1 → StartFrom 0 (set bs k b') × len ≡ length (joined (set bs k b'))
kept_starts {T} bs len at k b b' s lens found is start same =
    let e0 : b.0 ≡ (get_or bs k b).0 = ap (λ (y : ℕ × List T). y.0) is in
    let e1 : b.1 ≡ (get_or bs k b).1 = ap (λ (y : ℕ × List T). y.1) is in
    (starts_set 0 bs k b b' s found.inside (start ∙ e0) (same ∙ ap length e1), lens ∙ sym (joined_same_length bs k b b' found.inside (same ∙ ap length e1)))

-- a term of a function and a value, where these are replaced by equal ones
pub both : {W A C : Type 0} (f : (W → A) → A → C) (F G : W → A) (v w : A) → ((x : W) → F x ≡ G x) → v ≡ w → f F v ≡ f G w
both f F G v w e e' = λ i. f (λ x. e x i) (e' i)
