-- Paths: what holds a path, what it begins with, and the order.
use Rattle.sd_path.proofs.Cited.{Equal, Greater, IsAntisymmetric, IsTotalOrder, Less, List, Names, Ordering, [], and_from, and_parts, ap, append_assoc, ap₂, bytes_eq, bytes_eq-Decides, drop, false, false≢true, if◌then◌else◌, is_root, is_within, length, lists_total, moved_path, names_cmp, nat_cmp-IsAntisymmetric, nat_list_cmp_total, ordering_then, refl, slice_cmp, slice_cmp-IsAntisymmetric, sym, tied_back, tied_itself, true, up, ℕ, ◌&&◌, ◌++◌, ◌∙◌, ◌∷◌, ◌≡◌, ◌≢◌}
use Rattle.std.specs.Ordering.{nat_cmp}

-- ---- what holds a path

pub up-push : (path : Names) (name : List ℕ) → up (path ++ name ∷ []) ≡ path
up-push [] name = refl
up-push (n ∷ []) name = refl
up-push (n ∷ m ∷ path) name = ap (λ p. n ∷ p) (up-push (m ∷ path) name)

-- the last name of a path, which isn't the root's
abbrev pub last_name : Names → List ℕ
last_name [] = []
last_name (name ∷ []) = name
last_name (name ∷ next ∷ names) = last_name (next ∷ names)

pub push-up : (path : Names) → is_root path ≡ false → up path ++ last_name path ∷ [] ≡ path
push-up [] h = absurd (false≢true (sym h))
push-up (n ∷ []) h = refl
push-up (n ∷ m ∷ path) h = ap (λ p. n ∷ p) (push-up (m ∷ path) refl)

pub up-append : (top rest : Names) → is_root rest ≡ false → up (top ++ rest) ≡ top ++ up rest
up-append top rest h =
    ap (λ names. up (top ++ names)) (sym (push-up rest h))
    ∙ ap up (sym (append_assoc top (up rest) (last_name rest ∷ [])))
    ∙ up-push (top ++ up rest) (last_name rest)

pub push_not_root : (path : Names) (name : List ℕ) → is_root (path ++ name ∷ []) ≡ false
push_not_root [] name = refl
push_not_root (n ∷ path) name = refl

pub root_is_empty : (path : Names) → is_root path ≡ true → path ≡ []
root_is_empty [] h = refl
root_is_empty (n ∷ path) h = absurd (false≢true h)

-- ---- what a path begins with

same_name : (a b : List ℕ) → bytes_eq a b ≡ true → a ≡ b
same_name a b e = (bytes_eq-Decides a b).0 e

name_itself : (a b : List ℕ) → a ≡ b → bytes_eq a b ≡ true
name_itself a b e = (bytes_eq-Decides a b).1 e

pub within_itself : (path : Names) → is_within path path ≡ true
within_itself [] = refl
within_itself (n ∷ path) = and_from (bytes_eq n n) (is_within path path) (name_itself n n refl) (within_itself path)

pub within-append : (top rest : Names) → is_within top (top ++ rest) ≡ true
within-append [] rest = refl
within-append (n ∷ top) rest = and_from (bytes_eq n n) (is_within top (top ++ rest)) (name_itself n n refl) (within-append top rest)

pub within-step : (name : List ℕ) (top path : Names) → is_within (name ∷ top) (name ∷ path) ≡ is_within top path
within-step name top path = ap (λ b. b && is_within top path) (name_itself name name refl)

-- the names of a path behind its top
pub within_rest : (top path : Names) → is_within top path ≡ true → (rest : Names) × (path ≡ top ++ rest)
within_rest [] path h = (path, refl)
within_rest (n ∷ top) [] h = absurd (false≢true h)
within_rest (n ∷ top) (m ∷ path) h =
    let parts = and_parts (bytes_eq n m) (is_within top path) h in
    let found = within_rest top path parts.1 in
    (found.0, ap₂ (λ x xs. x ∷ xs) (sym (same_name n m parts.0)) found.1)

drop_top : (top rest : Names) → drop (length top) (top ++ rest) ≡ rest
drop_top [] rest = refl
drop_top (n ∷ top) rest = drop_top top rest

-- what stands below the source goes below the target
pub moved_path-append : (source target rest : Names) → moved_path source target (source ++ rest) ≡ target ++ rest
moved_path-append source target rest =
    ap (λ b. if b then target ++ drop (length source) (source ++ rest) else source ++ rest) (within-append source rest)
    ∙ ap (λ names. target ++ names) (drop_top source rest)

-- and all else stays
pub moved_path-outside : (source target path : Names) → is_within source path ≡ false → moved_path source target path ≡ path
moved_path-outside source target path out = ap (λ b. if b then target ++ drop (length source) path else path) out

pub within_trans : (a b c : Names) → is_within a b ≡ true → is_within b c ≡ true → is_within a c ≡ true
within_trans [] b c h k = refl
within_trans (x ∷ a) [] c h k = absurd (false≢true h)
within_trans (x ∷ a) (y ∷ b) [] h k = absurd (false≢true k)
within_trans (x ∷ a) (y ∷ b) (z ∷ c) h k =
    let p = and_parts (bytes_eq x y) (is_within a b) h in
    let q = and_parts (bytes_eq y z) (is_within b c) k in
    and_from (bytes_eq x z) (is_within a c) (name_itself x z (same_name x y p.0 ∙ same_name y z q.0)) (within_trans a b c p.1 q.1)

pub within_up : (path : Names) → is_within (up path) path ≡ true
within_up [] = refl
within_up (n ∷ []) = refl
within_up (n ∷ m ∷ path) = and_from (bytes_eq n n) (is_within (up (m ∷ path)) (m ∷ path)) (name_itself n n refl) (within_up (m ∷ path))

only_root_within : (top : Names) → is_within top [] ≡ true → top ≡ []
only_root_within [] h = refl
only_root_within (n ∷ top) h = absurd (false≢true h)

-- what stands below the top, and isn't it, is held by what stands below the top
pub up_within : (top path : Names) → is_within top path ≡ true → path ≢ top → is_within top (up path) ≡ true
up_within [] path h other = refl
up_within (x ∷ top) [] h other = absurd (false≢true h)
up_within (x ∷ top) (y ∷ []) h other =
    let parts = and_parts (bytes_eq x y) (is_within top []) h in
    absurd (other (ap₂ (λ n ns. n ∷ ns) (sym (same_name x y parts.0)) (sym (only_root_within top parts.1))))
up_within (x ∷ top) (y ∷ z ∷ path) h other =
    let parts = and_parts (bytes_eq x y) (is_within top (z ∷ path)) h in
    and_from (bytes_eq x y) (is_within top (up (z ∷ path))) parts.0
    (up_within top (z ∷ path) parts.1 (λ same. other (ap₂ (λ n ns. n ∷ ns) (sym (same_name x y parts.0)) same)))

-- ---- the order

pub names_cmp_total : IsTotalOrder names_cmp
names_cmp_total = lists_total nat_list_cmp_total

name_antisymmetric : IsAntisymmetric (slice_cmp nat_cmp)
name_antisymmetric = slice_cmp-IsAntisymmetric nat_cmp-IsAntisymmetric

pub names_cmp_antisymmetric : IsAntisymmetric names_cmp
names_cmp_antisymmetric = slice_cmp-IsAntisymmetric name_antisymmetric

tied_first : (x y : List ℕ) (rest : Ordering) → x ≡ y → ordering_then (slice_cmp nat_cmp x y) rest ≡ rest
tied_first x y rest e = ap (λ n. ordering_then (slice_cmp nat_cmp x n) rest) (sym e) ∙ ap (λ o. ordering_then o rest) (tied_itself nat_list_cmp_total x)

-- a path stands before all that stands below it
pub within_before : (top path : Names) → is_within top path ≡ true → path ≢ top → names_cmp top path ≡ Less
within_before [] [] h other = absurd (other refl)
within_before [] (y ∷ path) h other = refl
within_before (x ∷ top) [] h other = absurd (false≢true h)
within_before (x ∷ top) (y ∷ path) h other =
    let parts = and_parts (bytes_eq x y) (is_within top path) h in
    tied_first x y (names_cmp top path) (same_name x y parts.0)
    ∙ within_before top path parts.1 (λ same. other (ap₂ (λ n ns. n ∷ ns) (sym (same_name x y parts.0)) same))

pub up_before : (path : Names) → is_root path ≡ false → names_cmp (up path) path ≡ Less
up_before [] h = absurd (false≢true (sym h))
up_before (n ∷ []) h = refl
up_before (n ∷ m ∷ path) h = tied_first n n (names_cmp (up (m ∷ path)) (m ∷ path)) refl ∙ up_before (m ∷ path) refl

-- what two paths begin with doesn't tell in their order
pub names_cmp_prefix : (top a b : Names) → names_cmp (top ++ a) (top ++ b) ≡ names_cmp a b
names_cmp_prefix [] a b = refl
names_cmp_prefix (n ∷ top) a b = tied_first n n (names_cmp (top ++ a) (top ++ b)) refl ∙ names_cmp_prefix top a b

between_by : (x y : List ℕ) (first second : Ordering) (rest back : Ordering) (G : Type 0)
    → slice_cmp nat_cmp x y ≡ first → slice_cmp nat_cmp y x ≡ second
    → ordering_then first rest ≡ Less → ordering_then second back ≡ Less
    → (x ≡ y → rest ≡ Less → back ≡ Less → G) → G
between_by x y Equal Equal rest back G p q h k found = found (name_antisymmetric x y p) h k
between_by x y Equal Less rest back G p q h k found = absurd (let e = tied_back nat_list_cmp_total x y p in cc)
between_by x y Equal Greater rest back G p q h k found = absurd cc
between_by x y Greater second rest back G p q h k found = absurd cc
between_by x y Less second rest back G p q h k found = absurd (let e = nat_list_cmp_total.antisymm y x in cc)

-- what stands between a top and something below it stands below the top
pub within_between : (top a b : Names) → names_cmp top a ≡ Less → names_cmp a b ≡ Less → is_within top b ≡ true → is_within top a ≡ true
within_between [] a b h k w = refl
within_between (x ∷ top) [] b h k w = absurd cc
within_between (x ∷ top) (y ∷ a) [] h k w = absurd cc
within_between (x ∷ top) (y ∷ a) (z ∷ b) h k w =
    let parts = and_parts (bytes_eq x z) (is_within top b) w in
    let same : x ≡ z = same_name x z parts.0 in
    between_by x y _ _ (names_cmp top a) (names_cmp a b) (is_within (x ∷ top) (y ∷ a) ≡ true) refl refl h (rw (← same) at k)
    (λ is less lower. and_from (bytes_eq x y) (is_within top a) (name_itself x y is) (within_between top a b less lower parts.1))
