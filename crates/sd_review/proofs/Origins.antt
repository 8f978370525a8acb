-- Where a node was, one edit after the other.
use Rattle.sd_review.proofs.Cited.{Edit, List, Names, None, Option, Some, [], ap, arith, drop, get_or, get_or-drop, length, length-drop, option_and_then, origin, place_before, refl, slice_get, subst, suc, sym, take, take-length, zero, ℕ, ◌+◌, ◌-◌, ◌<◌, ◌∙◌, ◌∷◌, ◌≡◌, ◌≤◌}

and_then_some : (x : Option Names) → option_and_then (origin []) x ≡ x
and_then_some None = refl
and_then_some (Some path) = refl

and_then_each : (e : Edit) (f : Names → Option Names) (x : Option Names)
    → option_and_then (place_before e) (option_and_then f x) ≡ option_and_then (λ p. option_and_then (place_before e) (f p)) x
and_then_each e f None = refl
and_then_each e f (Some path) = refl

-- before all edits to a place it was where it was before those before it
origin_to : (edits : List Edit) (k : ℕ) (e : Edit) (path : Names) → k < length edits → get_or edits k e ≡ e
    → origin (take (suc k) edits) path ≡ option_and_then (origin (take k edits)) (place_before e path)
origin_to [] k e path low there = absurd (omega (arith, low))
origin_to (first ∷ edits) zero e path low there =
    ap (λ x. place_before x path) there ∙ sym (and_then_some (place_before e path))
origin_to (first ∷ edits) (suc k) e path low there =
    ap (option_and_then (place_before first)) (origin_to edits k e path (omega (arith, low)) there)
    ∙ and_then_each first (origin (take k edits)) (place_before e path)

get_there : (edits : List Edit) (at : ℕ) (e : Edit) → Some e ≡ slice_get edits at → (at < length edits) × (get_or edits at e ≡ e)
get_there [] at e is = absurd (cc (is))
get_there (x ∷ edits) zero e is = let same : e ≡ x = cc (is) in (omega arith, sym same)
get_there (x ∷ edits) (suc at) e is = let rest = get_there edits at e is in (let low = rest.0 in omega (arith, low), rest.1)

-- as far as the edits from a place on are walked back, down to `at`
abbrev pub IsWalked : List Edit → ℕ → ℕ → Names → Names → Type 0
IsWalked journal from at place path = origin (take (at - from) (drop from journal)) place ≡ origin (drop from journal) path

-- before the first of them nothing is walked
pub walked_none : (journal : List Edit) (from at : ℕ) (place path : Names) → at ≡ length journal → place ≡ path → IsWalked journal from at place path
walked_none journal from at place path whole same =
    let left : at - from ≡ length (drop from journal) = ap (λ n. n - from) whole ∙ sym (length-drop from journal) in
    ap (λ n. origin (take n (drop from journal)) place) left ∙ ap (λ es. origin es place) (take-length (drop from journal))
    ∙ ap (origin (drop from journal)) same

-- one edit more
pub walked_one : (journal : List Edit) (from at : ℕ) (e : Edit) (place path : Names) (before : Option Names) → IsWalked journal from at place path
    → from < at → Some e ≡ slice_get journal (at - 1) → before ≡ place_before e place
    → option_and_then (origin (take (at - 1 - from) (drop from journal))) before ≡ origin (drop from journal) path
walked_one journal from at e place path before so_far above is found =
    let k = at - 1 - from in
    let there = get_there journal (at - 1) e is in
    let seat : from + k ≡ at - 1 = omega (arith, above) in
    let next : suc k ≡ at - from = omega (arith, above) in
    let size = length-drop from journal in
    let within = there.0 in
    let low : k < length (drop from journal) = omega (arith, above, size, within) in
    let here : get_or (drop from journal) k e ≡ e = get_or-drop from journal k e ∙ ap (λ n. get_or journal n e) seat ∙ there.1 in
    ap (option_and_then (origin (take k (drop from journal)))) found
    ∙ sym (origin_to (drop from journal) k e place low here)
    ∙ ap (λ n. origin (take n (drop from journal)) place) next ∙ so_far

-- all are walked
pub walked_all : (journal : List Edit) (from at : ℕ) (place path : Names) → IsWalked journal from at place path → at ≤ from
    → Some place ≡ origin (drop from journal) path
walked_all journal from at place path so_far below =
    let none : 0 ≡ at - from = omega (arith, below) in
    ap (λ n. origin (take n (drop from journal)) place) none ∙ so_far
