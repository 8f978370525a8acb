-- Parts of the bytes: behind a front, cell by cell, in two pieces.
use Rattle.sd_wire.proofs.Cited.{List, Stands, [], add-zero, add_assoc, ap, arith, cells, cells_fit, drop, drop-drop, drop-take, drop_at, from_le_bytes, get_or, get_or-append-add, get_or-drop, get_or-take, le_bytes_2, le_bytes_4, length, length-append, length-drop, length-take, length-take-le, refl, sym, take, take-add, take_at, to_le_bytes, u16_at, u32_at, w16, w32, ℕ, ◌++◌, ◌+◌, ◌-◌, ◌<◌, ◌∙◌, ◌∷◌, ◌≡◌, ◌≤◌}

-- ---- behind a front

pub u16_behind : (front bytes : List ℕ) (i : ℕ) → u16_at (front ++ bytes) (length front + i) ≡ u16_at bytes i
u16_behind front bytes i =
    let next : get_or (front ++ bytes) (length front + i + 1) 0 ≡ get_or bytes (i + 1) 0 = ap (λ k. get_or (front ++ bytes) k 0) (add_assoc (length front) i 1) ∙ get_or-append-add front bytes (i + 1) 0 in
    rw (get_or-append-add front bytes i 0, next) refl

pub stands_behind_front : (front part rest : List ℕ) → Stands (front ++ (part ++ rest)) (length front) part
stands_behind_front front part rest = ap (take (length part)) (drop_at front (part ++ rest) (length front) refl) ∙ take_at part rest (length part) refl

-- ---- a part that stands

pub stands_at : (bytes : List ℕ) (o : ℕ) (part : List ℕ) (i : ℕ) → Stands bytes o part → i < length part → get_or bytes (o + i) 0 ≡ get_or part i 0
stands_at bytes o part i h lt = sym (get_or-drop o bytes i 0) ∙ sym (get_or-take (length part) (drop o bytes) i 0 lt) ∙ ap (λ (l : List ℕ). get_or l i 0) h

pub stands_within : (bytes : List ℕ) (o : ℕ) (part : List ℕ) → Stands bytes o part → 0 < length part → o + length part ≤ length bytes
stands_within bytes o part h some = omega (arith, length-take (length part) (drop o bytes), length-drop o bytes, ap length h)

pub stands_second : (bytes : List ℕ) (o : ℕ) (x y : List ℕ) → Stands bytes o (x ++ y) → Stands bytes (o + length x) y
stands_second bytes o x y h =
    ap (take (length y)) (sym (drop-drop (length x) o bytes))
    ∙ sym (drop-take (length x) (length y) (drop o bytes))
    ∙ ap (λ n. drop (length x) (take n (drop o bytes))) (sym (length-append x y))
    ∙ ap (drop (length x)) h
    ∙ drop_at x y (length x) refl

pub stands_join : (bytes : List ℕ) (o : ℕ) (x y : List ℕ) → Stands bytes o x → Stands bytes (o + length x) y → Stands bytes o (x ++ y)
stands_join bytes o x y first second =
    ap (λ n. take n (drop o bytes)) (length-append x y)
    ∙ take-add (length x) (length y) (drop o bytes)
    ∙ ap (λ (l : List ℕ). l ++ take (length y) (drop (length x) (drop o bytes))) first
    ∙ ap (λ (l : List ℕ). x ++ take (length y) l) (drop-drop (length x) o bytes)
    ∙ ap (λ (l : List ℕ). x ++ l) second

-- a part that stands is the front of the bytes from its place to any end behind it
pub stands_range : (bytes : List ℕ) (o end : ℕ) (part : List ℕ) → Stands bytes o part → o + length part ≤ end
    → take (end - o) (drop o bytes) ≡ part ++ take (end - o - length part) (drop (length part) (drop o bytes))
stands_range bytes o end part h le =
    let split : end - o ≡ length part + (end - o - length part) = omega arith in
    ap (λ n. take n (drop o bytes)) split
    ∙ take-add (length part) (end - o - length part) (drop o bytes)
    ∙ ap (λ (l : List ℕ). l ++ take (end - o - length part) (drop (length part) (drop o bytes))) h

-- ---- numbers that are read stand

pub u16_stands : (bytes : List ℕ) (o : ℕ) → o + 2 ≤ length bytes → ((i : ℕ) → get_or bytes i 0 < 256) → Stands bytes o (to_le_bytes w16 (u16_at bytes o))
u16_stands bytes o h fits =
    let part : take 2 (drop o bytes) ≡ get_or bytes o 0 ∷ get_or bytes (o + 1) 0 ∷ [] = cells bytes o 2 h ∙ rw add-zero refl in
    sym (le_bytes_2 (take 2 (drop o bytes)) (u16_at bytes o) (length-take-le 2 (drop o bytes) (omega (arith, length-drop o bytes))) (cells_fit bytes o 2 fits) (ap (from_le_bytes w16) (sym part)))

pub u32_stands : (bytes : List ℕ) (o : ℕ) → o + 4 ≤ length bytes → ((i : ℕ) → get_or bytes i 0 < 256) → Stands bytes o (to_le_bytes w32 (u32_at bytes o))
u32_stands bytes o h fits =
    let part : take 4 (drop o bytes) ≡ get_or bytes o 0 ∷ get_or bytes (o + 1) 0 ∷ get_or bytes (o + 2) 0 ∷ get_or bytes (o + 3) 0 ∷ [] = cells bytes o 4 h ∙ rw add-zero refl in
    sym (le_bytes_4 (take 4 (drop o bytes)) (u32_at bytes o) (length-take-le 4 (drop o bytes) (omega (arith, length-drop o bytes))) (cells_fit bytes o 4 fits) (ap (from_le_bytes w32) (sym part)))
