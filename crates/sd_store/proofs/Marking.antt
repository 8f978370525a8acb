-- Operations that join what waits, and what a publish makes of what is shown.
use Rattle.sd_store.proofs.Cited.{Facts, Follow, IsOnePublish, List, Operation, ShowTree, [], ap, arith, false, fold, last_of, length, length-append, marked, marks_with, refl, set-append_seam, slice_set, true, ℕ, ◌++◌, ◌-◌, ◌<◌, ◌∷◌, ◌≡◌}

-- ---- what waits, and one operation more

follow_more : (ops : List Operation) (op : Operation) → Follow ops → op.opens ≡ false → Follow (ops ++ op ∷ [])
follow_more [] op follow is = (is, tt)
follow_more (x ∷ ops) op follow is = (follow.0, follow_more ops op follow.1 is)

pub one_more : (ops : List Operation) (op : Operation) → IsOnePublish ops → 0 < length ops → op.opens ≡ false → IsOnePublish (ops ++ op ∷ [])
one_more [] op one some is = absurd (omega arith)
one_more (x ∷ ops) op one some is = (one.0, follow_more ops op one.1 is)

pub first_one : (ops : List Operation) (op : Operation) → ¬ (0 < length ops) → op.opens ≡ true → IsOnePublish (ops ++ op ∷ [])
first_one [] op none is = (is, tt)
first_one (x ∷ ops) op none is = absurd (none (omega arith))

-- ---- a publish

-- the last mark moved
moved_last : (ms : List ℕ) (old new : ℕ) → slice_set (ms ++ old ∷ []) (length (ms ++ old ∷ []) - 1) new ≡ ms ++ new ∷ []
moved_last ms old new =
    let at : length (ms ++ old ∷ []) - 1 ≡ length ms = omega (arith, length-append ms (old ∷ [])) in
    rw at (set-append_seam ms old [] new)

-- what an operation shows, with these marks
abbrev shown_with : Operation → List ℕ → Facts
shown_with op marks = record { opening = op.tree.opening; journal = op.tree.journal; marks = marks; seen = op.front }

moves : (s : Facts) (op : Operation) (ms : List ℕ) (old : ℕ) → op.opens ≡ false → s.marks ≡ ms ++ old ∷ []
    → marks_with op.opens s.marks (length op.tree.journal) ≡ ms ++ length op.tree.journal ∷ []
moves s op ms old is marks = rw (is, marks) (moved_last ms old (length op.tree.journal))

followed : (ops : List Operation) (op : Operation) (s : Facts) (ms : List ℕ) (old : ℕ) → Follow (ops ++ op ∷ []) → s.marks ≡ ms ++ old ∷ []
    → fold marked s (ops ++ op ∷ []) ≡ shown_with op (ms ++ length op.tree.journal ∷ [])
followed [] op s ms old follow marks = ap (shown_with op) (moves s op ms old follow.0 marks)
followed (x ∷ ops) op s ms old follow marks =
    followed ops op (marked s x) ms (length x.tree.journal) follow.1 (moves s x ms old follow.0 marks)

opens : (s : Facts) (op : Operation) → op.opens ≡ true
    → marks_with op.opens s.marks (length op.tree.journal) ≡ s.marks ++ length op.tree.journal ∷ []
opens s op is = rw is refl

pub shows : (ops : List Operation) (op : Operation) → IsOnePublish (ops ++ op ∷ []) → ShowTree (ops ++ op ∷ []) op.tree op.front
shows [] op one s = ap (shown_with op) (opens s op one.0)
shows (x ∷ ops) op one s = followed ops op (marked s x) s.marks (length x.tree.journal) one.1 (opens s x one.0)

pub last_push : (ms : List ℕ) (n : ℕ) → last_of (ms ++ n ∷ []) ≡ n
last_push [] n = refl
last_push (x ∷ []) n = refl
last_push (x ∷ y ∷ ms) n = last_push (y ∷ ms) n
