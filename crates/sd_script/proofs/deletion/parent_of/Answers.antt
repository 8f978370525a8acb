use Rattle.sd_script.proofs.Cited.{Names, [], ap, append-nil, arith, drop, drop_of_length-le, is_root, le-ltb, length, length-up, moved_path, nat_tests, refl, sym, up, within_itself, ◌∙◌, ◌≡◌, ◌≤◌}
use Rattle.sd_script.proofs.deletion.parent_of.Goals as goal

-- the path with all of it replaced by the parent's
moved_up : (path : Names) → moved_path path (up path) path ≡ up path
moved_up path =
    let none : drop (length path) path ≡ [] = drop_of_length-le path (omega arith) in
    rw (within_itself path, none) (append-nil (up path))

pub moved-requires-clause-within : goal.moved-requires-clause-within
moved-requires-clause-within c = rw (c.as_path_ref-place.ensures) (within_itself c.args.path.now)

pub moved-requires-clause-fits : goal.moved-requires-clause-fits
moved-requires-clause-fits c =
    let depth = c.depth.ensures ∙ ap length c.as_path_ref-place.ensures in
    let low : length c.args.path.now ≤ 128 = grind (arith, nat_tests, depth, c.from.ensures, c.if-depth-from.false) in
    rw (c.parent.ensures, c.as_path_ref-place.ensures, moved_up c.args.path.now) (omega (arith, low, length-up c.args.path.now))

pub returns : goal.returns
returns c =
    let depth = c.depth.ensures ∙ ap length c.as_path_ref-place.ensures in
    let low : length c.args.path.now ≤ 128 = grind (arith, nat_tests, depth, c.from.ensures, c.if-depth-from.false) in
    let below = ap is_root (sym c.as_path_ref-place.ensures) ∙ sym c.is_root.ensures ∙ c.if-is_root.false in
    let parent = rw (c.parent.ensures, c.as_path_ref-place.ensures, moved_up c.args.path.now) at c.in_ok-parent.ensures in
    rw (below, le-ltb 128 (length c.args.path.now) low, parent) refl
