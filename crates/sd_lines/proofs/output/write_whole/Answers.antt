use Rattle.sd_lines.proofs.Cited.{Appends-trans, List, ap, append_assoc, drop, length, rules, sym, take, take-append-drop, take_rest, ℕ, ◌++◌, ◌-◌, ◌∙◌, ◌≡◌}
use Rattle.sd_lines.proofs.output.write_whole.Goals as goal

moves_front : (all done rest : List ℕ) (n : ℕ) → all ≡ done ++ rest → all ≡ (done ++ take n rest) ++ take (length rest - n) (drop n rest)
moves_front all done rest n e =
    e ∙ ap (λ l. done ++ l) (sym (take-append-drop n rest)) ∙ sym (append_assoc done (take n rest) (drop n rest)) ∙ ap (λ l. (done ++ take n rest) ++ l) (sym (take_rest rest n))

pub loop-rest-preserved : goal.loop-rest-preserved
loop-rest-preserved g c =
    let so_far = c.loop-rest.invariant in
    let rest = c.loop-rest.rest.now in
    let taken = c.in-Ok.taken in
    record {
      done = so_far.done ++ take taken rest;
      split = moves_front _ so_far.done rest taken so_far.split;
      appended = Appends-trans _ _ _ _ _ so_far.appended c.in-Ok.ensures.bytes;
      unfailed = search rules;
    }
