-- The numbers that are written are those that stand at their places.
use Rattle.sd_sid.proofs.Cited.{arith, drop, fill_by_all, get_or-drop, get_or-replicate, length-replicate, replicate, same_number_lists, sym, take, u32_at, ℕ, ◌*◌, ◌+◌, ◌-◌, ◌∙◌}
use Rattle.std.proofs.Common.{length-take, length-drop, get_or-take}
use Rattle.sd_sid.proofs.bytes.each_sub_of.Goals as goal

pub returns-clause-subs : goal.returns-clause-subs
returns-clause-subs c =
    fill_by_all (λ k. u32_at c.args.bytes.now (8 + 4 * k)) (take c.args.count c.loop-k.subs) c.args.count 0
    (omega (arith, length-take c.args.count c.loop-k.subs))
    (λ k h. get_or-take c.args.count c.loop-k.subs k 0 h ∙ c.loop-k.invariant.2 k (omega arith))

pub returns-clause-padding : goal.returns-clause-padding
returns-clause-padding c =
    let count = c.args.count in
    let subs = c.loop-k.subs in
    same_number_lists (drop count subs) (replicate (15 - count) 0)
    (omega (arith, length-drop count subs, length-replicate {A = ℕ} (15 - count) 0))
    (λ k h. get_or-drop count subs k 0
    ∙ c.loop-k.invariant.3 (count + k) (omega arith) (omega (arith, length-drop count subs))
    ∙ sym (get_or-replicate (15 - count) k 0 0 (omega (arith, length-drop count subs))))
