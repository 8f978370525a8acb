-- The explicit entries are put in order, and the inherited ones behind them.
use Rattle.sd_commands.proofs.Cited.{YieldsList-from_copied, YieldsList-from_filter, YieldsList-from_slice, acl_size_of, ap, arith, canonical_order, common_steps, is_explicit, is_inherited, items_from_collect, items_from_extend, rules, sorted, tests, ◌∙◌, ◌≡◌}
use Rattle.sd_commands.proofs.SortedOrder.{sorted_size}
use Rattle.sd_commands.proofs.sort.sorted_entries.Goals as goal

pub returns : goal.returns
returns c =
    let entries = c.args.entries.now in
    let first = items_from_collect c.collect.result c.collect.ensures.ran (YieldsList-from_copied (YieldsList-from_filter _ is_explicit (YieldsList-from_slice entries cc) c.filter-explicit.ensures.closure (λ x b r k. search (rules, tests)))) in
    let explicit = rw (c.in_ok-explicit.was) at first in
    let front = c.in_ok-ordered.ensures ∙ ap canonical_order (c.deref.ensures.value ∙ explicit) in
    let second = items_from_extend c.extend.result c.extend.ensures.ran (YieldsList-from_copied (YieldsList-from_filter _ is_inherited (YieldsList-from_slice entries cc) c.filter-inherited.ensures.closure (λ x b r k. search (rules, tests)))) in
    let whole : c.extend.new.self.items ≡ sorted entries = grind (arith, common_steps, front, second) in
    record { order = whole; size = ap acl_size_of whole ∙ sorted_size entries }
