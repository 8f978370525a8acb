use Rattle.sd_specialize.specs.Rule.{rule_of}
use Rattle.sd_specialize.proofs.Lists.{grown}
use Rattle.sd_specialize.proofs.descriptor.entries_by.Goals as goal

pub loop-i-preserved : goal.loop-i-preserved
loop-i-preserved c =
    grown (rule_of c.args.rule) c.args.entries.now c.loop-i.i c.index-entries-i.result c.in_ok-numbered_entry.field-0 c.loop-i.plain.items c.push.new.self.items
    c.loop-i-test.true c.index-entries-i.is c.in_ok-numbered_entry.ensures c.loop-i.invariant c.in_ok-push.ensures.items
