-- A missing list grants every right to everybody. What is exact says enough of restricted tokens.
use Rattle.sd_analysis.proofs.Cited.{IfOk-weaker, Some, entries_of}
use Rattle.sd_analysis.proofs.Rights.{asked_low, each_once, everyone_is_who, list_is_who, who_is_most}
use Rattle.sd_analysis.proofs.who_has.who.Goals as goal

pub accesses-requires : goal.accesses-requires
accesses-requires c = asked_low c.args.rights c.common-rights.result c.common-rights.ensures

pub returns-in_default : goal.returns-in_default
returns-in_default c = record {
  exact = IfOk-weaker c.everyone.result _ _ (λ accesses each.
      everyone_is_who c.args.owner c.args.dacl c.args.mapping.now c.args.base.now c.args.rights c.common-rights.result accesses.items c.in_default.not-List c.common-rights.ensures each) c.everyone.ensures.everyone;
  most = IfOk-weaker c.everyone.result _ _ (λ accesses each. who_is_most c.args.owner (entries_of c.args.dacl) c.args.mapping.now c.args.base.now c.args.rights accesses.items
      (everyone_is_who c.args.owner c.args.dacl c.args.mapping.now c.args.base.now c.args.rights c.common-rights.result accesses.items c.in_default.not-List c.common-rights.ensures each)) c.everyone.ensures.everyone;
  each = IfOk-weaker c.everyone.result _ _ (λ accesses once. each_once c.args.rights c.common-rights.result accesses.items c.common-rights.ensures once) c.everyone.ensures.each;
  beyond = IfOk-weaker c.everyone.result _ _ (λ accesses none. none c.args.base.now) c.everyone.ensures.beyond;
}

pub returns-clause-exact : goal.returns-clause-exact
returns-clause-exact c = rw c.in-List.is (IfOk-weaker c.accesses.result _ _ (λ accesses each.
    list_is_who c.args.owner c.in-List.entries.now c.args.mapping.now c.args.base.now c.args.rights c.common-rights.result accesses.items c.common-rights.ensures each) c.accesses.ensures.exact)

pub returns-clause-most : goal.returns-clause-most
returns-clause-most c = rw c.in-List.is (IfOk-weaker c.accesses.result _ _ (λ accesses each.
    who_is_most c.args.owner (Some c.in-List.entries.now) c.args.mapping.now c.args.base.now c.args.rights accesses.items
    (list_is_who c.args.owner c.in-List.entries.now c.args.mapping.now c.args.base.now c.args.rights c.common-rights.result accesses.items c.common-rights.ensures each)) c.accesses.ensures.exact)

pub returns-clause-each : goal.returns-clause-each
returns-clause-each c = IfOk-weaker c.accesses.result _ _ (λ accesses once. each_once c.args.rights c.common-rights.result accesses.items c.common-rights.ensures once) c.accesses.ensures.each
