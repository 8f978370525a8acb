-- Whom what was read speaks of.
use Rattle.std.proofs.Common.{ap, subst, sym, ◌∙◌, ◌≡◌}
use Rattle.std.specs.List.{Contains}
use Rattle.sd_acl.specs.Descriptor.{descriptor_of}
use Rattle.sd_people.specs.Passed.{subjects}
use Rattle.sd_people.proofs.Fit.{all_wanted, owner_wanted}
use Rattle.sd_people.proofs.wanted.search_for.Goals as goal

pub returns-clause-speaks : goal.returns-clause-speaks
returns-clause-speaks c = λ settings text mask is.
    let d = descriptor_of c.args.reading.now.descriptor in
    let all : c.deref.result.now ≡ subjects d.owner c.in-List.list = c.deref.ensures.value ∙ c.in_ok-sids.ensures ∙ ap (subjects d.owner) c.entries.ensures.entries in
    record {
      whole = is.whole;
      logon = is.logon;
      is_mask = (c.args.reading.now.asked, is.is_mask);
      descriptor = d;
      spells = is.spells;
      entries = c.in-List.list;
      list = c.in-List.is;
      owner = λ sid is. c.in_ok-new.ensures.wanted sid (subst (λ sids. Contains sids sid) (sym all) (owner_wanted d.owner c.in-List.list sid is));
      allowed = all_wanted d.owner c.in-List.list _ (λ sid at. c.in_ok-new.ensures.wanted sid (subst (λ sids. Contains sids sid) (sym all) at));
    }
