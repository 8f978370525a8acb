use Rattle.std.proofs.Common.{ap, arith, [], ◌++◌, ◌<◌, ◌≡◌, ◌∙◌, ◌∷◌, length, List, ℕ}
use Rattle.indexmap.specs.IndexMap.{keys}
use Rattle.sd_sid.specs.Sid.{SidValue}
use Rattle.sd_accounts.specs.Index.{Grows, kept, numbers_at, sid_at}
use Rattle.sd_accounts.proofs.Indexed.{apart, groups_added, grow_on, grown, kept_or, longer, numbers_found, sid_stays, within_added}
use Rattle.sd_accounts.proofs.index.add_group.Goals as goal

module _ (c : goal.Joined-branch-5) where
  abbrev old_keys : List SidValue
  old_keys = keys c.args.index.now

  abbrev new_keys : List SidValue
  new_keys = keys c.insert-2.new.self

  abbrev next_keys : List SidValue
  next_keys = keys c.number_of.new.index

  abbrev number : ℕ
  number = c.in_ok-number.number

  put : Grows next_keys new_keys
  put = grown c.number_of.new.index c.insert-2.new.self c.args.member c.push.new.self c.in_ok-insert-2.ensures.entries

  grows : Grows old_keys new_keys
  grows =
      grow_on old_keys (keys c.insert.new.self) new_keys
      (grown c.args.index.now c.insert.new.self c.args.member c.new-none.result c.in_ok-insert.ensures.entries)
      (grow_on (keys c.insert.new.self) next_keys new_keys c.in_ok-number.ensures.keys put)

  low : number < length new_keys
  low = omega (arith, c.in_ok-number.ensures.group.0, longer next_keys new_keys put)

  is : sid_at new_keys number ≡ c.args.group
  is = sid_stays next_keys new_keys number put c.in_ok-number.ensures.group.0 ∙ c.in_ok-number.ensures.group.1

  more : c.push.new.self.items ≡ numbers_at c.args.index.now c.args.member ++ number ∷ []
  more = c.in_ok-push.ensures.items ∙ ap (λ ns. ns ++ number ∷ [])
      (ap (λ g. g.items) c.unwrap_or-groups.ensures ∙ kept_or c.in_ok-insert.field-0 c.new.result c.new.ensures.items ∙ ap kept c.in_ok-insert.ensures.old
      ∙ numbers_found c.args.index.now c.args.member)

pub returns-clause-groups : goal.returns-clause-groups
returns-clause-groups c =
    groups_added c.args.index.now c.insert.new.self c.number_of.new.index c.insert-2.new.self c.args.member c.args.group c.new-none.result c.push.new.self (number c) c.requires
    c.in_ok-insert.ensures.updates c.in_ok-number.ensures.groups c.in_ok-insert-2.ensures.updates (more c) (grows c) (low c) (is c)

pub returns-clause-sound : goal.returns-clause-sound
returns-clause-sound c = record {
  within = within_added c.args.index.now c.insert.new.self c.number_of.new.index c.insert-2.new.self c.args.member c.args.group c.new-none.result c.push.new.self (number c) c.requires
      c.in_ok-insert.ensures.updates c.in_ok-number.ensures.groups c.in_ok-insert-2.ensures.updates (more c) (grows c) (low c) (is c);
  apart = apart (keys c.insert-2.new.self) c.in_ok-insert-2.ensures.unique;
}
