-- One user more; and a fault.
use Rattle.std.proofs.Common.{ap, IfNone, IfSome, subst, ◌∙◌, ◌≡◌}
use Rattle.sd_accounts.specs.Accounts.{rows_of}
use Rattle.sd_accounts.specs.Users.{named_user}
use Rattle.sd_named.specs.Arguments.{starts}
use Rattle.sd_people.specs.Asked.{each_of}
use Rattle.sd_people.specs.People.{IsGrantedNothing, IsOfUser, Said, nobody, people_of}
use Rattle.sd_people.proofs.Turns.{at_place, one_more, one_passed}
use Rattle.sd_people.proofs.people.Asker.of_all.Goals as goal

pub loop-user-init : goal.loop-user-init
loop-user-init c = record { told = rw c.new-told.ensures.items nobody; fit = c.requires.fit }

pub returns-in-Fault : goal.returns-in-Fault
returns-in-Fault c =
    let asker = c.args.self.now in
    let user = c.user-item.result in
    let is = subst (λ p. IsOfUser (rows_of asker.naming.accounts.now) asker.settings.now asker.words.now (each_of c.args.each) (named_user user) (people_of p))
    c.in-Fault.is c.in_ok-answer.ensures in
    (named_user user, at_place c.args.users.now c.loop-user.user-index user c.loop-user-test.true c.user-item.is, is)

pub of_member-requires-clause-member : goal.of_member-requires-clause-member
of_member-requires-clause-member c =
    let asker = c.args.self.now in
    let are = subst (λ o. IfSome o (λ m. (m.rows ≡ rows_of asker.naming.accounts.now) × (m.starts ≡ c.deref.result.now))) c.in-Some.is
    (c.in_ok-member.ensures.member asker.settings.now asker.words.now (each_of c.args.each) c.loop-user.invariant.fit) in
    (are.0, are.1 ∙ c.deref.ensures.value ∙ c.in_ok-starts.ensures ∙ ap (λ b. starts b c.user-item.result.0 asker.words.now) c.is_some-has_logon.ensures)

pub loop-user-preserved : goal.loop-user-preserved
loop-user-preserved c =
    let asker = c.args.self.now in
    let rows = rows_of asker.naming.accounts.now in
    let each = each_of c.args.each in
    let user = c.user-item.result in
    let said = subst (λ p. IsOfUser rows asker.settings.now asker.words.now each (named_user user) (people_of p)) c.in-Told.is c.in_ok-answer.ensures in
    let is = subst (λ u. IsOfUser rows asker.settings.now asker.words.now each (named_user u) (Said c.in-Told.more.items c.in-Told.some)) c.user-item.is said in
    record {
      told = rw c.either-left.ensures
          (one_more rows asker.settings.now asker.words.now each c.args.users.now c.loop-user.user-index user c.loop-user.told.items c.in-Told.more.items
          c.append.new.self.items c.loop-user.left c.in-Told.some c.loop-user-test.true c.loop-user.invariant.told is c.in_ok-append-in-Told.ensures.items);
      fit = c.member_asked.ensures.fit rows asker.settings.now asker.words.now each c.loop-user.invariant.fit;
    }

pub loop-user-preserved-in_default : goal.loop-user-preserved-in_default
loop-user-preserved-in_default c =
    let asker = c.args.self.now in
    let rows = rows_of asker.naming.accounts.now in
    let each = each_of c.args.each in
    let user = c.user-item.result in
    let own = c.deref.ensures.value ∙ c.in_ok-starts.ensures ∙ ap (λ b. starts b user.0 asker.words.now) c.is_some-has_logon.ensures in
    let nothing = subst (λ o. IfNone o (IsGrantedNothing rows asker.settings.now asker.words.now each user.0)) c.in_default.is
    (c.in_ok-member.ensures.passed rows asker.settings.now asker.words.now each user.0 own c.loop-user.invariant.fit) in
    record {
      told = one_passed rows asker.settings.now asker.words.now each c.args.users.now c.loop-user.user-index user c.loop-user.told.items c.loop-user.left
          c.loop-user-test.true c.loop-user.invariant.told (subst (λ u. IsGrantedNothing rows asker.settings.now asker.words.now each u.0) c.user-item.is nothing);
      fit = c.member_asked.ensures.fit rows asker.settings.now asker.words.now each c.loop-user.invariant.fit;
    }
