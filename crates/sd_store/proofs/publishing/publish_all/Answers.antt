use Rattle.sd_store.proofs.Cited.{IsPrefix, Published, ShowTree, ap, drop, rules, store_id, subst, sym, ◌≡◌}
use Rattle.sd_store.proofs.Publishes.{publishes, journal_after, marks_after}
use Rattle.sd_store.proofs.publishing.publish_all.Goals as goal

pub publish_as-requires : goal.publish_as-requires
publish_as-requires g c next is =
    let n = store_id g.J.StoreId.opening g.J.Chain.book g.J.Chain.first in
    let shown = c.show.new.cell.desk.shown.value in
    let ops = drop c.show.new.cell.behind c.show.new.cell.log.items in
    let to : ShowTree ops c.args.tree c.args.front = search rules in
    let same : shown ≡ c.args.cell.desk.shown.value = ap (λ d. d.shown.value) c.show.ensures.desk in
    publishes shown next ops c.args.tree c.args.front to is n _ _ c.requires.opening c.requires.lawful c.requires.front
    (subst (λ (x : Published). IsPrefix x.tree.journal c.args.tree.journal) (sym same) c.requires.onwards)

pub returns-clause-journal : goal.returns-clause-journal
returns-clause-journal g c =
    let ops = drop c.show.new.cell.behind c.show.new.cell.log.items in
    let to : ShowTree ops c.args.tree c.args.front = search rules in
    rw (← c.show.ensures.desk) (journal_after _ _ c.publish_as.result.1 c.show.new.cell.desk.shown.value c.publish_as.result.0.desk.shown.value ops c.args.tree c.args.front to c.publish_as.ensures.values)

pub returns-clause-marks : goal.returns-clause-marks
returns-clause-marks g c =
    let ops = drop c.show.new.cell.behind c.show.new.cell.log.items in
    let to : ShowTree ops c.args.tree c.args.front = search rules in
    rw (← c.show.ensures.desk) (marks_after _ _ c.publish_as.result.1 c.show.new.cell.desk.shown.value c.publish_as.result.0.desk.shown.value ops c.args.tree c.args.front to c.publish_as.ensures.values)
