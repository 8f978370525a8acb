use Rattle.std.proofs.Common.{length}
use Rattle.std.specs.Prelude.{IsErrOf}
use Rattle.std.proofs.lemmas.Result.{err_from_is_err_and}
use Rattle.sd_text.specs.Sddl.{words}
use Rattle.sd_whole_parse.specs.declared.stop.Stop.TheVariants.{Memory}
use Rattle.sd_whole_parse.proofs.Opening.{found_kept, kept_at_entry, kept_drop}
use Rattle.sd_whole_parse.proofs.acl.read_section.Goals as goal

pub returns-then-words-clause-kept : goal.returns-then-words-clause-kept
returns-then-words-clause-kept c opens =
    kept_drop (length c.args.head.now) c.args.cursor.now.rest.now
    (rw c.if-not-eat.ensures.rest at (found_kept words c.eat.new.self.rest.now c.words-words.result c.words-words.new.self.rest.now c.words-words.ensures opens))

pub returns-in_err-entries-clause-memory : goal.returns-in_err-entries-clause-memory
returns-in_err-entries-clause-memory c is =
    let p = err_from_is_err_and c.from_residual.result c.from_residual.ensures.1 in
    let gone : IsErrOf c.read_entries.result Memory = cc (p.1, p.2, is, c.in_err-entries.was) in
    kept_drop (length c.args.head.now) c.args.cursor.now.rest.now
    (rw c.if-not-eat.ensures.rest at (found_kept words c.eat.new.self.rest.now c.words-words.result c.words-words.new.self.rest.now c.words-words.ensures (kept_at_entry c.words-words.new.self.rest.now (rw c.skip_to_entry.ensures.rest at (c.read_entries.ensures.memory gone)))))

pub returns-clause-kept : goal.returns-clause-kept
returns-clause-kept c opens =
    kept_drop (length c.args.head.now) c.args.cursor.now.rest.now
    (rw c.if-not-eat.ensures.rest at (found_kept words c.eat.new.self.rest.now c.words-words.result c.words-words.new.self.rest.now c.words-words.ensures (kept_at_entry c.words-words.new.self.rest.now (rw c.skip_to_entry.ensures.rest at (c.in_ok-entries.ensures.kept opens)))))
