use Rattle.std.proofs.Common.{rules}
use Rattle.sd_c.proofs.Words.{before_last, has_parts}
use Rattle.sd_answer.specs.Word.{texts as texts_of}
use Rattle.sd_c.proofs.client.words_in.Goals.{in_default-via-in-Some+else-is_empty, in_default-via-in_default}
use Rattle.sd_c.proofs.client.words_in.Goals as goal

pub returns : goal.returns
returns c =
    let parts = c.in_ok-words.words.items in
    elim c.in_default.branch [
      | in_default-via-in-Some+else-is_empty w ↦ (
        texts_of c.pop.new.self.items,
        w.in-Some.last.now,
        before_last c.args.text.now parts c.pop.new.self.items w.in-Some.last c.in_ok-words.ensures (search rules),
        search rules,
      )
      | in_default-via-in_default w ↦ absurd (has_parts c.args.text.now parts c.in_ok-words.ensures (search rules))
    ]
