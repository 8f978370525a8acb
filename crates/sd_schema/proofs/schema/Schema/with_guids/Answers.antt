use Rattle.std.proofs.Common.{IfErr, IfOk, Ok, map, string_bytes, subst, sym, ◌≡◌}
use Rattle.sd_schema.specs.Kept.{rows_of}
use Rattle.sd_schema.specs.Words.{IsWordError}
use Rattle.sd_schema.proofs.Cut.{bad_front, front_done}
use Rattle.sd_schema.proofs.schema.Schema.with_guids.Goals as goal

pub returns-in-Ok-clause-words : goal.returns-in-Ok-clause-words
returns-in-Ok-clause-words c =
    let same = front_done (rows_of c.args.self.now) c.args.tree c.min-tree.result c.args.words.now c.min-tree.ensures (map string_bytes c.in-Ok.begun.items) c.in-Ok.ensures.words in
    subst (λ found. IfOk c.tree_words.result (λ own. found ≡ Ok (map string_bytes own.items))) (sym same) c.tree_words.ensures.words

pub returns-in-Ok-clause-none : goal.returns-in-Ok-clause-none
returns-in-Ok-clause-none c =
    let same = front_done (rows_of c.args.self.now) c.args.tree c.min-tree.result c.args.words.now c.min-tree.ensures (map string_bytes c.in-Ok.begun.items) c.in-Ok.ensures.words in
    subst (λ found. IfErr c.tree_words.result (IsWordError found)) (sym same) c.tree_words.ensures.none

pub returns-in-Err-clause-none : goal.returns-in-Err-clause-none
returns-in-Err-clause-none c =
    bad_front (rows_of c.args.self.now) c.args.tree c.min-tree.result c.args.words.now c.min-tree.ensures c.in-Err.error c.in-Err.ensures.none
