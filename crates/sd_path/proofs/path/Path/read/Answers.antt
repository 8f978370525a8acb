use Rattle.sd_path.proofs.Cited.{Ok, ap, err_from_is_err_and, length, names_of, sym, ◌∙◌}
use Rattle.sd_path.proofs.PathTexts.{path_of-empty, path_of-other, path_of-root, read-fault, read-memory, read-path, Keeps-read}
use Rattle.sd_path.proofs.path.Path.read.Goals as goal

pub returns-in_default : goal.returns-in_default
returns-in_default c =
    path_of-empty c.args.text.now (ap length (sym c.as_bytes.ensures.value) ∙ c.in_default.ensures.cases)

pub returns-then-first-ne47 : goal.returns-then-first-ne47
returns-then-first-ne47 c =
    path_of-other c.args.text.now c.in-Some.first.now c.in-Some.names.now (sym c.as_bytes.ensures.value ∙ c.in-Some.ensures.cases.0) c.if-first-ne47.true

pub returns-then-is_empty : goal.returns-then-is_empty
returns-then-is_empty c =
    path_of-root c.args.text.now c.in-Some.first.now c.in-Some.names.now (sym c.as_bytes.ensures.value ∙ c.in-Some.ensures.cases.0) c.if-first-ne47.false (sym c.if-is_empty.ensures)
    ∙ ap (λ bs. Ok (names_of bs)) (sym c.new.ensures.items)

pub returns-in_err-count : goal.returns-in_err-count
returns-in_err-count c =
    let p = err_from_is_err_and c.from_residual.result c.from_residual.ensures.1 in
    rw (p.1, p.2)
    (read-fault c.args.text.now c.in-Some.first.now c.in-Some.names.now _ (sym c.as_bytes.ensures.value ∙ c.in-Some.ensures.cases.0) c.if-first-ne47.false (sym c.if-is_empty.ensures) c.in_err-count.ensures)

pub returns-in_err-bytes : goal.returns-in_err-bytes
returns-in_err-bytes c =
    let p = err_from_is_err_and c.from_residual-in_err-bytes.result c.from_residual-in_err-bytes.ensures.1 in
    rw (p.1, p.2)
    (read-memory c.args.text.now c.in-Some.first.now c.in-Some.names.now (sym c.as_bytes.ensures.value ∙ c.in-Some.ensures.cases.0) c.if-first-ne47.false (sym c.if-is_empty.ensures) c.in_ok-count.ensures.0)

pub invariant_of-result-2 : goal.invariant_of-result-2
invariant_of-result-2 c =
    Keeps-read c.in-Some.names.now c.in_ok-bytes.bytes.items c.in_ok-count.count c.in_ok-count.ensures.0 c.in_ok-count.ensures.1 c.in_ok-bytes.ensures

pub returns : goal.returns
returns c =
    read-path c.args.text.now c.in-Some.first.now c.in-Some.names.now c.in_ok-bytes.bytes.items (sym c.as_bytes.ensures.value ∙ c.in-Some.ensures.cases.0) c.if-first-ne47.false (sym c.if-is_empty.ensures) c.in_ok-count.ensures.0 c.in_ok-bytes.ensures
