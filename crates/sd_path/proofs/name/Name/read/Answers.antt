use Rattle.sd_path.proofs.Cited.{ap, arith, is_name_byte, prefix_len, refl, ◌∙◌}
use Rattle.sd_path.proofs.PathTexts.{whole-cut, whole-empty, whole-long, whole-none, whole-name, whole-within}
use Rattle.sd_path.proofs.name.Name.read.Goals as goal

pub returns-then-len-text : goal.returns-then-len-text
returns-then-len-text c =
    whole-cut c.args.text.now c.name_len-len.result (c.name_len-len.ensures ∙ ap (prefix_len is_name_byte) c.as_bytes.ensures.value) c.if-len-text.true

pub returns-then-len-eq0 : goal.returns-then-len-eq0
returns-then-len-eq0 c = whole-empty c.args.text.now (omega (arith, c.if-len-text.false, c.if-len-eq0.true))

pub returns-then-len-gt-MAX_NAME_BYTES : goal.returns-then-len-gt-MAX_NAME_BYTES
returns-then-len-gt-MAX_NAME_BYTES c =
    let e = c.name_len-len.ensures ∙ ap (prefix_len is_name_byte) c.as_bytes.ensures.value in
    let within = whole-within c.args.text.now c.name_len-len.result e in
    whole-long c.args.text.now c.name_len-len.result e c.if-len-text.false (omega (arith, within, c.if-len-gt-MAX_NAME_BYTES.true))

pub invariant_of-result : goal.invariant_of-result
invariant_of-result c =
    let e = c.name_len-len.ensures ∙ ap (prefix_len is_name_byte) c.as_bytes.ensures.value in
    let within = whole-within c.args.text.now c.name_len-len.result e in
    whole-name c.args.text.now c.name_len-len.result e c.if-len-text.false (omega (arith, within, c.if-len-text.false, c.if-len-eq0.false)) (omega (arith, c.if-len-text.false, c.if-len-gt-MAX_NAME_BYTES.false))

pub returns : goal.returns
returns c =
    let e = c.name_len-len.ensures ∙ ap (prefix_len is_name_byte) c.as_bytes.ensures.value in
    let within = whole-within c.args.text.now c.name_len-len.result e in
    (refl, whole-none c.args.text.now c.name_len-len.result e c.if-len-text.false (omega (arith, within, c.if-len-text.false, c.if-len-eq0.false)) (omega (arith, c.if-len-text.false, c.if-len-gt-MAX_NAME_BYTES.false)))
