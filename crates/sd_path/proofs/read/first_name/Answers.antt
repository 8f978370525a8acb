use Rattle.std.proofs.Common.{◌<◌, ◌≢◌, length, get_or, arith}
use Rattle.sd_path.proofs.PathTexts.{front_is_first, first-zero, first-long, first-none}
use Rattle.sd_path.proofs.read.first_name.Goals as goal
use Rattle.sd_path.proofs.read.first_name.Goals.{else-len-text-via-then-len-text+else-text-len-eq0, else-len-text-via-else-len-text}

pub returns-then-text-len-eq0 : goal.returns-then-text-len-eq0
returns-then-text-len-eq0 c = first-zero c.args.text.now _ c.name_len-len.ensures c.if-len-text.true c.if-text-len-eq0.true

pub returns-then-len-gt-MAX_NAME_BYTES : goal.returns-then-len-gt-MAX_NAME_BYTES
returns-then-len-gt-MAX_NAME_BYTES c =
    let other : c.name_len-len.result < length c.args.text.now → get_or c.args.text.now c.name_len-len.result 0 ≢ 0 =
    λ below. elim c.else-len-text.branch [
      | else-len-text-via-then-len-text+else-text-len-eq0 w ↦ w.if-text-len-eq0.false
      | else-len-text-via-else-len-text w ↦ absurd (omega (arith, below))
    ] in
    first-long c.args.text.now _ c.name_len-len.ensures other c.if-len-gt-MAX_NAME_BYTES.true

pub returns-else-len-gt-MAX_NAME_BYTES : goal.returns-else-len-gt-MAX_NAME_BYTES
returns-else-len-gt-MAX_NAME_BYTES c =
    let other : c.name_len-len.result < length c.args.text.now → get_or c.args.text.now c.name_len-len.result 0 ≢ 0 =
    λ below. elim c.else-len-text.branch [
      | else-len-text-via-then-len-text+else-text-len-eq0 w ↦ w.if-text-len-eq0.false
      | else-len-text-via-else-len-text w ↦ absurd (omega (arith, below))
    ] in (
      front_is_first c.args.text.now _ c.name_len-len.ensures other,
      first-none c.args.text.now _ c.name_len-len.ensures other c.if-len-eq0.false c.if-len-gt-MAX_NAME_BYTES.false,
    )
