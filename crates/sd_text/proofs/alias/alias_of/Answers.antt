use Rattle.std.proofs.Common.{length, arith, ap, sym}
use Rattle.sd_text.proofs.Tables.{alias_is_pair}
use Rattle.sd_text.proofs.alias.alias_of.Goals as goal

pub returns-in_default : goal.returns-in_default
returns-in_default c = absurd (let two = alias_is_pair c.args.sid.now c.in_ok-alias_text.field-0.now (sym c.in_ok-alias_text.ensures) in let same = ap length c.as_bytes.ensures.value in omega arith)

pub returns-in_default-2 : goal.returns-in_default-2
returns-in_default-2 c = absurd (let two = alias_is_pair c.args.sid.now c.in_ok-alias_text.field-0.now (sym c.in_ok-alias_text.ensures) in let same = ap length c.as_bytes.ensures.value in omega arith)
