use Rattle.sd_text.proofs.Cited.{arith, common_steps, string_bytes}
use Rattle.sd_text.proofs.Numbers.{another_pair}
use Rattle.sd_text.proofs.number.+push_decimal.Goals as goal

pub returns : goal.returns
returns t c =
    let pair = another_pair c.args.number (string_bytes c.args.out.now) c.if-number-lt100.false c.ranges.number.fits in
    grind (arith, common_steps)
