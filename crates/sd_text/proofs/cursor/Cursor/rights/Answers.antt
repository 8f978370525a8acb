use Rattle.std.proofs.Common.{sym}
use Rattle.sd_text.specs.Rights.{names_from_greatest, rights}
use Rattle.sd_text.proofs.cursor.Cursor.rights.Goals as goal

pub returns-else-begins_digit : goal.returns-else-begins_digit
unfolding rights names_from_greatest
returns-else-begins_digit c = rw (sym c.if-begins_digit.ensures) c.bits_of.ensures
