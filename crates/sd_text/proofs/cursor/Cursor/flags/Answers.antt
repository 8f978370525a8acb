use Rattle.sd_text.proofs.Cited.{Ok, arith, bits_of, find, flag_names, lit<, subst, ◌≡◌}
use Rattle.sd_text.proofs.Tables.{bits_below}
use Rattle.sd_text.proofs.cursor.Cursor.flags.Goals as goal

pub overflow_cast-bits_of : goal.overflow_cast-bits_of
overflow_cast-bits_of c = let lt = bits_below 8 flag_names (lit< tt, (lit< tt, (lit< tt, (lit< tt, (lit< tt, (lit< tt, (lit< tt, tt))))))) c.args.self.now.rest.now c.bits_of.result c.bits_of.new.self.rest.now (subst (λ table. find (bits_of table) c.args.self.now.rest.now ≡ Ok (c.bits_of.result, c.bits_of.new.self.rest.now)) c.flag_names.ensures c.bits_of.ensures) in omega arith
