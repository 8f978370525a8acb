use Rattle.std.proofs.Common.{Bool, arith, false, lit<, subst, sym, true, ◌<◌, ◌^◌, if◌then◌else◌, List, ℕ}
use Rattle.std.specs.List.{AllByRecursion}
use Rattle.sd_text.specs.Grammar.{Name}
use Rattle.sd_text.specs.Names.{rows}
use Rattle.sd_text.proofs.Tables.{bits_below}
use Rattle.sd_whole_parse.specs.Fields.{all_flag_names, filter_flag_names}
use Rattle.sd_whole_parse.proofs.fields.read_flags.Goals as goal

abbrev AreSmall : List (Name ℕ) → Type 0
AreSmall names = AllByRecursion (λ name. name.stands_for < 2 ^ 8) names

small_names : (is_filter : Bool) → AreSmall (if is_filter then filter_flag_names else all_flag_names)
small_names true = (lit< tt, (lit< tt, (lit< tt, (lit< tt, (lit< tt, (lit< tt, (lit< tt, (lit< tt, (lit< tt, tt)))))))))
small_names false = (lit< tt, (lit< tt, (lit< tt, (lit< tt, (lit< tt, (lit< tt, (lit< tt, (lit< tt, tt))))))))

pub overflow_cast-bits : goal.overflow_cast-bits
overflow_cast-bits c =
    let small = subst AreSmall (sym c.flag_names-names.ensures) (small_names _) in
    let lt = bits_below 8 (rows c.flag_names-names.result.now) small c.args.cursor.now.rest.now c.read_bits-bits.result c.read_bits-bits.new.cursor.rest.now c.read_bits-bits.ensures in
    omega arith
