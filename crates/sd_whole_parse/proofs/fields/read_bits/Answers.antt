use Rattle.std.proofs.Common.{bit_or}
use Rattle.sd_text.specs.Rights.{bits_of}
use Rattle.sd_text.specs.Names.{rows}
use Rattle.sd_text.proofs.Parts.{named_takes}
use Rattle.sd_text.proofs.Tables.{run_more, run_end}
use Rattle.sd_whole_parse.proofs.fields.read_bits.Goals as goal

pub names-smaller : goal.names-smaller
names-smaller c = named_takes (rows c.args.names.now) c.names.cursor.rest.now c.in-Some.more c.name.new.self.rest.now c.in-Some.ensures.some

pub names-preserved : goal.names-preserved
names-preserved c = run_more (rows c.args.names.now) bit_or 0 c.args.cursor.now.rest.now c.names.bits c.names.cursor.rest.now c.in-Some.more c.name.new.self.rest.now c.names.invariant c.in-Some.ensures.some

pub returns-in-None : goal.returns-in-None
unfolding bits_of
returns-in-None c = let p = c.in-None.ensures.none in rw p.1 (run_end (rows c.args.names.now) bit_or 0 c.args.cursor.now.rest.now c.names.bits c.names.cursor.rest.now c.names.invariant p.0)
