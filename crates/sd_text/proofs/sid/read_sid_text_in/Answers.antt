use Rattle.sd_text.proofs.Cited.{Ok, ap, sid, sid_text_in, sym}
use Rattle.sd_text.proofs.Engine.{one_value, no_fault, whole_value, fault_at}
use Rattle.sd_text.proofs.sid.read_sid_text_in.Goals as goal

pub returns-in-Ok-clause-value : goal.returns-in-Ok-clause-value
returns-in-Ok-clause-value c = whole_value (sid c.args.known) c.args.text.now c.in-Ok.sid c.sid_text.new.self.rest.now (rw (sym c.new-cursor.ensures) c.in-Ok.ensures)

pub returns-in-Err-clause-fault : goal.returns-in-Err-clause-fault
returns-in-Err-clause-fault c = fault_at (sid_text_in c.args.known) c.args.text.now c.in-Err.fault c.sid_text.new.self.rest.now c.place.result (rw (sym c.new-cursor.ensures) c.in-Err.ensures) c.place.ensures

pub returns-in-Ok-clause-spelled : goal.returns-in-Ok-clause-spelled
returns-in-Ok-clause-spelled c v spells = ap Ok (one_value (sid_text_in c.args.known) c.args.text.now c.in-Ok.sid v (whole_value (sid c.args.known) c.args.text.now c.in-Ok.sid c.sid_text.new.self.rest.now (rw (sym c.new-cursor.ensures) c.in-Ok.ensures)) spells)

pub returns-in-Err-clause-spelled : goal.returns-in-Err-clause-spelled
returns-in-Err-clause-spelled c v spells = absurd (no_fault (sid_text_in c.args.known) c.args.text.now v c.in-Err.fault c.place.result spells (fault_at (sid_text_in c.args.known) c.args.text.now c.in-Err.fault c.sid_text.new.self.rest.now c.place.result (rw (sym c.new-cursor.ensures) c.in-Err.ensures) c.place.ensures))
