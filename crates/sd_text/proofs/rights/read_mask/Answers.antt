use Rattle.sd_text.proofs.Cited.{Ok, ap, mask_text, rights, sym}
use Rattle.sd_text.proofs.Engine.{one_value, no_fault, whole_value, fault_at}
use Rattle.sd_text.proofs.rights.read_mask.Goals as goal

pub returns-in-Ok-clause-value : goal.returns-in-Ok-clause-value
returns-in-Ok-clause-value c = whole_value rights c.args.text.now c.in-Ok.mask c.mask_text.new.self.rest.now (rw (sym c.new-cursor.ensures) c.in-Ok.ensures)

pub returns-in-Err-clause-fault : goal.returns-in-Err-clause-fault
returns-in-Err-clause-fault c = fault_at mask_text c.args.text.now c.in-Err.fault c.mask_text.new.self.rest.now c.place.result (rw (sym c.new-cursor.ensures) c.in-Err.ensures) c.place.ensures

pub returns-in-Ok-clause-spelled : goal.returns-in-Ok-clause-spelled
returns-in-Ok-clause-spelled c v spells = ap Ok (one_value mask_text c.args.text.now c.in-Ok.mask v (whole_value rights c.args.text.now c.in-Ok.mask c.mask_text.new.self.rest.now (rw (sym c.new-cursor.ensures) c.in-Ok.ensures)) spells)

pub returns-in-Err-clause-spelled : goal.returns-in-Err-clause-spelled
returns-in-Err-clause-spelled c v spells = absurd (no_fault mask_text c.args.text.now v c.in-Err.fault c.place.result spells (fault_at mask_text c.args.text.now c.in-Err.fault c.mask_text.new.self.rest.now c.place.result (rw (sym c.new-cursor.ensures) c.in-Err.ensures) c.place.ensures))
