use Rattle.sd_text.proofs.Cited.{descriptor_of, has_entry, sddl_in, sections, sym}
use Rattle.sd_text.proofs.Engine.{no_fault, fault_at, value_answered, memory_answered}
use Rattle.sd_text.proofs.descriptor.read_sddl_in.Goals as goal

pub returns-in-Ok-clause-value : goal.returns-in-Ok-clause-value
returns-in-Ok-clause-value c = rw c.ok_or.ensures.value (value_answered descriptor_of (λ d. has_entry d.dacl) (sections c.args.known) c.args.text.now c.descriptor.new.self.rest.now c.in-Ok.descriptor (rw (sym c.new-cursor.ensures) c.in-Ok.ensures))

pub returns-in-Ok-clause-memory : goal.returns-in-Ok-clause-memory
returns-in-Ok-clause-memory c is = memory_answered descriptor_of (λ d. has_entry d.dacl) (sections c.args.known) c.args.text.now c.descriptor.new.self.rest.now c.in-Ok.descriptor (rw (sym c.new-cursor.ensures) c.in-Ok.ensures) (rw c.ok_or.ensures.value at is)

pub returns-in-Err-clause-fault : goal.returns-in-Err-clause-fault
returns-in-Err-clause-fault c = let e = c.in-Err.ensures in fault_at (sddl_in c.args.known) c.args.text.now c.in-Err.fault c.descriptor.new.self.rest.now c.place.result (rw (sym c.new-cursor.ensures) e) c.place.ensures

pub returns-in-Err-clause-spelled : goal.returns-in-Err-clause-spelled
returns-in-Err-clause-spelled c d spells = let e = c.in-Err.ensures in absurd (no_fault (sddl_in c.args.known) c.args.text.now d c.in-Err.fault c.place.result spells (fault_at (sddl_in c.args.known) c.args.text.now c.in-Err.fault c.descriptor.new.self.rest.now c.place.result (rw (sym c.new-cursor.ensures) e) c.place.ensures))
