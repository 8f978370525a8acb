use Rattle.std.specs.Prelude.{IsErrOf, codes}
use Rattle.std.proofs.lemmas.Result.{err_from_is_err_and}
use Rattle.sd_text.specs.Sddl.{sid_section}
use Rattle.sd_whole_parse.specs.declared.stop.Stop.TheVariants.{Memory}
use Rattle.sd_whole_parse.proofs.Control.{control_kept}
use Rattle.sd_whole_parse.proofs.Opening.{found_kept}
use Rattle.sd_whole_parse.proofs.descriptor.read_sections.Goals as goal

pub returns-in_err-dacl-clause-memory : goal.returns-in_err-dacl-clause-memory
returns-in_err-dacl-clause-memory c is =
    let p = err_from_is_err_and c.from_residual-in_err-dacl.result c.from_residual-in_err-dacl.ensures.1 in
    let gone : IsErrOf c.read_section.result Memory = cc (p.1, p.2, is, c.in_err-dacl.was) in
    found_kept (sid_section c.args.known (codes "O:")) c.args.cursor.now.rest.now c.in_ok-owner.owner c.sid_section.new.self.rest.now c.in_ok-owner.ensures.found
    (found_kept (sid_section c.args.known (codes "G:")) c.sid_section.new.self.rest.now c.in_ok-group.group c.sid_section-2.new.self.rest.now c.in_ok-group.ensures.found
    (c.read_section.ensures.memory gone))

pub returns-in_err-sacl-clause-memory : goal.returns-in_err-sacl-clause-memory
returns-in_err-sacl-clause-memory c is =
    let p = err_from_is_err_and c.from_residual-in_err-sacl.result c.from_residual-in_err-sacl.ensures.1 in
    let gone : IsErrOf c.read_section-2.result Memory = cc (p.1, p.2, is, c.in_err-sacl.was) in
    found_kept (sid_section c.args.known (codes "O:")) c.args.cursor.now.rest.now c.in_ok-owner.owner c.sid_section.new.self.rest.now c.in_ok-owner.ensures.found
    (found_kept (sid_section c.args.known (codes "G:")) c.sid_section.new.self.rest.now c.in_ok-group.group c.sid_section-2.new.self.rest.now c.in_ok-group.ensures.found
    (c.in_ok-dacl.ensures.kept (c.read_section-2.ensures.memory gone)))

pub returns-clause-whole : goal.returns-clause-whole
returns-clause-whole c = record {
  control = rw (c.dacl_bits.ensures.bits, c.sacl_bits.ensures.bits) (control_kept c.in_ok-dacl.dacl.words c.in_ok-sacl.sacl.words);
  owner = c.in_ok-owner.ensures.whole;
  group = c.in_ok-group.ensures.whole;
  sacl = c.in_ok-sacl.ensures.whole;
  dacl = c.in_ok-dacl.ensures.whole;
}
