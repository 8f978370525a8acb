-- What was read.
use Rattle.std.proofs.Common.{sym, ◌∙◌}
use Rattle.sd_people.proofs.Fit.{not_there}
use Rattle.sd_people.proofs.reading.Reading.of.Goals as goal

pub returns : goal.returns
returns c = record {
  whole = c.if-settings.false;
  logon = not_there c.args.settings.now.logon (sym c.is_some.ensures ∙ c.if-is_some.false);
  is_mask = c.in-Ok.ensures.value;
  spells = c.in-Ok-read_sddl_in.ensures.value;
  taken = not_there _ (sym c.lacks_list.ensures ∙ c.if-lacks_list.false);
}
