-- A text is what the first reading that fits says.
use Rattle.std.proofs.Common.{inl, inr, refl}
use Rattle.sd_client.proofs.Words.{last_word, no_word}
use Rattle.sd_client.proofs.word.read_client_word.Goals as goal

pub returns-in-Some-device_group-clause-word : goal.returns-in-Some-device_group-clause-word
returns-in-Some-device_group-clause-word c = inr (
  λ one is. c.in_default.ensures.none is.0 is.1,
  inl (c.in-Some-device_group.sid, c.in-Some-device_group.ensures.found, refl),
)

pub returns-clause-word : goal.returns-clause-word
returns-clause-word c =
    last_word c.args.known c.args.text.now c.in_default.ensures.none c.in_default-device_group.ensures.none
    c.read_said.result c.read_said.ensures

pub returns-clause-none : goal.returns-clause-none
returns-clause-none c =
    no_word c.args.known c.args.text.now c.in_default.ensures.none c.in_default-device_group.ensures.none
    c.read_said.result c.read_said.ensures
