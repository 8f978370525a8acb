-- What was shown so far.
use Rattle.std.proofs.Common.{◌≡◌, map, string_bytes, take}
use Rattle.sd_commands.specs.SidTexts.{shown_sid}
use Rattle.sd_commands.proofs.sid_texts.shown_sids.Given as goal

abbrev pub invariant-loop-one : goal.invariant-loop-one
invariant-loop-one g l = map string_bytes l.words.items ≡ map (shown_sid (g.T.SidTexts.texts l.texts)) (take l.one-index l.sids)
