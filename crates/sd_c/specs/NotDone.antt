-- The answers of the calls over stores and views that did nothing, as numbers.
use Rattle.std.specs.Prelude.{ℕ}
use Rattle.sd_sid.specs.Sid.{sid_error_number}
use Rattle.sd_wire.specs.Fault.{wire_fault_number}
use Rattle.sd_path.specs.PathText.{path_error_number}
use Rattle.sd_edit.specs.Limits.{limits_error_number}
use Rattle.sd_edit.specs.Refusals.{number_of}
use Rattle.sd_edit.specs.declared.limits.LimitsError.{LimitsError}
use Rattle.sd_edit.specs.declared.limits.LimitsError.TheVariants as limits
use Rattle.sd_c.specs.declared.call_answer.CheckAnswer.{CheckAnswer}
use Rattle.sd_c.specs.declared.not_done.EditArgument.{EditArgument}
use Rattle.sd_c.specs.declared.not_done.EditArgument.TheVariants as arguments
use Rattle.sd_c.specs.declared.not_done.NotDone.{NotDone}
use Rattle.sd_c.specs.declared.not_done.NotDone.TheVariants.{Memory, StoreHandle, ViewHandle, TokenHandle, MappingBits}
use Rattle.sd_c.specs.declared.not_done.NotDone.TheVariants.{EditKind, Utf8, Path, Descriptor, Parts, Sid, Refused}
use Rattle.sd_c.specs.declared.not_done.NotDone.TheVariants.{Limits, NoNode, NothingKept}
use Rattle.sd_c.specs.CallAnswer.{unread}

abbrev pub argument_number : EditArgument → ℕ
argument_number arguments.Path = 12
argument_number arguments.Value = 13
argument_number arguments.Kept = 23
argument_number arguments.Offer = 24

-- the nodes or the edits
abbrev pub limits_argument : LimitsError → ℕ
limits_argument limits.NoNodes = 15
limits_argument limits.TooManyNodes = 15
limits_argument limits.TooManyEdits = 16

-- the status, the argument, the number of the fault or the refusal, and how many bytes of a path are UTF-8
abbrev pub not_done : NotDone → CheckAnswer
not_done Memory = unread 1 0 0 0
not_done StoreHandle = unread 11 9 0 0
not_done ViewHandle = unread 11 10 0 0
not_done TokenHandle = unread 11 8 0 0
not_done MappingBits = unread 10 7 0 0
not_done (Limits fault) = unread 19 (limits_argument fault) (limits_error_number fault) 0
not_done EditKind = unread 12 11 0 0
not_done (Utf8 argument place) = unread 3 (argument_number argument) 0 place
not_done (Path argument fault) = unread 13 (argument_number argument) (path_error_number fault) 0
not_done (Descriptor argument fault) = unread 5 (argument_number argument) (wire_fault_number fault) 0
not_done (Parts argument) = unread 14 (argument_number argument) 0 0
not_done (Sid fault) = unread 6 13 (sid_error_number fault) 0
not_done (Refused refusal) = unread 15 0 (number_of refusal) 0
not_done NoNode = unread 16 12 0 0
not_done NothingKept = unread 18 0 0 0
