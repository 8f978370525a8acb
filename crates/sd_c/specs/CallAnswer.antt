-- The answers of the calls, as numbers.
use Rattle.std.specs.Prelude.{ℕ, ◌-◌, Result, Ok, Err}
use Rattle.sd_sid.specs.Sid.{sid_error_number}
use Rattle.sd_wire.specs.Fault.{wire_fault_number}
use Rattle.sd_create.specs.Create.{fault_number as create_fault_number}
use Rattle.sd_check.specs.declared.verdict.Verdict.{Verdict}
use Rattle.sd_check.specs.declared.verdict.Verdict.TheVariants.{Granted, Denied, Reserved, EmptyRequest}
use Rattle.sd_specialize.specs.Specialize.{fault_number}
use Rattle.sd_specialize.specs.declared.fault.SpecializeFault.{SpecializeFault}
use Rattle.sd_specialize.specs.declared.fault.SpecializeFault.TheVariants.{Refused, TooLarge}
use Rattle.sd_types.specs.Tree.{kind_number}
use Rattle.sd_c.specs.declared.call_answer.CheckAnswer.{CheckAnswer}
use Rattle.sd_c.specs.declared.call_answer.Written.{Written}
use Rattle.sd_c.specs.declared.stop.NotRead.{NotRead}
use Rattle.sd_c.specs.declared.stop.NotRead.TheVariants.{Descriptor, User, Group, BehindGroups, State, Restricting}
use Rattle.sd_c.specs.declared.stop.NotRead.TheVariants.{PrivilegeBits, MappingBits, DescriptorHandle, TokenHandle}
use Rattle.sd_c.specs.declared.stop.NotRead.TheVariants.{NewHandle, DomainSid, NoDomain, WordsUtf8, Unended, NoWord}
use Rattle.sd_c.specs.declared.stop.NotRead.TheVariants.{ClientHandle, Types, Tree, PrincipalSelf, Undecided}
use Rattle.sd_c.specs.declared.stop.NotRead.TheVariants.{MayBeDenied, Parent, Creator, Defaults, NoDefault, Owner}
use Rattle.sd_c.specs.declared.stop.NotRead.TheVariants.{NotCreated}
use Rattle.sd_c.specs.declared.stop.Stop.{Stop}
use Rattle.sd_c.specs.declared.stop.Stop.TheVariants as stops
use Rattle.sd_c.specs.Request.{RequestValue, verdict_of}

-- ---- a check

abbrev pub given : ℕ → ℕ → CheckAnswer
given kind mask = record { status = 0; argument = 0; fault = 0; kind = kind; place = 0; mask = mask }

abbrev pub verdict_given : Verdict → CheckAnswer
verdict_given (Granted mask) = given 1 mask
verdict_given (Denied missing) = given 2 missing
verdict_given (Reserved mask) = given 3 mask
verdict_given EmptyRequest = given 4 0

-- an invalid argument: why, which, the fault's number, and of groups, states, restricting SIDs, words, nodes and
-- entries the index, of a text that isn't UTF-8 the number of valid bytes
abbrev pub unread : ℕ → ℕ → ℕ → ℕ → CheckAnswer
unread status argument fault place =
    record { status = status; argument = argument; fault = fault; kind = 0; place = place; mask = 0 }

-- the answer of a call that writes nothing, for the reason in the answer of a check
abbrev pub unwritten : CheckAnswer → Written
unwritten told = record { status = told.status; fault = told.fault; place = told.place; length = 0 }

-- the index of the entry that is refused, which the fault counts from 1; else 0
abbrev pub undecided_place : SpecializeFault → ℕ
undecided_place (Refused entry) = entry.entry - 1
undecided_place TooLarge = 0

abbrev pub not_read : NotRead → CheckAnswer
not_read (Descriptor fault) = unread 5 1 (wire_fault_number fault) 0
not_read (User fault) = unread 6 2 (sid_error_number fault) 0
not_read (Group fault at) = unread 6 3 (sid_error_number fault) at
not_read (BehindGroups at) = unread 7 3 0 at
not_read (State at) = unread 8 4 0 at
not_read (Restricting fault at) = unread 6 5 (sid_error_number fault) at
not_read PrivilegeBits = unread 9 6 0 0
not_read MappingBits = unread 10 7 0 0
not_read DescriptorHandle = unread 11 1 0 0
not_read TokenHandle = unread 11 8 0 0
not_read NewHandle = unread 11 14 0 0
not_read (DomainSid fault) = unread 6 18 (sid_error_number fault) 0
not_read NoDomain = unread 17 18 0 0
not_read (WordsUtf8 at) = unread 3 19 0 at
not_read Unended = unread 23 19 0 0
not_read (NoWord at) = unread 22 19 0 at
not_read Types = unread 24 20 0 0
not_read (Tree fault) = unread 29 25 (kind_number fault.kind) fault.place
not_read (PrincipalSelf fault) = unread 6 21 (sid_error_number fault) 0
not_read ClientHandle = unread 11 22 0 0
not_read (Undecided fault) = unread 25 1 (fault_number fault) (undecided_place fault)
not_read MayBeDenied = unread 25 1 7 0
not_read (Parent fault) = unread 5 27 (wire_fault_number fault) 0
not_read (Creator fault) = unread 5 28 (wire_fault_number fault) 0
not_read (Defaults fault) = unread 5 29 (wire_fault_number fault) 0
not_read NoDefault = unread 14 29 0 0
not_read (Owner fault at) = unread 6 30 (sid_error_number fault) at
not_read (NotCreated fault) = unread 30 0 (create_fault_number fault) 0

-- out of memory
abbrev pub check_memory : CheckAnswer
check_memory = unread 1 0 0 0

-- why a check stops
abbrev pub why_not : Stop → CheckAnswer
why_not (stops.NotRead why) = not_read why
why_not stops.Memory = check_memory

-- the verdict on the parsed arguments, or which one is invalid
abbrev pub check_answer : Result RequestValue NotRead → ℕ → CheckAnswer
check_answer (Ok r) asked = verdict_given (verdict_of r asked)
check_answer (Err why) asked = not_read why
