-- The verdict on a request, by the entries of a whole DACL as they are for one question ([MS-DTYP] 2.5.3.2).
use Rattle.std.specs.Prelude.{ℕ, List, Option, Some, Result, Ok}
use Rattle.sd_sid.specs.Mapping.{MappingValue}
use Rattle.sd_sid.specs.Sid.{SidValue}
use Rattle.sd_check.specs.Check.{dacl_entries, verdict}
use Rattle.sd_check.specs.Token.{TokenValue}
use Rattle.sd_check.specs.declared.verdict.Verdict.{Verdict}
use Rattle.sd_whole.specs.Reading.{WholeAcl}
use Rattle.sd_whole.specs.declared.ace.WholeAce.{WholeAce}
use Rattle.sd_specialize.specs.Context.{ContextValue}
use Rattle.sd_specialize.specs.Specialize.{specialized_acl, specialized_list, ◌>>=◌}
use Rattle.sd_specialize.specs.declared.fault.SpecializeFault.{SpecializeFault}

abbrev pub list_verdict : ContextValue → Option SidValue → List WholeAce → MappingValue → TokenValue → ℕ
    → Result Verdict SpecializeFault
list_verdict c owner es g t r = specialized_list c es >>= λ plain. Ok (verdict owner (Some plain) g t r)

abbrev pub dacl_verdict : ContextValue → Option SidValue → WholeAcl → MappingValue → TokenValue → ℕ
    → Result Verdict SpecializeFault
dacl_verdict c owner dacl g t r =
    specialized_acl c dacl >>= λ plain. Ok (verdict owner (dacl_entries plain) g t r)
