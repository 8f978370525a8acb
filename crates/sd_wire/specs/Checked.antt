-- The access check over the bytes of a self-relative descriptor ([MS-DTYP] 2.4.6): they are read, then the descriptor
-- is checked.
use Rattle.std.specs.Prelude.{ℕ, List, Option, Some, Result, Ok}
use Rattle.sd_sid.specs.Mapping.{MappingValue}
use Rattle.sd_sid.specs.Sid.{SidValue}
use Rattle.sd_acl.specs.declared.ace.Ace.{Ace}
use Rattle.sd_check.specs.declared.verdict.Verdict.{Verdict}
use Rattle.sd_check.specs.Check.{verdict, dacl_entries}
use Rattle.sd_check.specs.Token.{TokenValue}
use Rattle.sd_wire.specs.Reading.{◌>>=◌, descriptor_read}
use Rattle.sd_wire.specs.declared.fault.WireFault.{WireFault}

-- the verdict on the descriptor that the bytes hold, or the first test that they don't pass
abbrev pub checked : List ℕ → MappingValue → TokenValue → ℕ → Result Verdict WireFault
checked bytes g t r = descriptor_read bytes >>= λ d. Ok (verdict d.owner (dacl_entries d.dacl) g t r)

-- the verdict on an owner and a list, or the first test that reading its entries doesn't pass
abbrev pub entries_checked : Result (List Ace) WireFault → Option SidValue → MappingValue → TokenValue → ℕ
    → Result Verdict WireFault
entries_checked read owner g t r = read >>= λ es. Ok (verdict owner (Some es) g t r)
