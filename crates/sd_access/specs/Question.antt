-- A question about an object with a whole descriptor ([MS-DTYP] 2.5.3.2).
use Rattle.std.specs.Prelude.{ℕ, List, Option}
use Rattle.sd_sid.specs.Mapping.{MappingValue}
use Rattle.sd_sid.specs.Sid.{SidValue}
use Rattle.sd_whole.specs.declared.types.Guid.{Guid}
use Rattle.sd_client.specs.Client.{ClientValue}

pub record QuestionValue : Type 0 where
  -- who asks
  pub client : ClientValue
  -- the object types asked about, from the class on; none asks about the whole object
  pub chain : List Guid
  -- the SID that PRINCIPAL SELF stands for
  pub principal_self : Option SidValue
  -- what the generic rights stand for
  pub mapping : MappingValue
  -- the rights asked for
  pub asked : ℕ
