-- What the arguments of a check are parsed as, from the left; the first invalid one is reported.
use Rattle.std.specs.Prelude.{◌≡◌, ℕ, zero, suc, ◌+◌, ◌==◌, nat_lt, not, List, [], ◌∷◌, length, drop, slice_index}
use Rattle.std.specs.Prelude.{bit_and, Option, Some, None, Result, Ok, Err, if◌then◌else◌}
use Rattle.sd_sid.specs.Sid.{SidValue}
use Rattle.sd_sid.specs.SidBytes.{sid_reading}
use Rattle.sd_sid.specs.Mapping.{MappingValue, mapping_of}
use Rattle.sd_sid.specs.declared.sid.SidError.{SidError}
use Rattle.sd_sid.specs.declared.mapping.BadMapping.{BadMapping}
use Rattle.sd_acl.specs.Descriptor.{DescriptorValue}
use Rattle.sd_wire.specs.Reading.{descriptor_read}
use Rattle.sd_wire.specs.declared.fault.WireFault.{WireFault}
use Rattle.sd_check.specs.declared.verdict.Verdict.{Verdict}
use Rattle.sd_check.specs.Check.{verdict, dacl_entries}
use Rattle.sd_check.specs.Token.{TokenValue}
use Rattle.sd_check.specs.declared.token.GroupState.{GroupState}
use Rattle.sd_check.specs.declared.token.GroupState.TheVariants.{Enabled, DenyOnly, Disabled}
use Rattle.sd_check.specs.declared.token.Privileges.{Privileges}
use Rattle.sd_c.specs.declared.mapping.Mapping.{Mapping}
use Rattle.sd_c.specs.declared.stop.NotRead.{NotRead}
use Rattle.sd_c.specs.declared.stop.NotRead.TheVariants.{Descriptor, User, Group, BehindGroups, State, Restricting}
use Rattle.sd_c.specs.declared.stop.NotRead.TheVariants.{PrivilegeBits, MappingBits}
use Rattle.sd_c.specs.declared.stop.Stop.{Stop}
use Rattle.sd_c.specs.declared.stop.Stop.TheVariants as stops

infixl 10 ◌>>=◌
-- one parser after another: the first invalid argument is reported
abbrev pub ◌>>=◌ : {A B : Type 0} → Result A NotRead → (A → Result B NotRead) → Result B NotRead
(Ok x) >>= f = f x
(Err why) >>= f = Err why

-- a reason is that of the parser, or out of memory
abbrev pub Fails : {Y : Type 0} → Stop → Result Y NotRead → Type 0
Fails stops.Memory read = Unit {0}
Fails (stops.NotRead why) read = read ≡ Err why

-- what a function returns, seen by view, is what a parser gives, unless out of memory
abbrev pub Gives : {X Y : Type 0} → (X → Y) → Result X Stop → Result Y NotRead → Type 0
Gives view (Ok x) read = read ≡ Ok (view x)
Gives view (Err stop) read = Fails stop read

-- ---- groups

-- the state of a group: SE_GROUP_ENABLED is 0x4, SE_GROUP_USE_FOR_DENY_ONLY is 0x10, and neither is a disabled group
abbrev pub state_read : ℕ → Option GroupState
state_read number =
    if number == 0 then Some Disabled
    else if number == 0x4 then Some Enabled
    else if number == 0x10 then Some DenyOnly
    else None

-- a group's SID and its length, for the group with this index
abbrev pub group_sid : ℕ → Result (SidValue × ℕ) SidError → Result (SidValue × ℕ) NotRead
group_sid at (Ok x) = Ok x
group_sid at (Err fault) = Err (Group fault at)

abbrev pub group_state : ℕ → Option GroupState → Result GroupState NotRead
group_state at (Some state) = Ok state
group_state at None = Err (State at)

-- the group at the front of the bytes, with its state, and the length of its SID
unfoldable pub group_read : List ℕ → ℕ → ℕ → Result ((SidValue × GroupState) × ℕ) NotRead
group_read bytes number at =
    group_sid at (sid_reading bytes) >>= λ x. (group_state at (state_read number) >>= λ state. Ok ((x.0, state), x.1))

-- so many groups, from the one with this index on: concatenated SIDs, and a state for each; nothing follows
unfoldable pub groups_read : List ℕ → List ℕ → ℕ → ℕ → Result (List (SidValue × GroupState)) NotRead
groups_read bytes states at zero = if length bytes == 0 then Ok [] else Err (BehindGroups at)
groups_read bytes states at (suc n) =
    group_read bytes (slice_index states at) at >>= λ x.
    (groups_read (drop x.1 bytes) states (at + 1) n >>= λ others. Ok (x.0 ∷ others))

-- ---- restricting SIDs

-- the restricting SID with this index, and its length
abbrev pub restricting_sid : ℕ → Result (SidValue × ℕ) SidError → Result (SidValue × ℕ) NotRead
restricting_sid at (Ok x) = Ok x
restricting_sid at (Err fault) = Err (Restricting fault at)

-- concatenated SIDs to the end of the bytes, from the one with this index on, and no more than so many
unfoldable pub sids_read : List ℕ → ℕ → ℕ → Result (List SidValue) NotRead
sids_read bytes at zero = Ok []
sids_read bytes at (suc n) =
    if length bytes == 0 then Ok []
    else (restricting_sid at (sid_reading bytes) >>= λ x.
    (sids_read (drop x.1 bytes) (at + 1) n >>= λ others. Ok (x.0 ∷ others)))

-- each takes a byte at least, so there are no more than bytes
abbrev pub restricting_read : List ℕ → Result (List SidValue) NotRead
restricting_read bytes = sids_read bytes 0 (length bytes)

-- ---- the other arguments

abbrev pub of_wire : Result DescriptorValue WireFault → Result DescriptorValue NotRead
of_wire (Ok d) = Ok d
of_wire (Err fault) = Err (Descriptor fault)

abbrev pub of_user : Result (SidValue × ℕ) SidError → Result SidValue NotRead
of_user (Ok x) = Ok x.0
of_user (Err fault) = Err (User fault)

-- bit 0 is SeSecurityPrivilege, bit 1 SeTakeOwnershipPrivilege. Bit 2 is no privilege, and says how the user counts.
-- There is no other
abbrev pub privileges_read : ℕ → Result Privileges NotRead
privileges_read bits =
    if nat_lt 7 bits then Err PrivilegeBits
    else Ok (record { security = not (bit_and bits 1 == 0); take_ownership = not (bit_and bits 2 == 0) })

-- the user counts for denies alone where bit 2 is set
abbrev pub user_state_in : ℕ → GroupState
user_state_in bits = if bit_and bits 4 == 0 then Enabled else DenyOnly

abbrev pub of_mapping : Result MappingValue BadMapping → Result MappingValue NotRead
of_mapping (Ok g) = Ok g
of_mapping (Err bad) = Err MappingBits

abbrev pub mapping_read : Mapping → Result MappingValue NotRead
mapping_read m = of_mapping (mapping_of m.read m.write m.execute m.all)

-- ---- all of them

-- the token of a user, groups with their states, restricting SIDs, and privileges with how the user counts
unfoldable pub token_read : List ℕ → List ℕ → List ℕ → List ℕ → ℕ → Result TokenValue NotRead
token_read user groups states restricting privileges =
    of_user (sid_reading user) >>= λ sid.
    (groups_read groups states 0 (length states) >>= λ places.
    (restricting_read restricting >>= λ sids.
    (privileges_read privileges >>= λ held.
    Ok (record {
      user = sid;
      user_state = user_state_in privileges;
      groups = places;
      restricting = sids;
      privileges = held;
    }))))

-- a parsed request but for its mask
pub record RequestValue : Type 0 where
  pub descriptor : DescriptorValue
  pub token : TokenValue
  pub mapping : MappingValue

unfoldable pub request_read : List ℕ → List ℕ → List ℕ → List ℕ → List ℕ → ℕ → Mapping → Result RequestValue NotRead
request_read descriptor user groups states restricting privileges mapping =
    of_wire (descriptor_read descriptor) >>= λ d.
    (token_read user groups states restricting privileges >>= λ token.
    (mapping_read mapping >>= λ g. Ok (record { descriptor = d; token = token; mapping = g })))

-- the verdict on a request
abbrev pub verdict_of : RequestValue → ℕ → Verdict
verdict_of r asked = verdict r.descriptor.owner (dacl_entries r.descriptor.dacl) r.mapping r.token asked

abbrev pub verdict_read : Result RequestValue NotRead → ℕ → Result Verdict NotRead
verdict_read read asked = read >>= λ r. Ok (verdict_of r asked)
