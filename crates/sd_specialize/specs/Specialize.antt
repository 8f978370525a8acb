-- The plain descriptor that a whole one is for one question: each entry of its DACL by the rules of Entry.antt
-- ([MS-DTYP] 2.5.3.2). The check answers the question from it.
use Rattle.std.specs.Prelude.{◌≡◌, ℕ, ◌+◌, ◌<◌, nat_lt, codes, List, [], ◌∷◌, length, Result, Ok, Err, if◌then◌else◌}
use Rattle.sd_acl.specs.Ace.{acl_size_of}
use Rattle.sd_acl.specs.Dacl.{Dacl}
use Rattle.sd_acl.specs.Descriptor.{DescriptorValue}
use Rattle.sd_acl.specs.declared.ace.Ace.{Ace}
use Rattle.sd_acl.specs.declared.descriptor.DaclOf.TheVariants.{Absent, Null, List as Entries}
use Rattle.sd_whole.specs.declared.ace.WholeAce.{WholeAce}
use Rattle.sd_whole.specs.declared.descriptor.WholeDescriptor.{WholeDescriptor}
use Rattle.sd_whole.specs.Plain.{odd_name, odd_number, with_dacl}
use Rattle.sd_whole.specs.Reading.{WholeAcl}
use Rattle.sd_specialize.specs.Context.{ContextValue}
use Rattle.sd_specialize.specs.Entry.{entry_for}
use Rattle.sd_specialize.specs.declared.fault.RefusedKind.{RefusedKind}
use Rattle.sd_specialize.specs.declared.fault.RefusedKind.TheVariants.{Odd, PassesDiffer}
use Rattle.sd_specialize.specs.declared.fault.SpecializeError.{SpecializeError}
use Rattle.sd_specialize.specs.declared.fault.SpecializeError.TheVariants as errors
use Rattle.sd_specialize.specs.declared.fault.SpecializeFault.{SpecializeFault}
use Rattle.sd_specialize.specs.declared.fault.SpecializeFault.TheVariants.{Refused, TooLarge}

-- ---- refusals

-- an entry without a plain form is refused by the number and the name that it has as such
abbrev pub refused_number : RefusedKind → ℕ
refused_number (Odd kind) = odd_number kind
refused_number PassesDiffer = 5

abbrev pub refused_name : RefusedKind → List ℕ
refused_name (Odd kind) = odd_name kind
refused_name PassesDiffer = codes "PassesDiffer"

abbrev pub fault_number : SpecializeFault → ℕ
fault_number (Refused entry) = refused_number entry.kind
fault_number TooLarge = 6

abbrev pub fault_name : SpecializeFault → List ℕ
fault_name (Refused entry) = refused_name entry.kind
fault_name TooLarge = codes "TooLarge"

-- ---- the list

infixl 10 ◌>>=◌
-- one step after another, up to the first fault
abbrev pub ◌>>=◌ : {A B : Type 0} → Result A SpecializeFault → (A → Result B SpecializeFault) → Result B SpecializeFault
(Ok x) >>= f = f x
(Err fault) >>= f = Err fault

-- what an entry is, or that the one with this number is refused
abbrev pub numbered : ℕ → Result Ace RefusedKind → Result Ace SpecializeFault
numbered n (Ok e) = Ok e
numbered n (Err kind) = Err (Refused (record { entry = n; kind = kind }))

-- what each entry becomes, or why it is refused
abbrev pub EntryRule : Type 0
EntryRule = WholeAce → Result Ace RefusedKind

-- entries by a rule, the first of which has this number
abbrev pub entries_by : EntryRule → ℕ → List WholeAce → Result (List Ace) SpecializeFault
entries_by rule n [] = Ok []
entries_by rule n (e ∷ es) =
    numbered n (rule e) >>= λ first. (entries_by rule (n + 1) es >>= λ others. Ok (first ∷ others))

-- a list has at most 65,535 bytes (2.4.5, AclSize)
abbrev pub fitting : List Ace → Result (List Ace) SpecializeFault
fitting es = if nat_lt 65535 (acl_size_of es) then Err TooLarge else Ok es

-- a list, whose entries are counted from 1
abbrev pub list_by : EntryRule → List WholeAce → Result (List Ace) SpecializeFault
list_by rule es = entries_by rule 1 es >>= fitting

-- ---- the descriptor

abbrev pub acl_by : EntryRule → WholeAcl → Result Dacl SpecializeFault
acl_by rule Absent = Ok Absent
acl_by rule Null = Ok Null
acl_by rule (Entries list) = list_by rule list.entries >>= λ es. Ok (Entries es)

-- owner, group and the DACL, or why there is none
abbrev pub descriptor_by : EntryRule → WholeDescriptor → Result DescriptorValue SpecializeFault
descriptor_by rule d = acl_by rule d.dacl >>= λ dacl. Ok (with_dacl d dacl)

-- for one question
abbrev pub entries_for : ContextValue → ℕ → List WholeAce → Result (List Ace) SpecializeFault
entries_for c = entries_by (entry_for c)

abbrev pub specialized_list : ContextValue → List WholeAce → Result (List Ace) SpecializeFault
specialized_list c = list_by (entry_for c)

abbrev pub specialized_acl : ContextValue → WholeAcl → Result Dacl SpecializeFault
specialized_acl c = acl_by (entry_for c)

abbrev pub specialized : ContextValue → WholeDescriptor → Result DescriptorValue SpecializeFault
specialized c = descriptor_by (entry_for c)

-- the DACL is a list that has entries
abbrev pub HasDaclEntries : WholeAcl → Type 0
HasDaclEntries Absent = ⊥
HasDaclEntries Null = ⊥
HasDaclEntries (Entries list) = 0 < length list.entries

-- ---- what the code returns

-- an error is the fault, or that memory ran out
abbrev pub Fails : {Y : Type 0} → SpecializeError → Result Y SpecializeFault → Type 0
Fails errors.Memory found = Unit {0}
Fails (errors.Fault fault) found = found ≡ Err fault

-- what a function returns is what is found, unless memory runs out
abbrev pub Gives : {X Y : Type 0} → (X → Y) → Result X SpecializeError → Result Y SpecializeFault → Type 0
Gives view (Ok x) found = found ≡ Ok (view x)
Gives view (Err e) found = Fails e found
