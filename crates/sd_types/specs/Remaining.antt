-- What the entries of a DACL, gone through as Propagation.antt says, leave of a request at each node of a tree of
-- object types ([MS-DTYP] 2.5.3.2, ObjectTypeList): what of it remains there is missing.
use Rattle.std.specs.Prelude.{ℕ, Bool, ◌&&◌, ◌||◌, nat_lt, List, [], map, Option, Some, None}
use Rattle.sd_access.specs.Access.{context_for, taken_from}
use Rattle.sd_acl.specs.declared.ace.Ace.{Ace}
use Rattle.sd_acl.specs.declared.descriptor.DaclOf.TheVariants.{Absent, Null, List as Entries}
use Rattle.sd_check.specs.Check.{applies_in, in_each_pass, is_given, judged, most_of}
use Rattle.sd_check.specs.declared.grounds.Pass.{Pass}
use Rattle.sd_check.specs.declared.grounds.Pass.TheVariants.{First, Second}
use Rattle.sd_check.specs.declared.verdict.Verdict.{Verdict}
use Rattle.sd_label.specs.Under.{granted_under, most_under}
use Rattle.sd_specialize.specs.Context.{ContextValue}
use Rattle.sd_specialize.specs.Entry.{nobody, without_part}
use Rattle.sd_whole.specs.Reading.{WholeAcl}
use Rattle.sd_whole.specs.declared.ace.WholeAce.{WholeAce}
use Rattle.sd_whole.specs.declared.ace.WholeAce.TheVariants.{Plain, Typed, Opaque}
use Rattle.sd_whole.specs.declared.descriptor.WholeDescriptor.{WholeDescriptor}
use Rattle.sd_types.specs.Propagation.{Tells, Told, nothing_told, sayings}
use Rattle.sd_types.specs.Tree.{Chain}
use Rattle.sd_types.specs.Verdicts.{TreeQuestionValue, about}

-- ---- what is told

-- an absent or a null DACL has no entries
abbrev pub entries_in : WholeAcl → List WholeAce
entries_in Absent = []
entries_in Null = []
entries_in (Entries list) = list.entries

-- of each right in each pass
abbrev pub ToldInPasses : Type 0
ToldInPasses = Pass → ℕ → Told

-- the entries of the DACL tell this of the nodes of the question's tree
abbrev pub AreTold : TreeQuestionValue → WholeDescriptor → ToldInPasses → Type 0
AreTold q d told = (pass : Pass) (b : ℕ) → Tells q.tree
    (sayings (context_for (about q []) d) q.mapping (applies_in pass q.client.token d.owner) b (entries_in d.dacl))
    nothing_told (told pass b)

-- ---- what is granted

-- an absent or a null DACL grants at each node what it grants an object
abbrev pub grants_at : WholeAcl → Chain → ℕ → Told → Bool
grants_at Absent m b told = nat_lt b 21
grants_at Null m b told = nat_lt b 21
grants_at (Entries list) m b told = nat_lt b 21 && told.granted m

-- an entry without its part: one for OWNER RIGHTS limits the owner all the same
abbrev pub silent : ContextValue → WholeAce → Ace
silent c (Plain e) = without_part c e.flags.0 e.sid
silent c (Typed e) = without_part c e.flags.0 e.sid
silent c (Opaque e) = without_part c e.flags.0 nobody

abbrev pub silent_list : ContextValue → WholeAcl → Option (List Ace)
silent_list c Absent = None
silent_list c Null = None
silent_list c (Entries list) = Some (map (silent c) list.entries)

-- at each node the same is granted without an entry
abbrev pub is_given_at_all : TreeQuestionValue → WholeDescriptor → ℕ → Bool
is_given_at_all q d b = is_given d.owner (silent_list (context_for (about q []) d) d.dacl) q.client.token b

abbrev pub is_granted_at : TreeQuestionValue → WholeDescriptor → ToldInPasses → Chain → ℕ → Bool
is_granted_at q d told m b =
    in_each_pass q.client.token (grants_at d.dacl m b (told First b)) (grants_at d.dacl m b (told Second b))
    || is_given_at_all q d b

-- what MAXIMUM_ALLOWED takes in there
abbrev pub most_at : TreeQuestionValue → WholeDescriptor → ToldInPasses → Chain → ℕ
most_at q d told m =
    most_of q.mapping (is_granted_at q d told m) (is_given_at_all q d)
    (silent_list (context_for (about q []) d) d.dacl)

-- ---- the verdict

-- at a node the request is granted, or what of it isn't granted there remains; nothing grants what the label takes
abbrev pub verdict_at : TreeQuestionValue → WholeDescriptor → ToldInPasses → Chain → Verdict
verdict_at q d told m =
    let taken = taken_from (about q []) d in
    judged q.mapping (granted_under taken (is_granted_at q d told m)) (most_under taken (most_at q d told m)) q.asked
