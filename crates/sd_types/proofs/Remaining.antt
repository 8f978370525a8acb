-- The verdicts on a tree's nodes are those by what propagation tells.
use Rattle.std.proofs.Common.{◌≡◌, ◌∙◌, inl, inr, ℕ, ◌<◌, ◌+◌, Bool, true, false, not, ◌&&◌, ◌||◌, nat_lt, List, [], ◌∷◌, map, Option, Some, None, Result, Ok, Err, refl, sym, ap, subst, arith}
use Rattle.std.proofs.lemmas.Bool.{cases_Bool}
use Rattle.std.specs.List.{list_all}
use Rattle.std.specs.Prelude.{if◌then◌else◌}
use Rattle.sd_access.specs.Access.{context_for, plain_verdict, taken_from}
use Rattle.sd_acl.specs.Dacl.{Dacl}
use Rattle.sd_acl.specs.Descriptor.{DescriptorValue}
use Rattle.sd_acl.specs.declared.ace.Ace.{Ace}
use Rattle.sd_acl.specs.declared.ace.AceKind.{AceKind}
use Rattle.sd_acl.specs.declared.descriptor.DaclOf.TheVariants.{Absent, Null, List as Entries}
use Rattle.sd_check.proofs.LawProofs.{one_test}
use Rattle.sd_check.specs.Check.{applies_in, dacl_entries, first, in_each_pass, is_allowed_by, is_given, is_granted, is_implied, is_limit, is_listed, is_owner, judged, limits_owner, most, most_of}
use Rattle.sd_check.specs.Token.{is_restricted}
use Rattle.sd_check.specs.declared.grounds.Pass.{Pass}
use Rattle.sd_check.specs.declared.grounds.Pass.TheVariants.{First, Second}
use Rattle.sd_check.specs.declared.verdict.Verdict.{Verdict}
use Rattle.sd_check.specs.declared.verdict.Verdict.TheVariants.{EmptyRequest}
use Rattle.sd_label.specs.Under.{granted_under, most_under}
use Rattle.sd_sid.proofs.Masks.{holds_place, mask_of-alike, mask_of-lt}
use Rattle.sd_sid.specs.Mask.{holds, mask_of}
use Rattle.sd_sid.specs.Sid.{SidValue}
use Rattle.sd_specialize.proofs.Lists.{found, listed}
use Rattle.sd_specialize.proofs.NoMore.{decided}
use Rattle.sd_specialize.specs.Context.{ContextValue}
use Rattle.sd_specialize.specs.Entry.{applies_in as entry_applies, effective_for, entry_for, nobody, passes_agree, plain_for, typed_for, without_part}
use Rattle.sd_specialize.specs.Entry as whole
use Rattle.sd_specialize.specs.Laws.{asking}
use Rattle.sd_specialize.specs.Specialize.{acl_by, entries_for, specialized_list, ◌>>=◌}
use Rattle.sd_specialize.specs.declared.fault.RefusedKind.{RefusedKind}
use Rattle.sd_specialize.specs.declared.fault.SpecializeFault.{SpecializeFault}
use Rattle.sd_whole.specs.Entry.{for_children_alone}
use Rattle.sd_whole.specs.Kind.{plain_kind}
use Rattle.sd_whole.specs.Plain.{with_dacl}
use Rattle.sd_whole.specs.Reading.{WholeAcl}
use Rattle.sd_whole.specs.declared.ace.TypedAce.{TypedAce}
use Rattle.sd_whole.specs.declared.ace.WholeAce.{WholeAce}
use Rattle.sd_whole.specs.declared.ace.WholeAce.TheVariants.{Plain, Typed, Opaque}
use Rattle.sd_whole.specs.declared.descriptor.WholeDescriptor.{WholeDescriptor}
use Rattle.sd_types.proofs.Leaves.{has_leaf, longest}
use Rattle.sd_types.proofs.Lists.{all_each, all_same, each_all, same_tests}
use Rattle.sd_types.proofs.Nodes.{all_judged, and_assoc}
use Rattle.sd_types.proofs.Same.{told_by_leaves}
use Rattle.sd_types.specs.Laws.{PropagationGivesTheVerdicts, granted_on, most_on}
use Rattle.sd_types.specs.Propagation.{Tells, nothing_told, sayings}
use Rattle.sd_types.specs.Remaining.{ToldInPasses, entries_in, grants_at, is_granted_at, most_at, silent, silent_list, verdict_at}
use Rattle.sd_types.specs.Tree.{Chain, IsNode, chains_of, leaves_under}
use Rattle.sd_types.specs.Verdicts.{TreeQuestionValue, about, both, each_verdict, node_verdict, part_verdict, with_parts}
use Rattle.sd_types.specs.declared.tree.TypeNode.{TypeNode}

-- ---- what has verdicts has each of its parts'

first_found : (r : Result Verdict SpecializeFault) (rest : Verdict → Result Verdict SpecializeFault) (w : Verdict) → (r >>= rest) ≡ Ok w
    → (v : Verdict) × (r ≡ Ok v) × (rest v ≡ Ok w)
first_found (Ok v) rest w h = (v, refl, h)
first_found (Err fault) rest w h = absurd cc

-- each of these nodes has a verdict
each_part : (part : Chain → Result Verdict SpecializeFault) (others : Verdict) (ns : List Chain) (w : Verdict)
    → with_parts part others ns ≡ Ok w → (n : Chain) → IsNode ns n → (v : Verdict) × (part n ≡ Ok v)
each_part part others [] w h n at = absurd at
each_part part others (k ∷ ns) w h n (inl is) =
    let f = first_found (part k) (λ verdict. with_parts part (both others verdict) ns) w h in
    (f.0, ap part (sym is) ∙ f.1)
each_part part others (k ∷ ns) w h n (inr at) =
    let f = first_found (part k) (λ verdict. with_parts part (both others verdict) ns) w h in
    each_part part (both others f.0) ns w f.2 n at

record Listed (r : Result Verdict SpecializeFault) (others : Result (List Verdict) SpecializeFault) (vs : List Verdict) : Type 0 where
  first : Verdict
  rest : List Verdict
  is_first : r ≡ Ok first
  are_rest : others ≡ Ok rest
  are : vs ≡ first ∷ rest

verdicts_listed : (r : Result Verdict SpecializeFault) (others : Result (List Verdict) SpecializeFault) (vs : List Verdict)
    → (r >>= λ verdict. (others >>= λ verdicts. Ok (verdict ∷ verdicts))) ≡ Ok vs → Listed r others vs
verdicts_listed (Ok v) (Ok rest) vs h = record { first = v; rest = rest; is_first = refl; are_rest = refl; are = cc }
verdicts_listed (Ok v) (Err fault) vs h = absurd cc
verdicts_listed (Err fault) others vs h = absurd cc

-- verdicts that are each the node's
each_node : (node : Chain → Result Verdict SpecializeFault) (f : Chain → Verdict) (ms : List Chain)
    → ((m : Chain) → IsNode ms m → (v : Verdict) → node m ≡ Ok v → v ≡ f m)
    → (vs : List Verdict) → each_verdict node ms ≡ Ok vs → vs ≡ map f ms
each_node node f [] are vs h = cc
each_node node f (m ∷ ms) are vs h =
    let l = verdicts_listed (node m) (each_verdict node ms) vs h in
    let one = are m (inl refl) l.first l.is_first in
    let others = each_node node f ms (λ k at. are k (inr at)) l.rest l.are_rest in
    l.are ∙ (ap (λ (v : Verdict). v ∷ l.rest) one ∙ ap (λ (ws : List Verdict). f m ∷ ws) others)

-- ---- the plain DACL of a leaf

abbrev the_dacl : Dacl → Result Dacl SpecializeFault
the_dacl x = Ok x

abbrev the_verdict : Verdict → Result Verdict SpecializeFault
the_verdict x = Ok x

abbrev dacl_or : Result Dacl SpecializeFault → Dacl
dacl_or (Ok dacl) = dacl
dacl_or (Err fault) = Null

dacl_found : (r : Result Dacl SpecializeFault) (k : Dacl → DescriptorValue) (j : DescriptorValue → Verdict) (v : Verdict)
    → ((r >>= λ dacl. Ok (k dacl)) >>= λ plain. Ok (j plain)) ≡ Ok v → r ≡ Ok (dacl_or r)
dacl_found (Ok dacl) k j v h = refl
dacl_found (Err fault) k j v h = absurd cc

abbrev entries : List Ace → Dacl
entries es = Entries es

listed_dacl : (r : Result (List Ace) SpecializeFault) (dacl : Dacl) → (r >>= λ es. Ok (Entries es)) ≡ Ok dacl
    → (es : List Ace) × (r ≡ Ok es) × (dacl ≡ Entries es)
listed_dacl (Ok es) dacl h = (es, refl, cc)
listed_dacl (Err fault) dacl h = absurd cc

unwrapped : {x y : Dacl} → the_dacl x ≡ the_dacl y → x ≡ y
unwrapped h = cc

one_verdict : {x y : Verdict} → the_verdict x ≡ the_verdict y → x ≡ y
one_verdict h = cc

abbrev list_in : Dacl → List Ace
list_in Absent = []
list_in Null = []
list_in (Entries es) = es

-- of a list with entries it is what the list becomes
entries_are : (c : ContextValue) (es : List WholeAce) (dacl : Dacl) → (specialized_list c es >>= λ plain. Ok (Entries plain)) ≡ Ok dacl
    → (specialized_list c es ≡ Ok (list_in dacl)) × (dacl ≡ Entries (list_in dacl))
entries_are c es dacl h =
    let l = listed_dacl (specialized_list c es) dacl h in
    let same : list_in dacl ≡ l.0 = ap list_in l.2 in
    (l.1 ∙ ap Ok (sym same), l.2 ∙ ap (λ (x : List Ace). entries x) (sym same))

-- ---- whom the list limits

module _ (c : ContextValue) (chain : Chain) where
  abbrev part_of : TypedAce → Bool → AceKind → Ace
  part_of e applies kind =
      if applies then plain_for (asking c chain) kind e.flags.0 e.mask e.sid else without_part (asking c chain) e.flags.0 e.sid

  limit_part : (e : TypedAce) (applies : Bool) (kind : AceKind) → is_limit (part_of e applies kind) ≡ is_limit (silent c (Typed e))
  limit_part e true kind = refl
  limit_part e false kind = refl

  limit_decided : (decision : Option AceKind) (e : TypedAce) (p : Ace) → effective_for decision (asking c chain) e ≡ Ok p
      → is_limit p ≡ is_limit (silent c (Typed e))
  limit_decided None e p h = absurd cc
  limit_decided (Some kind) e p h =
      ap is_limit (decided (passes_agree (asking c chain) e) (entry_applies (asking c chain) First e) _ _ p h)
      ∙ limit_part e (entry_applies (asking c chain) First e) kind

  limit_other : (inherit_only : Bool) (e : TypedAce) (p : Ace)
      → (if inherit_only then Ok (without_part (asking c chain) e.flags.0 e.sid) else effective_for (whole.decides e.kind) (asking c chain) e) ≡ Ok p
      → is_limit p ≡ is_limit (silent c (Typed e))
  limit_other true e p h = let same : without_part (asking c chain) e.flags.0 e.sid ≡ p = cc h in ap is_limit (sym same)
  limit_other false e p h = limit_decided (whole.decides e.kind) e p h

  limit_typed : (plain : Option AceKind) (e : TypedAce) (p : Ace) → typed_for plain (asking c chain) e ≡ Ok p
      → is_limit p ≡ is_limit (silent c (Typed e))
  limit_typed None e p h = limit_other (for_children_alone e.flags.0) e p h
  limit_typed (Some kind) e p h =
      let same : plain_for (asking c chain) kind e.flags.0 e.mask e.sid ≡ p = cc h in ap is_limit (sym same)

  limit_alone : (inherit_only : Bool) (x p : Ace) (kind : RefusedKind) → (if inherit_only then Ok x else Err kind) ≡ Ok p → p ≡ x
  limit_alone true x p kind h = let same : x ≡ p = cc h in sym same
  limit_alone false x p kind h = absurd cc

  limit_entry : (e : WholeAce) (p : Ace) → entry_for (asking c chain) e ≡ Ok p → is_limit p ≡ is_limit (silent c e)
  limit_entry (Plain e) p h =
      let same : plain_for (asking c chain) e.kind e.flags.0 e.mask e.sid ≡ p = cc h in ap is_limit (sym same)
  limit_entry (Typed e) p h = limit_typed (plain_kind e.kind) e p h
  limit_entry (Opaque e) p h = ap is_limit (limit_alone (for_children_alone e.flags.0) (without_part (asking c chain) e.flags.0 nobody) p _ h)

  limits_each : (n : ℕ) (es : List WholeAce) (plain : List Ace) → entries_for (asking c chain) n es ≡ Ok plain
      → limits_owner (Some plain) ≡ limits_owner (Some (map (silent c) es))
  limits_each n [] plain h = let none : plain ≡ [] = cc in ap (λ (l : List Ace). limits_owner (Some l)) none
  limits_each n (e ∷ es) plain h =
      let f = found n (entry_for (asking c chain) e) (entries_for (asking c chain) (n + 1) es) plain h in
      ap (λ (l : List Ace). limits_owner (Some l)) f.are
      ∙ (ap (λ b. b || limits_owner (Some f.rest)) (limit_entry e f.first f.is_first)
      ∙ ap (λ b. is_limit (silent c e) || b) (limits_each (n + 1) es f.rest f.are_rest))

  same_limits : (es : List WholeAce) (plain : List Ace) → specialized_list (asking c chain) es ≡ Ok plain
      → limits_owner (Some plain) ≡ limits_owner (Some (map (silent c) es))
  same_limits es plain h = limits_each 1 es plain (listed (entries_for (asking c chain) 1 es) plain h)

-- ---- tests of all leaves

-- there is one
abbrev HasOne : List Chain → Type 0
HasOne ns = (n : Chain) × IsNode ns n

all_alike : (x : Bool) (ns : List Chain) → HasOne ns → list_all (λ (n : Chain). x) ns ≡ x
all_alike x ns one = same_tests (list_all (λ (n : Chain). x) ns) x
    (λ h. all_each (λ (n : Chain). x) ns h one.0 one.1)
    (λ h. each_all (λ (n : Chain). x) ns (λ n at. h))

module _ (low restricted given taken : Bool) (a c : Chain → Bool) (ns : List Chain) (one : HasOne ns) where
  abbrev one_granted : Chain → Bool
  one_granted n = (((low && a n) && (not restricted || (low && c n))) || given) && not taken

  abbrev all_granted : Bool
  all_granted = (((low && list_all a ns) && (not restricted || (low && list_all c ns))) || given) && not taken

  each_granted : list_all one_granted ns ≡ true → all_granted ≡ true
  each_granted h =
      let of : (n : Chain) → IsNode ns n → one_granted n ≡ true = all_each one_granted ns h in
      elim (cases_Bool given) [
        | inl is ↦ grind (arith, is, of one.0 one.1)
        | inr isnt ↦
            let firsts = each_all a ns (λ n at. grind (arith, isnt, of n at)) in
            elim (cases_Bool restricted) [
              | inl twice ↦
                  let seconds = each_all c ns (λ n at. grind (arith, isnt, twice, of n at)) in
                  grind (arith, isnt, twice, firsts, seconds, of one.0 one.1)
              | inr once ↦ grind (arith, isnt, once, firsts, of one.0 one.1)
            ]
      ]

  granted_each : all_granted ≡ true → list_all one_granted ns ≡ true
  granted_each h = each_all one_granted ns (λ n at.
      let firsts : list_all a ns ≡ true → a n ≡ true = λ all. all_each a ns all n at in
      let seconds : list_all c ns ≡ true → c n ≡ true = λ all. all_each c ns all n at in
      grind (arith, h, firsts, seconds))

  all_parts : list_all one_granted ns ≡ all_granted
  all_parts = same_tests (list_all one_granted ns) all_granted each_granted granted_each

-- a test with others that are the same for each
all_low : (low : Bool) (p : Chain → Bool) (ns : List Chain) → HasOne ns → list_all (λ n. low && p n) ns ≡ (low && list_all p ns)
all_low true p ns one = refl
all_low false p ns one = all_alike false ns one

all_equal : (x : Bool) (p : Chain → Bool) (ns : List Chain) → HasOne ns → ((n : Chain) → IsNode ns n → p n ≡ x) → list_all p ns ≡ x
all_equal x p ns one are = all_same p (λ n. x) ns are ∙ all_alike x ns one

-- ---- a node

module _ (nodes : List TypeNode) (q : TreeQuestionValue) (d : WholeDescriptor) (told : ToldInPasses) (m : Chain)
    (at : IsNode (chains_of nodes) m) (one : HasOne (leaves_under (chains_of nodes) m)) where
  abbrev leaves : List Chain
  leaves = leaves_under (chains_of nodes) m

  abbrev asks : ContextValue
  asks = context_for (about q []) d

  abbrev taken : ℕ
  taken = taken_from (about q []) d

  abbrev by : Pass → AceKind → SidValue → Bool
  by pass = applies_in pass q.client.token d.owner

  -- what this DACL grants there by what is told
  abbrev at_acl : WholeAcl → ℕ → Bool
  at_acl acl b =
      in_each_pass q.client.token (grants_at acl m b (told First b)) (grants_at acl m b (told Second b))
      || is_given d.owner (silent_list asks acl) q.client.token b

  abbrev most_acl : WholeAcl → ℕ
  most_acl acl = most_of q.mapping (at_acl acl) (is_given d.owner (silent_list asks acl) q.client.token) (silent_list asks acl)

  -- what this plain one grants
  abbrev on_leaf : Dacl → ℕ → Bool
  on_leaf dacl = granted_under taken (is_granted d.owner (dacl_entries dacl) q.mapping q.client.token)

  abbrev most_leaf : Dacl → ℕ
  most_leaf dacl = most_under taken (most d.owner (dacl_entries dacl) q.mapping q.client.token)

  -- of a list with entries
  module _ (es : List WholeAce) (tell : (pass : Pass) (b : ℕ) → Tells (chains_of nodes) (sayings asks q.mapping (by pass) b es) nothing_told (told pass b))
      (lists : Chain → List Ace) (are : (n : Chain) → IsNode leaves n → specialized_list (asking asks n) es ≡ Ok (lists n)) where
    abbrev allowed : Pass → ℕ → Chain → Bool
    allowed pass b n = is_allowed_by (first q.mapping (by pass) (lists n) b)

    told_is : (pass : Pass) (b : ℕ) → (told pass b).granted m ≡ list_all (allowed pass b) leaves
    told_is pass b = told_by_leaves nodes asks es lists q.mapping (by pass) b (told pass b) (tell pass b) m at are

    abbrev given : ℕ → Bool
    given b = is_given d.owner (Some (map (silent asks) es)) q.client.token b

    given_is : (n : Chain) → IsNode leaves n → (b : ℕ) → is_given d.owner (Some (lists n)) q.client.token b ≡ given b
    given_is n leaf b =
        ap (λ l. is_implied (is_owner q.client.token d.owner && not l) q.client.token.privileges.take_ownership q.client.token.privileges.security b)
        (same_limits asks n es (lists n) (are n leaf))

    abbrev both_passes : Bool → Bool → ℕ → Bool
    both_passes x y b =
        ((((nat_lt b 21 && x) && (not (is_restricted q.client.token) || (nat_lt b 21 && y))) || given b) && not (holds taken b))

    list_granted : (b : ℕ) → list_all (λ n. on_leaf (Entries (lists n)) b) leaves
        ≡ both_passes ((told First b).granted m) ((told Second b).granted m) b
    list_granted b =
        all_same (λ n. on_leaf (Entries (lists n)) b) (λ n. both_passes (allowed First b n) (allowed Second b n) b) leaves
        (λ n leaf. ap (λ g. (is_listed d.owner (Some (lists n)) q.mapping q.client.token b || g) && not (holds taken b)) (given_is n leaf b))
        ∙ (all_parts (nat_lt b 21) (is_restricted q.client.token) (given b) (holds taken b) (allowed First b) (allowed Second b) leaves one
        ∙ (ap (λ x. both_passes x (list_all (allowed Second b) leaves) b) (sym (told_is First b))
        ∙ ap (λ y. both_passes ((told First b).granted m) y b) (sym (told_is Second b))))

  abbrev IsToldBy : WholeAcl → Type 0
  IsToldBy acl = (pass : Pass) (b : ℕ) → Tells (chains_of nodes) (sayings asks q.mapping (by pass) b (entries_in acl)) nothing_told (told pass b)

  abbrev ArePlain : WholeAcl → (Chain → Dacl) → Type 0
  ArePlain acl dacls = (n : Chain) → IsNode leaves n → acl_by (entry_for (asking asks n)) acl ≡ Ok (dacls n)

  -- an absent or a null one
  none_granted : (dacl : Dacl) (dacls : Chain → Dacl) → ((n : Chain) → IsNode leaves n → dacls n ≡ dacl) → (b : ℕ)
      → list_all (λ n. on_leaf (dacls n) b) leaves ≡ on_leaf dacl b
  none_granted dacl dacls are b = all_equal (on_leaf dacl b) (λ n. on_leaf (dacls n) b) leaves one (λ n leaf. ap (λ (x : Dacl). on_leaf x b) (are n leaf))

  none_most : (dacl : Dacl) (dacls : Chain → Dacl) → ((n : Chain) → IsNode leaves n → dacls n ≡ dacl) → (b : ℕ)
      → list_all (λ n. holds (most_leaf (dacls n)) b) leaves ≡ holds (most_leaf dacl) b
  none_most dacl dacls are b =
      all_equal (holds (most_leaf dacl) b) (λ n. holds (most_leaf (dacls n)) b) leaves one (λ n leaf. ap (λ (x : Dacl). holds (most_leaf x) b) (are n leaf))

  of_acl : (acl : WholeAcl) → IsToldBy acl → (dacls : Chain → Dacl) → ArePlain acl dacls → (b : ℕ)
      → list_all (λ n. on_leaf (dacls n) b) leaves ≡ granted_under taken (at_acl acl) b
  of_acl Absent tell dacls are b = none_granted Absent dacls (λ n leaf. sym (unwrapped (are n leaf))) b
  of_acl Null tell dacls are b = none_granted Null dacls (λ n leaf. sym (unwrapped (are n leaf))) b
  of_acl (Entries list) tell dacls are b =
      all_same (λ n. on_leaf (dacls n) b) (λ n. on_leaf (Entries (list_in (dacls n))) b) leaves
      (λ n leaf. ap (λ (x : Dacl). on_leaf x b) (entries_are (asking asks n) list.entries (dacls n) (are n leaf)).1)
      ∙ list_granted list.entries tell (λ n. list_in (dacls n))
      (λ n leaf. (entries_are (asking asks n) list.entries (dacls n) (are n leaf)).0) b

  -- of a list MAXIMUM_ALLOWED takes in what is granted
  leaf_most : (es : List Ace) (b : ℕ) → b < 32 → holds (most_leaf (Entries es)) b ≡ (nat_lt b 21 && on_leaf (Entries es) b)
  leaf_most es b low =
      let granted : ℕ → Bool = is_granted d.owner (Some es) q.mapping q.client.token in
      holds_place (λ k. holds (mask_of (λ j. nat_lt j 21 && granted j) 32) k && not (holds taken k)) b low
      ∙ (ap (λ x. x && not (holds taken b)) (holds_place (λ j. nat_lt j 21 && granted j) b low)
      ∙ and_assoc (nat_lt b 21) (granted b) (not (holds taken b)))

  most_of_acl : (acl : WholeAcl) → IsToldBy acl → (dacls : Chain → Dacl) → ArePlain acl dacls → (b : ℕ) → b < 32
      → list_all (λ n. holds (most_leaf (dacls n)) b) leaves ≡ (holds (most_acl acl) b && not (holds taken b))
  most_of_acl Absent tell dacls are b low =
      none_most Absent dacls (λ n leaf. sym (unwrapped (are n leaf))) b
      ∙ holds_place (λ k. holds (most_acl Absent) k && not (holds taken k)) b low
  most_of_acl Null tell dacls are b low =
      none_most Null dacls (λ n leaf. sym (unwrapped (are n leaf))) b
      ∙ holds_place (λ k. holds (most_acl Null) k && not (holds taken k)) b low
  most_of_acl (Entries list) tell dacls are b low =
      all_same (λ n. holds (most_leaf (dacls n)) b) (λ n. nat_lt b 21 && on_leaf (dacls n) b) leaves
      (λ n leaf.
      let is = (entries_are (asking asks n) list.entries (dacls n) (are n leaf)).1 in
      ap (λ (x : Dacl). holds (most_leaf x) b) is
      ∙ (leaf_most (list_in (dacls n)) b low ∙ ap (λ (x : Dacl). nat_lt b 21 && on_leaf x b) (sym is)))
      ∙ (all_low (nat_lt b 21) (λ n. on_leaf (dacls n) b) leaves one
      ∙ (ap (λ x. nat_lt b 21 && x) (of_acl (Entries list) tell dacls are b)
      ∙ (sym (and_assoc (nat_lt b 21) (at_acl (Entries list) b) (not (holds taken b)))
      ∙ ap (λ x. x && not (holds taken b)) (sym (holds_place (λ k. nat_lt k 21 && at_acl (Entries list) k) b low)))))

  -- ---- its verdict

  abbrev dacls : Chain → Dacl
  dacls n = dacl_or (acl_by (entry_for (asking asks n)) d.dacl)

  node_is : IsToldBy d.dacl → (v : Verdict) → with_parts (part_verdict q d) EmptyRequest leaves ≡ Ok v → v ≡ verdict_at q d told m
  node_is tell v h =
      let each = each_part (part_verdict q d) EmptyRequest leaves v h in
      let are : ArePlain d.dacl dacls = λ n leaf.
      dacl_found (acl_by (entry_for (asking asks n)) d.dacl) (with_dacl d) (plain_verdict (about q n) d) (each n leaf).0 (each n leaf).1 in
      let granted : Chain → ℕ → Bool = λ n. granted_on q d (with_dacl d (dacls n)) in
      let most : Chain → ℕ = λ n. most_on q d (with_dacl d (dacls n)) in
      let judged_so = all_judged q.mapping q.asked (part_verdict q d) granted most leaves
      (λ n leaf. ap (λ (r : Result Dacl SpecializeFault). (r >>= λ dacl. Ok (with_dacl d dacl)) >>= λ plain. Ok (plain_verdict (about q n) d plain)) (are n leaf))
      one (λ n. mask_of-lt _ 32) in
      one_verdict (sym h ∙ judged_so)
      ∙ (ap (λ (t : ℕ → Bool). judged q.mapping t (mask_of (λ b. list_all (λ n. holds (most n) b) leaves) 32) q.asked)
      (one_test (λ b. list_all (λ n. granted n b) leaves) (granted_under taken (is_granted_at q d told m)) (of_acl d.dacl tell dacls are))
      ∙ ap (λ k. judged q.mapping (granted_under taken (is_granted_at q d told m)) k q.asked)
      (mask_of-alike (λ b. list_all (λ n. holds (most n) b) leaves) (λ b. holds (most_at q d told m) b && not (holds taken b)) 32
      (most_of_acl d.dacl tell dacls are)))

pub propagation_gives_the_verdicts : PropagationGivesTheVerdicts
propagation_gives_the_verdicts nodes q d told is tell verdicts h =
    each_node (node_verdict q d) (verdict_at q d told) q.tree
    (λ m at v found.
    let node : IsNode (chains_of nodes) m = subst (λ (tree : List Chain). IsNode tree m) is at in
    let bound = longest (chains_of nodes) in
    let leaf = has_leaf (chains_of nodes) bound.0 bound.1 bound.0 m node (omega arith) in
    node_is nodes q d told m node leaf
    (λ pass b. subst (λ (tree : List Chain). Tells tree (sayings (context_for (about q []) d) q.mapping (applies_in pass q.client.token d.owner) b (entries_in d.dacl)) nothing_told (told pass b)) is (tell pass b))
    v (subst (λ (tree : List Chain). with_parts (part_verdict q d) EmptyRequest (leaves_under tree m) ≡ Ok v) is found))
    verdicts h
