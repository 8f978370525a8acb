-- The chains of a token's index: one more group, one more SID at a place, and a walk along a chain.
use Rattle.std.proofs.Common.{◌≡◌, ℕ, suc, zero, ◌+◌, ◌-◌, ◌<◌, ◌≤◌, ◌⊎◌, inl, inr, Bool, true, false, ◌&&◌, ◌||◌, List, [], ◌∷◌, length, get_or, set, take, drop, refl, sym, ◌∙◌, ap, subst, arith, length-set, replicate}
use Rattle.sd_check.proofs.Cited.{AceKind, a_group_stands_for, and_parts, cases_eq, cases_lt, false≢true, SidValue, same_sid, same_sid-true, Deny, GroupState, counts, list_any, list_any_more, false_from_ne_true, get_or_default, get_or-set_other, get_or-replicate, length-replicate, OnChain, here, behind, IsIndex, IsMarked, Keeps, MarksEach, owner_rights, or_cases, list_any_at, eqb-true, may_hold, place_of, get_or-eq_default}
use Rattle.std.proofs.lemmas.Grind.{get_or-set_at}
use Rattle.sd_check.specs.declared.token.GroupState.TheVariants.{Enabled, DenyOnly, Disabled}

-- what counts for anything counts for a deny
pub counts_for_deny : (kind : AceKind) (state : GroupState) → counts kind state ≡ true → counts Deny state ≡ true
counts_for_deny kind Enabled h = refl
counts_for_deny kind DenyOnly h = refl
counts_for_deny kind Disabled h = absurd cc

-- what follows where one of the first passes a test, and where the next does, follows where one of them does
pub one_of_more : {A : Type 0} (P : Type 0) (test : A → Bool) (xs : List A) (i : ℕ) (x : A) → i < length xs → x ≡ get_or xs i x
    → (list_any test (take i xs) ≡ true → P) → (test x ≡ true → P) → list_any test (take (i + 1) xs) ≡ true → P
one_of_more P test xs i x low is before this one =
    elim (or_cases (list_any test (take i xs)) (test x) (ap (λ y. list_any test (take i xs) || test y) is ∙ sym (list_any_more test xs i x low) ∙ one)) [
      | inl b ↦ before b
      | inr t ↦ this t
    ]

-- ---- one chain

pub next_on_chain : (nexts : List ℕ) {m k : ℕ} → OnChain nexts (suc m) k → (k ≡ m) ⊎ OnChain nexts (get_or nexts m 0) k
next_on_chain nexts here = inl refl
next_on_chain nexts (behind c) = inr c

pub none_at_end : (nexts : List ℕ) {k : ℕ} → OnChain nexts zero k → ⊥
none_at_end nexts h = elim h [ ]

-- the user is the last of a chain
last_on_chain : (nexts : List ℕ) → ((j : ℕ) → get_or nexts j 0 ≤ j) → (link k : ℕ) → link ≤ 1 → OnChain nexts link k → (link ≡ 1) × (k ≡ 0)
last_on_chain nexts back zero k le c = absurd (none_at_end nexts c)
last_on_chain nexts back (suc zero) k le c = elim (next_on_chain nexts c) [
  | inl same ↦ (refl, same)
  | inr further ↦ absurd (none_at_end nexts (subst (λ n. OnChain nexts n k) (let end : get_or nexts 0 0 ≡ 0 = omega (arith, back 0) in end) further))
]
last_on_chain nexts back (suc (suc m)) k le c = absurd (omega (arith, le))

-- a chain stays where the next link of a later member is written
kept_chain : (nexts : List ℕ) (m v : ℕ) → ((j : ℕ) → get_or nexts j 0 ≤ j) → {link k : ℕ} → link ≤ m → OnChain nexts link k → OnChain (set nexts m v) link k
kept_chain nexts m v back le here = here
kept_chain nexts m v back {link = suc link} {k = k} le (behind c) =
    let least : get_or nexts link 0 ≤ m = omega (arith, back link, le) in
    let other : get_or (set nexts m v) link 0 ≡ get_or nexts link 0 = get_or-set_other nexts m link v 0 (λ (e : link ≡ m). omega (arith, e, le)) in
    behind (subst (λ n. OnChain (set nexts m v) n k) (sym other) (kept_chain nexts m v back least c))

-- where a member heads the chain of a place, and what headed it is next, each place's chain leads where it led
linked : (heads nexts : List ℕ) (at m v : ℕ) → at < length heads → m < length nexts → v ≡ suc m
    → ((j : ℕ) → get_or nexts j 0 ≤ j) → ((p : ℕ) → get_or heads p 0 ≤ m)
    → (q k : ℕ) → OnChain nexts (get_or heads q 0) k → OnChain (set nexts m (get_or heads at 0)) (get_or (set heads at v) q 0) k
linked heads nexts at m v fits room is_v back starts q k c =
    let P : ℕ → Type 0 = λ link. OnChain (set nexts m (get_or heads at 0)) link k in
    let old : P (get_or heads q 0) = kept_chain nexts m (get_or heads at 0) back (starts q) c in
    elim (cases_eq q at) as (λ _. P (get_or (set heads at v) q 0)) [
      | inl e ↦
          let link : suc m ≡ get_or (set heads at v) q 0 = sym (get_or-set_at heads at q v 0 e fits ∙ is_v) in
          let next : get_or heads q 0 ≡ get_or (set nexts m (get_or heads at 0)) m 0 =
          ap (λ p. get_or heads p 0) e ∙ sym (get_or-set_at nexts m m (get_or heads at 0) 0 refl room) in
          subst P link (behind (subst P next old))
      | inr ne ↦ subst P (sym (get_or-set_other heads at q v 0 ne)) old
    ]

-- a link that is written is as small as the others
at_most : (xs : List ℕ) (at v n : ℕ) → at < length xs → v ≤ n → ((p : ℕ) → get_or xs p 0 ≤ n) → (p : ℕ) → get_or (set xs at v) p 0 ≤ n
at_most xs at v n fits small all p = grind (arith, cases_eq p at, get_or-set_at xs at p v 0, get_or-set_other xs at p v 0, fits, small, all p)

links_back : (xs : List ℕ) (at v j : ℕ) → at < length xs → v ≤ at → get_or xs j 0 ≤ j → get_or (set xs at v) j 0 ≤ j
links_back xs at v j fits small back = grind (arith, cases_eq j at, get_or-set_at xs at j v 0, get_or-set_other xs at j v 0, fits, small, back)

pub mark_here : (heads nexts : List ℕ) (at : ℕ) → at < length heads → (s : SidValue) → at ≡ place_of s → IsMarked (set heads at 1) nexts s
mark_here heads nexts at fits s is_at = subst (λ n. OnChain nexts n 0) (sym (get_or-set_at heads at (place_of s) 1 0 (sym is_at) fits)) here

-- ---- the index

zeros : (n p : ℕ) → get_or {A = ℕ} (replicate n 0) p 0 ≡ 0
zeros n p = elim (cases_lt p n) as (λ _. get_or {A = ℕ} (replicate n 0) p 0 ≡ 0) [
  | inl low ↦ get_or-replicate {A = ℕ} n p 0 0 low
  | inr high ↦ get_or-eq_default {A = ℕ} (replicate n 0) 0 (let long : length {A = ℕ} (replicate n 0) ≤ p = omega (arith, length-replicate {A = ℕ} n 0, high) in long)
]

-- without links
pub index_of_nobody : (groups : List (SidValue × GroupState)) → IsIndex (replicate 1024 0) (replicate 255 0) groups 0
index_of_nobody groups = record {
  places = length-replicate {A = ℕ} 1024 0;
  room = length-replicate {A = ℕ} 255 0;
  starts = λ p. omega (arith, zeros 1024 p);
  within = λ p. omega (arith, zeros 1024 p);
  goes_back = λ i. omega (arith, zeros 255 i);
  to_group = λ k d none. absurd (omega (arith, none));
}

-- where a place is marked before any group is added
pub keeps_marked : (heads nexts : List ℕ) (at : ℕ) → at < length heads → Keeps heads nexts (set heads at 1) nexts
keeps_marked heads nexts at fits = (
  λ groups index. record {
    places = length-set heads at 1 ∙ index.places;
    room = index.room;
    starts = at_most heads at 1 1 fits (omega arith) index.starts;
    within = at_most heads at 1 255 fits (omega arith) index.within;
    goes_back = index.goes_back;
    to_group = λ k d none. absurd (omega (arith, none));
  },
  λ s marked. elim (cases_eq (place_of s) at) as (λ _. IsMarked (set heads at 1) nexts s) [
    | inl e ↦ mark_here heads nexts at fits s (sym e)
    | inr ne ↦ subst (λ n. OnChain nexts n 0) (sym (get_or-set_other heads at (place_of s) 1 0 ne)) marked
  ],
)

module _ (groups : List (SidValue × GroupState)) where
  -- with one more group each place's chain leads where it led
  pub led : (heads nexts : List ℕ) (i at v : ℕ) → i < 254 → at < 1024 → v ≡ i + 2 → IsIndex heads nexts groups i
      → (q k : ℕ) → OnChain nexts (get_or heads q 0) k → OnChain (set nexts (i + 1) (get_or heads at 0)) (get_or (set heads at v) q 0) k
  led heads nexts i at v low place is_v index =
      linked heads nexts at (i + 1) v (omega (arith, index.places, place)) (omega (arith, index.room, low)) (let e : v ≡ suc (i + 1) = omega (arith, is_v) in e) index.goes_back index.starts

  -- with one more group, which counts
  pub index_more : (heads nexts : List ℕ) (i at v : ℕ) (sid : SidValue) → i < 254 → at < 1024 → at ≡ place_of sid → v ≡ i + 2
      → ((d : SidValue × GroupState) → (get_or groups i d).0 ≡ sid)
      → IsIndex heads nexts groups i → IsIndex (set heads at v) (set nexts (i + 1) (get_or heads at 0)) groups (i + 1)
  index_more heads nexts i at v sid low place is_at is_v is index =
      let fits : at < length heads = omega (arith, index.places, place) in
      let room : i + 1 < length nexts = omega (arith, index.room, low) in
      let led = led heads nexts i at v low place is_v index in
      record {
        places = length-set heads at v ∙ index.places;
        room = length-set nexts (i + 1) (get_or heads at 0) ∙ index.room;
        starts = at_most heads at v (i + 1 + 1) fits (omega (arith, is_v)) (λ p. omega (arith, index.starts p));
        within = at_most heads at v 255 fits (omega (arith, is_v, low)) index.within;
        goes_back = λ j. links_back nexts (i + 1) (get_or heads at 0) j room (index.starts at) (index.goes_back j);
        to_group = λ k d below few counted.
            let P : ℕ → ℕ → Type 0 = λ link k. OnChain (set nexts (i + 1) (get_or heads at 0)) link (suc k) in
            let q = place_of (get_or groups k d).0 in
            elim (cases_eq k i) as (λ _. P (get_or (set heads at v) q 0) k) [
              | inl e ↦
                  let same : q ≡ at = ap (λ n. place_of (get_or groups n d).0) e ∙ ap place_of (is d) ∙ sym is_at in
                  let link : suc (suc k) ≡ get_or (set heads at v) q 0 =
                  sym (get_or-set_at heads at q v 0 same fits ∙ (let sum : v ≡ suc (suc k) = omega (arith, is_v, e) in sum)) in
                  subst (λ n. P n k) link here
              | inr ne ↦ led q (suc k) (index.to_group k d (omega (arith, below, ne)) few counted)
            ];
      }

  -- with one more group that no chain has to lead to
  pub index_on : (heads nexts : List ℕ) (i : ℕ) → ((d : SidValue × GroupState) → i < 254 → counts Deny (get_or groups i d).1 ≡ true → ⊥)
      → IsIndex heads nexts groups i → IsIndex heads nexts groups (i + 1)
  index_on heads nexts i none index = record {
    places = index.places;
    room = index.room;
    starts = λ p. omega (arith, index.starts p);
    within = index.within;
    goes_back = index.goes_back;
    to_group = λ k d below few counted. elim (cases_eq k i) as (λ _. OnChain nexts (get_or heads (place_of (get_or groups k d).0) 0) (suc k)) [
      | inl e ↦ absurd (none d (omega (arith, few, e)) (ap (λ n. counts Deny (get_or groups n d).1) (sym e) ∙ counted))
      | inr ne ↦ index.to_group k d (omega (arith, below, ne)) few counted
    ];
  }

-- ---- a walk along a chain

-- where none of the first m passes the test, only the others can
pub none_of_first : {A : Type 0} (p : A → Bool) (m : ℕ) (xs : List A) → ((k : ℕ) (d : A) → k < length xs → k < m → p (get_or xs k d) ≡ true → ⊥) → list_any p xs ≡ list_any p (drop m xs)
none_of_first p zero xs h = refl
none_of_first p (suc m) [] h = refl
none_of_first p (suc m) (x ∷ xs) h =
    let first : (b : Bool) → p x ≡ b → b ≡ false = λ b is. elim b as (λ v. p x ≡ v → v ≡ false) [ true ↦ λ yes. absurd (h 0 x (omega arith) (omega arith) yes) | false ↦ λ no. refl ] is in
    ap (λ t. t || list_any p xs) (first (p x) refl) ∙ none_of_first p m xs (λ k d low few yes. h (suc k) d (omega (arith, low)) (omega (arith, few)) yes)

module _ (nexts : List ℕ) (user : SidValue × GroupState) (sid : SidValue) (groups : List (SidValue × GroupState)) (kind : AceKind) where
  abbrev stands : SidValue × GroupState → Bool
  stands g = same_sid g.0 sid && counts kind g.1

  -- whether the token stands for the SID by this member
  Stands : ℕ → Type 0
  Stands zero = stands user ≡ true
  Stands (suc k) = (d : SidValue × GroupState) × ((k < length groups) × ((k < 254) × (stands (get_or groups k d) ≡ true)))

  -- each such member is on the chain from here
  pub Leads : ℕ → Type 0
  Leads link = (k : ℕ) → Stands k → OnChain nexts link k

  pub leads_from : (heads : List ℕ) (at : ℕ) → at ≡ place_of sid → IsIndex heads nexts groups (length groups) → IsMarked heads nexts user.0 → Leads (get_or heads at 0)
  unfolding Leads Stands
  leads_from heads at is_at index to_user zero same =
      let has = (and_parts (same_sid user.0 sid) (counts kind user.1) same).0 in
      subst (λ p. OnChain nexts (get_or heads p 0) zero) (ap place_of (same_sid-true user.0 sid has) ∙ sym is_at) to_user
  leads_from heads at is_at index to_user (suc k) (d, (low, (few, has))) =
      let group = get_or groups k d in
      let parts = and_parts (same_sid group.0 sid) (counts kind group.1) has in
      subst (λ p. OnChain nexts (get_or heads p 0) (suc k)) (ap place_of (same_sid-true group.0 sid parts.0) ∙ sym is_at)
      (index.to_group k d low few (counts_for_deny kind group.1 parts.1))

  -- past a group by which it doesn't
  pub leads_on : (link : ℕ) (e : SidValue × GroupState) → 1 < link → link - 2 < length groups → e ≡ get_or groups (link - 2) e
      → (same_sid e.0 sid && counts kind e.1) ≡ false → Leads link → Leads (get_or nexts (link - 1) 0)
  unfolding Leads Stands
  leads_on link e more inside is fails leads k has =
      let next : link ≡ suc (link - 1) = omega (arith, more) in
      elim (next_on_chain nexts (subst (λ n. OnChain nexts n k) next (leads k has))) as (λ _. OnChain nexts (get_or nexts (link - 1) 0) k) [
        | inl first ↦
            let this : k ≡ suc (link - 2) = omega (arith, first, more) in
            let same = subst Stands this has in
            absurd (false≢true (sym fails ∙ ap stands (is ∙ get_or_default groups (link - 2) e same.0 inside) ∙ same.1.1.1))
        | inr further ↦ further
      ]

  -- at the end
  pub at_end : (link : ℕ) (r : Bool) → link ≤ 1 → ((j : ℕ) → get_or nexts j 0 ≤ j) → Leads link → (link ≡ 1 → stands user ≡ false)
      → r ≡ a_group_stands_for (drop 254 groups) kind sid → r ≡ (stands user || a_group_stands_for groups kind sid)
  unfolding Leads Stands
  at_end link r last back leads none is =
      let not_user = false_from_ne_true (stands user) (λ same.
      false≢true (sym (none (last_on_chain nexts back link 0 last (leads 0 same)).0) ∙ same)) in
      let of_others = none_of_first stands 254 groups (λ k d low few has.
      let user = (last_on_chain nexts back link (suc k) last (leads (suc k) (d, (low, (few, has))))).1 in omega (arith, user)) in
      grind (arith, is, not_user, of_others)

-- ---- what one look shows

none_of_three : (a b c : Bool) → (a || b || c) ≡ false → (a ≡ false) × (b ≡ false) × (c ≡ false)
none_of_three a b c none = (grind (arith, none), grind (arith, none), grind (arith, none))

module _ (heads nexts : List ℕ) (user : SidValue × GroupState) (groups : List (SidValue × GroupState)) (restricting : List SidValue) (s : SidValue)
    (marks : MarksEach heads nexts groups restricting) (kind : AceKind) where
  -- where the place isn't marked, the SID is no other that matters
  pub known_there : (r : Bool) → (IsMarked heads nexts s → ⊥)
      → (a_group_stands_for (drop 254 groups) kind s ≡ false → ((same_sid user.0 s && counts kind user.1) || a_group_stands_for groups kind s) ≡ r)
      → (((same_sid user.0 s && counts kind user.1) || a_group_stands_for groups kind s) ≡ r) × (list_any (λ one. same_sid one s) restricting ≡ false) × (same_sid s owner_rights ≡ false)
  known_there r unmarked known =
      let out = none_of_three (same_sid s owner_rights) (list_any (λ one. same_sid one s) restricting) (a_group_stands_for (drop 254 groups) kind s)
      (false_from_ne_true _ (λ yes. unmarked (marks kind s yes))) in
      (known out.2, out.1, out.0)

  -- where it has no link, nobody has the SID
  pub nobody_there : IsIndex heads nexts groups (length groups) → IsMarked heads nexts user.0 → may_hold heads s ≡ false
      → (((same_sid user.0 s && counts kind user.1) || a_group_stands_for groups kind s) ≡ false) × (list_any (λ one. same_sid one s) restricting ≡ false) × (same_sid s owner_rights ≡ false)
  nobody_there index to_user empty =
      let link = get_or heads (place_of s) 0 in
      let end : link ≡ 0 = eqb-true link 0 (grind (arith, empty)) in
      known_there false (λ marked. none_at_end nexts (subst (λ n. OnChain nexts n 0) end marked)) (λ beyond.
      sym (at_end nexts user s groups kind link false (omega (arith, end)) index.goes_back
      (leads_from nexts user s groups kind heads (place_of s) refl index to_user) (λ one. absurd (omega (arith, one, end))) (sym beyond)))

-- the chain of a place whose one link is a group's leads to nobody else
pub alone_unmarked : (heads nexts : List ℕ) (s : SidValue) (at : ℕ) → at ≡ place_of s → 1 < get_or heads at 0 → get_or nexts (get_or heads at 0 - 1) 0 ≡ 0
    → IsMarked heads nexts s → ⊥
alone_unmarked heads nexts s at is_at more last marked =
    let link = get_or heads at 0 in
    let next : link ≡ suc (link - 1) = omega (arith, more) in
    let here : OnChain nexts (suc (link - 1)) 0 = subst (λ n. OnChain nexts n 0) next (subst (λ p. OnChain nexts (get_or heads p 0) 0) (sym is_at) marked) in
    elim (next_on_chain nexts here) [
      | inl same ↦ omega (arith, same, more)
      | inr further ↦ none_at_end nexts (subst (λ n. OnChain nexts n 0) last further)
    ]

-- a group at a place that has the SID and counts
pub group_at : (groups : List (SidValue × GroupState)) (s : SidValue) (kind : AceKind) (place : ℕ) (group : SidValue × GroupState) → place < length groups
    → group ≡ get_or groups place group → (same_sid group.0 s && counts kind group.1) ≡ true → a_group_stands_for groups kind s ≡ true
group_at groups s kind place group inside is has =
    let stands = λ (g : SidValue × GroupState). same_sid g.0 s && counts kind g.1 in list_any_at stands groups place group inside (ap stands (sym is) ∙ has)

pub alone_stands : (heads nexts : List ℕ) (user : SidValue × GroupState) (groups : List (SidValue × GroupState)) (s : SidValue) (kind : AceKind) (at : ℕ)
    (group : SidValue × GroupState) (r : Bool) → at ≡ place_of s → IsIndex heads nexts groups (length groups) → IsMarked heads nexts user.0 → 1 < get_or heads at 0
    → get_or nexts (get_or heads at 0 - 1) 0 ≡ 0 → group ≡ get_or groups (get_or heads at 0 - 2) group → r ≡ (same_sid group.0 s && counts kind group.1)
    → a_group_stands_for (drop 254 groups) kind s ≡ false → ((same_sid user.0 s && counts kind user.1) || a_group_stands_for groups kind s) ≡ r
alone_stands heads nexts user groups s kind at group r is_at index to_user more last is is_r beyond =
    let link = get_or heads at 0 in
    let inside : link - 2 < length groups = omega (arith, index.starts at, more) in
    let leads = leads_from nexts user s groups kind heads at is_at index to_user in
    let fails : r ≡ false → ((same_sid user.0 s && counts kind user.1) || a_group_stands_for groups kind s) ≡ false = λ no.
    sym (at_end nexts user s groups kind (get_or nexts (link - 1) 0) false (omega (arith, last)) index.goes_back
    (leads_on nexts user s groups kind link group more inside is (sym is_r ∙ no) leads) (λ one. absurd (omega (arith, one, last))) (sym beyond)) in
    let holds : r ≡ true → a_group_stands_for groups kind s ≡ true = λ yes. group_at groups s kind (link - 2) group inside is (sym is_r ∙ yes) in
    grind (arith, fails, holds)

-- what the parts of an index mark, it marks
pub marks_each : (heads nexts : List ℕ) (groups : List (SidValue × GroupState)) (restricting : List SidValue) (beyond : List (SidValue × GroupState))
    → beyond ≡ drop 254 groups → IsMarked heads nexts owner_rights
    → ((s : SidValue) → list_any (λ one. same_sid one s) restricting ≡ true → IsMarked heads nexts s)
    → ((kind : AceKind) (s : SidValue) → a_group_stands_for beyond kind s ≡ true → IsMarked heads nexts s)
    → MarksEach heads nexts groups restricting
marks_each heads nexts groups restricting beyond is owners each others kind s one =
    elim (or_cases (same_sid s owner_rights || list_any (λ one. same_sid one s) restricting) _ one) [
      | inl known ↦ elim (or_cases (same_sid s owner_rights) _ known) [
        | inl of_owner ↦ subst (IsMarked heads nexts) (sym (same_sid-true s owner_rights of_owner)) owners
        | inr of_each ↦ each s of_each
      ]
      | inr of_other ↦ others kind s (ap (λ (gs : List (SidValue × GroupState)). a_group_stands_for gs kind s) is ∙ of_other)
    ]
