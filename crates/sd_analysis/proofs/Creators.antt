-- Lists that decide alike for two tokens.
use Rattle.sd_analysis.proofs.Cited.{Ace, AceKind, Allow, Bool, CreatorsStandForAll, Deny, DenyOnly, Disabled, EachHasAStandIn, Enabled, GroupState, HasNoCreator, List, MappingValue, NodeKind, None, Option, Parts, SidValue, Some, StandsIn, TokenValue, UnnamedUsersAreAlike, [], a_group_stands_for, acl_grants, and-false, and-true, ap, applies, ap₂, arith, cases_Bool, cond, container_inherit, counts, created_by, creator_group, creator_owner, decides, effective_copy, entries_or_none, eqb-suc-zero, false, false_from_ne_true, false≢true, find, first, flag_of, flat_map, gains, handed_to, has_sid, holds, in_its_state, inherited_entries, inl, inr, is_allow, is_allowed_by, is_granted, is_implied, is_inherit_only, is_limit, is_named, is_restricted, is_restricting, is_restricting_subject, is_split, length, list_any, list_any-append, mapped, nat_lt, no_propagate, not, object_inherit, option_map, option_or, or-false, or-true, or_parts, owner_rights, pass_on, refl, same_sid, same_sid-itself, same_sid-true, stand_in, stands_for, stands_for_subject, subject, sym, true, waiting_copy, where_restricting, whole_copy, with_user, ℕ, ◌&&◌, ◌++◌, ◌==◌, ◌||◌, ◌∙◌, ◌∷◌, ◌≡◌}
use Rattle.sd_inheritance.specs.declared.kind.NodeKind.TheVariants.{Container, Object}
use Rattle.sd_analysis.proofs.Walks.{stands_for_deny}

apart : (a b : SidValue) → same_sid a b ≡ false → same_sid b a ≡ false
apart a b h = false_from_ne_true _ (λ there. false≢true (sym h ∙ ap (same_sid a) (same_sid-true b a there) ∙ same_sid-itself a))

-- ---- users whom no entry names

module _ (g : MappingValue) (t : TokenValue) (other : SidValue) where
  stands_alike : (kind : AceKind) (s : SidValue) → same_sid s t.user ≡ false → same_sid s other ≡ false
      → stands_for (with_user t other) kind s ≡ stands_for t kind s
  stands_alike kind s here there = grind (arith, apart s t.user here, apart s other there)

  applies_alike : (owner : Option SidValue) (kind : AceKind) (s : SidValue) → has_sid owner t.user ≡ false → has_sid owner other ≡ false
      → same_sid s t.user ≡ false → same_sid s other ≡ false
      → applies (with_user t other) owner kind s ≡ applies t owner kind s
  applies_alike None kind s owned owned2 here there = grind (arith, stands_alike kind s here there)
  applies_alike (Some o) kind s owned owned2 here there = grind (arith, stands_alike kind o owned owned2, stands_alike kind s here there)

  module _ (owner : Option SidValue) (not_owner : has_sid owner t.user ≡ false) (not_other : has_sid owner other ≡ false) (b : ℕ) where
    first_alike : (es : List Ace) → list_any (λ (e : Ace). same_sid e.sid t.user) es ≡ false → list_any (λ (e : Ace). same_sid e.sid other) es ≡ false
        → first g (applies (with_user t other) owner) es b ≡ first g (applies t owner) es b
    first_alike [] h j = refl
    first_alike (e ∷ es) h j =
        let one = or_parts _ _ h in
        let two = or_parts _ _ j in
        λ i. cond ((not (is_inherit_only e) && applies_alike owner e.kind e.sid not_owner not_other one.0 two.0 i) && holds (mapped g e.mask) b)
        (Some e) (first_alike es one.1 two.1 i)

    grants_alike : (dacl : Option (List Ace)) → list_any (λ (e : Ace). same_sid e.sid t.user) (entries_or_none dacl) ≡ false
        → list_any (λ (e : Ace). same_sid e.sid other) (entries_or_none dacl) ≡ false
        → acl_grants g (applies (with_user t other) owner) dacl b ≡ acl_grants g (applies t owner) dacl b
    grants_alike None h j = refl
    grants_alike (Some es) h j = ap (λ o. nat_lt b 21 && is_allowed_by o) (first_alike es h j)

  owner_alike : (owner : Option SidValue) → has_sid owner t.user ≡ false → has_sid owner other ≡ false
      → stands_for_subject (with_user t other) Allow owner ≡ stands_for_subject t Allow owner
  owner_alike None here there = refl
  owner_alike (Some o) here there = stands_alike Allow o here there

  -- what the descriptor grants
  granted_alike : (parts : Parts) (b : ℕ) → is_named parts t.user ≡ false → is_named parts other ≡ false
      → is_granted parts.owner parts.dacl g (with_user t other) b ≡ is_granted parts.owner parts.dacl g t b
  granted_alike parts b here there =
      let one = or_parts _ _ here in
      let two = or_parts _ _ there in
      let grants = grants_alike parts.owner one.0 two.0 b parts.dacl one.1 two.1 in
      let owns = owner_alike parts.owner one.0 two.0 in
      grind (arith, grants, owns)

pub unnamed_users_are_alike : UnnamedUsersAreAlike
unnamed_users_are_alike g old new t other b old_here new_here old_there new_there =
    ap₂ (λ x y. x && not y) (granted_alike g t other new b new_here new_there) (granted_alike g t other old b old_here old_there)

-- ---- the kind of the entry that decides

kind_found : (Ace → Bool) → List Ace → Option AceKind
kind_found p es = option_map (λ (e : Ace). e.kind) (find p es)

allows : Option AceKind → Bool
allows None = false
allows (Some kind) = is_allow kind

allowed_by_kind : (o : Option Ace) → is_allowed_by o ≡ allows (option_map (λ (e : Ace). e.kind) o)
unfolding allows
allowed_by_kind None = refl
allowed_by_kind (Some e) = refl

kinds_append : (p : Ace → Bool) (xs ys : List Ace) → kind_found p (xs ++ ys) ≡ option_or (kind_found p xs) (kind_found p ys)
unfolding kind_found
kinds_append p [] ys = refl
kinds_append p (x ∷ xs) ys = elim (cases_Bool (p x)) [
  | inl so ↦ rw so refl
  | inr not_so ↦ rw not_so (kinds_append p xs ys)
]

one_more : (p q : Ace → Bool) (x y : Ace) (xs ys : List Ace) → x.kind ≡ y.kind → p x ≡ q y → kind_found p xs ≡ kind_found q ys
    → kind_found p (x ∷ xs) ≡ kind_found q (y ∷ ys)
unfolding kind_found
one_more p q x y xs ys kinds same rest = elim (cases_Bool (q y)) [
  | inl so ↦ rw (same ∙ so, so) (ap Some kinds)
  | inr not_so ↦ rw (same ∙ not_so, not_so) rest
]

waits : (e : Ace) → is_inherit_only (waiting_copy e) ≡ true
waits e = flag_of e.flags.0 0xC3 0x18 3 ∙ or-true (holds e.flags.0 3 && holds 0xC3 3)

-- ---- what a child inherits

module _ (g : MappingValue) (owner group : SidValue) (not_owner : same_sid owner owner_rights ≡ false) (not_group : same_sid group owner_rights ≡ false) where
  limit_created : (s : SidValue) → same_sid (created_by creator_owner creator_group s) owner_rights ≡ same_sid (created_by owner group s) owner_rights
  limit_created s = elim (cases_Bool (same_sid s creator_owner)) [
    | inl is ↦ rw (is, not_owner) refl
    | inr isnt ↦ elim (cases_Bool (same_sid s creator_group)) [
      | inl is ↦ rw (isnt, is, not_group) refl
      | inr neither ↦ rw (isnt, neither) refl
    ]
  ]

  limit_copy : (e : Ace) → is_limit (effective_copy g creator_owner creator_group e) ≡ is_limit (effective_copy g owner group e)
  limit_copy e = ap (λ x. not (is_inherit_only (effective_copy g owner group e)) && x) (limit_created e.sid)

  limits_one : (kind : NodeKind) (e : Ace) → list_any is_limit (pass_on g kind creator_owner creator_group e) ≡ list_any is_limit (pass_on g kind owner group e)
  limits_one Object e = elim (cases_Bool (object_inherit e)) [
    | inl given ↦ rw given (ap (λ x. x || false) (limit_copy e))
    | inr not_given ↦ rw not_given refl
  ]
  limits_one Container e = elim (cases_Bool (container_inherit e)) [
    | inl given ↦ elim (cases_Bool (no_propagate e)) [
      | inl stops ↦ rw (given, stops) (ap (λ x. x || false) (limit_copy e))
      | inr goes ↦ elim (cases_Bool (is_split e)) [
        | inl split ↦ rw (given, goes, split) (ap (λ x. x || (is_limit (waiting_copy e) || false)) (limit_copy e))
        | inr alone ↦ rw (given, goes, alone) refl
      ]
    ]
    | inr not_given ↦ elim (cases_Bool (object_inherit e)) [
      | inl for_objects ↦ elim (cases_Bool (no_propagate e)) [
        | inl stops ↦ rw (not_given, for_objects, stops) refl
        | inr goes ↦ rw (not_given, for_objects, goes) refl
      ]
      | inr for_none ↦ rw (not_given, for_none) refl
    ]
  ]

  limits_all : (kind : NodeKind) (es : List Ace) → list_any is_limit (inherited_entries g kind es) ≡ list_any is_limit (handed_to g kind owner group es)
  limits_all kind [] = refl
  limits_all kind (e ∷ es) =
      list_any-append is_limit (pass_on g kind creator_owner creator_group e) (inherited_entries g kind es)
      ∙ ap₂ (λ x y. x || y) (limits_one kind e) (limits_all kind es)
      ∙ sym (list_any-append is_limit (pass_on g kind owner group e) (handed_to g kind owner group es))

  -- whom an entry speaks of, to the one and to the other
  module _ (mine theirs : AceKind → Option SidValue → Bool)
      (owned : (k : AceKind) → theirs k (Some creator_owner) ≡ mine k (Some owner))
      (grouped : (k : AceKind) → theirs k (Some creator_group) ≡ mine k (Some group))
      (named : (k : AceKind) (s : SidValue) → same_sid s creator_owner ≡ false → same_sid s creator_group ≡ false → theirs k (Some s) ≡ mine k (Some s))
      (b : ℕ)
    where
      abbrev by_them : Ace → Bool
      by_them = decides g (λ k s. theirs k (subject (Some creator_owner) s)) b

      abbrev by_me : Ace → Bool
      by_me = decides g (λ k s. mine k (subject (Some owner) s)) b

      other_sid : (k : AceKind) (s : SidValue) → same_sid s creator_owner ≡ false → same_sid s creator_group ≡ false
          → theirs k (subject (Some creator_owner) s) ≡ mine k (subject (Some owner) s)
      other_sid k s no_owner no_group = elim (cases_Bool (same_sid s owner_rights)) [
        | inl is ↦ rw is (owned k)
        | inr isnt ↦ rw isnt (named k s no_owner no_group)
      ]

      created : (k : AceKind) (s : SidValue)
          → theirs k (subject (Some creator_owner) (created_by creator_owner creator_group s)) ≡ mine k (subject (Some owner) (created_by owner group s))
      created k s = elim (cases_Bool (same_sid s creator_owner)) [
        | inl is ↦ rw (is, not_owner) (owned k)
        | inr isnt ↦ elim (cases_Bool (same_sid s creator_group)) [
          | inl is ↦ rw (isnt, is, not_group) (grouped k)
          | inr neither ↦ rw (isnt, neither) (other_sid k s isnt neither)
        ]
      ]

      effective : (e : Ace) → by_them (effective_copy g creator_owner creator_group e) ≡ by_me (effective_copy g owner group e)
      effective e = ap (λ x. (not (is_inherit_only (effective_copy g owner group e)) && x) && holds (mapped g (mapped g e.mask)) b) (created e.kind e.sid)

      waiting : (e : Ace) → by_them (waiting_copy e) ≡ by_me (waiting_copy e)
      waiting e = rw (waits e) refl

      whole : (e : Ace) → is_split e ≡ false → by_them (whole_copy e) ≡ by_me (whole_copy e)
      whole e h =
          let sids = or_parts _ _ (or_parts _ _ h).1 in
          ap (λ x. (not (is_inherit_only (whole_copy e)) && x) && holds (mapped g e.mask) b) (other_sid e.kind e.sid sids.0 sids.1)

      effective_alone : (e : Ace)
          → kind_found by_them (effective_copy g creator_owner creator_group e ∷ []) ≡ kind_found by_me (effective_copy g owner group e ∷ [])
      unfolding kind_found
      effective_alone e =
          one_more by_them by_me (effective_copy g creator_owner creator_group e) (effective_copy g owner group e) [] [] refl (effective e) refl

      waiting_alone : (e : Ace) → kind_found by_them (waiting_copy e ∷ []) ≡ kind_found by_me (waiting_copy e ∷ [])
      unfolding kind_found
      waiting_alone e = one_more by_them by_me (waiting_copy e) (waiting_copy e) [] [] refl (waiting e) refl

      kinds_one : (kind : NodeKind) (e : Ace) → kind_found by_them (pass_on g kind creator_owner creator_group e) ≡ kind_found by_me (pass_on g kind owner group e)
      unfolding kind_found
      kinds_one Object e = elim (cases_Bool (object_inherit e)) [
        | inl given ↦ rw given (effective_alone e)
        | inr not_given ↦ rw not_given refl
      ]
      kinds_one Container e = elim (cases_Bool (container_inherit e)) [
        | inl given ↦ elim (cases_Bool (no_propagate e)) [
          | inl stops ↦ rw (given, stops) (effective_alone e)
          | inr goes ↦ elim (cases_Bool (is_split e)) [
            | inl split ↦ rw (given, goes, split)
                (one_more by_them by_me (effective_copy g creator_owner creator_group e) (effective_copy g owner group e)
                (waiting_copy e ∷ []) (waiting_copy e ∷ []) refl (effective e) (waiting_alone e))
            | inr alone ↦ rw (given, goes, alone) (one_more by_them by_me (whole_copy e) (whole_copy e) [] [] refl (whole e alone) refl)
          ]
        ]
        | inr not_given ↦ elim (cases_Bool (object_inherit e)) [
          | inl for_objects ↦ elim (cases_Bool (no_propagate e)) [
            | inl stops ↦ rw (not_given, for_objects, stops) refl
            | inr goes ↦ rw (not_given, for_objects, goes) (waiting_alone e)
          ]
          | inr for_none ↦ rw (not_given, for_none) refl
        ]
      ]

      kinds_all : (kind : NodeKind) (es : List Ace) → kind_found by_them (inherited_entries g kind es) ≡ kind_found by_me (handed_to g kind owner group es)
      unfolding kind_found
      kinds_all kind [] = refl
      kinds_all kind (e ∷ es) =
          kinds_append by_them (pass_on g kind creator_owner creator_group e) (inherited_entries g kind es)
          ∙ ap₂ option_or (kinds_one kind e) (kinds_all kind es)
          ∙ sym (kinds_append by_me (pass_on g kind owner group e) (handed_to g kind owner group es))

      pub decided_alike : (kind : NodeKind) (es : List Ace)
          → is_allowed_by (find by_them (inherited_entries g kind es)) ≡ is_allowed_by (find by_me (handed_to g kind owner group es))
      unfolding kind_found
      decided_alike kind es = allowed_by_kind _ ∙ ap allows (kinds_all kind es) ∙ sym (allowed_by_kind _)

pub creators_stand_for_all : CreatorsStandForAll
creators_stand_for_all g kind es owner group t other b not_owner not_group stands =
    let first_pass = decided_alike g owner group not_owner not_group (stands_for_subject t) (stands_for_subject other) stands.owned stands.grouped stands.named b kind es in
    let second_pass = decided_alike g owner group not_owner not_group (λ k. is_restricting_subject t) (λ k. is_restricting_subject other)
    (λ k. stands.owned_again) (λ k. stands.grouped_again) (λ k. stands.named_again) b kind es in
    let limits = limits_all g owner group not_owner not_group kind es in
    λ i. ((nat_lt b 21 && first_pass i) && (not (stands.restricted i) || (nat_lt b 21 && second_pass i)))
    || is_implied ((stands.owned Allow i && (not (stands.restricted i) || stands.owned_again i)) && not (limits i))
    (stands.privileges i).take_ownership (stands.privileges i).security b

-- ---- each token's stand-in

state_stands : (t : TokenValue) (s name other : SidValue) (kind : AceKind)
    → a_group_stands_for (in_its_state t s name) kind other ≡ (same_sid name other && stands_for t kind s)
state_stands t s name other Allow = elim (cases_Bool (stands_for t Allow s)) [
  | inl so ↦ rw so (or-false (same_sid name other && true))
  | inr not_so ↦ elim (cases_Bool (stands_for t Deny s)) [
    | inl denies ↦ rw (not_so, denies) (or-false (same_sid name other && false))
    | inr never ↦ rw (not_so, never) (sym (and-false (same_sid name other)))
  ]
]
state_stands t s name other Deny = elim (cases_Bool (stands_for t Allow s)) [
  | inl so ↦ rw (so, stands_for_deny t s so) (or-false (same_sid name other && true))
  | inr not_so ↦ elim (cases_Bool (stands_for t Deny s)) [
    | inl denies ↦ rw (not_so, denies) (or-false (same_sid name other && true))
    | inr never ↦ rw (not_so, never) (sym (and-false (same_sid name other)))
  ]
]

restricting_stands : (t : TokenValue) (s name other : SidValue)
    → list_any (λ one. same_sid one other) (where_restricting t s name) ≡ (same_sid name other && is_restricting t s)
restricting_stands t s name other = elim (cases_Bool (is_restricting t s)) [
  | inl so ↦ rw so (or-false (same_sid name other) ∙ sym (and-true (same_sid name other)))
  | inr not_so ↦ rw not_so (sym (and-false (same_sid name other)))
]

some_there : (rs : List SidValue) (s : SidValue) → list_any (λ one. same_sid one s) rs ≡ true → (length rs == 0) ≡ false
some_there [] s h = absurd (false≢true h)
some_there (r ∷ rs) s h = eqb-suc-zero (length rs)

-- a stand-in among the restricting SIDs restricts no token that nothing restricted
restricted_more : (t : TokenValue) (s name : SidValue) (rest : List SidValue) → (length rest == 0) ≡ (length t.restricting == 0)
    → (length (where_restricting t s name ++ rest) == 0) ≡ (length t.restricting == 0)
restricted_more t s name rest h = elim (cases_Bool (is_restricting t s)) [
  | inl so ↦ rw so (eqb-suc-zero (length rest) ∙ sym (some_there t.restricting s so))
  | inr not_so ↦ rw not_so h
]

module _ (owner group : SidValue) (t : TokenValue) where
  abbrev them : TokenValue
  them = stand_in owner group t

  stands_now : (kind : AceKind) (s : SidValue) → stands_for them kind s
      ≡ ((same_sid t.user s && counts kind t.user_state) || ((same_sid creator_owner s && stands_for t kind owner) || ((same_sid creator_group s && stands_for t kind group) || a_group_stands_for t.groups kind s)))
  stands_now kind s =
      ap (λ x. (same_sid t.user s && counts kind t.user_state) || x)
      (list_any-append _ (in_its_state t owner creator_owner) (in_its_state t group creator_group ++ t.groups)
      ∙ ap₂ (λ x y. x || y) (state_stands t owner creator_owner s kind)
      (list_any-append _ (in_its_state t group creator_group) t.groups ∙ ap (λ x. x || a_group_stands_for t.groups kind s) (state_stands t group creator_group s kind)))

  restricting_now : (s : SidValue) → is_restricting them s
      ≡ ((same_sid creator_owner s && is_restricting t owner) || ((same_sid creator_group s && is_restricting t group) || is_restricting t s))
  restricting_now s =
      list_any-append _ (where_restricting t owner creator_owner) (where_restricting t group creator_group ++ t.restricting)
      ∙ ap₂ (λ x y. x || y) (restricting_stands t owner creator_owner s)
      (list_any-append _ (where_restricting t group creator_group) t.restricting ∙ ap (λ x. x || is_restricting t s) (restricting_stands t group creator_group s))

  not_there : (s : SidValue) (kind : AceKind) → stands_for t Deny s ≡ false → stands_for t kind s ≡ false
  not_there s Deny h = h
  not_there s Allow h = false_from_ne_true _ (λ there. false≢true (sym h ∙ stands_for_deny t s there))

  still_restricted : is_restricted them ≡ is_restricted t
  still_restricted = ap not (restricted_more t owner creator_owner _ (restricted_more t group creator_group t.restricting refl))

pub each_has_a_stand_in : EachHasAStandIn
each_has_a_stand_in owner group t none = record {
  owned = λ kind. grind (arith, stands_now owner group t kind creator_owner, not_there owner group t creator_owner kind none.owner);
  grouped = λ kind. grind (arith, stands_now owner group t kind creator_group, not_there owner group t creator_group kind none.group);
  named = λ kind s no_owner no_group. grind (arith, stands_now owner group t kind s, apart s creator_owner no_owner, apart s creator_group no_group);
  owned_again = grind (arith, restricting_now owner group t creator_owner, none.owner_again);
  grouped_again = grind (arith, restricting_now owner group t creator_group, none.group_again);
  named_again = λ s no_owner no_group. grind (arith, restricting_now owner group t s, apart s creator_owner no_owner, apart s creator_group no_group);
  restricted = still_restricted owner group t;
  privileges = refl;
}
