-- DACLs that are one but for the order of some last entries: what they hand on, and what they grant.
use Rattle.sd_tree_laws.proofs.Cited.{Ace, AceKind, Bool, List, MappingValue, Names, NodeDacl, NodeKind, NodeRow, None, Null, Option, PlainTree, SidValue, Some, TokenValue, [], acl_grants, allows, and_from, and_parts, ap, append-nil, append_assoc, applies, applies_again, ap₂, canonical_order, cases_Bool, dacl_below, dacl_here, dacl_under, decides, denies, explicit_entries, false, filter, filter-append, first, flat_map, flat_map-append, handed_on, inl, inr, is_allowed_by, is_given, is_granted, is_implied, is_inherit_only, is_listed, is_owner, is_restricted, limits_owner, list_any, list_any-append, nat_lt, not, not-false, or_left, or_right, owner_rights, pass_on, refl, row_at, same_sid, subst, sym, true, ℕ, ◌&&◌, ◌++◌, ◌||◌, ◌∙◌, ◌∷◌, ◌≡◌}
use Rattle.sd_edit.specs.declared.node.NodeDacl.TheVariants.{List as Entries, Stored}
use Rattle.sd_edit.specs.Inheritance.{kept_or_handed, offered, same_list, still_offers}
use Rattle.sd_inheritance.specs.Inheritance.{creator_group, creator_owner}
use Rattle.sd_tree_laws.proofs.Copies.{no_copy_passes}
use Rattle.sd_tree_laws.proofs.Ordered.{filter_none, filter_whole, no_allow, no_deny}
use Rattle.sd_tree_laws.proofs.OrderGrants.{allowed_before, allowed_behind, any_canonical}
use Rattle.sd_tree_laws.proofs.ExplicitForm.{explicit_allowed, explicit_limits, explicit_handed_alike}

-- ---- what is handed on of a list in order is in order

module _ (g : MappingValue) (kind : NodeKind) (owner group : SidValue) where
  abbrev f : Ace → List Ace
  f = pass_on g kind owner group

  allows_only : (e : Ace) → allows e ≡ true → list_any denies (f e) ≡ false
  allows_only e h = let no = ap not h in no_copy_passes denies g owner group e no no no kind

  denies_only : (e : Ace) → allows e ≡ false → list_any allows (f e) ≡ false
  denies_only e h = no_copy_passes allows g owner group e h h h kind

  denies_handed : (es : List Ace) → flat_map f (filter denies es) ≡ filter denies (flat_map f es)
  denies_handed [] = refl
  denies_handed (e ∷ es) = elim (cases_Bool (allows e)) [
    | inl allow ↦ rw allow (denies_handed es ∙ sym (filter-append denies (f e) (flat_map f es) ∙ ap (λ xs. xs ++ filter denies (flat_map f es)) (filter_none denies (f e) (allows_only e allow))))
    | inr deny ↦ rw deny (
        ap (λ xs. f e ++ xs) (denies_handed es)
        ∙ sym (filter-append denies (f e) (flat_map f es)
        ∙ ap (λ xs. xs ++ filter denies (flat_map f es)) (filter_whole denies allows (λ x no. ap not no) (f e) (denies_only e deny))))
  ]

  allows_handed : (es : List Ace) → flat_map f (filter allows es) ≡ filter allows (flat_map f es)
  allows_handed [] = refl
  allows_handed (e ∷ es) = elim (cases_Bool (allows e)) [
    | inl allow ↦ rw allow (
        ap (λ xs. f e ++ xs) (allows_handed es)
        ∙ sym (filter-append allows (f e) (flat_map f es)
        ∙ ap (λ xs. xs ++ filter allows (flat_map f es)) (filter_whole allows denies (λ x no. not-false (allows x) no) (f e) (allows_only e allow))))
    | inr deny ↦ rw deny (allows_handed es ∙ sym (filter-append allows (f e) (flat_map f es) ∙ ap (λ xs. xs ++ filter allows (flat_map f es)) (filter_none allows (f e) (denies_only e deny))))
  ]

  canonical_handed : (es : List Ace) → flat_map f (canonical_order es) ≡ canonical_order (flat_map f es)
  canonical_handed es = flat_map-append f (filter denies es) (filter allows es) ∙ ap₂ (λ xs ys. xs ++ ys) (denies_handed es) (allows_handed es)

-- ---- a list of which some last entries were put in order

pub record IsReordered (after before : List Ace) : Type 0 where
  pub front : List Ace
  pub back : List Ace
  pub is_after : after ≡ front ++ canonical_order back
  pub is_before : before ≡ front ++ back

unchanged : (es : List Ace) → IsReordered es es
unchanged es = record { front = es; back = []; is_after = sym (append-nil es); is_before = sym (append-nil es) }

behind : (own after before : List Ace) → IsReordered after before → IsReordered (own ++ after) (own ++ before)
behind own after before r = record {
  front = own ++ r.front;
  back = r.back;
  is_after = ap (λ xs. own ++ xs) r.is_after ∙ sym (append_assoc own r.front (canonical_order r.back));
  is_before = ap (λ xs. own ++ xs) r.is_before ∙ sym (append_assoc own r.front r.back);
}

-- both DACLs are null, or the first is the second with its last entries put in canonical order
abbrev pub AreReordered : Option (List Ace) → Option (List Ace) → Type 0
AreReordered None None = Unit {0}
AreReordered None (Some before) = ⊥
AreReordered (Some after) None = ⊥
AreReordered (Some after) (Some before) = IsReordered after before

-- what two DACLs hand on to a child is one list, but for the order of some last entries
unfoldable pub HandOnReordered : Option (List Ace) → Option (List Ace) → Type 0
HandOnReordered after before = (g : MappingValue) (row : NodeRow) → IsReordered (handed_on g row after) (handed_on g row before)

hands_on : (after before : Option (List Ace)) → AreReordered after before → HandOnReordered after before
unfolding HandOnReordered
hands_on None None r g row = unchanged []
hands_on None (Some before) r g row = absurd r
hands_on (Some after) None r g row = absurd r
hands_on (Some after) (Some before) r g row =
    let h = pass_on g row.kind row.owner row.group in
    record {
      front = flat_map h r.front;
      back = flat_map h r.back;
      is_after = ap (flat_map h) r.is_after ∙ flat_map-append h r.front (canonical_order r.back)
          ∙ ap (λ xs. flat_map h r.front ++ xs) (canonical_handed g row.kind row.owner row.group r.back);
      is_before = ap (flat_map h) r.is_before ∙ flat_map-append h r.front r.back;
    }

-- the node itself, whose entries are made explicit
pub node_hands_on : (es : List Ace) → HandOnReordered (Some (canonical_order (explicit_entries es))) (Some es)
unfolding HandOnReordered
node_hands_on es g row = record {
  front = [];
  back = flat_map (pass_on g row.kind row.owner row.group) es;
  is_after = canonical_handed g row.kind row.owner row.group (explicit_entries es)
      ∙ ap canonical_order (explicit_handed_alike g row.kind row.owner row.group es);
  is_before = refl;
}

-- what a node keeps that was stored it keeps where the same is offered in another order
denies_again : (es : List Ace) → filter denies (canonical_order es) ≡ filter denies es
denies_again es =
    filter-append denies (filter denies es) (filter allows es)
    ∙ ap₂ (λ xs ys. xs ++ ys) (filter_whole denies allows (λ x no. ap not no) (filter denies es) (no_allow es)) (filter_none denies (filter allows es) (no_deny es))
    ∙ append-nil (filter denies es)

allows_again : (es : List Ace) → filter allows (canonical_order es) ≡ filter allows es
allows_again es =
    filter-append allows (filter denies es) (filter allows es)
    ∙ ap₂ (λ xs ys. xs ++ ys) (filter_none allows (filter denies es) (no_allow es)) (filter_whole allows denies (λ x no. not-false (allows x) no) (filter allows es) (no_deny es))

order_behind : (front back : List Ace) → canonical_order (front ++ canonical_order back) ≡ canonical_order (front ++ back)
order_behind front back =
    ap₂ (λ xs ys. xs ++ ys)
    (filter-append denies front (canonical_order back) ∙ ap (λ xs. filter denies front ++ xs) (denies_again back) ∙ sym (filter-append denies front back))
    (filter-append allows front (canonical_order back) ∙ ap (λ xs. filter allows front ++ xs) (allows_again back) ∙ sym (filter-append allows front back))

still_reordered : (g : MappingValue) (kind : NodeKind) (after before : Option (List Ace)) (offer : List Ace)
    → IsReordered (offered g kind after) (offered g kind before) → still_offers g kind after offer ≡ still_offers g kind before offer
unfolding still_offers
still_reordered g kind after before offer r =
    ap (λ es. same_list es (canonical_order offer)) (ap canonical_order r.is_after ∙ order_behind r.front r.back ∙ sym (ap canonical_order r.is_before))

kept_either : (own inherited after before : List Ace) → IsReordered after before → (keeps : Bool)
    → IsReordered (own ++ kept_or_handed keeps inherited after) (own ++ kept_or_handed keeps inherited before)
kept_either own inherited after before r true = unchanged _
kept_either own inherited after before r false = behind own after before r

under : (g : MappingValue) (row : NodeRow) (dacl : NodeDacl) (after before : Option (List Ace)) → HandOnReordered after before
    → AreReordered (dacl_under g row dacl after) (dacl_under g row dacl before)
unfolding HandOnReordered
under g row Null after before r = tt
under g row (Entries true own) after before r = unchanged (own ++ [])
under g row (Entries false own) after before r = behind own (handed_on g row after) (handed_on g row before) (r g row)
under g row (Stored own inherited offer) after before r =
    let child : NodeRow = record { kind = row.kind; owner = creator_owner; group = creator_group; dacl = Null } in
    let still = still_offers g row.kind before offer in
    let P : Bool → Type 0 = λ keeps. IsReordered (own ++ kept_or_handed keeps inherited (handed_on g row after)) (own ++ kept_or_handed still inherited (handed_on g row before)) in
    subst P (sym (still_reordered g row.kind after before offer (r g child)))
    (kept_either own inherited (handed_on g row after) (handed_on g row before) (r g row) still)

pub here : (g : MappingValue) (o : Option NodeRow) (after before : Option (List Ace)) → HandOnReordered after before
    → AreReordered (dacl_here g o after) (dacl_here g o before)
here g None after before r = tt
here g (Some row) after before r = under g row row.dacl after before r

pub down : (g : MappingValue) (t : PlainTree) (at : Names) (after before : Option (List Ace)) (names : Names) → AreReordered after before
    → AreReordered (dacl_below g t at after names) (dacl_below g t at before names)
down g t at after before [] r = r
down g t at after before (n ∷ names) r =
    let o = row_at t (at ++ n ∷ []) in
    down g t (at ++ n ∷ []) (dacl_here g o after) (dacl_here g o before) names (here g o after before (hands_on after before r))

-- ---- and what it grants

same_given : (owner : Option SidValue) (after before : Option (List Ace)) (token : TokenValue) (b : ℕ) → limits_owner after ≡ limits_owner before → is_given owner after token b ≡ is_given owner before token b
same_given owner after before token b e =
    ap (λ x. is_implied (is_owner token owner && not x) token.privileges.take_ownership token.privileges.security b) e

either_more : (listed given before : Bool) → (listed ≡ true → before ≡ true) → (listed || given) ≡ true → (before || given) ≡ true
either_more true given before more h = or_left before given (more refl)
either_more false given before more h = or_right before given h

-- what holds in each pass still does, where each pass grants no less
each_more : (first again free other else : Bool) → (first ≡ true → other ≡ true) → (again ≡ true → else ≡ true)
    → (first && (free || again)) ≡ true → (other && (free || else)) ≡ true
each_more first again true other else one two h = let parts = and_parts first true h in and_from other true (one parts.0) refl
each_more first again false other else one two h = let parts = and_parts first again h in and_from other else (one parts.0) (two parts.1)

-- a list that grants no more, whoever its entries apply to, and limits the owner alike, lets nobody in
lets_nobody_in : (owner : Option SidValue) (g : MappingValue) (token : TokenValue) (after before : List Ace) (b : ℕ)
    → ((who : AceKind → SidValue → Bool) → is_allowed_by (first g who after b) ≡ true → is_allowed_by (first g who before b) ≡ true)
    → limits_owner (Some after) ≡ limits_owner (Some before)
    → is_granted owner (Some after) g token b ≡ true → is_granted owner (Some before) g token b ≡ true
lets_nobody_in owner g token after before b more limits granted =
    let given = same_given owner (Some after) (Some before) token b limits in
    let low = λ (who : AceKind → SidValue → Bool) (h : acl_grants g who (Some after) b ≡ true).
    let parts = and_parts (nat_lt b 21) (is_allowed_by (first g who after b)) h in
    and_from (nat_lt b 21) (is_allowed_by (first g who before b)) parts.0 (more who parts.1) in
    ap (λ x. is_listed owner (Some before) g token b || x) (sym given)
    ∙ either_more (is_listed owner (Some after) g token b) (is_given owner (Some after) token b) (is_listed owner (Some before) g token b)
    (each_more (acl_grants g (applies token owner) (Some after) b) (acl_grants g (applies_again token owner) (Some after) b) (not (is_restricted token))
    (acl_grants g (applies token owner) (Some before) b) (acl_grants g (applies_again token owner) (Some before) b)
    (low (applies token owner)) (low (applies_again token owner))) granted

pub reordered_grants : (owner : Option SidValue) (g : MappingValue) (token : TokenValue) (after before : Option (List Ace)) (b : ℕ) → AreReordered after before
    → is_granted owner after g token b ≡ true → is_granted owner before g token b ≡ true
reordered_grants owner g token None None b r h = h
reordered_grants owner g token None (Some before) b r h = absurd r
reordered_grants owner g token (Some after) None b r h = absurd r
reordered_grants owner g token (Some after) (Some before) b r h =
    let limit = λ (e : Ace). not (is_inherit_only e) && same_sid e.sid owner_rights in
    rw r.is_before (lets_nobody_in owner g token (r.front ++ canonical_order r.back) (r.front ++ r.back) b
    (λ who. allowed_behind (decides g who b) r.front r.back)
    (list_any-append limit r.front (canonical_order r.back) ∙ ap (λ x. list_any limit r.front || x) (any_canonical limit r.back) ∙ sym (list_any-append limit r.front r.back))
    (rw r.is_after at h))

pub node_grants : (owner : Option SidValue) (g : MappingValue) (token : TokenValue) (es : List Ace) (b : ℕ)
    → is_granted owner (Some (canonical_order (explicit_entries es))) g token b ≡ true → is_granted owner (Some es) g token b ≡ true
node_grants owner g token es b =
    lets_nobody_in owner g token (canonical_order (explicit_entries es)) es b
    (λ who h. sym (explicit_allowed g who b es) ∙ allowed_before (decides g who b) (explicit_entries es) h)
    (any_canonical (λ e. not (is_inherit_only e) && same_sid e.sid owner_rights) (explicit_entries es) ∙ explicit_limits es)
