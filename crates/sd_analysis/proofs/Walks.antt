-- What a walk comes to with one more entry.
use Rattle.sd_analysis.proofs.Cited.{Ace, Allow, Alternative, Bool, Deny, Everyone, GroupState, HasBase, Holder, IsWalk, List, MappingValue, None, Option, Owner, Sid, SidValue, Some, TokenValue, Walk, [], a_group_stands_for, and-false, and-true, and_from, and_parts, ap, applies, arith, cond, counts, decides, drop, false, false≢true, find-append, first, granted_by, holds, holds_for, inl, inr, is_allow, is_allowed_by, is_held_by, is_in_base, is_inherit_only, is_none, is_of, le-leb, leb-true, length, list_all, list_any, list_any-append, mapped, nat_le, not, option_or, or-false, or_cases, or_from, or_left, or_parts, or_right, refl, same_sid, same_sid-true, stands_for, stands_for_subject, subject, sym, take, take-append-drop, take-append-le, true, undecided_by, ℕ, ◌&&◌, ◌++◌, ◌||◌, ◌∙◌, ◌∷◌, ◌≡◌, ◌≤◌}
use Rattle.std.proofs.Common.{length-append}

-- ---- lists

any_more : {X : Type 0} (p q : X → Bool) (xs : List X) → ((x : X) → p x ≡ true → q x ≡ true) → list_any p xs ≡ true → list_any q xs ≡ true
any_more p q [] more h = h
any_more p q (x ∷ xs) more h = elim (or_cases (p x) (list_any p xs) h) [
  | inl here ↦ or_left _ _ (more x here)
  | inr there ↦ or_right _ _ (any_more p q xs more there)
]

none_in_front : {X : Type 0} (p : X → Bool) (xs : List X) (n : ℕ) → list_any p xs ≡ false → list_any p (take n xs) ≡ false
none_in_front p xs n none =
    (or_parts (list_any p (take n xs)) (list_any p (drop n xs)) (sym (list_any-append p (take n xs) (drop n xs)) ∙ ap (list_any p) (take-append-drop n xs) ∙ none)).0

-- ---- tokens

counts_more : (state : GroupState) → counts Allow state ≡ true → counts Deny state ≡ true
counts_more state h = grind arith

-- a SID that a token has enabled is there for denies too
pub stands_for_deny : (t : TokenValue) (s : SidValue) → stands_for t Allow s ≡ true → stands_for t Deny s ≡ true
stands_for_deny t s h = elim (or_cases (same_sid t.user s && counts Allow t.user_state) (a_group_stands_for t.groups Allow s) h) [
  | inl user ↦
      let parts = and_parts (same_sid t.user s) (counts Allow t.user_state) user in
      or_left _ _ (and_from _ _ parts.0 (counts_more t.user_state parts.1))
  | inr group ↦ or_right _ _ (any_more _ _ t.groups (λ (g : SidValue × GroupState) is.
      let parts = and_parts (same_sid g.0 s) (counts Allow g.1) is in and_from _ _ parts.0 (counts_more g.1 parts.1)) group)
]

-- the holder of the SID is held by who has it enabled
of_holder : (t : TokenValue) (s : SidValue) (holder : Holder) → is_of s holder ≡ true → stands_for t Allow s ≡ true → is_held_by t holder ≡ true
of_holder t s Everyone is has = refl
of_holder t s (Sid one) is has = ap (stands_for t Allow) (same_sid-true one s is) ∙ has
of_holder t s (Owner one) is has = ap (stands_for t Allow) (same_sid-true one s is) ∙ has

-- ---- the same walk

pub walk_alike : (base : List (SidValue × GroupState)) (g h u v : TokenValue → Bool) (walk : Walk)
    → ((t : TokenValue) → HasBase base t → g t ≡ h t)
    → ((t : TokenValue) → HasBase base t → g t ≡ false → u t ≡ v t)
    → IsWalk base g u walk → IsWalk base h v walk
walk_alike base g h u v walk same decided is = record {
  exact = λ t has. is.exact t has ∙ same t has;
  while_open = λ t has waits refused. sym (decided t has (same t has ∙ refused)) ∙ is.while_open t has waits (same t has ∙ refused);
  once_closed = λ t has over refused. sym (decided t has (same t has ∙ refused)) ∙ is.once_closed t has over (same t has ∙ refused);
  beyond = is.beyond;
  within = is.within;
}

-- ---- an allow for a SID that was denied, or has an alternative

skipped_exact : (g u x d l : Bool) → l ≡ g → (g ≡ false → u ≡ not d) → (x ≡ true → d ≡ false → l ≡ true) → l ≡ (g || (u && x))
skipped_exact g u x d l h j k2 = grind arith

skipped_open : (g u x d : Bool) → (g ≡ false → u ≡ not d) → (g || (u && x)) ≡ false → (u && not x) ≡ not d
skipped_open g u x d h j = grind arith

pub allow_is_known : (base : List (SidValue × GroupState)) (g u : TokenValue → Bool) (walk : Walk) (s : SidValue) → walk.is_closed ≡ false
    → (list_any (λ one. same_sid one s) walk.denied.items || list_any (λ (a : Alternative). is_of s a.holder) walk.alternatives.items) ≡ true
    → IsWalk base g u walk
    → IsWalk base (λ t. g t || (u t && stands_for t Allow s)) (λ t. u t && not (stands_for t Allow s)) walk
allow_is_known base g u walk s waits known is =
    let denied = walk.denied.items in
    let known_to : (t : TokenValue) → stands_for t Allow s ≡ true → list_any (stands_for t Deny) denied ≡ false
    → list_any (holds_for t denied) walk.alternatives.items ≡ true = λ t has none.
    elim (or_cases (list_any (λ one. same_sid one s) denied) (list_any (λ (a : Alternative). is_of s a.holder) walk.alternatives.items) known) [
      | inl there ↦ absurd (false≢true (sym none ∙ any_more _ (stands_for t Deny) denied
          (λ one same. ap (stands_for t Deny) (same_sid-true one s same) ∙ stands_for_deny t s has) there))
      | inr there ↦ any_more _ (holds_for t denied) walk.alternatives.items
          (λ (a : Alternative) is_its. and_from _ _ (of_holder t s a.holder is_its has) (ap not (none_in_front (stands_for t Deny) denied a.unless none))) there
    ] in record {
      exact = λ t has. skipped_exact (g t) (u t) (stands_for t Allow s) (list_any (stands_for t Deny) denied) _ (is.exact t has) (is.while_open t has waits) (known_to t);
      while_open = λ t has open_still refused. skipped_open (g t) (u t) (stands_for t Allow s) _ (is.while_open t has waits) refused;
      once_closed = λ t has over refused. absurd (false≢true (sym waits ∙ over));
      beyond = is.beyond;
      within = is.within;
    }

-- ---- a deny

denied_again : (u x d : Bool) → u ≡ not d → (x ≡ true → d ≡ true) → (u && not x) ≡ not d
denied_again u x d h j = grind arith

pub deny_is_known : (base : List (SidValue × GroupState)) (g u : TokenValue → Bool) (walk : Walk) (s : SidValue) → walk.is_closed ≡ false
    → list_any (λ one. same_sid one s) walk.denied.items ≡ true
    → IsWalk base g u walk → IsWalk base g (λ t. u t && not (stands_for t Deny s)) walk
deny_is_known base g u walk s waits known is = record {
  exact = is.exact;
  while_open = λ t has open_still refused. denied_again (u t) (stands_for t Deny s) _ (is.while_open t has waits refused)
      (λ stands. any_more _ (stands_for t Deny) walk.denied.items (λ one same. ap (stands_for t Deny) (same_sid-true one s same) ∙ stands) known);
  once_closed = λ t has over refused. absurd (false≢true (sym waits ∙ over));
  beyond = is.beyond;
  within = is.within;
}

-- one more denied SID, of which no alternative so far speaks
same_alternatives : (t : TokenValue) (denied : List SidValue) (s : SidValue) (those : List Alternative)
    → list_all (λ (a : Alternative). nat_le a.unless (length denied)) those ≡ true
    → list_any (holds_for t (denied ++ s ∷ [])) those ≡ list_any (holds_for t denied) those
same_alternatives t denied s [] within = refl
same_alternatives t denied s (a ∷ those) within =
    let parts = and_parts (nat_le a.unless (length denied)) (list_all (λ (other : Alternative). nat_le other.unless (length denied)) those) within in
    let front : take a.unless (denied ++ s ∷ []) ≡ take a.unless denied = take-append-le a.unless denied (s ∷ []) (leb-true _ _ parts.0) in
    ap (λ (some : List SidValue). (is_held_by t a.holder && not (list_any (stands_for t Deny) some)) || list_any (holds_for t (denied ++ s ∷ [])) those) front
    ∙ ap (λ x. holds_for t denied a || x) (same_alternatives t denied s those parts.1)

within_more : (n m : ℕ) (those : List Alternative) → n ≤ m → list_all (λ (a : Alternative). nat_le a.unless n) those ≡ true → list_all (λ (a : Alternative). nat_le a.unless m) those ≡ true
within_more n m [] more h = h
within_more n m (a ∷ those) more h = grind (arith, within_more n m those more, leb-true a.unless n, le-leb a.unless m)

denied_more : (u x d : Bool) → u ≡ not d → (u && not x) ≡ not (d || (x || false))
denied_more u x d h = grind arith

pub deny_is_new : (base : List (SidValue × GroupState)) (g u : TokenValue → Bool) (walk next : Walk) (s : SidValue) → walk.is_closed ≡ false
    → a_group_stands_for base Deny s ≡ false
    → next.denied.items ≡ walk.denied.items ++ s ∷ [] → next.alternatives.items ≡ walk.alternatives.items → next.is_closed ≡ walk.is_closed
    → IsWalk base g u walk → IsWalk base g (λ t. u t && not (stands_for t Deny s)) next
deny_is_new base g u walk next s waits new more same still is =
    let longer : length walk.denied.items ≤ length next.denied.items =
    let long = ap length more ∙ length-append walk.denied.items (s ∷ []) in omega (arith, long) in record {
      exact = λ t has. ap (λ (some : List SidValue). list_any (holds_for t some) next.alternatives.items) more
          ∙ ap (list_any (holds_for t (walk.denied.items ++ s ∷ []))) same
          ∙ same_alternatives t walk.denied.items s walk.alternatives.items is.within ∙ is.exact t has;
      while_open = λ t has open_still refused. denied_more (u t) (stands_for t Deny s) _ (is.while_open t has waits refused)
          ∙ ap not (sym (ap (list_any (stands_for t Deny)) more ∙ list_any-append (stands_for t Deny) walk.denied.items (s ∷ [])));
      once_closed = λ t has over refused. absurd (false≢true (sym waits ∙ (sym still ∙ over)));
      beyond = record {
        no_holder = ap (list_any (λ (a : Alternative). is_in_base base a.holder)) same ∙ is.beyond.no_holder;
        no_denied = ap (list_any (a_group_stands_for base Deny)) more ∙ list_any-append (a_group_stands_for base Deny) walk.denied.items (s ∷ [])
            ∙ or_from _ _ is.beyond.no_denied (or_from _ _ new refl);
      };
      within = ap (list_all (λ (a : Alternative). nat_le a.unless (length next.denied.items))) same
          ∙ within_more (length walk.denied.items) (length next.denied.items) walk.alternatives.items longer is.within;
    }

-- ---- an entry that the rule comes to

allowed_next : (o : Option Ace) (x : Bool) (e : Ace)
    → is_allowed_by (option_or o (cond x (Some e) None)) ≡ (is_allowed_by o || ((is_none o && x) && is_allow e.kind))
allowed_next o x e = grind arith

undecided_next : (o : Option Ace) (x : Bool) (e : Ace) → is_none (option_or o (cond x (Some e) None)) ≡ (is_none o && not x)
undecided_next o x e = grind arith

or_then : (a b c : Bool) → ((a || b) || c) ≡ (a || (b || c))
or_then a b c = grind arith

module _ (owner : Option SidValue) (g : MappingValue) (b : ℕ) (seen : List Ace) (e : Ace) where
  first_next : (t : TokenValue) → first g (applies t owner) (seen ++ e ∷ []) b
      ≡ option_or (first g (applies t owner) seen b) (cond (decides g (applies t owner) b e) (Some e) None)
  first_next t = find-append (decides g (applies t owner) b) seen (e ∷ [])

  -- an entry that applies to some tokens
  pub entry_counts : (base : List (SidValue × GroupState)) (implied : Option SidValue) (x : TokenValue → Bool) (walk : Walk)
      → ((t : TokenValue) → decides g (applies t owner) b e ≡ x t)
      → IsWalk base (λ t. granted_by implied owner g seen b t || ((undecided_by owner g seen b t && x t) && is_allow e.kind))
      (λ t. undecided_by owner g seen b t && not (x t)) walk
      → IsWalk base (granted_by implied owner g (seen ++ e ∷ []) b) (undecided_by owner g (seen ++ e ∷ []) b) walk
  entry_counts base implied x walk speaks is =
      walk_alike base _ (granted_by implied owner g (seen ++ e ∷ []) b) _ (undecided_by owner g (seen ++ e ∷ []) b) walk
      (λ t has. or_then (stands_for_subject t Allow implied) _ _ ∙ ap (λ y. stands_for_subject t Allow implied || y)
      (sym (ap is_allowed_by (first_next t ∙ ap (λ y. option_or (first g (applies t owner) seen b) (cond y (Some e) None)) (speaks t))
      ∙ allowed_next (first g (applies t owner) seen b) (x t) e)))
      (λ t has refused. sym (ap is_none (first_next t ∙ ap (λ y. option_or (first g (applies t owner) seen b) (cond y (Some e) None)) (speaks t))
      ∙ undecided_next (first g (applies t owner) seen b) (x t) e)) is

  -- one that applies to nobody
  pub entry_is_passed : (base : List (SidValue × GroupState)) (implied : Option SidValue) (walk : Walk)
      → ((t : TokenValue) → decides g (applies t owner) b e ≡ false)
      → IsWalk base (granted_by implied owner g seen b) (undecided_by owner g seen b) walk
      → IsWalk base (granted_by implied owner g (seen ++ e ∷ []) b) (undecided_by owner g (seen ++ e ∷ []) b) walk
  entry_is_passed base implied walk silent is = entry_counts base implied (λ t. false) walk silent
      (walk_alike base _ _ _ _ walk
      (λ t has. sym (ap (λ y. granted_by implied owner g seen b t || (y && is_allow e.kind)) (and-false (undecided_by owner g seen b t)) ∙ or-false _))
      (λ t has refused. sym (and-true (undecided_by owner g seen b t))) is)

-- ---- whether an entry applies

pub waits : (owner : Option SidValue) (g : MappingValue) (b : ℕ) (e : Ace) → is_inherit_only e ≡ true → (t : TokenValue) → decides g (applies t owner) b e ≡ false
waits owner g b e h t = rw h refl

pub names_not : (owner : Option SidValue) (g : MappingValue) (b : ℕ) (e : Ace) → holds (mapped g e.mask) b ≡ false → (t : TokenValue) → decides g (applies t owner) b e ≡ false
names_not owner g b e h t = grind arith

pub speaks_of_nobody : (owner : Option SidValue) (g : MappingValue) (b : ℕ) (e : Ace) → None ≡ subject owner e.sid → (t : TokenValue) → decides g (applies t owner) b e ≡ false
speaks_of_nobody owner g b e t h = grind arith

pub speaks_of : (owner : Option SidValue) (g : MappingValue) (b : ℕ) (e : Ace) (s : SidValue)
    → is_inherit_only e ≡ false → holds (mapped g e.mask) b ≡ true → Some s ≡ subject owner e.sid → (t : TokenValue)
    → decides g (applies t owner) b e ≡ stands_for t e.kind s
speaks_of owner g b e s t h j k2 = grind arith

-- ---- before the first entry

pub walk_begins : (base : List (SidValue × GroupState)) (walk : Walk) → walk.denied.items ≡ [] → walk.alternatives.items ≡ [] → walk.is_closed ≡ false
    → IsWalk base (λ t. false) (λ t. true) walk
walk_begins base walk none nothing waits = record {
  exact = λ t has. ap (list_any (holds_for t walk.denied.items)) nothing;
  while_open = λ t has open_still refused. sym (ap (λ (some : List SidValue). not (list_any (stands_for t Deny) some)) none);
  once_closed = λ t has over refused. absurd (false≢true (sym waits ∙ over));
  beyond = record {
    no_holder = ap (list_any (λ (a : Alternative). is_in_base base a.holder)) nothing;
    no_denied = ap (list_any (a_group_stands_for base Deny)) none;
  };
  within = ap (list_all (λ (a : Alternative). nat_le a.unless (length walk.denied.items))) nothing;
}

pub implied_first : (base : List (SidValue × GroupState)) (s : SidValue) (walk : Walk)
    → IsWalk base (λ t. false || (true && stands_for t Allow s)) (λ t. true && not (stands_for t Allow s)) walk
    → IsWalk base (λ t. stands_for_subject t Allow (Some s)) (λ t. true) walk
implied_first base s walk is = walk_alike base _ _ _ _ walk (λ t has. refl) (λ t has refused. ap not refused) is

pub walk_starts : (base : List (SidValue × GroupState)) (implied owner : Option SidValue) (g : MappingValue) (b : ℕ) (walk : Walk)
    → IsWalk base (λ t. stands_for_subject t Allow implied) (λ t. true) walk → IsWalk base (granted_by implied owner g [] b) (undecided_by owner g [] b) walk
walk_starts base implied owner g b walk is =
    walk_alike base _ _ _ _ walk (λ t has. sym (or-false (stands_for_subject t Allow implied))) (λ t has refused. refl) is
