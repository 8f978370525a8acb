-- The walk over the groups: each SID that is found is visited once, and its groups are added.
use Rattle.std.proofs.Common.{◌≡◌, ◌++◌, ◌∙◌, ◌+◌, ◌-◌, ◌<◌, ◌≤◌, ◌⊎◌, ℕ, inl, inr, List, [], ◌∷◌, Bool, true, false, Option, length, nat_eq, drop, take, replicate, get_or, refl, ap, sym, subst, arith}
use Rattle.std.proofs.lemmas.Bool.{cases_lt, cases_order, eq-eqb, true≢false}
use Rattle.std.proofs.lemmas.List.{append-nil, append_assoc, get_or-append_right, get_or-map, get_or-replicate, get_or_append_left, length-append, length-map, length-replicate, map-append, take-append-drop, take_all, take_more}
use Rattle.std.proofs.lemmas.List.Elements.{Contains-append_cases, Contains-append_left, Contains-append_right, Contains-get_or, Contains-push, Contains-push_cases, filter_map-append}
use Rattle.std.proofs.lemmas.Option.{get_or_from_slice_get, slice_get-get_or, slice_get_cases, slice_get_read, slice_get_within}
use Rattle.std.proofs.lemmas.Map.Keys.{IsDistinct-from_apart, apart_from_distinct}
use Rattle.std.proofs.lemmas.Map.Views.{Contains-from_any}
use Rattle.std.specs.List.{Contains, IsDistinct, cons_option, filter_map, list_any}
use Rattle.std.specs.Global.{Vec}
use Rattle.std.specs.declared.alloc.AllocError.{AllocError}
use Rattle.std.specs.Prelude.{Err, IfOk, None, Ok, Result, Some, if◌then◌else◌, slice_get}
use Rattle.indexmap.specs.IndexSet.{insert_key}
use Rattle.sd_sid.specs.Sid.{SidValue, same_sid}
use Rattle.sd_accounts.specs.Groups.{AreGroupsOf, Belongs, IsIn, directly, further}
use Rattle.sd_accounts.specs.Index.{AreApart, AreWithin, direct_groups, nobody, sid_at, sids_at}
use Rattle.sd_accounts.specs.Row.{AccountRow}
use Rattle.sd_accounts.specs.Walk.{Adds, AreFoundFrom, Extends, HasStarts, IsFoundFrom, IsStart, IsWalked}
use Rattle.sd_accounts.proofs.Direct.{direct_in, in_direct, nothing_in, only_one}
use Rattle.sd_accounts.proofs.Indexed.{from_map, in_map}
use Rattle.sd_sid.proofs.Compared.{same_sid-itself, same_sid-true}

-- ---- what is added

pub still_in : {A : Type 0} {P : A → Type 0} {old new : List A} → Extends P old new → (sid : A) → Contains old sid → Contains new sid
still_in {old = old} more sid at = subst (λ l. Contains l sid) (sym more.front) (Contains-append_left old more.further sid at)

-- what is there now was there, or passes
pub was_or_passes : {A : Type 0} {P : A → Type 0} {old new : List A} → Extends P old new → (sid : A) → Contains new sid → Contains old sid ⊎ P sid
was_or_passes {old = old} more sid at = elim (Contains-append_cases old more.further sid (subst (λ l. Contains l sid) more.front at)) [
  | inl was ↦ inl was
  | inr after ↦ inr (more.sound sid after)
]

pub unchanged : {A : Type 0} (P : A → Type 0) (old : List A) → ((sid : A) → P sid → ⊥) → Extends P old old
unchanged P old none = record { further = []; front = sym (append-nil old); sound = λ sid at. absurd (nothing_in sid at); all = λ sid p. absurd (none sid p) }

pub joined : {A : Type 0} {P Q : A → Type 0} {one two three : List A} → Extends P one two → Extends Q two three → Extends (λ sid. P sid ⊎ Q sid) one three
joined {A} {P} {Q} {one} {two} {three} first second = record {
  further = first.further ++ second.further;
  front = second.front ∙ ap (λ l. l ++ second.further) first.front ∙ append_assoc one first.further second.further;
  sound = λ sid at. elim (Contains-append_cases first.further second.further sid at) [ inl p ↦ inl (first.sound sid p) | inr q ↦ inr (second.sound sid q) ];
  all = λ sid either. elim either [ inl p ↦ still_in second sid (first.all sid p) | inr q ↦ second.all sid q ];
}

pub alike : {A : Type 0} {P Q : A → Type 0} {old new : List A} → ((sid : A) → P sid → Q sid) → ((sid : A) → Q sid → P sid) → Extends P old new → Extends Q old new
alike to from more = record {
  further = more.further;
  front = more.front;
  sound = λ sid at. to sid (more.sound sid at);
  all = λ sid q. more.all sid (from sid q);
}

-- one is inserted
module _ {A : Type 0} (eq : A → A → Bool) (eq-true : (a b : A) → eq a b ≡ true → a ≡ b) where
  inserted : (old new : List A) (one : A) → new ≡ insert_key eq old one → Extends (λ other. one ≡ other) old new
  inserted old new one is = by (list_any (eq one) old) refl
    where
      by : (b : Bool) → list_any (eq one) old ≡ b → Extends (λ other. one ≡ other) old new
      by true e =
          let same : new ≡ old = is ∙ ap (λ t. if t then old else old ++ one ∷ []) e in record {
            further = [];
            front = same ∙ sym (append-nil old);
            sound = λ other at. absurd (nothing_in other at);
            all = λ other is_one. subst (λ l. Contains l other) (sym same) (subst (Contains old) is_one (Contains-from_any eq-true one old e));
          }
      by false e =
          let more : new ≡ old ++ one ∷ [] = is ∙ ap (λ t. if t then old else old ++ one ∷ []) e in record {
            further = one ∷ [];
            front = more;
            sound = λ other at. only_one one other at;
            all = λ other is_one. subst (λ l. Contains l other) (sym more) (subst (Contains (old ++ one ∷ [])) is_one (Contains-push old one));
          }

-- ---- one more of a list

pub more_to : {A : Type 0} (xs : List A) (i : ℕ) (d x : A) → i < length xs → Contains (take i xs) x ⊎ (get_or xs i d ≡ x) → Contains (take (i + 1) xs) x
more_to xs i d x low (inl at) = subst (λ l. Contains l x) (sym (take_more xs i d low)) (Contains-append_left (take i xs) _ x at)
more_to xs i d x low (inr is) = subst (λ l. Contains l x) (sym (take_more xs i d low)) (subst (Contains (take i xs ++ get_or xs i d ∷ [])) is (Contains-push (take i xs) (get_or xs i d)))

pub more_from : {A : Type 0} (xs : List A) (i : ℕ) (d x : A) → i < length xs → Contains (take (i + 1) xs) x → Contains (take i xs) x ⊎ (get_or xs i d ≡ x)
more_from xs i d x low at = Contains-push_cases (take i xs) (get_or xs i d) x (subst (λ l. Contains l x) (take_more xs i d low) at)

-- those so far, and one more
module _ {A : Type 0} (eq : A → A → Bool) (eq-true : (a b : A) → eq a b ≡ true → a ≡ b) where
  pub one_more : (groups old mid new : List A) (i : ℕ) (d one : A) → i < length groups → one ≡ get_or groups i d
      → Extends (Contains (take i groups)) old mid → new ≡ insert_key eq mid one → Extends (Contains (take (i + 1) groups)) old new
  one_more groups old mid new i d one low is before insert =
      let at = subst (λ g. new ≡ insert_key eq mid g) is insert in
      alike (λ other. more_to groups i d other low) (λ other. more_from groups i d other low) (joined before (inserted eq eq-true mid new (get_or groups i d) at))

-- the starts so far, and one more
pub start_more : (rows : List AccountRow) (starts old mid new : List SidValue) (i : ℕ) (one : SidValue) → i < length starts → one ≡ get_or starts i one
    → Extends (IsStart rows (take i starts)) old mid → Adds rows one mid new → Extends (IsStart rows (take (i + 1) starts)) old new
start_more rows starts old mid new i one low is before added =
    alike to from (joined before added)
  where
    to : (sid : SidValue) → IsStart rows (take i starts) sid ⊎ IsIn rows one sid → IsStart rows (take (i + 1) starts) sid
    to sid (inl (start, at, in')) = (start, more_to starts i one start low (inl at), in')
    to sid (inr in') = (one, more_to starts i one one low (inr (sym is)), in')

    from : (sid : SidValue) → IsStart rows (take (i + 1) starts) sid → IsStart rows (take i starts) sid ⊎ IsIn rows one sid
    from sid (start, at, in') = elim (more_from starts i one start low at) [
      | inl before ↦ inl (start, before, in')
      | inr same ↦ inr (subst (λ s. IsIn rows s sid) (sym (is ∙ same)) in')
    ]

-- ---- a front of a list

pub of_take : {A : Type 0} (xs : List A) (n : ℕ) (x : A) → Contains (take n xs) x → Contains xs x
of_take xs n x at = subst (λ l. Contains l x) (take-append-drop n xs) (Contains-append_left (take n xs) (drop n xs) x at)

-- ---- the walk

module _ (rows : List AccountRow) (starts : List SidValue) where
  -- what the starts give is found from one of them
  starts_reached : (found : List SidValue) (before : List (Option ℕ)) → HasStarts rows starts found → before ≡ replicate (length found) None → AreFoundFrom rows starts found before
  starts_reached found before has none = record {
    alike = ap length none ∙ length-replicate (length found) None;
    each = λ k low. subst (IsFoundFrom rows starts found k) (sym (ap (λ l. get_or l k None) none ∙ get_or-replicate (length found) k None None low))
        (λ d. started (get_or found k d) (Contains-get_or found k d low));
  }
    where
      started : (sid : SidValue) → Contains found sid → IsStart rows starts sid
      started sid at = elim (was_or_passes has sid at) [ inl nothing ↦ absurd (nothing_in sid nothing) | inr start ↦ start ]

  pub walk_begins : (found : List SidValue) (before : List (Option ℕ)) → HasStarts rows starts found → before ≡ replicate (length found) None → IsWalked rows starts found before 0
  walk_begins found before has none = record {
    within = omega arith;
    sound = λ sid at. elim (was_or_passes has sid at) [ inl nothing ↦ absurd (nothing_in sid nothing) | inr (start, there, in') ↦ directly start sid there in' ];
    reached = starts_reached found before has none;
    begun = has.all;
    closed = λ k d low group in'. absurd (omega arith);
  }

  -- a visited SID's groups are found from it
  module _ (old new : List SidValue) (before : List (Option ℕ)) (place : ℕ) (member : SidValue) (low : place < length old) (is : member ≡ get_or old place member)
      (added : Adds rows member old new) where
    same : (k : ℕ) (d : SidValue) → k < length old → get_or new k d ≡ get_or old k d
    same k d here = ap (λ l. get_or l k d) added.front ∙ get_or_append_left old added.further d k here

    at_place : (d : SidValue) → get_or old place d ≡ member
    at_place d = get_or_from_slice_get old place member d (slice_get_read old (length old) place member refl low is)

    still_from : (k : ℕ) (from : Option ℕ) → k < length old → IsFoundFrom rows starts old k from → IsFoundFrom rows starts new k from
    still_from k None here start = λ d. subst (IsStart rows starts) (sym (same k d here)) (start d)
    still_from k (Some p) here (less, in') = (less, λ d e. subst (λ m. IsIn rows m (get_or new k e)) (sym (same p d (omega (arith, less, here)))) (subst (IsIn rows (get_or old p d)) (sym (same k e here)) (in' d e)))

    newer_from : (k : ℕ) → length old ≤ k → k < length new → IsFoundFrom rows starts new k (Some place)
    newer_from k past here = (omega (arith, low, past), λ d e. subst (λ m. IsIn rows m (get_or new k e)) (sym (same place d low ∙ at_place d)) (added.sound (get_or new k e) (among e)))
      where
        among : (e : SidValue) → Contains added.further (get_or new k e)
        among e = subst (Contains added.further) (sym (ap (λ l. get_or l k e) added.front ∙ get_or-append_right old added.further (length old) k e refl past))
            (Contains-get_or added.further (k - length old) e (omega (arith, past, here, ap length added.front, length-append old added.further)))

    more_reached : (more : List (Option ℕ)) → more ≡ before ++ replicate (length new - length before) (Some place) → AreFoundFrom rows starts old before → AreFoundFrom rows starts new more
    more_reached more are reached = record {
      alike = ap length are ∙ length-append before (replicate (length new - length before) (Some place)) ∙ ap (λ n. length before + n) (length-replicate (length new - length before) (Some place)) ∙ omega (arith, reached.alike, longer);
      each = λ k here. elim (cases_lt k (length old)) [
        | inl first ↦
            subst (IsFoundFrom rows starts new k) (sym (ap (λ l. get_or l k None) are ∙ get_or_append_left before _ None k (omega (arith, reached.alike, first)))) (still_from k (get_or before k None) first (reached.each k first))
        | inr past ↦
            subst (IsFoundFrom rows starts new k)
            (sym (ap (λ l. get_or l k None) are ∙ get_or-append_right before _ (length before) k None refl (omega (arith, reached.alike, past))
            ∙ get_or-replicate (length new - length before) (k - length before) (Some place) None (omega (arith, reached.alike, past, here))))
            (newer_from k past here)
      ];
    }
      where
        longer : length old ≤ length new
        longer = omega (arith, ap length added.front, length-append old added.further)

    pub walk_goes_on : (more : List (Option ℕ)) → more ≡ before ++ replicate (length new - length before) (Some place) → IsWalked rows starts old before place → IsWalked rows starts new more (place + 1)
    walk_goes_on more are walked = record {
      within = omega (arith, ap length added.front, length-append old added.further);
      sound = λ sid at. elim (was_or_passes added sid at) [
        | inl was ↦ walked.sound sid was
        | inr in' ↦ further member sid (walked.sound member (place, low, sym is)) in'
      ];
      reached = more_reached more are walked.reached;
      begun = λ sid start. still_in added sid (walked.begun sid start);
      closed = λ k d here group in'. elim (cases_lt k place) [
        | inl earlier ↦ still_in added group (walked.closed k d earlier group (subst (λ s. IsIn rows s group) (same k d (omega (arith, earlier, low))) in'))
        | inr now ↦
            let at : k ≡ place = omega (arith, now, here) in
            added.all group (subst (λ s. IsIn rows s group) (ap (λ n. get_or new n d) at ∙ same place d low ∙ at_place d) in')
      ];
    }

  pub complete : (keys : List SidValue) (before : List (Option ℕ)) → IsWalked rows starts keys before (length keys) → (sid : SidValue) → Belongs rows starts sid → Contains keys sid
  complete keys before walked _ (directly start group at in') = walked.begun group (start, at, in')
  complete keys before walked _ (further between group belongs in') =
      let at = complete keys before walked between belongs in
      walked.closed at.0 between at.1 group (subst (λ s. IsIn rows s group) (sym at.2) in')

  pub walk_ends : (keys : List SidValue) (before : List (Option ℕ)) (place : ℕ) → length keys ≤ place → IsWalked rows starts keys before place → IsDistinct same_sid keys → AreGroupsOf rows starts keys
  walk_ends keys before place over walked once = record {
    each = λ sid. (walked.sound sid, complete keys before (let at : place ≡ length keys = omega (arith, walked.within) in subst (IsWalked rows starts keys before) at walked) sid);
    once = once;
  }

-- all starts
pub starts_done : (rows : List AccountRow) (starts keys : List SidValue) (i : ℕ) → length starts ≤ i → HasStarts rows (take i starts) keys → HasStarts rows starts keys
starts_done rows starts keys i over has = subst (λ l. HasStarts rows l keys) (take_all i starts over) has

-- all of them
pub all_more : {A : Type 0} (groups old new : List A) (i : ℕ) → length groups ≤ i → Extends (Contains (take i groups)) old new → Extends (Contains groups) old new
all_more groups old new i over added =
    alike (λ one at. subst (λ l. Contains l one) (take_all i groups over) at) (λ one at. subst (λ l. Contains l one) (sym (take_all i groups over)) at) added

-- numbers are added: the groups of a member
pub adds_groups : (rows : List AccountRow) (keys : List SidValue) (member : SidValue) (numbers old new : List ℕ) → sids_at keys numbers ≡ direct_groups rows member
    → Extends (Contains numbers) old new → Adds rows member (sids_at keys old) (sids_at keys new)
adds_groups rows keys member numbers old new are added = record {
  further = sids_at keys added.further;
  front = ap (sids_at keys) added.front ∙ map-append (sid_at keys) old added.further;
  sound = λ sid at.
      let n = from_map (sid_at keys) added.further sid at in
      direct_in rows member sid (subst (λ l. Contains l sid) are (subst (Contains (sids_at keys numbers)) n.2 (in_map (sid_at keys) numbers n.0 (added.sound n.0 n.1))));
  all = λ sid in'.
      let n = from_map (sid_at keys) numbers sid (subst (λ l. Contains l sid) (sym are) (in_direct rows member sid in')) in
      subst (Contains (sids_at keys new)) n.2 (in_map (sid_at keys) new n.0 (added.all n.0 n.1));
}

pub still_within : (keys : List SidValue) (numbers old new : List ℕ) → AreWithin keys old → AreWithin keys numbers → Extends (Contains numbers) old new → AreWithin keys new
still_within keys numbers old new before more added n at = elim (was_or_passes added n at) [ inl was ↦ before n was | inr is ↦ more n is ]

-- what is at a place of those found
pub found_at : (keys : List ℕ) (i : ℕ) (one : ℕ) → slice_get keys i ≡ Some one → (i < length keys) × (one ≡ get_or keys i one)
found_at keys i one at = (slice_get_within keys i one at, sym (get_or_from_slice_get keys i one one at))

-- what is found is within
pub number_within : (keys : List SidValue) (found : List ℕ) (i n : ℕ) → slice_get found i ≡ Some n → AreWithin keys found → n < length keys
number_within keys found i n at within = within n (i, slice_get_within found i n at, get_or_from_slice_get found i n n at)

-- the SID at the same place
pub sid_found : (keys : List SidValue) (found : List ℕ) (i n : ℕ) (sid : SidValue) → slice_get found i ≡ Some n → slice_get keys n ≡ Some sid
    → (i < length (sids_at keys found)) × (sid ≡ get_or (sids_at keys found) i sid)
sid_found keys found i n sid at is =
    let low = slice_get_within found i n at in (
      omega (arith, length-map found (sid_at keys), low),
      sym (get_or_from_slice_get keys n sid nobody is) ∙ ap (sid_at keys) (sym (get_or_from_slice_get found i n n at)) ∙ sym (get_or-map (sid_at keys) found i n sid low),
    )

-- no groups and no starts
pub none_started : (rows : List AccountRow) (starts keys : List SidValue) (found : List ℕ) → found ≡ [] → HasStarts rows (take 0 starts) (sids_at keys found) × AreWithin keys found
none_started rows starts keys found none = subst (λ ns. HasStarts rows [] (sids_at keys ns) × AreWithin keys ns) (sym none)
    (unchanged (IsStart rows []) [] (λ sid start. nothing_in start.0 start.1), λ n at. absurd (nothing_in n at))

-- the SIDs of numbers that are keys'
pub sids_found : (keys : List SidValue) (found : List ℕ) → AreWithin keys found → filter_map (slice_get keys) found ≡ sids_at keys found
sids_found keys [] within = refl
sids_found keys (n ∷ ns) within =
    ap (λ o. cons_option o (filter_map (slice_get keys) ns)) (slice_get-get_or keys n nobody (within n (Contains-append_left (n ∷ []) ns n (Contains-push [] n))))
    ∙ ap (λ l. sid_at keys n ∷ l) (sids_found keys ns (λ m at. within m (Contains-append_right (n ∷ []) ns m at)))

turned : (a b : SidValue) → same_sid a b ≡ false → same_sid b a ≡ false
turned a b two = by (same_sid b a) refl
  where
    by : (t : Bool) → same_sid b a ≡ t → same_sid b a ≡ false
    by true e = absurd (true≢false (sym (ap (same_sid a) (same_sid-true b a e) ∙ same_sid-itself a) ∙ two))
    by false e = e

-- the SIDs so far, and one more
pub one_sid : (keys : List SidValue) (found : List ℕ) (i n : ℕ) → slice_get found i ≡ Some n
    → filter_map (slice_get keys) (take (i + 1) found) ≡ filter_map (slice_get keys) (take i found) ++ cons_option (slice_get keys n) []
one_sid keys found i n at =
    ap (filter_map (slice_get keys)) (take_more found i n (slice_get_within found i n at))
    ∙ ap (λ m. filter_map (slice_get keys) (take i found ++ m ∷ [])) (get_or_from_slice_get found i n n at)
    ∙ filter_map-append (slice_get keys) (take i found) (n ∷ [])

-- numbers of one key each are those of SIDs that are two
pub two_sids : (keys : List SidValue) (found : List ℕ) → AreApart keys → AreWithin keys found → IsDistinct nat_eq found → IsDistinct same_sid (sids_at keys found)
two_sids keys found keys_apart within once = IsDistinct-from_apart same_sid (sids_at keys found) at
  where
    differ : (m n : ℕ) → m < length keys → n < length keys → nat_eq m n ≡ false → same_sid (sid_at keys m) (sid_at keys n) ≡ false
    differ m n low high two = elim (cases_order m n) [
      | inl same ↦ absurd (true≢false (sym (eq-eqb m n same) ∙ two))
      | inr (inl less) ↦ keys_apart m n nobody less high
      | inr (inr more) ↦ turned (sid_at keys n) (sid_at keys m) (keys_apart n m nobody more low)
    ]

    at : (i j : ℕ) (d : SidValue) → i < j → j < length (sids_at keys found) → same_sid (get_or (sids_at keys found) i d) (get_or (sids_at keys found) j d) ≡ false
    at i j d less low =
        let high : j < length found = omega (arith, length-map found (sid_at keys), low) in
        let front : i < length found = omega (arith, less, high) in
        ap (λ s. same_sid s (get_or (sids_at keys found) j d)) (get_or-map (sid_at keys) found i 0 d front)
        ∙ ap (same_sid (sid_at keys (get_or found i 0))) (get_or-map (sid_at keys) found j 0 d high)
        ∙ differ (get_or found i 0) (get_or found j 0) (within _ (Contains-get_or found i 0 front)) (within _ (Contains-get_or found j 0 high))
        (apart_from_distinct nat_eq found i j 0 once less high)

-- a copy of those found
pub copies : (P : List SidValue → Type 0) (keys : List SidValue) (copy : Result (Vec SidValue) AllocError) → IfOk copy (λ c. c.items ≡ keys)
    → P keys → IfOk copy (λ groups. P groups.items)
copies P keys (Ok copy) same are = subst P (sym same) are
copies P keys (Err e) same are = tt

pub none_at : (keys : List ℕ) (i : ℕ) → slice_get keys i ≡ None → length keys ≤ i
none_at keys i none = elim (slice_get_cases keys i).1 [ inl some ↦ (let is = some.2 in cc) | inr past ↦ past.0 ]
