-- Rights that a list decides alike.
use Rattle.sd_analysis.proofs.Cited.{Access, Ace, All-push, AllBeyond, Allow, Bool, Bor, DaclRef, GroupState, HasBase, HasEachOnce, IsBeyond, IsMost, IsPlain, IsWho, List, MappingValue, None, Option, SidValue, Some, TokenValue, [], agree_below_at, and_from, and_parts, ap, applies, arith, beq, cond, count_by, decides, entries_of, false, first, get_or, granted_by, has_right, holds, holds_for, holds_place, holds_when, implied_holder, is_granted, is_inherit_only, length, list_all, list_all_more, list_any, list_any-append, lt-ltb, ltb-true, mapped, mask_of, names, nat_lt, not, refl, restricted_to, restriction_grants_no_bit, stands_for_subject, sum_by-append, sym, take, true, ℕ, ◌&&◌, ◌++◌, ◌+◌, ◌<◌, ◌==◌, ◌||◌, ◌∙◌, ◌∷◌, ◌≡◌}
use Rattle.sd_acl.specs.declared.descriptor.DaclOf.TheVariants as dacls

-- READ_CONTROL and WRITE_DAC are places 17 and 18
pub owners_place : (b : ℕ) → b < 32 → holds 0x00060000 b ≡ (b == 17 || b == 18)
owners_place b low = agree_below_at (holds 0x00060000) (λ k. k == 17 || k == 18) 32 b refl low

-- the rights that a list can grant are the places below 21
pub rights_place : (b : ℕ) → b < 32 → holds 0x001FFFFF b ≡ nat_lt b 21
rights_place b low = agree_below_at (holds 0x001FFFFF) (λ k. nat_lt k 21) 32 b refl low

-- ---- the side of a right

same_itself : (x : Bool) → beq x x ≡ true
same_itself x = grind arith

pub side_with : (rights named place r b : ℕ) → r ≡ mask_of (λ k. holds rights k && holds named k) 32 → holds named place ≡ true → b < 32
    → holds r b ≡ (holds rights b && beq (holds named b) (holds named place))
side_with rights named place r b h j k2 = grind (arith, holds_place)

pub side_without : (rights named place r b : ℕ) → r ≡ mask_of (λ k. holds rights k && not (holds named k)) 32 → holds named place ≡ false → b < 32
    → holds r b ≡ (holds rights b && beq (holds named b) (holds named place))
side_without rights named place r b is side low = grind (arith, holds_place)

-- ---- rights that each entry names together

abbrev pub alike : MappingValue → ℕ → ℕ → Ace → Bool
alike g b place e = beq (names g b e) (names g place e)

pub alike_first : (among place r b : ℕ) → place < 32 → b < 32 → holds r b ≡ (holds among b && beq (holds 0x00060000 b) (holds 0x00060000 place))
    → holds r b ≡ (holds among b && (beq (b == 17 || b == 18) (place == 17 || place == 18) && true))
alike_first among place r b place_low low is = grind (arith, owners_place)

named_places : (g : MappingValue) (e : Ace) (waits : Bool) (mask named k : ℕ) → waits ≡ is_inherit_only e → mask ≡ mapped g e.mask → named ≡ cond (not waits) mask 0
    → holds named k ≡ names g k e
named_places g e waits mask named k h j k2 = grind (arith, holds_when)

pub alike_next : (g : MappingValue) (es : List Ace) (i : ℕ) (e : Ace) (among front waits : Bool) (mask named place old r b : ℕ) → i < length es → e ≡ get_or es i e
    → waits ≡ is_inherit_only e → mask ≡ mapped g e.mask → named ≡ cond (not waits) mask 0
    → holds r b ≡ (holds old b && beq (holds named b) (holds named place)) → holds old b ≡ (among && (front && list_all (alike g b place) (take i es)))
    → holds r b ≡ (among && (front && list_all (alike g b place) (take (i + 1) es)))
alike_next g es i e among front waits mask named place old r b inside here is_waiting is_mask is_named next so_far = grind (arith, named_places, list_all_more (alike g b place) es i e inside)

pub alike_itself : (g : MappingValue) (place : ℕ) (es : List Ace) → list_all (alike g place place) es ≡ true
alike_itself g place [] = refl
alike_itself g place (e ∷ es) = and_from _ _ (same_itself (names g place e)) (alike_itself g place es)

-- ---- they are granted together

module _ (owner : Option SidValue) (g : MappingValue) (b place : ℕ) (t : TokenValue) where
  decided_alike : (e : Ace) → alike g b place e ≡ true → decides g (applies t owner) b e ≡ decides g (applies t owner) place e
  decided_alike e h = grind arith

  first_alike : (es : List Ace) → list_all (alike g b place) es ≡ true → first g (applies t owner) es b ≡ first g (applies t owner) es place
  first_alike [] h = refl
  first_alike (e ∷ es) h =
      let parts = and_parts (alike g b place e) (list_all (alike g b place) es) h in
      ap (λ x. cond x (Some e) (first g (applies t owner) es b)) (decided_alike e parts.0)
      ∙ ap (λ (o : Option Ace). cond (decides g (applies t owner) place e) (Some e) o) (first_alike es parts.1)

  pub granted_alike : (es : List Ace) → beq (b == 17 || b == 18) (place == 17 || place == 18) ≡ true → list_all (alike g b place) es ≡ true
      → granted_by (implied_holder owner es b) owner g es b t ≡ granted_by (implied_holder owner es place) owner g es place t
  granted_alike es h each = grind (arith, first_alike)

-- ---- what a token without restriction and privileges is granted

stands_where : (t : TokenValue) (owner : Option SidValue) (x : Bool) → stands_for_subject t Allow (cond x owner None) ≡ (stands_for_subject t Allow owner && x)
stands_where t owner x = grind arith

pub plain_granted : (owner : Option SidValue) (es : List Ace) (g : MappingValue) (t : TokenValue) (b : ℕ) → IsPlain t → b < 21
    → is_granted owner (Some es) g t b ≡ granted_by (implied_holder owner es b) owner g es b t
plain_granted owner es g t b plain low = grind (arith, stands_where, plain.unrestricted, plain.unprivileged)

-- ---- one more `Access`

-- the bit of a right that was left, and is no longer where the new one takes it
pushed : (asked left taken granted holds_now : Bool) → (taken ≡ true → (left ≡ true) × (asked ≡ true) × (holds_now ≡ granted))
    → (((asked && not left) && granted) || ((taken && holds_now) || false)) ≡ ((asked && not (left && not taken)) && granted)
pushed asked left taken granted holds_now h = grind arith

taken_bits : (asked left same all granted holds_now taken : Bool) → taken ≡ (left && (same && all)) → (left ≡ true → asked ≡ true)
    → (asked ≡ true → same ≡ true → all ≡ true → holds_now ≡ granted)
    → taken ≡ true → (left ≡ true) × (asked ≡ true) × (holds_now ≡ granted)
taken_bits asked left same all granted holds_now taken h j k2 h2 = grind arith

counted : (asked left taken : Bool) → (taken ≡ true → (left ≡ true) × (asked ≡ true))
    → cond (asked && not left) 1 0 + (0 + cond taken 1 0) ≡ cond (asked && not (left && not taken)) 1 0
counted asked left taken h = grind arith

module _ (owner : Option SidValue) (es : List Ace) (g : MappingValue) (base : List (SidValue × GroupState)) (rights left taken rest place : ℕ) (before : List Access) (access : Access)
    (low_rights : (b : ℕ) → b < 32 → holds rights b ≡ true → b < 21)
    (place_low : place < 21)
    (is_taken : (b : ℕ) → b < 32 → holds taken b ≡ (holds left b && (beq (b == 17 || b == 18) (place == 17 || place == 18) && list_all (alike g b place) es)))
    (is_rest : rest ≡ mask_of (λ k. holds left k && not (holds taken k)) 32)
    (among : (b : ℕ) → b < 32 → holds left b ≡ true → holds rights b ≡ true) where
  pub exact_next : access.mask ≡ taken
      → ((t : TokenValue) → HasBase base t → list_any (holds_for t access.denied.items) access.alternatives.items ≡ granted_by (implied_holder owner es place) owner g es place t)
      → ((t : TokenValue) (b : ℕ) → IsPlain t → HasBase base t → b < 32
      → list_any (has_right t b) before ≡ ((holds rights b && not (holds left b)) && is_granted owner (Some es) g t b))
      → (t : TokenValue) (b : ℕ) → IsPlain t → HasBase base t → b < 32
      → list_any (has_right t b) (before ++ access ∷ []) ≡ ((holds rights b && not (holds rest b)) && is_granted owner (Some es) g t b)
  exact_next is_mask exact so_far t b plain has low =
      let one = list_any (holds_for t access.denied.items) access.alternatives.items in
      list_any-append (has_right t b) before (access ∷ [])
      ∙ ap (λ x. x || (has_right t b access || false)) (so_far t b plain has low)
      ∙ ap (λ n. ((holds rights b && not (holds left b)) && is_granted owner (Some es) g t b) || ((holds n b && one) || false)) is_mask
      ∙ pushed (holds rights b) (holds left b) (holds taken b) (is_granted owner (Some es) g t b) one
      (taken_bits (holds rights b) (holds left b) (beq (b == 17 || b == 18) (place == 17 || place == 18)) (list_all (alike g b place) es) _ one (holds taken b) (is_taken b low) (among b low)
      (λ asked same each. exact t has ∙ sym (granted_alike owner g b place t es same each) ∙ sym (plain_granted owner es g t b plain (low_rights b low asked))))
      ∙ ap (λ x. (holds rights b && not x) && is_granted owner (Some es) g t b) (sym (ap (λ n. holds n b) is_rest ∙ holds_place (λ k. holds left k && not (holds taken k)) b low))

  pub each_next : access.mask ≡ taken
      → ((b : ℕ) → b < 32 → count_by (λ (one : Access). holds one.mask b) before ≡ cond (holds rights b && not (holds left b)) 1 0)
      → (b : ℕ) → b < 32 → count_by (λ (one : Access). holds one.mask b) (before ++ access ∷ []) ≡ cond (holds rights b && not (holds rest b)) 1 0
  each_next is_mask so_far b low = grind (arith, sum_by-append (λ (one : Access). cond (holds one.mask b) 1 0) before (access ∷ []), so_far b low, is_taken b low, among b low, holds_place (λ k. holds left k && not (holds taken k)) b low)

  pub among_next : (b : ℕ) → b < 32 → holds rest b ≡ true → holds rights b ≡ true
  among_next b low h = grind (arith, among b low, holds_place (λ k. holds left k && not (holds taken k)) b low)

  pub below_next : holds left place ≡ true → ((b : ℕ) → b < place → holds left b ≡ false) → (b : ℕ) → b < place + 1 → holds rest b ≡ false
  below_next there below b low = grind (arith, below, is_taken place (omega arith), alike_itself g place es, holds_place (λ k. holds left k && not (holds taken k)) b (omega arith))

-- no right was left at the place
pub below_kept : (left place : ℕ) → holds left place ≡ false → ((b : ℕ) → b < place → holds left b ≡ false) → (b : ℕ) → b < place + 1 → holds left b ≡ false
below_kept left place b h j k2 = grind arith

pub beyond_next : (base : List (SidValue × GroupState)) (before : List Access) (access : Access)
    → AllBeyond base before → IsBeyond base access.denied.items access.alternatives.items → AllBeyond base (before ++ access ∷ [])
beyond_next base before access so_far is = All-push (λ (one : Access). IsBeyond base one.denied.items one.alternatives.items) before access so_far is

-- ---- all rights

-- the asked rights that a list can grant
pub asked_place : (rights r b : ℕ) → r ≡ mask_of (λ k. holds rights k && holds 0x001FFFFF k) 32 → b < 32 → holds r b ≡ (holds rights b && nat_lt b 21)
asked_place rights r b is low = grind (arith, holds_place, rights_place)

pub asked_low : (rights r : ℕ) → r ≡ mask_of (λ k. holds rights k && holds 0x001FFFFF k) 32 → (b : ℕ) → b < 32 → holds r b ≡ true → b < 21
asked_low rights r is b low h = ltb-true b 21 (and_parts (holds rights b) (nat_lt b 21) (sym (asked_place rights r b is low) ∙ h)).1

no_list_is_who : (owner : Option SidValue) (g : MappingValue) (base : List (SidValue × GroupState)) (rights r : ℕ) (accesses : List Access)
    → r ≡ mask_of (λ k. holds rights k && holds 0x001FFFFF k) 32
    → ((t : TokenValue) (b : ℕ) → b < 32 → list_any (has_right t b) accesses ≡ holds r b)
    → IsWho owner None g base rights accesses
no_list_is_who owner g base rights r accesses is exact t b plain has low = grind (arith, exact t b low, asked_place, plain.unrestricted)

pub everyone_is_who : (owner : Option SidValue) (dacl : DaclRef) (g : MappingValue) (base : List (SidValue × GroupState)) (rights r : ℕ) (accesses : List Access)
    → ((es : Bor (List Ace)) → dacl ≡ dacls.List es → ⊥)
    → r ≡ mask_of (λ k. holds rights k && holds 0x001FFFFF k) 32
    → ((t : TokenValue) (b : ℕ) → b < 32 → list_any (has_right t b) accesses ≡ holds r b)
    → IsWho owner (entries_of dacl) g base rights accesses
everyone_is_who owner dacls.Absent g base rights r accesses none is exact = no_list_is_who owner g base rights r accesses is exact
everyone_is_who owner dacls.Null g base rights r accesses none is exact = no_list_is_who owner g base rights r accesses is exact
everyone_is_who owner (dacls.List es) g base rights r accesses none is exact = absurd (none es refl)

pub each_once : (rights r : ℕ) (accesses : List Access) → r ≡ mask_of (λ k. holds rights k && holds 0x001FFFFF k) 32
    → ((b : ℕ) → b < 32 → count_by (λ (one : Access). holds one.mask b) accesses ≡ cond (holds r b) 1 0) → HasEachOnce rights accesses
each_once rights r accesses is each b low = each b low ∙ ap (λ x. cond x 1 0) (asked_place rights r b is low)

pub list_is_who : (owner : Option SidValue) (es : List Ace) (g : MappingValue) (base : List (SidValue × GroupState)) (rights r : ℕ) (accesses : List Access)
    → r ≡ mask_of (λ k. holds rights k && holds 0x001FFFFF k) 32
    → ((t : TokenValue) (b : ℕ) → IsPlain t → HasBase base t → b < 32 → list_any (has_right t b) accesses ≡ (holds r b && is_granted owner (Some es) g t b))
    → IsWho owner (Some es) g base rights accesses
list_is_who owner es g base rights r accesses is exact t b plain has low = grind (arith, exact t b plain has low, asked_place)

-- a restricted token is granted nothing beyond what it is without the restriction
pub who_is_most : (owner : Option SidValue) (dacl : Option (List Ace)) (g : MappingValue) (base : List (SidValue × GroupState)) (rights : ℕ) (accesses : List Access)
    → IsWho owner dacl g base rights accesses → IsMost owner dacl g base rights accesses
who_is_most owner dacl g base rights accesses is t b unprivileged has low asked granted =
    is (restricted_to t []) b (record { unrestricted = refl; unprivileged = unprivileged }) has (omega arith)
    ∙ and_from _ _ (and_from _ _ asked (lt-ltb b 21 low)) (restriction_grants_no_bit owner dacl g t b granted)
