-- One walk over a list says of each SID what the list grants with it.
use Rattle.sd_analysis.proofs.Cited.{Ace, AceKind, AreRightsBySid, Bool, DecidedRights, EntryRow, GroupState, IsListing, IsOtherSid, List, Listing, MappingValue, None, Option, Parts, Pass, Point, RightsBySid, SidValue, Some, WalkPass, [], about, agree_below_at, ap, applies_in, arith, common_of, cond, cond-true, counts, counts_in, decides, entries_or_none, false, false≢true, first, first_point, fold, get_or, get_or_read, holds, holds_place, holds_when, inl, is_allow, is_allowed_by, is_among, is_inherit_only, is_some, length, list_any-append, listed_of, lists, lt-ltb, map, mapped, mask_of, not, nothing_decided, or_left, or_right, place_in, point_after, point_at, point_moved, refl, row_for, row_of, same_sid, same_sid-itself, same_sid-true, share_after, sids_of, sids_stand, subject, suc, sym, take, true, zero, ℕ, ◌&&◌, ◌++◌, ◌<◌, ◌==◌, ◌||◌, ◌∙◌, ◌∷◌, ◌≡◌, ◌⊎◌}
use Rattle.sd_analysis.proofs.Reports.{none_held}

-- ---- places

pub place_here : (one s : SidValue) (sids : List SidValue) → same_sid one s ≡ true → place_in (one ∷ sids) s ≡ 0
place_here one s sids h = cond-true (same_sid one s) 0 (suc (place_in sids s)) h

pub place_low : (sids : List SidValue) (s : SidValue) → is_among sids s ≡ true → place_in sids s < length sids
place_low [] s h = absurd (false≢true h)
place_low (one ∷ sids) s h = grind (arith, place_low sids s)

-- two SIDs have one place if they are the same, where one of them has a place at all
pub place_same : (sids : List SidValue) (x s : SidValue) → is_among sids s ≡ true → (place_in sids x == place_in sids s) ≡ same_sid s x
place_same [] x s h = absurd (false≢true h)
place_same (one ∷ sids) x s h = grind (arith, same_sid-true one s, same_sid-true s x, place_same sids x s)

-- a SID is at its own place, or one before is the same
pub first_or_before : (sids : List SidValue) (i : ℕ) (d : SidValue) → i < length sids
    → (place_in sids (get_or sids i d) ≡ i) ⊎ (is_among (take i sids) (get_or sids i d) ≡ true)
first_or_before [] i d low = absurd (omega arith)
first_or_before (one ∷ sids) zero d low = inl (place_here one one sids (same_sid-itself one))
first_or_before (one ∷ sids) (suc i) d low = grind (arith, first_or_before sids i d)

pub among_at : (sids : List SidValue) (i : ℕ) (d : SidValue) → i < length sids → is_among sids (get_or sids i d) ≡ true
among_at [] i d low = absurd (omega arith)
among_at (one ∷ sids) zero d low = or_left _ _ (same_sid-itself one)
among_at (one ∷ sids) (suc i) d low = or_right _ _ (among_at sids i d (omega arith))

pub among_left : (xs ys : List SidValue) (s : SidValue) → is_among xs s ≡ true → is_among (xs ++ ys) s ≡ true
among_left xs ys s h = list_any-append (λ one. same_sid one s) xs ys ∙ or_left _ _ h

pub among_right : (xs ys : List SidValue) (s : SidValue) → is_among ys s ≡ true → is_among (xs ++ ys) s ≡ true
among_right xs ys s h = list_any-append (λ one. same_sid one s) xs ys ∙ or_right _ _ h

-- ---- whom an entry is for

module _ (g : MappingValue) (base : List (SidValue × GroupState)) (sids : List SidValue) where
  -- an entry that speaks of x counts where its place does
  stands_at : (pass : Pass) (other_sid : Option SidValue) (at : Option ℕ) → IsOtherSid sids other_sid at → (s : SidValue) → is_among sids s ≡ true
      → (e : Ace) (x : SidValue)
      → sids_stand pass base (sids_of other_sid s) e.kind x
      ≡ (applies_in pass at (row_for g base sids (Some x) e) || (counts_in pass at e.kind && (place_in sids x == place_in sids s)))
  stands_at pass other_sid at is s among e x = grind (arith, place_same, is.at, is.among)

  row_decides_for : (pass : Pass) (other_sid : Option SidValue) (at : Option ℕ) → IsOtherSid sids other_sid at → (s : SidValue) → is_among sids s ≡ true
      → (e : Ace) (b : ℕ) (o : Option SidValue)
      → ((not (is_inherit_only e) && about (sids_stand pass base (sids_of other_sid s)) e.kind o) && holds (mapped g e.mask) b)
      ≡ (holds (row_for g base sids o e).mask b
      && (applies_in pass at (row_for g base sids o e) || (counts_in pass at e.kind && ((row_for g base sids o e).place == place_in sids s))))
  row_decides_for pass other_sid at is s among e b o = grind (arith, stands_at, none_held, holds_when)

-- ---- an entry more, bit by bit

-- what is granted in the end: by its own entries, or by common ones where those decided nothing before, or by entries to come
abbrev granted_with : Bool → Bool → Bool → Bool → Bool → Bool
granted_with undecided allowed own_undecided own_allowed rest = (own_allowed || (allowed && own_undecided)) || ((undecided && own_undecided) && rest)

abbrev undecided_after : Bool → Bool → Bool
undecided_after undecided m = undecided && not (m && undecided)

abbrev allowed_after : Bool → Bool → Bool → Bool → Bool
allowed_after undecided allowed m allow = allowed || (allow && (m && undecided))

common_held : (m n b : ℕ) → b < 32 → holds (common_of m n) b ≡ (holds m b && holds n b)
common_held m n b low = holds_place (λ k. holds m k && holds n k) b low

undecided_held : (share : DecidedRights) (mask : ℕ) (kind : AceKind) (b : ℕ) → b < 32
    → holds (share_after share mask kind).undecided b ≡ undecided_after (holds share.undecided b) (holds mask b)
undecided_held share mask kind b low = grind (arith, holds_place)

-- what the code makes of a share
pub shared : (share : DecidedRights) (mask : ℕ) (kind : AceKind) (decided undecided more allowed : ℕ) (allows : Bool)
    → decided ≡ common_of mask share.undecided
    → undecided ≡ mask_of (λ b. holds share.undecided b && not (holds decided b)) 32
    → allows ≡ is_allow kind → more ≡ cond allows decided 0
    → allowed ≡ mask_of (λ b. holds share.allowed b || holds more b) 32
    → (let s : DecidedRights = record { undecided = undecided; allowed = allowed } in s) ≡ share_after share mask kind
shared share mask kind decided undecided more allowed allows is_decided is_undecided is_allows is_more is_allowed =
    ap (λ u. (let s : DecidedRights = record { undecided = u; allowed = allowed } in s))
    (is_undecided ∙ ap (λ d. mask_of (λ b. holds share.undecided b && not (holds d b)) 32) is_decided)
    ∙ ap (λ a. (let s : DecidedRights = record { undecided = (share_after share mask kind).undecided; allowed = a } in s))
    (is_allowed ∙ ap (λ m. mask_of (λ b. holds share.allowed b || holds m b) 32)
    (is_more ∙ ap (λ a. cond a decided 0) is_allows ∙ ap (λ d. cond (is_allow kind) d 0) is_decided))

allowed_held : (share : DecidedRights) (mask : ℕ) (kind : AceKind) (b : ℕ) → b < 32
    → holds (share_after share mask kind).allowed b ≡ allowed_after (holds share.undecided b) (holds share.allowed b) (holds mask b) (is_allow kind)
allowed_held share mask kind b low = grind (arith, holds_place, holds_when)

-- what the point grants at the bit, where the entries to come do or don't
abbrev granted_at_point : Point → ℕ → Bool → Bool
granted_at_point p b rest = granted_with (holds p.common.undecided b) (holds p.common.allowed b) (holds p.own.undecided b) (holds p.own.allowed b) rest

abbrev IsApart : Point → ℕ → Type 0
IsApart p b = (holds p.common.allowed b && holds p.common.undecided b) ≡ false

module _ (row : EntryRow) (p : Point) (b : ℕ) (low : b < 32) (rest : Bool) (apart : IsApart p b) where
  moved_is : (applies counts : Bool)
      → granted_at_point (point_moved applies counts row p) b rest
      ≡ granted_at_point p b (cond (holds row.mask b && (applies || counts)) (is_allow row.kind) rest)
  moved_is applies counts = grind (
    arith,
    undecided_held p.common row.mask row.kind b low,
    allowed_held p.common row.mask row.kind b low,
    undecided_held p.own (common_of row.mask p.common.undecided) row.kind b low,
    allowed_held p.own (common_of row.mask p.common.undecided) row.kind b low,
    common_held row.mask p.common.undecided b low,
  )

  moved_apart : (applies counts : Bool) → IsApart (point_moved applies counts row p) b
  moved_apart applies counts = grind (arith, undecided_held p.common row.mask row.kind b low, allowed_held p.common row.mask row.kind b low)

ends : (w x y : Bool) → (w || x) ≡ ((w || x) || (y && false))
ends w x y = grind arith

listed_held : (p : Point) (b : ℕ) → b < 32 → holds (listed_of p) b ≡ (holds p.own.allowed b || (holds p.common.allowed b && holds p.own.undecided b))
listed_held p b low = grind (arith, holds_place)

-- the first of more entries
first_of : (here : Bool) (e : Ace) (o : Option Ace) → is_allowed_by (cond here (Some e) o) ≡ cond here (is_allow e.kind) (is_allowed_by o)
first_of here e o = grind arith

-- ---- a whole list

module _ (g : MappingValue) (base : List (SidValue × GroupState)) (sids : List SidValue) (owner : Option SidValue) (walk_pass : WalkPass)
    (other_sid : Option SidValue) (is : IsOtherSid sids other_sid walk_pass.other_sid) (s : SidValue) (among : is_among sids s ≡ true) (b : ℕ) (low : b < 32) where
  abbrev who : AceKind → SidValue → Bool
  who kind x = about (sids_stand walk_pass.pass base (sids_of other_sid s)) kind (subject owner x)

  walked : (es : List Ace) (p : Point) → IsApart p b
      → holds (listed_of (fold (point_after walk_pass (place_in sids s)) p (map (row_of g base sids owner) es))) b
      ≡ granted_at_point p b (is_allowed_by (first g who es b))
  walked [] p apart = listed_held p b low ∙ ends (holds p.own.allowed b) (holds p.common.allowed b && holds p.own.undecided b) (holds p.common.undecided b && holds p.own.undecided b)
  walked (e ∷ es) p apart =
      let row = row_of g base sids owner e in
      let applies = applies_in walk_pass.pass walk_pass.other_sid row in
      let counts = counts_in walk_pass.pass walk_pass.other_sid row.kind && (row.place == place_in sids s) in
      walked es (point_moved applies counts row p) (moved_apart row p b low false apart applies counts)
      ∙ moved_is row p b low (is_allowed_by (first g who es b)) apart applies counts
      ∙ ap (granted_at_point p b)
      (ap (λ here. cond here (is_allow e.kind) (is_allowed_by (first g who es b)))
      (sym (row_decides_for g base sids walk_pass.pass other_sid walk_pass.other_sid is s among e b (subject owner e.sid)))
      ∙ sym (first_of (decides g who b e) e (first g who es b)))

start_apart : (is_list : Bool) (b : ℕ) → b < 21 → IsApart (first_point is_list) b
start_apart is_list b h = grind (arith, none_held)

all_low : (b : ℕ) → b < 21 → holds 0x001FFFFF b ≡ true
all_low b low = agree_below_at (holds 0x001FFFFF) (λ k. true) 21 b refl low

list_starts : (b : ℕ) → b < 21 → (rest : Bool) → granted_at_point (first_point true) b rest ≡ rest
list_starts b rest h = grind (arith, none_held, all_low)

none_starts : (b : ℕ) → b < 21 → (rest : Bool) → granted_at_point (first_point false) b rest ≡ true
none_starts b rest h = grind (arith, none_held, all_low)

-- what a walk from the start comes to at the place of a SID
module _ (g : MappingValue) (base : List (SidValue × GroupState)) (sids : List SidValue) (walk_pass : WalkPass)
    (other_sid : Option SidValue) (is : IsOtherSid sids other_sid walk_pass.other_sid) (s : SidValue) (among : is_among sids s ≡ true) (b : ℕ) (low : b < 21) where
  walk_lists : (owner : Option SidValue) (dacl : Option (List Ace))
      → holds (listed_of (fold (point_after walk_pass (place_in sids s)) (first_point (is_some dacl)) (map (row_of g base sids owner) (entries_or_none dacl)))) b
      ≡ lists g (record { owner = owner; dacl = dacl }) (sids_stand walk_pass.pass base (sids_of other_sid s)) b
  walk_lists owner None =
      walked g base sids owner walk_pass other_sid is s among b (omega arith) [] (first_point false) (start_apart false b low)
      ∙ none_starts b low _ ∙ sym (lt-ltb b 21 low)
  walk_lists owner (Some es) =
      walked g base sids owner walk_pass other_sid is s among b (omega arith) es (first_point true) (start_apart true b low)
      ∙ list_starts b low _
      ∙ sym (ap (λ x. x && is_allowed_by (first g (λ kind x. about (sids_stand walk_pass.pass base (sids_of other_sid s)) kind (subject owner x)) es b)) (lt-ltb b 21 low))

pub shares_are : (g : MappingValue) (base : List (SidValue × GroupState)) (sids : List SidValue) (parts : Parts) (listing : Listing) (walk_pass : WalkPass)
    (other_sid : Option SidValue) (shares : RightsBySid) → IsListing g base sids parts listing → IsOtherSid sids other_sid walk_pass.other_sid
    → length shares.own.items ≡ length sids
    → ((place : ℕ) → place < length sids → point_at shares place ≡ fold (point_after walk_pass place) (first_point listing.is_list) listing.rows.items)
    → AreRightsBySid g base sids parts walk_pass.pass other_sid shares
shares_are g base sids parts listing walk_pass other_sid shares rows is room points = record {
  room = room;
  listed = λ s b among low.
      ap (λ p. holds (listed_of p) b)
      (points (place_in sids s) (place_low sids s among)
      ∙ ap (λ t. fold (point_after walk_pass (place_in sids s)) (first_point t) listing.rows.items) rows.is_list
      ∙ ap (fold (point_after walk_pass (place_in sids s)) (first_point (is_some parts.dacl))) rows.rows)
      ∙ walk_lists g base sids walk_pass other_sid is s among b low parts.owner parts.dacl;
}

-- what is granted at a place
pub listed_made : (shares : RightsBySid) (place : ℕ) (own : DecidedRights) → place < length shares.own.items → own ≡ get_or shares.own.items place own
    → (common union : ℕ) → common ≡ common_of shares.common.allowed own.undecided
    → union ≡ mask_of (λ b. holds own.allowed b || holds common b) 32 → union ≡ listed_of (point_at shares place)
listed_made shares place own low is common union is_common is_union =
    is_union ∙ ap (λ m. mask_of (λ b. holds own.allowed b || holds m b) 32) is_common
    ∙ ap (λ (s : DecidedRights). listed_of (record { common = shares.common; own = s })) (get_or_read shares.own.items place own low is nothing_decided)

-- nobody beside
pub nobody_beside : (sids : List SidValue) → IsOtherSid sids None None
nobody_beside sids = record { at = refl; among = λ s is. absurd cc }
