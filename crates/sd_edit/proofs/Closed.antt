-- The root of a tree is there and is a container, and so is what holds each node.
use Rattle.sd_edit.proofs.Cited.{Ace, AddContainer, AddObject, Bool, Container, Edit, IsAddable, IsClosed, IsLawful, IsMovable, List, MappingValue, Move, Names, NodeDacl, NodeKind, NodeRow, None, Object, Opening, Option, PlainTree, ProtectKeeping, Remove, SetDacl, SetGroup, SetOwner, Some, [], addition_tests, ap, changed, contains_key-keys, dacl_at, early_refusal, early_tests, edited, eq_by_cmp, false, false≢true, first_fit, has_child, inl, inr, is_eq, is_object, is_object_kind, is_root, is_some, keeping, kind_at, list_any, move_tests, names_cmp, not, opened, option_map, or_cases, or_parts, refl, replay, root_row, row_at, sym, true, up, ◌&&◌, ◌∙◌, ◌∷◌, ◌≡◌, ◌≢◌}
use Rattle.std.specs.FinMap as map
use Rattle.sd_edit.proofs.Rows.{one_path, path_itself, same_or_other, row_at-empty, row_at-insert_same, row_at-insert_other, row_at-remove_same, row_at-remove_other, row_at-changed_same, row_at-changed_other}
use Rattle.sd_edit.proofs.Moved.{closed_moved}
use Rattle.sd_edit.proofs.Refused.{none_fits, not_refused}
use Rattle.sd_edit.proofs.Journals.{holds_of_lawful}

-- ---- kinds

pub known_kind : (t : PlainTree) (path : Names) (row : NodeRow) → row_at t path ≡ Some row → kind_at t path ≡ Some row.kind
known_kind t path row e = ap (option_map (λ (r : NodeRow). r.kind)) e

known_row : (o : Option NodeRow) (k : NodeKind) → option_map (λ (r : NodeRow). r.kind) o ≡ Some k → (row : NodeRow) × (o ≡ Some row)
known_row None k e = absurd cc
known_row (Some row) k e = (row, refl)

kept_kind : (change : NodeRow → NodeRow) → ((row : NodeRow) → (change row).kind ≡ row.kind)
    → (o : Option NodeRow) → option_map (λ (r : NodeRow). r.kind) (option_map change o) ≡ option_map (λ (r : NodeRow). r.kind) o
kept_kind change keeps None = refl
kept_kind change keeps (Some row) = ap Some (keeps row)

pub kind_at-changed : (t : PlainTree) (path q : Names) (change : NodeRow → NodeRow) → ((row : NodeRow) → (change row).kind ≡ row.kind)
    → kind_at (changed t path change) q ≡ kind_at t q
kind_at-changed t path q change keeps = elim (same_or_other q path) [
  | inl same ↦
      ap (kind_at (changed t path change)) same
      ∙ ap (option_map (λ (r : NodeRow). r.kind)) (row_at-changed_same t path change)
      ∙ kept_kind change keeps (row_at t path)
      ∙ ap (kind_at t) (sym same)
  | inr other ↦ ap (option_map (λ (r : NodeRow). r.kind)) (row_at-changed_other t path q change other)
]

-- ---- the opening

pub closed_opened : (o : Opening) → IsClosed (opened o)
closed_opened o =
    let root = known_kind (opened o) [] (root_row o.root) (row_at-insert_same map.empty [] (root_row o.root)) in
    record { root = root; parents = alone root }
  where
    alone : kind_at (opened o) [] ≡ Some Container → (path : Names) (row : NodeRow) → row_at (opened o) path ≡ Some row → kind_at (opened o) (up path) ≡ Some Container
    alone root [] row e = root
    alone root (n ∷ path) row e =
        let none : row_at (opened o) (n ∷ path) ≡ None = row_at-insert_other map.empty [] (n ∷ path) (root_row o.root) (λ same. absurd cc) ∙ row_at-empty (n ∷ path) in
        absurd cc

-- ---- a change of a node

closed_changed : (t : PlainTree) (path : Names) (change : NodeRow → NodeRow) → ((row : NodeRow) → (change row).kind ≡ row.kind) → IsClosed t → IsClosed (changed t path change)
closed_changed t path change keeps closed = record {
  root = kind_at-changed t path [] change keeps ∙ closed.root;
  parents = λ q row e.
      let kind = kind_at-changed t path q change keeps in
      let before = known_row (row_at t q) row.kind (sym kind ∙ known_kind (changed t path change) q row e) in
      kind_at-changed t path (up q) change keeps ∙ closed.parents q before.0 before.1;
}

-- ---- a node more

container_from : (o : Option NodeRow) → is_some o ≡ true → is_object o ≡ false → option_map (λ (r : NodeRow). r.kind) o ≡ Some Container
container_from None h k = absurd (false≢true h)
container_from (Some row) h k = ap Some (container row.kind k)
  where
    container : (kind : NodeKind) → is_object_kind kind ≡ false → kind ≡ Container
    container Container e = refl
    container Object e = absurd cc

none_from : (o : Option NodeRow) → is_some o ≡ false → o ≡ None
none_from None h = refl
none_from (Some row) h = absurd cc

closed_inserted : (t : PlainTree) (path : Names) (row : NodeRow) → row_at t path ≡ None → kind_at t (up path) ≡ Some Container → IsClosed t → IsClosed (map.insert t path row)
closed_inserted t path row free holder closed = record { root = still [] closed.root; parents = held }
  where
    still : (q : Names) → kind_at t q ≡ Some Container → kind_at (map.insert t path row) q ≡ Some Container
    still q e =
        let there = known_row (row_at t q) Container e in
        ap (option_map (λ (r : NodeRow). r.kind)) (row_at-insert_other t path q row (λ same. let none : row_at t q ≡ None = ap (row_at t) same ∙ free in absurd (let found = there.1 in cc))) ∙ e

    held : (q : Names) (r : NodeRow) → row_at (map.insert t path row) q ≡ Some r → kind_at (map.insert t path row) (up q) ≡ Some Container
    held q r e = still (up q) (elim (same_or_other q path) [
      | inl same ↦ ap (λ p. kind_at t (up p)) same ∙ holder
      | inr other ↦ closed.parents q r (sym (row_at-insert_other t path q row other) ∙ e)
    ])

-- what the tests of an addition leave: the path is free, and a container holds it
one_of : (root there : Bool) → (not root && not there) ≡ false → root ≡ false → there ≡ true
one_of true there h k = absurd cc
one_of false true h k = refl
one_of false false h k = absurd cc

other_of : (root object : Bool) → (not root && object) ≡ false → root ≡ false → object ≡ false
other_of true object h k = absurd cc
other_of false object h k = h

not_there : (path : Names) (t : PlainTree) → IsClosed t → row_at t path ≡ None → is_root path ≡ false
not_there [] t closed free = let there = known_row (row_at t []) Container closed.root in absurd (let found = there.1 in cc)
not_there (n ∷ path) t closed free = refl

addable_by : (t : PlainTree) (path : Names) → IsClosed t → (not (is_root path) && not (is_some (row_at t (up path)))) ≡ false
    → (not (is_root path) && is_object (row_at t (up path))) ≡ false → is_some (row_at t path) ≡ false → IsAddable t path
addable_by t path closed parent object there =
    let free = none_from (row_at t path) there in
    let below = not_there path t closed free in
    record {
      free = free;
      held = container_from (row_at t (up path)) (one_of (is_root path) _ parent below) (other_of (is_root path) _ object below);
      below_root = below;
    }

pub addable : (t : PlainTree) (path : Names) (dacl : NodeDacl) → IsClosed t → first_fit (addition_tests t path dacl) ≡ None → IsAddable t path
addable t path dacl closed e =
    let tests = none_fits (addition_tests t path dacl) e in
    addable_by t path closed tests.0 tests.1.0 tests.1.1.0

not_not : (b : Bool) → not b ≡ false → b ≡ true
not_not true h = refl
not_not false h = absurd (false≢true (sym h))

-- and those of a move
pub movable : (t : PlainTree) (source target : Names) → IsClosed t → first_fit (move_tests t source target) ≡ None → IsMovable t source target
movable t source target closed e =
    let tests = none_fits (move_tests t source target) e in
    record {
      place = addable_by t target closed tests.0 tests.1.0 tests.1.1.0;
      there = not_not (is_some (row_at t source)) tests.1.1.1.0;
      below_root = tests.1.1.1.1.0;
      apart = tests.1.1.1.1.1.0;
    }

-- ---- a node less

unnamed : (p : Names → Bool) (q : Names) (names : List Names) → list_any (eq_by_cmp names_cmp q) names ≡ true → list_any p names ≡ false → p q ≡ false
unnamed p q [] h none = absurd (false≢true h)
unnamed p q (n ∷ names) h none =
    let parts = or_parts (p n) (list_any p names) none in
    elim (or_cases (eq_by_cmp names_cmp q n) (list_any (eq_by_cmp names_cmp q) names) h) [
      | inl here ↦ ap p (one_path q n here) ∙ parts.0
      | inr later ↦ unnamed p q names later parts.1
    ]

-- a node that another one stands right below has a child
pub no_child : (t : PlainTree) (path q : Names) (row : NodeRow) → has_child t path ≡ false → row_at t q ≡ Some row → is_root q ≡ false → up q ≢ path
no_child t path q row none there below same =
    let known : list_any (eq_by_cmp names_cmp q) (map.keys t) ≡ true = sym (contains_key-keys t q) ∙ ap is_some there in
    let apart = unnamed (λ child. not (is_root child) && is_eq (names_cmp (up child) path)) q (map.keys t) known none in
    false≢true (sym apart ∙ ap (λ root. not root && is_eq (names_cmp (up q) path)) below ∙ ap (λ p. is_eq (names_cmp p path)) same ∙ path_itself path)

closed_removed : (t : PlainTree) (path : Names) → is_root path ≡ false → has_child t path ≡ false → IsClosed t → IsClosed (map.remove t path)
closed_removed t path below none closed = record { root = still [] root_stays closed.root; parents = held }
  where
    root_stays : [] ≢ path
    root_stays e = false≢true (sym below ∙ ap is_root (sym e))

    still : (q : Names) → q ≢ path → kind_at t q ≡ Some Container → kind_at (map.remove t path) q ≡ Some Container
    still q other e = ap (option_map (λ (r : NodeRow). r.kind)) (row_at-remove_other t path q other) ∙ e

    there_before : (q : Names) (r : NodeRow) → row_at (map.remove t path) q ≡ Some r → row_at t q ≡ Some r
    there_before q r e = elim (same_or_other q path) [
      | inl same ↦ absurd (let gone : row_at (map.remove t path) q ≡ None = ap (row_at (map.remove t path)) same ∙ row_at-remove_same t path in cc)
      | inr other ↦ sym (row_at-remove_other t path q other) ∙ e
    ]

    held_by : (q : Names) (r : NodeRow) → row_at t q ≡ Some r → up q ≢ path
    held_by [] r e = root_stays
    held_by (n ∷ q) r e = no_child t path (n ∷ q) r none e refl

    held : (q : Names) (r : NodeRow) → row_at (map.remove t path) q ≡ Some r → kind_at (map.remove t path) (up q) ≡ Some Container
    held q r e = let before = there_before q r e in still (up q) (held_by q r before) (closed.parents q r before)

-- ---- each edit

pub kept_when_keeping : (dacl : Option (List Ace)) (row : NodeRow) → (keeping dacl row).kind ≡ row.kind
kept_when_keeping None row = refl
kept_when_keeping (Some entries) row = refl

pub closed_edited : (g : MappingValue) (t : PlainTree) (e : Edit) → early_refusal t e ≡ None → IsClosed t → IsClosed (edited g t e)
closed_edited g t (AddContainer path owner group dacl) fits closed =
    let can = addable t path dacl closed fits in closed_inserted t path _ can.free can.held closed
closed_edited g t (AddObject path owner group dacl) fits closed =
    let can = addable t path dacl closed fits in closed_inserted t path _ can.free can.held closed
closed_edited g t (SetOwner path owner) fits closed = closed_changed t path _ (λ row. refl) closed
closed_edited g t (SetGroup path group) fits closed = closed_changed t path _ (λ row. refl) closed
closed_edited g t (SetDacl path dacl) fits closed = closed_changed t path _ (λ row. refl) closed
closed_edited g t (Remove path) fits closed =
    let tests = none_fits (early_tests t (Remove path)) fits in
    closed_removed t path tests.1.1.0 tests.1.0 closed
closed_edited g t (ProtectKeeping path) fits closed = closed_changed t path _ (kept_when_keeping (dacl_at g t path)) closed
closed_edited g t (Move source target) fits closed = closed_moved t source target (movable t source target closed fits) closed

-- the tree of each lawful journal
pub closed_replay : (o : Opening) (journal : List Edit) → IsLawful o journal → IsClosed (replay o journal)
closed_replay o = holds_of_lawful o IsClosed (closed_opened o) (λ t count e closed fits. closed_edited o.mapping t e (not_refused o.limits o.mapping t count e fits).0 closed)
