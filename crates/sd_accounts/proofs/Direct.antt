-- The groups in which a member directly is, as a list and as what the rows say.
use Rattle.std.proofs.Common.{◌≡◌, ◌∙◌, inl, inr, List, [], ◌∷◌, Bool, true, false, Option, Some, None, refl, ap, sym, subst, arith}
use Rattle.std.proofs.lemmas.List.Elements.{Contains-append_cases, Contains-append_left, Contains-append_right, Contains-push, Contains-push_cases}
use Rattle.std.specs.List.{Contains, cons_option}
use Rattle.std.specs.Prelude.{if◌then◌else◌}
use Rattle.sd_sid.specs.Sid.{SidValue, same_sid}
use Rattle.sd_sid.proofs.Compared.{same_sid-true, same_sid-itself}
use Rattle.sd_accounts.specs.Groups.{IsIn, Says}
use Rattle.sd_accounts.specs.Index.{direct_groups, group_in}
use Rattle.sd_accounts.specs.Row.{AccountRow, User, Group, Member, Primary, Disabled}

pub nothing_in : {A : Type 0} (x : A) → Contains [] x → ⊥
nothing_in x (k, low, at) = omega arith

pub only_one : {A : Type 0} (x y : A) → Contains (x ∷ []) y → x ≡ y
only_one x y h = elim (Contains-push_cases [] x y h) [ inl none ↦ absurd (nothing_in y none) | inr same ↦ same ]

chosen : (test : Bool) (m n g h : SidValue) → (test ≡ true → m ≡ n) → (if test then Some g else None) ≡ Some h → (m ≡ n) × (g ≡ h)
chosen true m n g h same e = (same refl, cc)
chosen false m n g h same e = cc

-- the row says so where its group is this one
says_from : (row : AccountRow) (m g : SidValue) → group_in m row ≡ Some g → Says row m g
says_from (User sid name) m g e = cc
says_from (Group sid name) m g e = cc
says_from (Member h n) m g e = chosen (same_sid n m) n m h g (same_sid-true n m) e
says_from (Primary n h) m g e = chosen (same_sid n m) n m h g (same_sid-true n m) e
says_from (Disabled user) m g e = cc

group_same : (m n g h : SidValue) → m ≡ n → g ≡ h → (if same_sid m n then Some g else None) ≡ Some h
group_same m n g h same one = ap (λ t. if t then Some g else None) (ap (same_sid m) (sym same) ∙ same_sid-itself m) ∙ ap Some one

group_from : (row : AccountRow) (m g : SidValue) → Says row m g → group_in m row ≡ Some g
group_from (User sid name) m g says = absurd says
group_from (Group sid name) m g says = absurd says
group_from (Member h n) m g says = group_same n m h g says.0 says.1
group_from (Primary n h) m g says = group_same n m h g says.0 says.1
group_from (Disabled user) m g says = absurd says

later : (row : AccountRow) (rows : List AccountRow) (m g : SidValue) → IsIn rows m g → IsIn (row ∷ rows) m g
later row rows m g (one, at, says) = (one, Contains-append_right (row ∷ []) rows one at, says)

pub direct_in : (rows : List AccountRow) (m g : SidValue) → Contains (direct_groups rows m) g → IsIn rows m g
direct_in [] m g h = absurd (nothing_in g h)
direct_in (row ∷ rows) m g h = by (direct_in rows m g) (group_in m row) refl
  where
    by : (Contains (direct_groups rows m) g → IsIn rows m g) → (o : Option SidValue) → group_in m row ≡ o → IsIn (row ∷ rows) m g
    by among None e = later row rows m g (among (subst (λ o. Contains (cons_option o (direct_groups rows m)) g) e h))
    by among (Some x) e =
        elim (Contains-append_cases (x ∷ []) (direct_groups rows m) g (subst (λ o. Contains (cons_option o (direct_groups rows m)) g) e h)) [
          | inl here ↦ (row, Contains-append_left (row ∷ []) rows row (Contains-push [] row), says_from row m g (e ∙ ap Some (only_one x g here)))
          | inr there ↦ later row rows m g (among there)
        ]

kept_in : (o : Option SidValue) (gs : List SidValue) (g : SidValue) → Contains gs g → Contains (cons_option o gs) g
kept_in None gs g h = h
kept_in (Some x) gs g h = Contains-append_right (x ∷ []) gs g h

pub in_direct : (rows : List AccountRow) (m g : SidValue) → IsIn rows m g → Contains (direct_groups rows m) g
in_direct [] m g (one, at, says) = absurd (nothing_in one at)
in_direct (row ∷ rows) m g (one, at, says) =
    elim (Contains-append_cases (row ∷ []) rows one at) [
      | inl here ↦
          let there : group_in m row ≡ Some g = ap (group_in m) (only_one row one here) ∙ group_from one m g says in
          subst (λ o. Contains (cons_option o (direct_groups rows m)) g) (sym there) (Contains-append_left (g ∷ []) (direct_groups rows m) g (Contains-push [] g))
      | inr there ↦ kept_in (group_in m row) (direct_groups rows m) g (in_direct rows m g (one, there, says))
    ]
