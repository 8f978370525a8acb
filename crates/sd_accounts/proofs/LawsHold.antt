-- Why the laws hold.
use Rattle.std.proofs.Common.{◌≡◌, ◌++◌, ◌∙◌, ◌⊎◌, inl, inr, ℕ, List, [], ◌∷◌, false, Option, codes, refl, sym, subst, arith}
use Rattle.std.proofs.lemmas.Bool.{true≢false}
use Rattle.std.specs.List.{Contains}
use Rattle.std.specs.Str.{bytes_eq}
use lib.Pointwise.{bytes_decides}
use Rattle.sd_sid.specs.Sid.{SidValue}
use Rattle.sd_accounts.specs.Fault.{AreNoTwoSids, IsNoOneSid, IsNoRow, IsNoSidAndName, incomplete, no_disabled, no_group, no_keyword, no_member, no_primary, no_user}
use Rattle.sd_accounts.specs.Groups.{Belongs, IsIn, directly, further}
use Rattle.sd_accounts.specs.Laws.{BelongsByAWay, OrderDoesNotMatter, RowsHaveNoFault}
use Rattle.sd_accounts.specs.Row.{AccountRow, AreRows, AreTwoSids, IsOneSid, IsRow, IsSidAndName, SaysNothing, User, Group, Member, Primary, Disabled, first_word, nothing, row}
use Rattle.sd_accounts.specs.Way.{IsWay, by_way, straight}
use Rattle.sd_accounts.specs.declared.fault.AccountsFault.{AccountsFault}
use Rattle.sd_accounts.specs.declared.fault.AccountsFault.TheVariants.{Keyword, Sid, Name, Surplus, Incomplete}

in_others : (rows others : List AccountRow) (m g : SidValue) → ((row : AccountRow) → Contains rows row → Contains others row) → IsIn rows m g → IsIn others m g
in_others rows others m g all (one, at, says) = (one, all one at, says)

pub order_holds : OrderDoesNotMatter
order_holds rows others starts _ all (directly start group at in') = directly start group at (in_others rows others start group all in')
order_holds rows others starts _ all (further between group belongs in') =
    further between group (order_holds rows others starts between all belongs) (in_others rows others between group all in')

-- ---- a way to each group to which one belongs

way_of : (rows : List AccountRow) (starts : List SidValue) (group : SidValue) → Belongs rows starts group → (way : List SidValue) × IsWay rows starts group way
way_of rows starts _ (directly start group at in') = (group ∷ [], straight start group at in')
way_of rows starts _ (further between group belongs in') =
    let way = way_of rows starts between belongs in
    (way.0 ++ group ∷ [], by_way between group way.0 way.1 in')

of_way : (rows : List AccountRow) (starts : List SidValue) (group : SidValue) (way : List SidValue) → IsWay rows starts group way → Belongs rows starts group
of_way rows starts _ _ (straight start group at in') = directly start group at in'
of_way rows starts _ _ (by_way between group way is in') = further between group (of_way rows starts between way is) in'

pub way_holds : BelongsByAWay
way_holds rows starts group = (way_of rows starts group, λ way. of_way rows starts group way.0 way.1)

-- ---- a line that is a row has no fault

two_words : {A : Type 0} (word a b : List ℕ) → bytes_eq a b ≡ false → word ≡ a → word ≡ b → A
two_words word a b apart is also = absurd (true≢false (sym ((bytes_decides a b).1 (sym is ∙ also)) ∙ apart))

named_or_not : (left : Option (List ℕ)) (sid : SidValue) (name : List ℕ) (fault : AccountsFault) → IsSidAndName left sid name → IsNoSidAndName left fault → ⊥
named_or_not left sid name Keyword is bad = bad
named_or_not left sid name Sid is bad = bad sid is.0
named_or_not left sid name Name is bad = bad.1 name is.1 is.2
named_or_not left sid name Surplus is bad = bad
named_or_not left sid name Incomplete is bad = bad

two_or_not : (left : Option (List ℕ)) (one two : SidValue) (fault : AccountsFault) → AreTwoSids left one two → AreNoTwoSids left fault → ⊥
two_or_not left one two Keyword are bad = bad
two_or_not left one two Sid are (inl bad) = bad one are.0
two_or_not left one two Sid are (inr bad) = bad two are.1
two_or_not left one two Name are bad = bad
two_or_not left one two Surplus are bad = bad.2 are.2
two_or_not left one two Incomplete are bad = bad

one_or_not : (left : Option (List ℕ)) (sid : SidValue) (fault : AccountsFault) → IsOneSid left sid → IsNoOneSid left fault → ⊥
one_or_not left sid Keyword is bad = bad
one_or_not left sid Sid is bad = bad sid is.0
one_or_not left sid Name is bad = bad
one_or_not left sid Surplus is bad = bad.1 is.1
one_or_not left sid Incomplete is bad = bad

row_or_not : (line : List ℕ) (one : AccountRow) (fault : AccountsFault) → IsRow line one → IsNoRow line fault → ⊥
row_or_not line (User sid name) _ is (no_keyword bad) = bad (0, omega arith, sym is.0)
row_or_not line (Group sid name) _ is (no_keyword bad) = bad (1, omega arith, sym is.0)
row_or_not line (Member group member) _ is (no_keyword bad) = bad (2, omega arith, sym is.0)
row_or_not line (Primary user group) _ is (no_keyword bad) = bad (3, omega arith, sym is.0)
row_or_not line (Disabled user) _ is (no_keyword bad) = bad (4, omega arith, sym is.0)
row_or_not line (User sid name) _ is (incomplete word) = two_words (first_word line) (codes "user") (codes "incomplete") refl is.0 word
row_or_not line (Group sid name) _ is (incomplete word) = two_words (first_word line) (codes "group") (codes "incomplete") refl is.0 word
row_or_not line (Member group member) _ is (incomplete word) = two_words (first_word line) (codes "member") (codes "incomplete") refl is.0 word
row_or_not line (Primary user group) _ is (incomplete word) = two_words (first_word line) (codes "primary") (codes "incomplete") refl is.0 word
row_or_not line (Disabled user) _ is (incomplete word) = two_words (first_word line) (codes "disabled") (codes "incomplete") refl is.0 word
row_or_not line (User sid name) _ is (no_user fault word bad) = named_or_not _ sid name fault is.1 bad
row_or_not line (User sid name) _ is (no_group fault word bad) = two_words (first_word line) (codes "user") (codes "group") refl is.0 word
row_or_not line (User sid name) _ is (no_member fault word bad) = two_words (first_word line) (codes "user") (codes "member") refl is.0 word
row_or_not line (User sid name) _ is (no_primary fault word bad) = two_words (first_word line) (codes "user") (codes "primary") refl is.0 word
row_or_not line (User sid name) _ is (no_disabled fault word bad) = two_words (first_word line) (codes "user") (codes "disabled") refl is.0 word
row_or_not line (Group sid name) _ is (no_user fault word bad) = two_words (first_word line) (codes "group") (codes "user") refl is.0 word
row_or_not line (Group sid name) _ is (no_group fault word bad) = named_or_not _ sid name fault is.1 bad
row_or_not line (Group sid name) _ is (no_member fault word bad) = two_words (first_word line) (codes "group") (codes "member") refl is.0 word
row_or_not line (Group sid name) _ is (no_primary fault word bad) = two_words (first_word line) (codes "group") (codes "primary") refl is.0 word
row_or_not line (Group sid name) _ is (no_disabled fault word bad) = two_words (first_word line) (codes "group") (codes "disabled") refl is.0 word
row_or_not line (Member group member) _ is (no_user fault word bad) = two_words (first_word line) (codes "member") (codes "user") refl is.0 word
row_or_not line (Member group member) _ is (no_group fault word bad) = two_words (first_word line) (codes "member") (codes "group") refl is.0 word
row_or_not line (Member group member) _ is (no_member fault word bad) = two_or_not _ group member fault is.1 bad
row_or_not line (Member group member) _ is (no_primary fault word bad) = two_words (first_word line) (codes "member") (codes "primary") refl is.0 word
row_or_not line (Member group member) _ is (no_disabled fault word bad) = two_words (first_word line) (codes "member") (codes "disabled") refl is.0 word
row_or_not line (Primary user group) _ is (no_user fault word bad) = two_words (first_word line) (codes "primary") (codes "user") refl is.0 word
row_or_not line (Primary user group) _ is (no_group fault word bad) = two_words (first_word line) (codes "primary") (codes "group") refl is.0 word
row_or_not line (Primary user group) _ is (no_member fault word bad) = two_words (first_word line) (codes "primary") (codes "member") refl is.0 word
row_or_not line (Primary user group) _ is (no_primary fault word bad) = two_or_not _ user group fault is.1 bad
row_or_not line (Primary user group) _ is (no_disabled fault word bad) = two_words (first_word line) (codes "primary") (codes "disabled") refl is.0 word
row_or_not line (Disabled user) _ is (no_user fault word bad) = two_words (first_word line) (codes "disabled") (codes "user") refl is.0 word
row_or_not line (Disabled user) _ is (no_group fault word bad) = two_words (first_word line) (codes "disabled") (codes "group") refl is.0 word
row_or_not line (Disabled user) _ is (no_member fault word bad) = two_words (first_word line) (codes "disabled") (codes "member") refl is.0 word
row_or_not line (Disabled user) _ is (no_primary fault word bad) = two_words (first_word line) (codes "disabled") (codes "primary") refl is.0 word
row_or_not line (Disabled user) _ is (no_disabled fault word bad) = one_or_not _ user fault is.1 bad

-- each line of those that are rows is one, or says nothing
each_line : (before : List (List ℕ)) (line : List ℕ) (after : List (List ℕ)) (rows : List AccountRow) → AreRows (before ++ line ∷ after) rows
    → SaysNothing line ⊎ ((one : AccountRow) × IsRow line one)
each_line [] line after _ (nothing _ _ rows says are) = inl says
each_line [] line after _ (row _ _ one rows is are) = inr (one, is)
each_line (l ∷ before) line after _ (nothing _ _ rows says are) = each_line before line after rows are
each_line (l ∷ before) line after _ (row _ _ one rows is are) = each_line before line after rows are

pub no_fault_holds : RowsHaveNoFault
no_fault_holds lines rows number fault are first =
    elim (each_line first.before first.line first.after rows (subst (λ l. AreRows l rows) first.parts are)) [
      | inl says ↦ first.something says
      | inr one ↦ row_or_not first.line one.0 fault one.1 first.no_row
    ]
