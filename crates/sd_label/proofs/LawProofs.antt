-- The laws on labels.
use Rattle.std.proofs.Common.{◌≡◌, ℕ, Bool, true, ◌&&◌, ◌||◌, ◌==◌, not, nat_lt, List, Option, Some, None, arith, ap, refl, sym, ◌∙◌, inl, inr}
use Rattle.sd_check.proofs.Cited.{Ace, MappingValue, SidValue, TokenValue, bit_at-zero, cases_Bool, holds, is_given, is_granted, judged, mapped, mask_of-alike, mask_of-lt, most, verdict, without_maximum}
use Rattle.sd_check.proofs.LawProofs.{grants_what_was_asked, one_test}
use Rattle.sd_check.specs.declared.verdict.Verdict.{Verdict}
use Rattle.sd_check.specs.declared.verdict.Verdict.TheVariants.{Granted, Denied, Reserved, EmptyRequest}
use Rattle.sd_explain.proofs.Bits.{own_places}
use Rattle.sd_label.proofs.Under.{asked_is_left, judged_less, lessened, lost, minus, what_is_left}
use Rattle.sd_label.specs.Laws.{LabelGrantsNoRequest, LabelOnlyTakesAway, NothingTakenChangesNothing}
use Rattle.sd_label.specs.Under.{granted_under, most_under, verdict_under}

-- ---- nothing taken

none_taken : (x : Bool) (b : ℕ) → (x && not (holds 0 b)) ≡ x
none_taken x b = grind (arith, ap (λ n. n == 1) (bit_at-zero b))

most_small : (owner : Option SidValue) (dacl : Option (List Ace)) (g : MappingValue) (t : TokenValue) → most_under 0 (most owner dacl g t) ≡ most owner dacl g t
most_small owner None g t =
    mask_of-alike _ (holds (most owner None g t)) 32 (λ b h. none_taken (holds (most owner None g t) b) b)
    ∙ sym (own_places _ (mask_of-lt (λ b. nat_lt b 21 && (holds g.all b || is_given owner None t b)) 32))
most_small owner (Some es) g t =
    mask_of-alike _ (holds (most owner (Some es) g t)) 32 (λ b h. none_taken (holds (most owner (Some es) g t) b) b)
    ∙ sym (own_places _ (mask_of-lt (λ b. nat_lt b 21 && is_granted owner (Some es) g t b) 32))

pub nothing_taken_changes_nothing : NothingTakenChangesNothing
nothing_taken_changes_nothing owner dacl g t r =
    ap (λ p. judged g p (most_under 0 (most owner dacl g t)) r) (one_test (granted_under 0 (is_granted owner dacl g t)) (is_granted owner dacl g t) (λ b. none_taken (is_granted owner dacl g t b) b))
    ∙ ap (λ n. judged g (is_granted owner dacl g t) n r) (most_small owner dacl g t)

-- ---- a label only takes away

-- what is granted with a label is what was granted before, without what it takes
pub record IsLess (taken lost m : ℕ) (v : Verdict) : Type 0 where
  pub before : ℕ
  pub was : v ≡ Granted before
  pub none_lost : (lost == 0) ≡ true
  pub is : m ≡ minus before taken

left_of : (left m : ℕ) → what_is_left left ≡ Granted m → m ≡ left
left_of left m h = elim (cases_Bool (left == 0)) [ inl none ↦ absurd (let no = rw none at h in cc) | inr some ↦ (let yes = rw some at h in cc) ]

less_of : (taken lost m : ℕ) (v : Verdict) → lessened taken lost v ≡ Granted m → IsLess taken lost m v
less_of taken lost m (Granted n) h = elim (cases_Bool (lost == 0)) [
  | inl none ↦ record { before = n; was = refl; none_lost = none; is = left_of (minus n taken) m (rw none at h) }
  | inr some ↦ absurd (let no = rw some at h in cc)
]
less_of taken lost m (Denied missing) h = absurd cc
less_of taken lost m (Reserved n) h = absurd cc
less_of taken lost m EmptyRequest h = absurd cc

module _ (taken : ℕ) (owner : Option SidValue) (dacl : Option (List Ace)) (g : MappingValue) (t : TokenValue) (r m : ℕ) where
  less : verdict_under taken owner dacl g t r ≡ Granted m → IsLess taken (lost g (is_granted owner dacl g t) (most owner dacl g t) taken r) m (verdict owner dacl g t r)
  less h = less_of taken _ m (verdict owner dacl g t r) (judged_less g (is_granted owner dacl g t) (most owner dacl g t) taken r ∙ h)

pub label_grants_no_request : LabelGrantsNoRequest
label_grants_no_request taken owner dacl g t r m plain h =
    let l = less taken owner dacl g t r m h in
    let asked : l.before ≡ mapped g (without_maximum r) = grants_what_was_asked owner dacl g t r l.before plain l.was in
    let same : m ≡ l.before = l.is ∙ ap (λ n. minus n taken) asked ∙ asked_is_left g (is_granted owner dacl g t) (most owner dacl g t) taken r l.none_lost ∙ sym asked in
    l.was ∙ ap Granted (sym same)

pub label_only_takes_away : LabelOnlyTakesAway
label_only_takes_away taken owner dacl g t r m h =
    let l = less taken owner dacl g t r m h in
    (l.before, (l.was, l.is))
