-- That the reasons with a label come to the verdict with it.
use Rattle.sd_explain.proofs.Cited.{Ace, Bool, List, MappingValue, None, Option, SidValue, TokenValue, ap, arith, cases_eq, cond, fill_by_all, get_or, get_or-map-range_with_len, get_or-set_at, get_or-set_other, holds, holds_place, inl, inr, is_granted, length, length-set, maximum_cause, most, named_cause, not, reason_at, reason_in, reasons_of, set, sym, told_verdict, ℕ, ◌&&◌, ◌+◌, ◌<◌, ◌∙◌, ◌≡◌, ◌≤◌}
use Rattle.sd_explain.proofs.Told.{AreDue, are_due, reason_by, told_alike, told_by_causes}
use Rattle.sd_explain.specs.declared.reason.Cause.{Cause}
use Rattle.sd_explain.specs.declared.reason.Reason.{Reason}
use Rattle.sd_explain.specs.declared.reason.Cause.TheVariants.{Label}
use Rattle.sd_label.specs.Under.{granted_under, most_under, reason_under, reasons_under, verdict_under}

-- a cause, or the label where it takes the bit
abbrev pub cause_under : ℕ → (ℕ → Cause) → ℕ → Cause
cause_under taken cause b = cond (holds taken b) Label (cause b)

module _ (taken most : ℕ) (given : ℕ → Bool) (named maximum : ℕ → Cause) (due : AreDue given most named maximum) where
  most_at : (b : ℕ) → b < 32 → holds (most_under taken most) b ≡ (holds most b && not (holds taken b))
  most_at b h = holds_place (λ k. holds most k && not (holds taken k)) b h

  pub due_under : AreDue (granted_under taken given) (most_under taken most) (cause_under taken named) (cause_under taken maximum)
  due_under = record {
    named_grants = λ b. grind (arith, due.named_grants b);
    named_unreserved = λ b. grind (arith, due.named_unreserved b);
    maximum_grants = λ b low. grind (arith, most_at b (omega (arith, low)), due.maximum_grants b low);
    maximum_unreserved = λ b. grind (arith, due.maximum_unreserved b);
    low = λ b h high. grind (arith, most_at b h, due.low b h high);
  }

  pub reason_is : (g : MappingValue) (r b : ℕ) → reason_under taken b (reason_by named maximum g r b) ≡ reason_by (cause_under taken named) (cause_under taken maximum) g r b
  reason_is g r b = grind (arith, due.named_unreserved b, due.maximum_unreserved b)

pub told_under : (taken : ℕ) (owner : Option SidValue) (dacl : Option (List Ace)) (g : MappingValue) (t : TokenValue) (r : ℕ) (reasons : List (Option Reason))
    → reasons ≡ reasons_under taken (reasons_of owner dacl g t r) → told_verdict (reason_in reasons) ≡ verdict_under taken owner dacl g t r
told_under taken owner dacl g t r reasons are =
    let named = named_cause owner dacl g t in
    let maximum = maximum_cause owner dacl g t in
    let given = is_granted owner dacl g t in
    let due = are_due owner dacl g t in
    told_alike (reason_in reasons) (reason_by (cause_under taken named) (cause_under taken maximum) g r)
    (λ b h. ap (λ (rs : List (Option Reason)). get_or rs b None) are
    ∙ get_or-map-range_with_len (λ k. reason_under taken k (reason_in (reasons_of owner dacl g t r) k)) 0 32 b b None h (omega arith)
    ∙ ap (reason_under taken b) (get_or-map-range_with_len (reason_at owner dacl g t r) 0 32 b b None h (omega arith))
    ∙ reason_is taken (most owner dacl g t) given named maximum due g r b)
    ∙ told_by_causes g r (granted_under taken given) (most_under taken (most owner dacl g t)) (cause_under taken named) (cause_under taken maximum)
    (due_under taken (most owner dacl g t) given named maximum due)

-- ---- the reasons that the loop writes

-- the places below i have their reasons, and the others what they had
pub record AreWritten (taken : ℕ) (before reasons : List (Option Reason)) (i : ℕ) : Type 0 where
  pub size : length reasons ≡ 32
  pub done : (b : ℕ) → b < i → reason_in reasons b ≡ reason_under taken b (reason_in before b)
  pub rest : (b : ℕ) → i ≤ b → reason_in reasons b ≡ reason_in before b

pub written_more : (taken : ℕ) (before reasons : List (Option Reason)) (x : Option Reason) (i : ℕ) → i < 32 → x ≡ reason_under taken i (reason_in reasons i)
    → AreWritten taken before reasons i → AreWritten taken before (set reasons i x) (i + 1)
written_more taken before reasons x i low is written = record {
  size = length-set reasons i x ∙ written.size;
  done = λ b h. elim (cases_eq b i) as (λ _. reason_in (set reasons i x) b ≡ reason_under taken b (reason_in before b)) [
    | inl e ↦ get_or-set_at reasons i b x None e (omega (arith, low, written.size)) ∙ is
        ∙ ap (reason_under taken i) (written.rest i (omega arith)) ∙ sym (ap (λ k. reason_under taken k (reason_in before k)) e)
    | inr ne ↦ get_or-set_other reasons i b x None ne ∙ written.done b (omega (arith, h, ne))
  ];
  rest = λ b h. get_or-set_other reasons i b x None (λ (e : b ≡ i). omega (arith, h, e)) ∙ written.rest b (omega (arith, h));
}

pub all_written : (taken i : ℕ) (before were reasons : List (Option Reason)) → 32 ≤ i → AreWritten taken before reasons i → before ≡ were → reasons ≡ reasons_under taken were
all_written taken i before were reasons end written is =
    fill_by_all (λ b. reason_under taken b (reason_in before b)) reasons 32 None written.size (λ k h. written.done k (omega (arith, h, end)))
    ∙ ap (reasons_under taken) is
