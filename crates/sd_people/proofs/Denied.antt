-- Whom a list grants nothing: a token that stands for no allow entry's subject and not for the owner, without privileges.
use Rattle.std.proofs.Common.{◌≡◌, ◌++◌, ◌∙◌, ◌<◌, ◌&&◌, ◌||◌, ◌==◌, ℕ, zero, suc, List, [], ◌∷◌, Bool, true, false, cond, not, Option, Some, None, nat_lt, refl, ap, sym, subst, arith, codes}
use Rattle.std.proofs.lemmas.List.Folds.{list_any-append}
use Rattle.std.proofs.lemmas.List.FromFn.{get_or-map-range_with_len}
use Rattle.std.specs.List.{AllByRecursion, list_any}
use Rattle.std.specs.Prelude.{if◌then◌else◌}
use Rattle.sd_sid.specs.Mapping.{MappingValue, mapped}
use Rattle.sd_sid.specs.Mask.{holds}
use Rattle.sd_sid.specs.Sid.{SidValue}
use Rattle.sd_acl.specs.Ace.{is_allow, is_inherit_only}
use Rattle.sd_acl.specs.declared.ace.Ace.{Ace}
use Rattle.sd_acl.specs.declared.ace.AceKind.{AceKind}
use Rattle.sd_acl.specs.declared.ace.AceKind.TheVariants.{Allow, Deny}
use Rattle.sd_check.specs.Check.{applies, applies_again, decides, first, is_allowed_by, is_granted, is_restricting_subject, limits_owner, reserved_of, stands_for_subject, subject, without_maximum}
use Rattle.sd_check.specs.Token.{TokenValue, is_restricted, no_privileges}
use Rattle.sd_check.specs.declared.verdict.Verdict.{Verdict}
use Rattle.sd_check.specs.declared.verdict.Verdict.TheVariants.{Granted, Denied, Reserved, EmptyRequest}
use Rattle.sd_explain.proofs.Causes.{named_grants}
use Rattle.sd_explain.specs.Parts.{bits_of, part_at, part_of, reason_in}
use Rattle.sd_explain.specs.Reasons.{grants, named_cause, reason_at, reasons_of}
use Rattle.sd_explain.specs.declared.explanation.Part.{Part}
use Rattle.sd_explain.specs.declared.reason.Cause.TheVariants as causes
use Rattle.sd_explain.specs.declared.reason.Reason.{Reason}
use Rattle.sd_explain.specs.declared.reason.Share.TheVariants as shares
use Rattle.sd_line.specs.Line.{LineOf, form, is_of, line_with}
use Rattle.sd_answer.specs.VerdictLines.{verdict_line}
use Rattle.sd_answer.specs.Why.{line_at, part_lines}
use Rattle.sd_answer.specs.declared.forms.TheConstants.{DENIED, GRANTED, LABEL_ALONE}

-- the token stands for none whom an effective allow entry speaks of
abbrev pub IsNotAllowed : Option SidValue → TokenValue → Ace → Type 0
IsNotAllowed owner t e = (not (is_inherit_only e) && is_allow e.kind) ≡ true → stands_for_subject t Allow (subject owner e.sid) ≡ false

pub record IsOutside (owner : Option SidValue) (es : List Ace) (t : TokenValue) : Type 0 where
  pub entries : AllByRecursion (IsNotAllowed owner t) es
  pub no_owner : stands_for_subject t Allow owner ≡ false
  pub privileges : t.privileges ≡ no_privileges

denied_first : (kind : AceKind) (effective bit : Bool) (other : Bool) (allowed : Bool) → ((not effective && is_allow kind) ≡ true → allowed ≡ false) → (kind ≡ Allow → other ≡ allowed)
    → ((not effective && other) && bit) ≡ true → is_allow kind ≡ false
denied_first Allow effective bit other allowed none same decided = by effective none (same refl) decided
  where
    by : (effective : Bool) → ((not effective && true) ≡ true → allowed ≡ false) → other ≡ allowed → ((not effective && other) && bit) ≡ true → true ≡ false
    by true none same decided = sym decided
    by false none same decided = sym decided ∙ ap (λ x. x && bit) (same ∙ none refl)
denied_first Deny effective bit other allowed none same decided = refl

module _ (owner : Option SidValue) (t : TokenValue) (g : MappingValue) (b : ℕ) where
  same_kind : (e : Ace) → e.kind ≡ Allow → applies t owner e.kind e.sid ≡ stands_for_subject t Allow (subject owner e.sid)
  same_kind e is = ap (λ k. stands_for_subject t k (subject owner e.sid)) is

  none_allows : (es : List Ace) → AllByRecursion (IsNotAllowed owner t) es → is_allowed_by (first g (applies t owner) es b) ≡ false
  none_allows [] none = refl
  none_allows (e ∷ es) none = by (decides g (applies t owner) b e) refl (none_allows es none.1)
    where
      by : (d : Bool) → decides g (applies t owner) b e ≡ d → is_allowed_by (first g (applies t owner) es b) ≡ false
          → is_allowed_by (cond d (Some e) (first g (applies t owner) es b)) ≡ false
      by true is rest = denied_first e.kind (is_inherit_only e) _ (applies t owner e.kind e.sid) (stands_for_subject t Allow (subject owner e.sid)) none.0 (same_kind e) is
      by false is rest = rest

  all_false : (low allowed restricted again owns owns_again limits take security : Bool) → allowed ≡ false → owns ≡ false → take ≡ false → security ≡ false
      → (((low && allowed) && (not restricted || (low && again)))
      || ((((owns && (not restricted || owns_again)) && limits) && (b == 17 || b == 18)) || (take && b == 19) || (security && b == 24))) ≡ false
  all_false low allowed restricted again owns owns_again limits take security a o p q = grind (arith, a, o, p, q)

  pub grants_nothing : (es : List Ace) → IsOutside owner es t → is_granted owner (Some es) g t b ≡ false
  grants_nothing es is =
      all_false (nat_lt b 21) (is_allowed_by (first g (applies t owner) es b)) (is_restricted t) (is_allowed_by (first g (applies_again t owner) es b))
      (stands_for_subject t Allow owner) (is_restricting_subject t owner) (not (limits_owner (Some es))) t.privileges.take_ownership t.privileges.security
      (none_allows es is.entries) is.no_owner (ap (λ p. p.take_ownership) is.privileges) (ap (λ p. p.security) is.privileges)

  pub cause_denies : (es : List Ace) → IsOutside owner es t → grants (named_cause owner (Some es) g t b) ≡ false
  cause_denies es is = named_grants owner g t b (Some es) ∙ grants_nothing es is

pub all_both : {A : Type 0} (P : A → Type 0) (xs ys : List A) → AllByRecursion P xs → AllByRecursion P ys → AllByRecursion P (xs ++ ys)
all_both P [] ys one two = two
all_both P (x ∷ xs) ys one two = (one.0, all_both P xs ys one.1 two)

-- ---- reasons

Denies : Option Reason → Type 0
Denies None = Unit {0}
Denies (Some reason) = grants reason.cause ≡ false

module _ (owner : Option SidValue) (t : TokenValue) (g : MappingValue) (es : List Ace) (is : IsOutside owner es t) (r : ℕ) where
  reason_denies : (b : ℕ) → Denies (reason_at owner (Some es) g t r b)
  unfolding Denies
  reason_denies b =
      by (reserved_of r == 0) (holds (reserved_of r) b) (holds (mapped g (without_maximum r)) b) (holds r 25 && nat_lt b 21) (cause_denies owner t g b es is)
    where
      by : (free reserved named maximum : Bool) → grants (named_cause owner (Some es) g t b) ≡ false
          → Denies (cond (not free) (cond reserved (Some (record { named = true; cause = causes.Reserved })) None)
          (cond named (Some (record { named = true; cause = named_cause owner (Some es) g t b }))
          (cond maximum (Some (record { named = false; cause = named_cause owner (Some es) g t b })) None)))
      by false true named maximum denies = refl
      by false false named maximum denies = tt
      by true reserved true maximum denies = denies
      by true reserved false true denies = denies
      by true reserved false false denies = tt

  denied_at : (b : ℕ) → b < 32 → Denies (reason_in (reasons_of owner (Some es) g t r) b)
  denied_at b low = subst Denies (sym (get_or-map-range_with_len (reason_at owner (Some es) g t r) 0 32 b b None low (omega arith))) (reason_denies b)

  -- ---- lines

  abbrev NotGranted : LineOf → Type 0
  NotGranted l = is_of (codes "granted") l ≡ false

  one_denied : (part : Part) → grants part.cause ≡ false → AllByRecursion NotGranted (line_at owner es (Some part))
  one_denied part denies = (ap (λ (b : Bool). is_of (codes "granted") (line_with (if b then form GRANTED else form DENIED).0 [])) denies, tt)

  line_denied : (b : ℕ) (o : Option Reason) → Denies o → AllByRecursion NotGranted (line_at owner es (part_of (reason_in (reasons_of owner (Some es) g t r)) b o))
  unfolding Denies
  line_denied b None denies = tt
  line_denied b (Some reason) denies = by (bits_of (shares.Because reason.cause) (reason_in (reasons_of owner (Some es) g t r)) b == 0)
    where
      by : (begins : Bool) → AllByRecursion NotGranted (line_at owner es (cond begins
          (Some (record { mask = bits_of (shares.Because reason.cause) (reason_in (reasons_of owner (Some es) g t r)) 32; cause = reason.cause })) None))
      by true = one_denied (record { mask = bits_of (shares.Because reason.cause) (reason_in (reasons_of owner (Some es) g t r)) 32; cause = reason.cause }) denies
      by false = tt

  pub part_lines_denied : (n : ℕ) → n < 33 → AllByRecursion NotGranted (part_lines owner es (reason_in (reasons_of owner (Some es) g t r)) n)
  unfolding part_lines
  part_lines_denied zero low = tt
  part_lines_denied (suc n) low =
      all_both NotGranted (part_lines owner es (reason_in (reasons_of owner (Some es) g t r)) n) _ (part_lines_denied n (omega (arith, low)))
      (line_denied n (reason_in (reasons_of owner (Some es) g t r) n) (denied_at n (omega (arith, low))))

-- ---- what is left out is said by no line of `why`

abbrev Leaves : LineOf → Bool
Leaves l = is_of LABEL_ALONE.0.now l

verdict_leaves : (verdict : Verdict) → Leaves (verdict_line verdict) ≡ false
verdict_leaves (Granted mask) = refl
verdict_leaves (Denied mask) = refl
verdict_leaves (Reserved mask) = refl
verdict_leaves EmptyRequest = refl

part_leaves : (b : Bool) → is_of LABEL_ALONE.0.now (line_with (if b then form GRANTED else form DENIED).0 []) ≡ false
part_leaves true = refl
part_leaves false = refl

line_leaves : (owner : Option SidValue) (es : List Ace) (o : Option Part) → list_any Leaves (line_at owner es o) ≡ false
line_leaves owner es None = refl
line_leaves owner es (Some part) = ap (λ b. b || false) (part_leaves (grants part.cause))

parts_leave : (owner : Option SidValue) (es : List Ace) (reasons : ℕ → Option Reason) (n : ℕ) → list_any Leaves (part_lines owner es reasons n) ≡ false
unfolding part_lines
parts_leave owner es reasons zero = refl
parts_leave owner es reasons (suc n) =
    list_any-append Leaves (part_lines owner es reasons n) (line_at owner es (part_at reasons n))
    ∙ ap (λ b. b || list_any Leaves (line_at owner es (part_at reasons n))) (parts_leave owner es reasons n) ∙ line_leaves owner es (part_at reasons n)

pub why_leaves_nothing : (verdict : Verdict) (owner : Option SidValue) (es : List Ace) (reasons : ℕ → Option Reason)
    → list_any Leaves (verdict_line verdict ∷ part_lines owner es reasons 32) ≡ false
why_leaves_nothing verdict owner es reasons = ap (λ b. b || list_any Leaves (part_lines owner es reasons 32)) (verdict_leaves verdict) ∙ parts_leave owner es reasons 32
