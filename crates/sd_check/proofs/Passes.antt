-- What a pass comes to with one more entry, bit by bit.
use Rattle.std.proofs.Common.{◌≡◌, ℕ, ◌<◌, ◌≤◌, ◌-◌, ◌++◌, length, map, take, drop, get_or, Bool, true, false, not, ◌&&◌, ◌||◌, ◌==◌, cond, List, [], ◌∷◌, Option, Some, None, refl, sym, ◌∙◌, ap, arith, subst, append-nil, append_assoc, eqb-true}
use Rattle.sd_check.proofs.Cited.{or-false, bit_at-zero, holds, mask_of, MappingValue, mapped, SidValue, same_sid, owner_rights, holds_when, mask_of-alike, is_allow, is_inherit_only, applies, applies_again, applies_in, decides, first, is_allowed_by, is_limit, is_restricting_subject, limits_owner, stands_for_subject, subject, TokenValue, is_restricting, stands_for, Pass, First, Second, Ace, AceKind, IsCheckProgress, part_of, option_or, is_none, find-append, list_any-append, CheckProgress, take_all, Asking, IsPass, IsSettled, TakesOn}
use Rattle.sd_check.specs.declared.check_progress.PassProgress.{PassProgress}
use Rattle.sd_check.proofs.Answered.{stands}

-- ---- a bit

none_next : (bit here : Bool) (o : Option Ace) (e : Ace) → (bit && is_none (option_or o (cond here (Some e) None))) ≡ ((bit && is_none o) && not (here && (bit && is_none o)))
none_next bit here None e = grind arith
none_next bit here (Some x) e = grind arith

allowed_next : (bit here : Bool) (o : Option Ace) (e : Ace)
    → (bit && is_allowed_by (option_or o (cond here (Some e) None))) ≡ ((bit && is_allowed_by o) || (is_allow e.kind && (here && (bit && is_none o))))
allowed_next bit here None e = grind arith
allowed_next bit here (Some x) e = grind arith

-- ---- what an entry decides

pub part_idle : (g : MappingValue) (who : AceKind → SidValue → Bool) (e : Ace) → is_inherit_only e ≡ true → part_of g who e ≡ 0
part_idle g who e idle = ap (λ io. cond (not io && who e.kind e.sid) (mapped g e.mask) 0) idle

pub part_in_force : (g : MappingValue) (who : AceKind → SidValue → Bool) (e : Ace) (applies : Bool) (m : ℕ) → is_inherit_only e ≡ false
    → applies ≡ who e.kind e.sid → m ≡ mapped g e.mask → cond applies m 0 ≡ part_of g who e
part_in_force g who e applies m in_force is_who is_mask =
    ap (λ a. cond a m 0) is_who ∙ ap (λ n. cond (who e.kind e.sid) n 0) is_mask ∙ ap (λ io. cond (not io && who e.kind e.sid) (mapped g e.mask) 0) (sym in_force)

-- ---- a pass

module _ (g : MappingValue) (who : AceKind → SidValue → Bool) (bits owners : ℕ) (seen : List Ace) (e : Ace) where
  at_end : (b : ℕ) → first g who (seen ++ e ∷ []) b ≡ option_or (first g who seen b) (cond (decides g who b e) (Some e) None)
  at_end b = find-append (decides g who b) seen (e ∷ [])

  limit_at_end : limits_owner (Some (seen ++ e ∷ [])) ≡ (limits_owner (Some seen) || is_limit e)
  limit_at_end = list_any-append is_limit seen (e ∷ []) ∙ ap (λ t. limits_owner (Some seen) || t) (or-false (is_limit e))

  pass_by : (s : PassProgress) (k : ℕ) (to : PassProgress) (keeps : ℕ)
      → ((b : ℕ) → b < 32 → holds to.undecided b ≡ (holds s.undecided b && not (decides g who b e && holds s.undecided b)))
      → ((b : ℕ) → b < 32 → holds to.allowed b ≡ (holds s.allowed b || (is_allow e.kind && (decides g who b e && holds s.undecided b))))
      → ((b : ℕ) → b < 32 → (holds to.allowed b || holds keeps b) ≡ (holds to.allowed b || (not (is_limit e) && holds k b)))
      → IsPass g who bits owners seen s k → IsPass g who bits owners (seen ++ e ∷ []) to keeps
  pass_by s k to keeps left got keep pass = record {
    undecided = λ b h. grind (arith, left b h, pass.undecided b h, at_end b, none_next (holds bits b) (decides g who b e) (first g who seen b) e);
    allowed = λ b h. grind (arith, got b h, pass.allowed b h, pass.undecided b h, at_end b, allowed_next (holds bits b) (decides g who b e) (first g who seen b) e);
    kept = λ b h. grind (arith, keep b h, got b h, pass.kept b h, limit_at_end);
  }

  pub pass_decides : (s : PassProgress) (k m : ℕ) (kind : AceKind) (to : PassProgress) (keeps : ℕ) → m ≡ part_of g who e → kind ≡ e.kind
      → to.undecided ≡ mask_of (λ b. holds s.undecided b && not (holds (mask_of (λ b. holds m b && holds s.undecided b) 32) b)) 32
      → to.allowed ≡ mask_of (λ b. holds s.allowed b || holds (cond (is_allow kind) (mask_of (λ b. holds m b && holds s.undecided b) 32) 0) b) 32
      → keeps ≡ cond (not (is_limit e)) k 0
      → IsPass g who bits owners seen s k → IsPass g who bits owners (seen ++ e ∷ []) to keeps
  pass_decides s k m kind to keeps is_m is_kind is_undecided is_allowed is_keeps =
      let d = mask_of (λ b. holds m b && holds s.undecided b) 32 in
      let here : (b : ℕ) → b < 32 → holds d b ≡ (decides g who b e && holds s.undecided b) = λ b h.
      stands (λ i. holds m i && holds s.undecided i) d b h refl
      ∙ ap (λ t. t && holds s.undecided b) (ap (λ n. holds n b) is_m ∙ holds_when (not (is_inherit_only e) && who e.kind e.sid) (mapped g e.mask) b) in
      pass_by s k to keeps
      (λ b h. stands (λ i. holds s.undecided i && not (holds d i)) to.undecided b h is_undecided ∙ ap (λ t. holds s.undecided b && not t) (here b h))
      (λ b h. stands (λ i. holds s.allowed i || holds (cond (is_allow kind) d 0) i) to.allowed b h is_allowed
      ∙ ap (λ t. holds s.allowed b || t) (holds_when (is_allow kind) d b ∙ ap (λ a. is_allow a && holds d b) is_kind ∙ ap (λ t. is_allow e.kind && t) (here b h)))
      (λ b h. ap (λ t. holds to.allowed b || t) (ap (λ n. holds n b) is_keeps ∙ holds_when (not (is_limit e)) k b))

  pass_silent : (s : PassProgress) (k : ℕ) → part_of g who e ≡ 0 → is_limit e ≡ false → IsPass g who bits owners seen s k → IsPass g who bits owners (seen ++ e ∷ []) s k
  pass_silent s k none free =
      let no : (b : ℕ) → (decides g who b e && holds s.undecided b) ≡ false = λ b.
      ap (λ t. t && holds s.undecided b) (sym (holds_when (not (is_inherit_only e) && who e.kind e.sid) (mapped g e.mask) b) ∙ ap (λ n. holds n b) none ∙ ap (λ n. n == 1) (bit_at-zero b)) in
      pass_by s k s k (λ b h. grind (arith, no b)) (λ b h. grind (arith, no b)) (λ b h. grind (arith, free))

  pub pass_over : (s : PassProgress) (k : ℕ) → IsSettled s k → IsPass g who bits owners seen s k → IsPass g who bits owners (seen ++ e ∷ []) s k
  pass_over s k over =
      pass_by s k s k (λ b h. grind (arith, over b h)) (λ b h. grind (arith, over b h)) (λ b h. grind (arith, over b h))

-- ---- an entry that has no part

pub takes_no_part : (g : MappingValue) (who : Option SidValue → Bool) (owner : Option SidValue) (e : Ace) → same_sid e.sid owner_rights ≡ false → who (Some e.sid) ≡ false
    → cond (not (is_inherit_only e) && who (subject owner e.sid)) (mapped g e.mask) 0 ≡ 0
takes_no_part g who owner e other none = rw (other, none) (grind arith)

-- an entry for a SID that isn't OWNER RIGHTS, and that nobody here stands for
module _ (g : MappingValue) (t : TokenValue) (owner : Option SidValue) (e : Ace) (s : SidValue) (is : s ≡ e.sid) (other : same_sid s owner_rights ≡ false)
    (first : (kind : AceKind) → stands_for t kind s ≡ false) (again : is_restricting t s ≡ false) where
  other_than : same_sid e.sid owner_rights ≡ false
  other_than = ap (λ (s : SidValue). same_sid s owner_rights) (sym is) ∙ other

  pub none_in : (pass : Pass) → part_of g (applies_in pass t owner) e ≡ 0
  none_in First = takes_no_part g (stands_for_subject t e.kind) owner e other_than (ap (stands_for t e.kind) (sym is) ∙ first e.kind)
  none_in Second = takes_no_part g (is_restricting_subject t) owner e other_than (ap (is_restricting t) (sym is) ∙ again)

  pub limits_nobody : is_limit e ≡ false
  limits_nobody = grind (arith, other_than)

-- ---- the end of a walk, and its beginning

-- a pass is over where no bit is undecided, nor any that the owner keeps and isn't allowed
pub nothing_hangs : (u a k hanging left : ℕ)
    → hanging ≡ mask_of (λ b. holds k b && not (holds a b)) 32
    → left ≡ mask_of (λ b. holds u b || holds hanging b) 32
    → (left == 0) ≡ true
    → (b : ℕ) → b < 32 → (holds u b || (holds k b && not (holds a b))) ≡ false
nothing_hangs u a k hanging left is_hanging is_left none b h =
    grind (
      arith,
      stands (λ i. holds k i && not (holds a i)) hanging b h is_hanging,
      stands (λ i. holds u i || holds hanging i) left b h is_left,
      ap (λ n. holds n b) (eqb-true left 0 none),
      ap (λ n. n == 1) (bit_at-zero b),
    )

-- then no further entry changes anything
pass_over_each : (g : MappingValue) (who : AceKind → SidValue → Bool) (bits owners : ℕ) (seen es : List Ace) (s : PassProgress) (k : ℕ)
    → IsSettled s k → IsPass g who bits owners seen s k → IsPass g who bits owners (seen ++ es) s k
pass_over_each g who bits owners seen [] s k over pass = subst (λ es. IsPass g who bits owners es s k) (sym (append-nil seen)) pass
pass_over_each g who bits owners seen (e ∷ es) s k over pass =
    subst (λ es. IsPass g who bits owners es s k) (append_assoc seen (e ∷ []) es)
    (pass_over_each g who bits owners (seen ++ e ∷ []) es s k over (pass_over g who bits owners seen e s k over pass))

pub pass_begins : (g : MappingValue) (who : AceKind → SidValue → Bool) (bits owners : ℕ) (s : PassProgress) (k : ℕ)
    → s.undecided ≡ bits → s.allowed ≡ 0 → k ≡ owners → IsPass g who bits owners [] s k
pass_begins g who bits owners s k all none keeps = record {
  undecided = λ b h. grind (arith, all);
  allowed = λ b h. grind (arith, none, ap (λ n. n == 1) (bit_at-zero b));
  kept = λ b h. grind (arith, keeps);
}

pub pass_grants : (g : MappingValue) (who : AceKind → SidValue → Bool) (bits owners : ℕ) (es : List Ace) (s : PassProgress) (k r : ℕ)
    → IsPass g who bits owners es s k → r ≡ mask_of (λ b. holds s.allowed b || holds k b) 32
    → r ≡ mask_of (λ b. (holds bits b && is_allowed_by (first g who es b)) || (holds owners b && not (limits_owner (Some es)))) 32
pass_grants g who bits owners es s k r pass is =
    is ∙ mask_of-alike _ _ 32 (λ b h. grind (arith, pass.kept b h, pass.allowed b h))

-- what two passes over one list allow each, and the owner keeps, they allow together
pub passes_grant : (first again : ℕ → Bool) (free : Bool) (bits owners one two r : ℕ)
    → one ≡ mask_of (λ b. (holds bits b && first b) || (holds owners b && free)) 32
    → two ≡ mask_of (λ b. (holds bits b && again b) || (holds owners b && free)) 32
    → r ≡ mask_of (λ b. holds one b && holds two b) 32
    → r ≡ mask_of (λ b. (holds bits b && (first b && again b)) || (holds owners b && free)) 32
passes_grant first again free bits owners one two r is_one is_two is =
    is ∙ mask_of-alike _ _ 32 (λ b h.
    grind (
      arith,
      stands (λ k. (holds bits k && first k) || (holds owners k && free)) one b h is_one,
      stands (λ k. (holds bits k && again k) || (holds owners k && free)) two b h is_two,
    ))

-- ---- entries that take one tally to another

-- a list that was taken apart
apart : {A : Type 0} (x : A) (xs : List A) (d : A) → 1 ≤ length xs → x ≡ get_or xs 0 d → xs ≡ x ∷ take (length xs - 1) (drop 1 xs)
apart x [] d some is = absurd (omega (arith, some))
apart x (y ∷ ys) d some is =
    let size : length ys ≡ length (y ∷ ys) - 1 = omega arith in
    ap (λ t. y ∷ t) (sym (take_all (length ys) ys (omega arith))) ∙ ap (λ t. t ∷ take (length ys) ys) (sym is) ∙ ap (λ n. x ∷ take n ys) size

pub takes_next : {A : Type 0} (ace : A → Ace) (both : Bool) (q : Asking) (x : A) (xs : List A) (d : A) (t u w : CheckProgress) → 1 ≤ length xs → x ≡ get_or xs 0 d
    → TakesOn both q (ace x ∷ []) t u → TakesOn both q (map ace (take (length xs - 1) (drop 1 xs))) u w → TakesOn both q (map ace xs) t w
takes_next ace both q x xs d t u w some is one others seen comes =
    subst (λ es. IsCheckProgress both q (seen ++ map ace es) w) (sym (apart x xs d some is))
    (subst (λ es. IsCheckProgress both q es w) (append_assoc seen (ace x ∷ []) (map ace (take (length xs - 1) (drop 1 xs)))) (others (seen ++ ace x ∷ []) (one seen comes)))

pub takes_none : {A : Type 0} (ace : A → Ace) (both : Bool) (q : Asking) (xs : List A) (t : CheckProgress) → length xs < 1 → TakesOn both q (map ace xs) t t
takes_none ace both q [] t none seen comes = subst (λ es. IsCheckProgress both q es t) (sym (append-nil seen)) comes
takes_none ace both q (x ∷ xs) t none seen comes = absurd (omega (arith, none))

-- an entry that takes part with nothing, and limits nobody
pub tally_silent : (both : Bool) (q : Asking) (e : Ace) (t : CheckProgress) → part_of q.mapping (applies q.token q.owner) e ≡ 0
    → (both ≡ true → part_of q.mapping (applies_again q.token q.owner) e ≡ 0) → is_limit e ≡ false → TakesOn both q (e ∷ []) t t
tally_silent both q e t none again free seen is = record {
  first = pass_silent q.mapping (applies q.token q.owner) _ _ seen e t.first t.kept none free is.first;
  second = λ yes. pass_silent q.mapping (applies_again q.token q.owner) _ _ seen e t.second t.kept (again yes) free (is.second yes);
}

pub tally_over : (both : Bool) (q : Asking) (seen es : List Ace) (t : CheckProgress) → IsSettled t.first t.kept → (both ≡ true → IsSettled t.second t.kept)
    → IsCheckProgress both q seen t → IsCheckProgress both q (seen ++ es) t
tally_over both q seen es t first second is = record {
  first = pass_over_each q.mapping (applies q.token q.owner) _ _ seen es t.first t.kept first is.first;
  second = λ yes. pass_over_each q.mapping (applies_again q.token q.owner) _ _ seen es t.second t.kept (second yes) (is.second yes);
}
