-- One walk that finds for each bit the entry that settles it.
use Rattle.sd_explain.proofs.Cited.{Ace, AceKind, Allowed, Bool, Denied, Finding, List, MappingValue, NoEntry, SidValue, ap, arith, bit_at-zero, cond, decides, drop, drop_all, eqb-true, false, finding_of, get_or, holds, holds_when, is_allow, is_inherit_only, length, mapped, mask_of, not, part_of, stands, true, ℕ, ◌&&◌, ◌+◌, ◌<◌, ◌==◌, ◌∙◌, ◌≡◌, ◌≤◌}
use Rattle.sd_explain.proofs.Findings.{finding_from, from_the_first, passes, settled}

-- an undecided bit has no finding yet: that of the rest of the list is its own. Any other bit has its finding
pub record IsFound (g : MappingValue) (who : AceKind → SidValue → Bool) (es : List Ace) (fs : List Finding) (u bits i : ℕ) : Type 0 where
  pub size : length fs ≡ 32
  pub left : (b : ℕ) → b < 32 → holds bits b ≡ true → holds u b ≡ true → finding_of g who es b ≡ finding_from (decides g who b) (drop i es) i
  pub none : (b : ℕ) → b < 32 → holds bits b ≡ true → holds u b ≡ true → get_or fs b NoEntry ≡ NoEntry
  pub done : (b : ℕ) → b < 32 → holds bits b ≡ true → holds u b ≡ false → get_or fs b NoEntry ≡ finding_of g who es b

module _ (g : MappingValue) (who : AceKind → SidValue → Bool) (es : List Ace) (bits : ℕ) where
  pub found_none : (fs : List Finding) → length fs ≡ 32 → ((b : ℕ) → b < 32 → get_or fs b NoEntry ≡ NoEntry) → IsFound g who es fs bits bits 0
  found_none fs size empty =
      record { size = size; left = λ b h want is. from_the_first (decides g who b) es; none = λ b h want is. empty b h; done = λ b h want is. absurd cc }

  -- the mask that an entry takes part with holds the bits that the entry settles
  at_mask : (e : Ace) (m b : ℕ) → m ≡ part_of g who e → holds m b ≡ decides g who b e
  at_mask e m b is_m = ap (λ n. holds n b) is_m ∙ holds_when (not (is_inherit_only e) && who e.kind e.sid) (mapped g e.mask) b

  pub found_passed : (fs : List Finding) (u i m d : ℕ) (e : Ace) → i < length es → e ≡ get_or es i e
      → m ≡ part_of g who e → d ≡ mask_of (λ b. holds m b && holds u b) 32 → (d == 0) ≡ true
      → IsFound g who es fs u bits i → IsFound g who es fs u bits (i + 1)
  found_passed fs u i m d e low is is_m is_d empty found = record {
    size = found.size;
    left = λ b h want un.
        found.left b h want un
        ∙ passes (decides g who b) es i e low is
        (grind (arith, un, at_mask e m b is_m, stands (λ k. holds m k && holds u k) d b h is_d, ap (λ n. holds n b) (eqb-true d 0 empty), ap (λ n. n == 1) (bit_at-zero b)));
    none = found.none;
    done = found.done;
  }

  -- a bit that is undecided after an entry too
  still : (u d v m b : ℕ) → b < 32 → d ≡ mask_of (λ b. holds m b && holds u b) 32 → v ≡ mask_of (λ b. holds u b && not (holds d b)) 32 → holds v b ≡ (holds u b && not (holds m b && holds u b))
  still u d v m b h is_d is_v = stands (λ k. holds u k && not (holds d k)) v b h is_v ∙ ap (λ t. holds u b && not t) (stands (λ k. holds m k && holds u k) d b h is_d)

  pub found_more : (fs gs : List Finding) (u v i m d : ℕ) (e : Ace) (f : Finding) → i < length es → e ≡ get_or es i e
      → m ≡ part_of g who e → d ≡ mask_of (λ b. holds m b && holds u b) 32 → v ≡ mask_of (λ b. holds u b && not (holds d b)) 32
      → f ≡ cond (is_allow e.kind) (Allowed i) (Denied i)
      → length gs ≡ 32
      → ((b : ℕ) → b < 32 → get_or gs b NoEntry ≡ cond (holds d b) f (get_or fs b NoEntry))
      → IsFound g who es fs u bits i → IsFound g who es gs v bits (i + 1)
  found_more fs gs u v i m d e f low is is_m is_d is_v is_f size noted found = record {
    size = size;
    left = λ b h want un.
        let at = still u d v m b h is_d is_v in
        found.left b h want (grind (arith, at, un)) ∙ passes (decides g who b) es i e low is (grind (arith, at, un, at_mask e m b is_m));
    none = λ b h want un.
        grind (arith, un, still u d v m b h is_d is_v, stands (λ k. holds m k && holds u k) d b h is_d, noted b h, found.none b h want);
    done = λ b h want gone.
        let part = stands (λ k. holds m k && holds u k) d b h is_d in
        let first = settled (decides g who b) es i e low is in
        grind (arith, gone, still u d v m b h is_d is_v, part, noted b h, at_mask e m b is_m, is_f, found.done b h want, found.left b h want, first);
  }

  -- where the walk ends: at the end of the list, or where no bit is undecided
  pub found_all : (fs : List Finding) (u i b : ℕ) → length es ≤ i → b < 32 → holds bits b ≡ true → IsFound g who es fs u bits i → get_or fs b NoEntry ≡ finding_of g who es b
  found_all fs u i b end h want found =
      grind (arith, found.none b h want, found.left b h want, found.done b h want, ap (λ rest. finding_from (decides g who b) rest i) (drop_all i es end))

  pub found_settled : (fs : List Finding) (u i b : ℕ) → (u == 0) ≡ true → b < 32 → holds bits b ≡ true → IsFound g who es fs u bits i → get_or fs b NoEntry ≡ finding_of g who es b
  found_settled fs u i b none h want found = found.done b h want (ap (λ n. holds n b) (eqb-true u 0 none) ∙ ap (λ n. n == 1) (bit_at-zero b))
