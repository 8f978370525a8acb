-- The control bits of keywords are bits that a descriptor keeps.
use Rattle.std.proofs.Common.{cond, false, refl, true, ℕ, ◌+◌, ◌≡◌}
use Rattle.std.specs.Prelude.{Bool, bit_and, ◌==◌, ◌&&◌}
use Rattle.std.proofs.lemmas.Bool.{and_parts, eqb-true}
use Rattle.sd_text.specs.declared.descriptor.DaclWords.{DaclWords}
use Rattle.sd_whole.specs.Reading.{kept_bits}
use Rattle.sd_whole_parse.specs.Descriptor.{dacl_bits, sacl_bits}

-- a test passes for both values
abbrev both : (Bool → Bool) → Bool
both test = test true && test false

both_at : (test : Bool → Bool) → both test ≡ true → (b : Bool) → test b ≡ true
both_at test passes true = (and_parts (test true) (test false) passes).0
both_at test passes false = (and_parts (test true) (test false) passes).1

abbrev dacl_sum : Bool → Bool → Bool → ℕ
dacl_sum a b c = cond a 0x1000 0 + cond b 0x0100 0 + cond c 0x0400 0

abbrev sum : Bool → Bool → Bool → Bool → Bool → Bool → ℕ
sum a b c d e f = dacl_sum a b c + (cond d 0x2000 0 + cond e 0x0200 0 + cond f 0x0800 0)

abbrev is_kept : Bool → Bool → Bool → Bool → Bool → Bool → Bool
is_kept a b c d e f = bit_and (sum a b c d e f) kept_bits == sum a b c d e f

all_kept : both (λ a. both (λ b. both (λ c. both (λ d. both (λ e. both (λ f. is_kept a b c d e f)))))) ≡ true
all_kept = refl

kept : (a b c d e f : Bool) → is_kept a b c d e f ≡ true
kept a b c d e f =
    both_at (λ f. is_kept a b c d e f)
    (both_at (λ e. both (λ f. is_kept a b c d e f))
    (both_at (λ d. both (λ e. both (λ f. is_kept a b c d e f)))
    (both_at (λ c. both (λ d. both (λ e. both (λ f. is_kept a b c d e f))))
    (both_at (λ b. both (λ c. both (λ d. both (λ e. both (λ f. is_kept a b c d e f)))))
    (both_at (λ a. both (λ b. both (λ c. both (λ d. both (λ e. both (λ f. is_kept a b c d e f)))))) all_kept a) b) c) d) e) f

pub control_kept : (dacl sacl : DaclWords) → bit_and (dacl_bits dacl + sacl_bits sacl) kept_bits ≡ dacl_bits dacl + sacl_bits sacl
control_kept dacl sacl =
    eqb-true _ _ (kept dacl.protected dacl.auto_req dacl.auto_inherited sacl.protected sacl.auto_req sacl.auto_inherited)
