-- The laws of && and || that go over lists.
use Rattle.std.proofs.Common.{refl, ◌≡◌}
use Rattle.sd_evaluation.specs.Truth.{and_truth, or_truth}
use Rattle.sd_evaluation.specs.declared.truth.Truth.{Truth}
use Rattle.sd_evaluation.specs.declared.truth.Truth.TheVariants.{False, True, Unknown}

pub or_false : (a : Truth) → or_truth a False ≡ a
or_false True = refl
or_false False = refl
or_false Unknown = refl

pub and_true : (a : Truth) → and_truth a True ≡ a
and_true True = refl
and_true False = refl
and_true Unknown = refl

pub or_assoc : (a b c : Truth) → or_truth (or_truth a b) c ≡ or_truth a (or_truth b c)
or_assoc True b c = refl
or_assoc False b c = refl
or_assoc Unknown True c = refl
or_assoc Unknown False c = refl
or_assoc Unknown Unknown True = refl
or_assoc Unknown Unknown False = refl
or_assoc Unknown Unknown Unknown = refl

pub and_assoc : (a b c : Truth) → and_truth (and_truth a b) c ≡ and_truth a (and_truth b c)
and_assoc True b c = refl
and_assoc False b c = refl
and_assoc Unknown False c = refl
and_assoc Unknown True c = refl
and_assoc Unknown Unknown True = refl
and_assoc Unknown Unknown False = refl
and_assoc Unknown Unknown Unknown = refl
