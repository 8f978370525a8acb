-- The answer where nothing is made: an argument or the object is refused, or memory runs out.
use Rattle.std.proofs.Common.{◌≡◌, refl, sym, ℕ, List}
use Rattle.std.specs.Prelude.{Result}
use Rattle.sd_c.proofs.Cited.{inl, inr, subst}
use Rattle.sd_c.specs.CallAnswer.{not_read, why_not}
use Rattle.sd_c.specs.Creating.{AnswersCreate, not_created}
use Rattle.sd_c.specs.Request.{Fails}
use Rattle.sd_c.specs.declared.stop.NotRead.{NotRead}
use Rattle.sd_c.specs.declared.stop.Stop.{Stop}
use Rattle.sd_c.specs.declared.stop.Stop.TheVariants as stops

pub stopped : (TakesIt : Type 0) (form : Result (List ℕ) NotRead) (old : List ℕ) (stop : Stop)
    → Fails stop form → (stop ≡ stops.Memory → TakesIt) → AnswersCreate TakesIt form old old (not_created (why_not stop))
stopped TakesIt form old stops.Memory fails memory = inr (memory refl, refl, refl)
stopped TakesIt form old (stops.NotRead why) fails memory =
    subst (λ f. AnswersCreate TakesIt f old old (not_created (not_read why))) (sym fails) (inl (refl, refl))
