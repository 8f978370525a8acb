-- What is done is made, also where its answer can't be told.
use Rattle.sd_script.proofs.Cited.{Asking, Err, Importing, IsAnswered, IsDone, IsMade, IsTold, IsUntold, LineOf, LineRequest, List, Moving, Ok, OnErr, Opened, Result, Session, Trimming, cases_Bool, inl, inr, is_silent, ℕ}

made : (old new : Session) (asked : LineRequest) (answer : List LineOf) → IsDone old asked answer new → IsMade old asked new
made (Opened notation m) new (Asking request) answer (reply, machine, steps, said, is) = (reply, machine, steps, is)
made (Opened notation m) new (Trimming edit) answer (reply, machine, steps, said, is) = (reply, machine, steps, is)
made (Opened notation m) new (Importing edit path given) answer (reply, machine, steps, said, is) = (reply, machine, steps, is)
made (Opened notation m) new (Moving edit source target) answer (reply, machine, steps, said, is) = (reply, machine, steps, is)
made old new asked answer done = (answer, done)

-- a line that was told, whose answer doesn't grow to its end
pub told_untold : (old new : Session) (line : List ℕ) (told : List LineOf) → IsTold old line told new → IsUntold old line new
told_untold old new line told (inl (asked, asks, done)) = inr (asked, asks, made old new asked told done)
told_untold old new line told (inr (fault, asks, said, same)) = inl same

-- and one that was answered, whose answer isn't printed
pub answered_untold : (old new : Session) (line : List ℕ) (answer : List LineOf) → IsAnswered old line answer new → IsUntold old line new
answered_untold old new line answer answered = elim (cases_Bool (is_silent line)) [
  | inl silent ↦ let said = rw silent at answered in inl said.1
  | inr loud ↦ let said = rw loud at answered in told_untold old new line said.0 said.1
]

pub on_err : {T E P : Type 0} (r : Result T E) → P → OnErr r P
on_err (Ok x) p = tt
on_err (Err e) p = p
