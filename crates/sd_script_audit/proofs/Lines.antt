-- The answers to the lines of an audit.
use Rattle.sd_script_audit.proofs.Cited.{AreAnswered, AreAnsweredInAudit, AsksInAudit, Audited, Err, IfErr, IfOk, IfSome, IsAnsweredInAudit, IsDoneOrTold, IsToldInAudit, LineOf, LineRequest, List, None, Ok, Option, PrintsNextInAudit, Progress, Result, ScriptCounts, Some, Style, Vec, ap, append_assoc, end_of, inl, inr, is_open, joined, printed, script_options_of, sym, ℕ, ◌++◌, ◌∙◌, ◌≡◌}

-- a line is answered as what it asks for is done, or without that
pub answered : (workers : ℕ) (old new : Progress) (line : List ℕ) (answer : List LineOf) (found : Result LineRequest (Option (Vec LineOf)))
    → IfOk found (λ asked. AsksInAudit (script_options_of old.store).notation (is_open old.store) line asked)
    → IfErr found (λ told. IfSome told (λ lines. IsToldInAudit (script_options_of old.store).notation (is_open old.store) line lines.items))
    → IsDoneOrTold workers old found answer new → IsAnsweredInAudit workers old line answer new
answered workers old new line answer (Ok asked) asks told done = inr (asked, asks, done)
answered workers old new line answer (Err (Some lines)) asks told done = inl (rw (done.0) told, done.1)
answered workers old new line answer (Err None) asks told done = absurd done

-- lines, and those after them
pub lines_before : (style : Style) (workers : ℕ) (old between : Audited) (lines front back : List (List ℕ)) (output p q : List ℕ) (counts : ScriptCounts)
    → lines ≡ front ++ back → output ≡ p ++ q
    → AreAnswered (PrintsNextInAudit style workers) old front p between → AreAnsweredInAudit style workers between back q counts
    → AreAnsweredInAudit style workers old lines output counts
lines_before style workers old between lines front back output p q counts all whole first (last, answers, second, is, counted) =
    let end = printed style None (end_of last.progress.store last.progress.queries) in
    (last, p ++ answers, rw all (joined (PrintsNextInAudit style workers) old between last front back p answers first second), whole ∙ ap (λ l. p ++ l) is ∙ sym (append_assoc p answers end), counted)
