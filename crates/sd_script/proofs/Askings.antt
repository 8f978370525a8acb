-- What a line asks for, from what its command's arguments ask for.
use Rattle.sd_script.proofs.Cited.{Arguments, Bool, Err, Fault, IsUtf8, LineRequest, LineStop, List, None, Notation, Ok, Option, Parses, Result, ScriptCommand, Some, UnlessMemory, ap, asks, asks_where, command_of, false, if◌then◌else◌, inl, is_untimely, line_asks, reads, reads_where, refl, result_transpose, subst, true, words_of, ℕ, ◌∙◌, ◌≡◌}
use Rattle.sd_script.specs.declared.fault.LineFault.TheVariants as faults
use Rattle.sd_script.proofs.Readings.{UnlessMemory-weaker}

-- a line of text whose words are this command
module _ (notation : Notation) (is_open : Bool) (line text : List ℕ) (words arguments : List (List ℕ)) (name : ScriptCommand)
    (same : text ≡ line) (utf8 : IsUtf8 line) (parted : words ≡ words_of text) (found : Some (name, arguments) ≡ command_of words) where
  asks_as_command : (r : Result LineRequest LineStop) → UnlessMemory (reads_where notation is_open name (asks name arguments)) r
      → UnlessMemory (line_asks notation is_open line) r
  asks_as_command r read =
      UnlessMemory-weaker (reads_where notation is_open name (asks name arguments)) (line_asks notation is_open line) r (λ told asked. inl (
        utf8,
        subst (λ found. asks_where notation is_open found told) (found ∙ ap command_of (parted ∙ ap words_of same)) asked,
      )) read

  -- its arguments are read, and it is timely or not
  pub line_parsed : (parsed : Result (Option LineRequest) LineStop) (r : Result LineRequest LineStop) (untimely : Bool) → Parses notation (asks name arguments) parsed
      → Some r ≡ result_transpose parsed → is_untimely is_open name ≡ untimely → UnlessMemory (line_asks notation is_open line) (if untimely then Err (Fault faults.Open) else r)
  line_parsed parsed r untimely some same is = asks_as_command _ (comes (asks name arguments) parsed untimely some same is) where
    read : (asked : Arguments) (parsed : Result (Option LineRequest) LineStop) → Parses notation (Some asked) parsed → Some r ≡ result_transpose parsed → UnlessMemory (reads notation asked) r
    read asked (Ok (Some a)) some same = let is : r ≡ Ok a = cc (same) in rw is some
    read asked (Ok None) some same = absurd some
    read asked (Err stop) some same = let is : r ≡ Err stop = cc (same) in rw is some

    comes : (asked : Option Arguments) (parsed : Result (Option LineRequest) LineStop) (untimely : Bool) → Parses notation asked parsed → Some r ≡ result_transpose parsed
        → is_untimely is_open name ≡ untimely → UnlessMemory (reads_where notation is_open name asked) (if untimely then Err (Fault faults.Open) else r)
    comes None parsed untimely some same is = absurd (cc (rw some at same))
    comes (Some asked) parsed true some same is = rw is refl
    comes (Some asked) parsed false some same is = UnlessMemory-weaker (reads notation asked) (reads_where notation is_open name (Some asked)) r
        (λ told reads. rw is reads) (read asked parsed some same)
