-- Lines that are answered as they end, and what is left where a run ends.
use Rattle.sd_lines.proofs.Cited.{All-append, Answered, Answering, AnswersEnded, AnswersPart, Appends, Appends-trans, AppendsBeginning, AppendsOutput, AreAnswered, Consumes, Consumes-all, Ending, Feed, Form, HasNoEnd, IsAtEnd, IsEnded, IsLong, KEPT_BYTES, List, MAX_INPUT_BYTES, Option, Prints, PrintsAndLeaves, Zero, [], and_parts, ap, append-nil, append_assoc, arith, asked_of, cases_lt, end_byte, ended_line, ends_run, false, inl, inr, length, length-take, lines_in, lit<, ltb, nat_tests, nil_from_length, of_form, refl, sym, take, take-append-add, take-append-le, take_all, text_of, true, ℕ, ◌++◌, ◌+◌, ◌-◌, ◌<◌, ◌∙◌, ◌∷◌, ◌≡◌, ◌≤◌, ◌⊎◌}
use Rattle.sd_lines.proofs.Cutting.{ends, lines_cut, lines_last, no_lines}

-- ---- what is kept of a line

kept_more : (most : ℕ) (begun part line : List ℕ) → line ≡ take most begun
    → line ++ take (most - length line) part ≡ take most (begun ++ part)
kept_more most begun part line is = rw is (by_length (cases_lt most (length begun))) where
  by_length : (most < length begun) ⊎ (length begun ≤ most)
      → take most begun ++ take (most - length (take most begun)) part ≡ take most (begun ++ part)
  by_length (inl over) =
      let full : most - length (take most begun) ≡ 0 = omega (arith, length-take most begun) in
      rw (full, take-append-le most begun part (omega arith)) (append-nil (take most begun))
  by_length (inr within) =
      let room : length begun + (most - length begun) ≡ most = omega arith in
      rw (take_all most begun within) (sym (rw room at (take-append-add begun part (most - length begun))))

one_less : (ending : Ending) (l : List ℕ) → length l ≤ length (ended_line ending l) + 1
one_less Feed l = let cut = length-take (length l - 1) l in grind (arith, nat_tests)
one_less Zero l = omega arith

-- what is asked of a line is asked of what is kept of it
pub asked_kept : (most : ℕ) (form : Form) (begun : List ℕ) (of : List ℕ → List ℕ) → MAX_INPUT_BYTES + 1 < most → ((l : List ℕ) → length l ≤ length (of l) + 1)
    → ends_run form (take most begun) ≡ false → asked_of form (of (take most begun)) ≡ asked_of form (of begun)
asked_kept most form begun of enough shorter goes_on = by_length (cases_lt most (length begun)) where
  by_length : (most < length begun) ⊎ (length begun ≤ most) → asked_of form (of (take most begun)) ≡ asked_of form (of begun)
  by_length (inl over) =
      let full : length (take most begun) ≡ most = omega (arith, length-take most begun) in
      let one = shorter (take most begun) in
      let two = shorter begun in
      grind (arith, nat_tests)
  by_length (inr within) = rw (take_all most begun within) refl

module _ {State : Type 0} {form : Form} {Answer : Answering State} {old : State} {start : Option (List ℕ)}
    {text line unwritten rest : List ℕ} {new : State} {now : Option (List ℕ)} (a : Answered form Answer old start text new line unwritten now rest) where
  -- a part of a line
  pub part_kept : (part left next : List ℕ) → rest ≡ part ++ left → HasNoEnd form.ending part → next ≡ line ++ take (KEPT_BYTES - length line) part
      → Answered form Answer old start text new next unwritten now left
  part_kept part left next cut none grown = record {
    ended = a.ended;
    begun = a.begun ++ part;
    written = a.written;
    parts = a.parts ∙ rw cut (simp append_assoc);
    whole = a.whole;
    unended = All-append (λ b. ends form.ending b ≡ false) a.begun part a.unended none;
    kept = grown ∙ kept_more KEPT_BYTES a.begun part line a.kept;
    appended = a.appended;
    advances = a.advances;
  }

  -- its end, and the answer to the line
  pub line_answered : (left printed : List ℕ) (later : State) → rest ≡ end_byte form.ending ∷ left
      → ends_run form line ≡ false → Answer new (asked_of form (ended_line form.ending line)) printed later
      → Answered form Answer old start text later [] (unwritten ++ printed) now left
  line_answered left printed later cut goes_on answer =
      let end = end_byte form.ending in
      let asked = rw (asked_kept KEPT_BYTES form a.begun (ended_line form.ending) (lit< tt) (one_less form.ending) (rw (a.kept) at goes_on)) at (rw (a.kept) at answer) in
      record {
        ended = a.ended ++ (a.begun ++ end ∷ []);
        begun = [];
        written = a.written;
        parts = a.parts ∙ rw cut (simp append_assoc);
        whole = inr (a.ended ++ a.begun, sym (append_assoc a.ended a.begun (end ∷ [])));
        unended = λ k d low. absurd (omega (arith, low));
        kept = refl;
        appended = a.appended;
        advances = λ more back last answered.
            rw (append_assoc a.ended (a.begun ++ end ∷ []) more, append_assoc a.begun (end ∷ []) more, append_assoc unwritten printed back)
            (a.advances (a.begun ++ end ∷ more) (printed ++ back) last
            (rw (lines_cut form.ending a.begun more a.unended) (printed, later, back, asked, answered, refl)));
      }

  -- the answers are written
  pub all_written : (after : Option (List ℕ)) → Appends now after unwritten → Answered form Answer old start text new line [] after rest
  all_written after wrote = record {
    ended = a.ended;
    begun = a.begun;
    written = a.written ++ unwritten;
    parts = a.parts;
    whole = a.whole;
    unended = a.unended;
    kept = a.kept;
    appended = Appends-trans start now after a.written unwritten a.appended wrote;
    advances = λ more back last answered. rw (append_assoc a.written unwritten back) (a.advances more back last answered);
  }

  -- the last line, where it lacks its end

  pub no_last : rest ≡ [] → line ≡ [] → AreAnswered (of_form form Answer) new (lines_in form.ending (a.begun ++ rest)) [] new
  no_last end none =
      let nothing : a.begun ≡ [] = nil_from_length a.begun (omega (arith, length-take KEPT_BYTES a.begun, ap length (sym a.kept ∙ none))) in
      rw (nothing, end, no_lines form.ending) (refl, refl)

  pub one_last : (printed : List ℕ) (last : State) → rest ≡ [] → 0 < length line → ends_run form line ≡ false → Answer new (asked_of form line) printed last
      → AreAnswered (of_form form Answer) new (lines_in form.ending (a.begun ++ rest)) printed last
  one_last printed last end some goes_on answer =
      let asked = rw (asked_kept KEPT_BYTES form a.begun (λ l. l) (lit< tt) (λ l. omega arith) (rw (a.kept) at goes_on)) at (rw (a.kept) at answer) in
      rw (end, append-nil a.begun, lines_last form.ending a.begun a.unended (omega (arith, length-take KEPT_BYTES a.begun, ap length a.kept)))
      (printed, last, [], asked, (refl, refl), sym (append-nil printed))

-- ---- what is left

module _ {State : Type 0} {form : Form} {Answer : Answering State} {old : State} {start : Option (List ℕ)}
    {line unwritten rest : List ℕ} {new : State} {now : Option (List ℕ)} (read : List ℕ)
    (a : Answered form Answer old start (text_of form read) new line unwritten now rest) (input left : Option (List ℕ)) (consumed : Consumes input left read) where
  ended_answered : AreAnswered (of_form form Answer) old (lines_in form.ending a.ended) (a.written ++ unwritten) new
  ended_answered =
      rw (append-nil a.ended, append-nil unwritten) at (a.advances [] [] new (rw (no_lines form.ending) (refl, refl)))

  pub leaves_ended : {Behind : List ℕ → Type 0} → unwritten ≡ [] → Behind (a.begun ++ rest) → AnswersEnded (Prints form Answer old) form Behind input left start now
  leaves_ended none behind = record {
    read = read;
    ended = a.ended;
    behind = a.begun ++ rest;
    printed = a.written;
    consumed = consumed;
    parts = a.parts;
    whole = a.whole;
    rest = behind;
    output = (new, rw (none, append-nil a.written) at ended_answered);
    appended = a.appended;
  }

  -- by a line that ends the run
  pub leaves_long : unwritten ≡ [] → ends_run form line ≡ true
      → (form.stops_at_long ≡ true) × AnswersEnded (Prints form Answer old) form (IsLong form.ending) input left start now
  leaves_long none is_long =
      let long = and_parts form.stops_at_long (ltb MAX_INPUT_BYTES (length line)) is_long in
      let more : MAX_INPUT_BYTES < length line = let test = long.1 in grind (arith, nat_tests) in
      (long.0, leaves_ended none (a.begun, rest, refl, a.unended, omega (arith, length-take KEPT_BYTES a.begun, ap length a.kept)))

  module _ (after : Option (List ℕ)) where
    -- by a write that failed, of the answers to this text
    part_left : (text behind printed : List ℕ) (last : State) → text_of form read ≡ text ++ behind
        → IsEnded form.ending text ⊎ (IsAtEnd left × (behind ≡ [])) → AreAnswered (of_form form Answer) old (lines_in form.ending text) (a.written ++ printed) last
        → AppendsBeginning now after printed → AnswersPart (Prints form Answer old) form input left start after
    part_left text behind printed last parts whole answered beginning = record {
      read = read;
      text = text;
      behind = behind;
      printed = a.written ++ printed;
      consumed = consumed;
      parts = parts;
      whole = whole;
      output = (last, answered);
      beginning = record {
        done = a.written ++ beginning.done;
        rest = beginning.rest;
        parts = rw (beginning.parts) (sym (append_assoc a.written beginning.done beginning.rest));
        appended = Appends-trans start now after a.written beginning.done a.appended beginning.appended;
      };
    }

    pub leaves_part : AppendsBeginning now after unwritten → AnswersPart (Prints form Answer old) form input left start after
    leaves_part wrote = part_left a.ended (a.begun ++ rest) unwritten new a.parts (inl a.whole) ended_answered wrote

    -- at the end of the input, where these are the last answers
    module _ (printed : List ℕ) (last : State) (answered : AreAnswered (of_form form Answer) new (lines_in form.ending (a.begun ++ rest)) printed last)
        (end : IsAtEnd left) where
      all_answered : PrintsAndLeaves form Answer old read (a.written ++ (unwritten ++ printed)) last
      all_answered = rw (a.parts) (a.advances (a.begun ++ rest) printed last answered)

      pub all_appended : Appends now after (unwritten ++ printed)
          → AppendsOutput (λ text printed. PrintsAndLeaves form Answer old text printed last) input start after
      all_appended wrote = record {
        printed = a.written ++ (unwritten ++ printed);
        output = (read, Consumes-all input left read [] read consumed end refl, all_answered);
        appended = Appends-trans start now after a.written (unwritten ++ printed) a.appended wrote;
      }

      pub part_appended : AppendsBeginning now after (unwritten ++ printed) → AnswersPart (Prints form Answer old) form input left start after
      part_appended wrote =
          part_left (text_of form read) [] (unwritten ++ printed) last (sym (append-nil (text_of form read))) (inr (end, refl)) all_answered wrote
