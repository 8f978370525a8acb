-- What answers a query of an audit.
use Rattle.sd_script_audit.proofs.Cited.{Answer, Answered, AreAnswers, Edit, HaveGrown, LineOf, List, None, Opening, PUBLISHED, Query, Sight, Some, Style, TOLD, [], answer_line, ap, append-nil, append_assoc, arith, check_line, counted_line, flat_map-append, form, last_publish, length, map, map_more, mod-lt, nobody, printed, refl, reply_by, reply_line, seen_line, slice_index_or, sym, take, take-append_seam, ℕ, ◌%◌, ◌++◌, ◌+◌, ◌<◌, ◌∙◌, ◌∷◌, ◌≡◌, ◌≤◌}

-- an answer that has seen just the journal replies by it
pub replies_by : (o : Opening) (journal : List Edit) (queries : List Query) (olds news : List Sight) (answers : List Answer) (j : ℕ) (d : Answer) (q : Query)
    → 0 < length olds → HaveGrown o (length queries) journal olds news → AreAnswers o queries journal olds news answers → j < length answers
    → (slice_index_or answers j d).seen ≡ length journal → (slice_index_or answers j d).reply ≡ reply_by o journal (slice_index_or queries j q)
replies_by o journal queries olds news answers j d q some grown are within seen =
    let i = j % length olds in
    let new = slice_index_or news i nobody in
    let told = (grown i nobody (mod-lt j some)).told in
    (are j d nobody q within).0.reply
    ∙ ap (λ (floor : List Edit). reply_by o floor (slice_index_or queries j q))
    (ap (λ n. take n new.floor) seen ∙ ap (take (length journal)) (sym told.1) ∙ take-append_seam journal told.0)

-- lines and more lines as they are printed
pub printed_both : (style : Style) (front back : List LineOf) → printed style None (front ++ back) ≡ printed style None front ++ printed style None back
printed_both style front back = flat_map-append _ front back

-- edits that wait are published, and a line says so
pub publishes_some : (style : Style) (pending : List Edit) (n : ℕ) (out grown : List ℕ) (line : LineOf) → 0 < length pending
    → grown ≡ out ++ printed style None (line ∷ []) → line ≡ counted_line (form PUBLISHED) n → grown ≡ out ++ printed style None (last_publish pending n)
publishes_some style [] n out grown line some more is = absurd (omega (arith, some))
publishes_some style (edit ∷ edits) n out grown line some more is = more ∙ ap (λ (l : LineOf). out ++ printed style None (l ∷ [])) is

pub publishes_none : (style : Style) (pending : List Edit) (n : ℕ) (out : List ℕ) → length pending ≤ 0 → out ≡ out ++ printed style None (last_publish pending n)
publishes_none style [] n out none = sym (append-nil out)
publishes_none style (edit ∷ edits) n out none = absurd (omega (arith, none))

pub none_waits : (pending journal : List Edit) → length pending ≤ 0 → journal ≡ journal ++ pending
none_waits [] journal none = sym (append-nil journal)
none_waits (edit ∷ edits) journal none = absurd (omega (arith, none))

-- and then the journal's length follows
pub told_after : (style : Style) (pending : List Edit) (n : ℕ) (out between grown : List ℕ) (line : LineOf) → between ≡ out ++ printed style None (last_publish pending n)
    → grown ≡ between ++ printed style None (line ∷ []) → line ≡ counted_line (form TOLD) n
    → grown ≡ out ++ printed style None (last_publish pending n ++ counted_line (form TOLD) n ∷ [])
told_after style pending n out between grown line published more is =
    let told = counted_line (form TOLD) n ∷ [] in
    more ∙ ap (λ (l : LineOf). between ++ printed style None (l ∷ [])) is ∙ ap (λ xs. xs ++ printed style None told) published
    ∙ append_assoc out (printed style None (last_publish pending n)) _ ∙ ap (λ xs. out ++ xs) (sym (printed_both style (last_publish pending n) told))

-- one answer more
pub answered_more : (style : Style) (o : Opening) (journal : List Edit) (queries : List Query) (i : ℕ) (q : Query) (given : Answer) (line : LineOf) (out before grown : List ℕ)
    → i < length queries → before ≡ out ++ printed style None (map (answer_line o journal) (take i queries)) → grown ≡ before ++ printed style None (line ∷ [])
    → reply_line (Answered given) ≡ Some line → given.seen ≡ length journal → given.reply ≡ reply_by o journal (slice_index_or queries i q)
    → grown ≡ out ++ printed style None (map (answer_line o journal) (take (i + 1) queries))
answered_more style o journal queries i q given line out before grown within so_far more text seen reply =
    let so_many = map (answer_line o journal) (take i queries) in
    let told : seen_line given.seen (check_line given.reply) ≡ line = cc (text) in
    let is : line ≡ answer_line o journal (slice_index_or queries i q) = sym told ∙ rw (seen, reply) refl in
    rw (map_more (answer_line o journal) queries i q within)
    (more ∙ ap (λ l. l ++ printed style None (line ∷ [])) so_far ∙ append_assoc out (printed style None so_many) _
    ∙ ap (λ (l : LineOf). out ++ (printed style None so_many ++ printed style None (l ∷ []))) is
    ∙ ap (λ l. out ++ l) (sym (printed_both style so_many (answer_line o journal (slice_index_or queries i q) ∷ []))))

pub some_of : (queries : List Query) → 0 < length queries → Query
some_of [] some = absurd (omega (arith, some))
some_of (q ∷ queries) some = q
