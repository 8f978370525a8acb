-- A header and a body are an entry.
use Rattle.sd_whole.proofs.Cited.{List, append_assoc, ap, body_of, length, to_le_bytes, type_of, w16, ℕ, ◌++◌, ◌+◌, ◌∙◌, ◌∷◌, ◌≡◌}
use Rattle.sd_whole.specs.Entry.{entry_form}
use Rattle.sd_whole.proofs.entry.push_whole_entry.Goals as goal

formed : (old front whole : List ℕ) (type flags size : ℕ) (body : List ℕ) → front ≡ old ++ type ∷ flags ∷ to_le_bytes w16 size → whole ≡ front ++ body → size ≡ 4 + length body → whole ≡ old ++ entry_form type flags body
unfolding entry_form
formed old front whole type flags size body header rest sized = rw (rest, header, sized) (append_assoc old (type ∷ flags ∷ to_le_bytes w16 (4 + length body)) body)

pub returns-clause-items : goal.returns-clause-items
returns-clause-items c =
    let e = c.args.entry.now in
    formed c.args.bytes.now.items c.push_header.new.bytes.items c.push_body.new.bytes.items c.number.result c.flags.result.0 c.size.result (body_of e) c.push_header.ensures.items c.push_body.ensures.items c.size.ensures.size
    ∙ ap (λ t. c.args.bytes.now.items ++ entry_form t c.flags.result.0 (body_of e)) c.number.ensures
    ∙ ap (λ f. c.args.bytes.now.items ++ entry_form (type_of e) f (body_of e)) c.flags.ensures
