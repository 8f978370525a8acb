use Rattle.sd_lines.proofs.Cited.{Coding, List, Utf8, append_assoc, refl, text_by, text_in, ℕ, ◌++◌, ◌∙◌, ◌≡◌}
use Rattle.sd_lines.proofs.decoder.Decoder.decode.Goals as goal

held_text : (coding : Coding) (held more : List ℕ) → (coding ≡ Utf8 → ⊥) → text_in coding held more ≡ text_by coding (held ++ more)
held_text Utf8 held more other = absurd (other refl)
held_text coding held more other = refl

pub returns : goal.returns
returns c =
    let old = c.args.self.now in
    let text = c.in_ok-decode.ensures.text in
    let kept : c.extend_from_slice-3.new.self.items ≡ c.in_ok-decode.field-0.now =
    rw c.new-left.ensures.items at c.in_ok-extend_from_slice-2.ensures.items in
    record {
      text = (
        text.0,
        text.1,
        λ more.
            rw kept
            (held_text old.coding old.held.items (c.args.bytes.now ++ more) c.in_default.not-Utf8
            ∙ (rw (← append_assoc old.held.items c.args.bytes.now more, ← c.in_ok-extend_from_slice.ensures.items, ← c.deref.ensures.value)
            (c.settled-coding.ensures.text more))
            ∙ text.2 more),
      );
      left = rw kept c.in_ok-decode.ensures.left;
    }
