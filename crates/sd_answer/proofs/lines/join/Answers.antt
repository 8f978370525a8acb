use Rattle.sd_answer.proofs.Cited.{BitsLine, Bool, LineValue, List, None, Saying, Some, [], ap, get_or-map, joined_at, length-map, map, map-append, map-set, position, position-Some, position_or_len, refl, same_saying, set, sym, union, value_of, values, ℕ, ◌∙◌, ◌∷◌, ◌≡◌}
use Rattle.sd_answer.specs.Lines.{joined}
use Rattle.sd_answer.proofs.lines.join.Goals as goal

position_or_len-map : {X Y : Type 0} (p : Y → Bool) (f : X → Y) (xs : List X) → position_or_len p (map f xs) ≡ position_or_len (λ x. p (f x)) xs
position_or_len-map p f [] = refl
position_or_len-map p f (x ∷ xs) = rw (position_or_len-map p f xs) refl

joined_is : (lines : List BitsLine) (mask : ℕ) (said : Saying)
    → joined (values lines) mask said
    ≡ joined_at (position (λ (one : BitsLine). same_saying one.said said) lines) (values lines) mask said
unfolding joined
joined_is lines mask said = rw (length-map lines value_of, position_or_len-map (λ (one : LineValue). same_saying one.1 said) value_of lines) refl

pub returns-in-Some : goal.returns-in-Some
returns-in-Some c =
    let lines = c.args.lines.now.items in
    let found : position (λ (one : BitsLine). same_saying one.said c.args.said) lines ≡ Some c.in-Some.place = sym (rw c.deref.ensures.value at c.in-Some.ensures) in
    let low = (position-Some (λ (one : BitsLine). same_saying one.said c.args.said) lines c.in-Some.place c.index.result.now found).0 in
    let one = get_or-map value_of lines c.in-Some.place c.index.result.now (c.args.mask, c.args.said) low in
    let mask = c.union-mask.ensures ∙ ap (λ (one : BitsLine). union one.mask c.args.mask) c.index.ensures in
    map-set value_of lines c.in-Some.place (record { mask = c.union-mask.result; said = c.args.said })
    ∙ ap (λ m. set (values lines) c.in-Some.place (m, c.args.said)) mask
    ∙ rw (joined_is lines, found, one) refl

pub returns-in_ok-push-in-None : goal.returns-in_ok-push-in-None
returns-in_ok-push-in-None c =
    let none : position (λ (one : BitsLine). same_saying one.said c.args.said) c.args.lines.now.items ≡ None = sym (rw c.deref.ensures.value at c.in-None.ensures) in
    rw (c.in_ok-push-in-None.ensures.items, joined_is c.args.lines.now.items, none, map-append) refl
