-- Each turn reads the next unit.
use Rattle.sd_data.proofs.Cited.{List, [], ap, arith, map, map-range_with_len_more, range_with_len, sym, u16_at, ℕ, ◌*◌, ◌++◌, ◌∙◌, ◌∷◌}
use Rattle.sd_data.proofs.text.read_units.Goals as goal

pub loop-k-preserved : goal.loop-k-preserved
loop-k-preserved c =
    let unit : ℕ → ℕ = λ k. u16_at c.args.bytes.now (2 * k) in
    let units : List ℕ = map unit (range_with_len 0 c.loop-k.k) in (
      c.push_reserved.ensures.items
          ∙ ap (λ (before : List ℕ). before ++ c.read_u16.result ∷ []) c.loop-k.invariant.0
          ∙ ap (λ (n : ℕ). units ++ n ∷ []) c.read_u16.ensures
          ∙ sym (map-range_with_len_more unit 0 c.loop-k.k c.loop-k.k (omega arith)),
      omega arith,
      c.push_reserved.ensures.capacity ∙ c.loop-k.invariant.2,
    )
