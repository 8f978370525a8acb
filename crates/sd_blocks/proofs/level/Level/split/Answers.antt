use Rattle.sd_blocks.proofs.Cited.{StartFrom, ap, arith, joined, length, take_rest, ◌/◌, ◌<◌, ◌∙◌, ◌≡◌}
use Rattle.sd_blocks.proofs.Starts.{start_here}
use Rattle.sd_blocks.proofs.Searched.{start_within}
use Rattle.sd_blocks.proofs.Parts.{low_starts, high_starts, parts_length, parts_made}
use Rattle.sd_blocks.proofs.level.Level.split.Goals as goal

pub share_blocks-requires-clause-starts : goal.share_blocks-requires-clause-starts
share_blocks-requires-clause-starts g c =
    let bs = c.as_slice-blocks.result.now in
    let s : StartFrom 0 bs = rw c.as_slice-blocks.ensures.value c.self.invariant.0 in
    low_starts bs (length bs / 2) s

pub share_blocks-requires-clause-len : goal.share_blocks-requires-clause-len
share_blocks-requires-clause-len g c =
    let bs = c.as_slice-blocks.result.now in
    let s : StartFrom 0 bs = rw c.as_slice-blocks.ensures.value c.self.invariant.0 in
    start_here bs (length bs / 2) c.index-blocks-half.result c.start-by.result s (omega arith) c.index-blocks-half.is c.start-by.ensures

pub overflow_sub-self-inside : goal.overflow_sub-self-inside
overflow_sub-self-inside g c =
    let bs = c.as_slice-blocks.result.now in
    let s : StartFrom 0 bs = rw c.as_slice-blocks.ensures.value c.self.invariant.0 in
    let inside : (length bs / 2) < length bs = omega arith in
    let start = start_here bs (length bs / 2) c.index-blocks-half.result c.start-by.result s inside c.index-blocks-half.is c.start-by.ensures in
    let lens : c.self.inside.len ≡ length (joined bs) = rw c.as_slice-blocks.ensures.value c.self.invariant.1 in
    omega (arith, start, lens, start_within bs (length bs / 2) c.index-blocks-half.result s inside c.index-blocks-half.is)

pub share_blocks-requires-2-clause-starts : goal.share_blocks-requires-2-clause-starts
share_blocks-requires-2-clause-starts g c =
    let bs = c.as_slice-blocks.result.now in
    let s : StartFrom 0 bs = rw c.as_slice-blocks.ensures.value c.self.invariant.0 in
    let start = start_here bs (length bs / 2) c.index-blocks-half.result c.start-by.result s (omega arith) c.index-blocks-half.is c.start-by.ensures in
    rw (take_rest bs (length bs / 2)) (high_starts bs (length bs / 2) c.start-by.result s start)

pub share_blocks-requires-2-clause-len : goal.share_blocks-requires-2-clause-len
share_blocks-requires-2-clause-len g c =
    let bs = c.as_slice-blocks.result.now in
    let s : StartFrom 0 bs = rw c.as_slice-blocks.ensures.value c.self.invariant.0 in
    let start = start_here bs (length bs / 2) c.index-blocks-half.result c.start-by.result s (omega arith) c.index-blocks-half.is c.start-by.ensures in
    let lens : c.self.inside.len ≡ length (joined bs) = rw c.as_slice-blocks.ensures.value c.self.invariant.1 in
    rw (take_rest bs (length bs / 2)) (parts_length bs (length bs / 2) c.start-by.result c.self.inside.len start lens)

pub returns : goal.returns
returns g c =
    let bs = c.as_slice-blocks.result.now in
    let s : StartFrom 0 bs = rw c.as_slice-blocks.ensures.value c.self.invariant.0 in
    let inside : (length bs / 2) < length bs = omega arith in
    let start = start_here bs (length bs / 2) c.index-blocks-half.result c.start-by.result s inside c.index-blocks-half.is c.start-by.ensures in
    rw (← c.self.view_is, ← c.as_slice-blocks.ensures.value) (parts_made bs (length bs / 2) c.start-by.result c.index-blocks-half.result c.in_ok-low.low c.in_ok-high.high s (omega arith) inside c.index-blocks-half.is start c.in_ok-low.ensures (c.in_ok-high.ensures ∙ ap joined (take_rest bs (length bs / 2))))
