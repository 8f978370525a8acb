-- The request of a check over a descriptor's bytes, with a kept token.
use Rattle.std.specs.Prelude.{List, ℕ, Result, Ok}
use Rattle.sd_wire.specs.Reading.{descriptor_read}
use Rattle.sd_c.specs.declared.handle.Handle.{Handle}
use Rattle.sd_c.specs.declared.handle.kept.Kept.{Kept}
use Rattle.sd_c.specs.declared.mapping.Mapping.{Mapping}
use Rattle.sd_c.specs.declared.stop.NotRead.{NotRead}
use Rattle.sd_c.specs.declared.stop.NotRead.TheVariants.{TokenHandle}
use Rattle.sd_c.specs.Kept.{is_kept, token_in}
use Rattle.sd_c.specs.Request.{◌>>=◌, RequestValue, mapping_read, of_wire}

-- the token that is kept, then the mapping, then the descriptor that the bytes hold
unfoldable pub asked_over : List ℕ → Kept → Mapping → Result RequestValue NotRead
asked_over bytes kept mapping =
    token_in kept >>= λ t.
    (mapping_read mapping >>= λ g.
    (of_wire (descriptor_read bytes) >>= λ d. Ok (record { descriptor = d; token = t; mapping = g })))

-- the request of a token's handle and of the descriptor that bytes hold
unfoldable pub request_over : List ℕ → Handle → Mapping → Result RequestValue NotRead
request_over bytes token mapping = is_kept token.is_there TokenHandle >>= λ u. asked_over bytes token.seal.kept mapping
