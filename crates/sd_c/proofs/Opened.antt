-- What decides an open: a parent that is borrowed, and the arguments that are read.
use Rattle.std.proofs.Common.{◌≡◌, ◌∙◌, ap, refl, ℕ, List}
use Rattle.std.specs.Prelude.{Option, Some, None, Ok, option_copied, option_map}
use Rattle.std.specs.Borrow.{Bor}
use Rattle.sd_acl.specs.declared.descriptor.Descriptor.{Descriptor}
use Rattle.sd_check.specs.Token.{TokenValue}
use Rattle.sd_c.proofs.Cited.{DescriptorValue, Kept, Mapping, MappingValue, descriptor_of, descriptor_read, ◌>>=◌}
use Rattle.sd_c.specs.Kept.{token_in}
use Rattle.sd_c.specs.Open.{open_by, parent_read}
use Rattle.sd_c.specs.Request.{mapping_read, of_wire}
use Rattle.sd_open.specs.Open.{borrowed, open_verdict}

pub borrowed_copied : (parent : Option (Bor Descriptor)) → borrowed parent ≡ option_map descriptor_of (option_copied parent)
borrowed_copied None = refl
borrowed_copied (Some d) = refl

pub opened : (file parent : List ℕ) (kept : Kept) (mapping : Mapping) (asked : ℕ)
    (t : TokenValue) (g : MappingValue) (d : DescriptorValue) (p : Option DescriptorValue)
    → token_in kept ≡ Ok t → mapping_read mapping ≡ Ok g → of_wire (descriptor_read file) ≡ Ok d → parent_read parent ≡ Ok p
    → open_by file parent kept mapping asked ≡ Ok (open_verdict d p g t asked)
unfolding open_by
opened file parent kept mapping asked t g d p keeps maps holds above =
    ap (λ r. r >>= λ t. (mapping_read mapping >>= λ g. (of_wire (descriptor_read file) >>= λ d. (parent_read parent >>= λ p. Ok (open_verdict d p g t asked))))) keeps
    ∙ ap (λ r. r >>= λ g. (of_wire (descriptor_read file) >>= λ d. (parent_read parent >>= λ p. Ok (open_verdict d p g t asked)))) maps
    ∙ ap (λ r. r >>= λ d. (parent_read parent >>= λ p. Ok (open_verdict d p g t asked))) holds
    ∙ ap (λ r. r >>= λ p. Ok (open_verdict d p g t asked)) above
