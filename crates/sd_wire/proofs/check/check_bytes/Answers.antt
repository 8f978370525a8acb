-- What the entries come to, with the owner, is what the descriptor comes to.
use Rattle.sd_wire.proofs.Cited.{ArePartsOf, DescriptorValue, EntryPlaces, Err, List, MappingValue, Ok, Parts, Result, TokenValue, WireFault, ap, checked, dacl_at, dacl_entries, entries_checked, entries_read, refl, sym, verdict, with_dacl, ℕ, ◌>>=◌, ◌∙◌, ◌≡◌}
use Rattle.sd_check.proofs.Cited.{Ace}
use Rattle.sd_acl.specs.declared.descriptor.DaclOf.TheVariants as dacls
use Rattle.sd_wire.proofs.check.check_bytes.Goals as goal

regroup : (read : Result (List Ace) WireFault) (whole : DescriptorValue) (g : MappingValue) (t : TokenValue) (r : ℕ)
    → (((read >>= λ es. Ok (dacls.List es)) >>= λ dacl. Ok (with_dacl whole dacl)) >>= λ d. Ok (verdict d.owner (dacl_entries d.dacl) g t r)) ≡ entries_checked read whole.owner g t r
regroup (Ok es) whole g t r = refl
regroup (Err fault) whole g t r = refl

list_checked : (bytes : List ℕ) (parts : Parts) (entries : EntryPlaces) (g : MappingValue) (t : TokenValue) (r : ℕ) → ArePartsOf bytes parts → parts.dacl ≡ dacls.List entries
    → checked bytes g t r ≡ entries_checked (entries_read bytes entries.place entries.end entries.count) parts.owner g t r
list_checked bytes parts entries g t r are is =
    ap (λ read. read >>= λ (d : DescriptorValue). Ok (verdict d.owner (dacl_entries d.dacl) g t r)) are.read
    ∙ ap (λ place. (dacl_at bytes place >>= λ dacl. Ok (with_dacl are.whole dacl)) >>= λ (d : DescriptorValue). Ok (verdict d.owner (dacl_entries d.dacl) g t r)) is
    ∙ regroup (entries_read bytes entries.place entries.end entries.count) are.whole g t r
    ∙ ap (λ owner. entries_checked (entries_read bytes entries.place entries.end entries.count) owner g t r) are.owner

pub returns-then-is_restricted : goal.returns-then-is_restricted
returns-then-is_restricted c =
    c.check_restricted.ensures ∙ sym (list_checked c.args.bytes.now _ c.in-List.entries c.args.mapping.now c.args.token.now c.args.asked c.in_ok-owner.ensures.ok c.in-List.is)

pub returns-else-is_restricted : goal.returns-else-is_restricted
returns-else-is_restricted c =
    c.check_entries.ensures ∙ sym (list_checked c.args.bytes.now _ c.in-List.entries c.args.mapping.now c.args.token.now c.args.asked c.in_ok-owner.ensures.ok c.in-List.is)
