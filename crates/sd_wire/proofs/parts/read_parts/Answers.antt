-- Behind the header, the owner and the group comes the DACL, where there is one.
use Rattle.sd_wire.proofs.Cited.{Absent, DaclPlace, DescriptorValue, List, Ok, Option, SidValue, ap, control_read, dacl_at, dacl_read, false, is_set, refl, rules, sym, true, trustee_read, u32_at, with_dacl, ℕ, ◌>>=◌, ◌∙◌, ◌≡◌}
use Rattle.sd_wire.specs.Reading.{descriptor_read}
use Rattle.sd_wire.proofs.parts.read_parts.Goals as goal

-- what stands before the DACL, and the flags that say how it is inherited
with_flags : ℕ → Option SidValue → Option SidValue → DescriptorValue
with_flags control owner group = record {
  owner = owner;
  group = group;
  dacl = Absent;
  protected = is_set 0x1000 control;
  auto_req = is_set 0x0100 control;
  auto_inherited = is_set 0x0400 control;
}

without_flags : Option SidValue → Option SidValue → DescriptorValue
without_flags owner group = record { owner = owner; group = group; dacl = Absent; protected = false; auto_req = false; auto_inherited = false }

without_a_dacl : (bytes : List ℕ) (control : ℕ) (owner group : Option SidValue) → control_read bytes ≡ Ok control
    → trustee_read bytes (u32_at bytes 4) ≡ Ok owner → trustee_read bytes (u32_at bytes 8) ≡ Ok group → is_set 0x0004 control ≡ false
    → descriptor_read bytes ≡ Ok (without_flags owner group)
unfolding descriptor_read without_flags
without_a_dacl bytes control owner group header first second absent = rw (header, first, second, absent) refl

with_a_dacl : (bytes : List ℕ) (control : ℕ) (owner group : Option SidValue) (dacl : DaclPlace) → control_read bytes ≡ Ok control
    → trustee_read bytes (u32_at bytes 4) ≡ Ok owner → trustee_read bytes (u32_at bytes 8) ≡ Ok group → is_set 0x0004 control ≡ true
    → dacl_read bytes (u32_at bytes 16) ≡ dacl_at bytes dacl
    → descriptor_read bytes ≡ (dacl_at bytes dacl >>= λ d. Ok (with_dacl (with_flags control owner group) d))
unfolding descriptor_read with_flags
with_a_dacl bytes control owner group dacl header first second present there = rw (header, first, second, present, there) refl

pub returns-then-not-has_bits-clause-ok : goal.returns-then-not-has_bits-clause-ok
unfolding without_flags
returns-then-not-has_bits-clause-ok c =
    let bytes = c.args.bytes.now in record {
      whole = without_flags c.in_ok-owner.owner c.in_ok-_group._group;
      owner = refl;
      read = without_a_dacl bytes c.in_ok-control.control _ _ (sym c.in_ok-control.ensures.read)
          (ap (trustee_read bytes) (sym c.read_u32.ensures) ∙ sym c.in_ok-owner.ensures)
          (ap (trustee_read bytes) (sym c.read_u32-2.ensures) ∙ sym c.in_ok-_group.ensures) (search rules);
      within = tt;
    }

pub returns-clause-ok : goal.returns-clause-ok
unfolding with_flags
returns-clause-ok c =
    let bytes = c.args.bytes.now in record {
      whole = with_flags c.in_ok-control.control c.in_ok-owner.owner c.in_ok-_group._group;
      owner = refl;
      read = with_a_dacl bytes c.in_ok-control.control _ _ c.in_ok-dacl.dacl (sym c.in_ok-control.ensures.read)
          (ap (trustee_read bytes) (sym c.read_u32.ensures) ∙ sym c.in_ok-owner.ensures)
          (ap (trustee_read bytes) (sym c.read_u32-2.ensures) ∙ sym c.in_ok-_group.ensures) (search rules)
          (ap (dacl_read bytes) (sym c.read_u32-3.ensures) ∙ c.in_ok-dacl.ensures.ok.0);
      within = c.in_ok-dacl.ensures.ok.1;
    }
