-- What a handle owns: a box, where it is there.
use Rattle.std.specs.Prelude.{ℕ, Bool, true, false, ◌==◌}
use base.Fml.{Fml, ftrue}
use base.Stored.{Coded}
use denote.RawPtr.{Ptr}
use Rattle.std.specs.Box.Ownership.{box_owns}
use Rattle.std.specs.Global.{Global}
use Rattle.std_heap.specs.contracts.GlobalAllocator.TheImpl.{ghosts}
use Rattle.sd_c.specs.contracts.handle.kept.Kept.{the_row}

-- nothing where the test holds, else this
abbrev pub unless : Bool → Fml → Fml
unless true owned = ftrue
unless false owned = owned

abbrev pub seal_owns : ℕ → Global → Ptr → the_row.Denot → Fml
seal_owns there alloc at kept = unless (there == 0) (box_owns (ghosts.dealloc_token alloc) the_row at kept)

abbrev pub kept_coded : Coded the_row.Denot
kept_coded = the_row.coded
