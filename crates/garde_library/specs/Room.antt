-- What a handle owns.
use Rattle.std.specs.Prelude.{Bool, true, false}
use base.Fml.{Fml, ftrue, fex}
use denote.RattleType.{RattleType}
use denote.RawPtr.{Ptr}
use Rattle.std.specs.Box.Ownership.{box_owns}
use Rattle.std.specs.declared.alloc.Global.{Global}
use Rattle.std.specs.contracts.impls.GlobalAllocator.TheImpl.{ghosts}
use Rattle.garde_tape.specs.contracts.scratch.Scratch as scratch

-- the scratch as the logic holds it
abbrev pub scratch_row : RattleType
scratch_row = scratch.the_row

-- nothing, or a box with some value. The right to free it does not depend on the handle of the allocator.
abbrev pub room_owns : Ptr → Bool → Fml
room_owns p true = fex (Global × scratch_row.Denot) (λ x. box_owns (ghosts.dealloc_token x.0) scratch_row p x.1)
room_owns p false = ftrue
