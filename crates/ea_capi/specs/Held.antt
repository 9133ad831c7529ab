-- What a handle owns.
use Rattle.std.specs.Prelude.{Option, Some, None}
use base.Fml.{Fml, feq}
use denote.RattleType.{RattleType}
use denote.RawPtr.{Ptr, null_ptr}
use Rattle.std.specs.declared.alloc.Global.{Global}
use Rattle.std.specs.contracts.impls.GlobalAllocator.TheImpl.{ghosts}
use Rattle.std.specs.Box.Ownership.{box_owns}

-- Null if it is empty; else the value of type R at p, and the right to free its block.
abbrev pub held : (R : RattleType) → Global → Ptr → Option R.Denot → Fml
held R alloc p None = feq Ptr p null_ptr
held R alloc p (Some x) = box_owns (ghosts.dealloc_token alloc) R p x
