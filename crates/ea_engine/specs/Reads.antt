-- What a seat of the labels learns by reading.
use Rattle.std.specs.Prelude.{◌≡◌, ℕ, Bool, true, Option}
use Rattle.ea_road.specs.declared.arc.Arc.{Arc}
use Rattle.ea_labels.specs.Core.{SeatView}
use Rattle.ea_pool.specs.declared.heap.entry.Entry.{Entry}
use Rattle.ea_engine.specs.Problems.{Problem}
use Rattle.ea_engine.specs.Closed.{IsCut, IsFollowed}
use Rattle.ea_engine.specs.Worked.{OnlySaw}

-- The seat saw some labels and lowered none.
pub record OnlyRead (before after : SeatView) : Type 0 where
  pub same_table : after.table ≡ before.table
  pub saw : OnlySaw before.history after.history

-- Whether an entry is cut: told if bounds that were seen before show it, and only if bounds that are seen
-- after do.
pub record TellsCut (target : Option ℕ) (before after : SeatView) (entry : Entry) (told : Bool) : Type 0 where
  pub saw : OnlyRead before after
  pub cut : told ≡ true → IsCut target after.history.bounds entry
  pub known : IsCut target before.history.bounds entry → told ≡ true

-- Whether an arc that is left at this time improves no label: told only if bounds that are seen after show it.
pub record TellsFollowed (problem : Problem) (before after : SeatView) (departure : ℕ) (arc : Arc) (told : Bool) : Type 0 where
  pub saw : OnlyRead before after
  pub followed : told ≡ true → IsFollowed problem after.history.bounds departure arc
