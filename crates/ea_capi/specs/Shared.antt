-- A share of a road as callers see it.
use Rattle.std.specs.Arc.{arc_value}
use Rattle.std.specs.Prelude.{ℕ, IfSome, Option}
use Rattle.ea_capi.specs.declared.handle.content.TurnedRoad.{TurnedRoad}
use Rattle.ea_layout.specs.Laid.{IsPreparedLaid}
use Rattle.ea_layout.specs.Orders.{LaysOut}
use Rattle.ea_layout.specs.declared.layout.Layout.{Layout}
use Rattle.ea_load.specs.Posed.{times_on}
use Rattle.ea_load.specs.declared.road.Road.{Road}
use Rattle.ea_road.specs.Roads.{Roads}
use Rattle.ea_travel_times.specs.TurnedTimes.{IsTurned}

-- A road, and its layout if it has one.
pub record Shared : Type 0 where
  pub road : Road
  pub layout : Option Layout

-- The layout is of this network, and its preparation, if it has one, for these arrivals.
pub record IsLaidOn (roads : Roads) (answers : ℕ → ℕ → ℕ → ℕ → Type 0) (layout : Layout) : Type 0 where
  pub laid_out : LaysOut roads layout
  pub prepared : IsPreparedLaid answers layout

-- The layout is of the road, and its preparation, if it has one, too.
abbrev pub IsLaidFor : Road → Layout → Type 0
IsLaidFor road layout = IsLaidOn road.network (times_on road) layout

-- They belong together.
pub record IsShared (shared : Shared) : Type 0 where
  pub fits : IfSome shared.layout (IsLaidFor shared.road)

-- The layout is of the turned network, and its preparation, if it has one, for the road's travel times turned round.
abbrev pub IsLaidTurned : TurnedRoad → Layout → Type 0
IsLaidTurned turned layout = IsLaidOn turned.network (IsTurned (times_on (arc_value turned.terrain).road)) layout

-- A road turned round, and its layout if it has one.
pub record SharedTurned : Type 0 where
  pub turned : TurnedRoad
  pub layout : Option Layout

-- They belong together.
pub record IsSharedTurned (shared : SharedTurned) : Type 0 where
  pub fits : IfSome shared.layout (IsLaidTurned shared.turned)
