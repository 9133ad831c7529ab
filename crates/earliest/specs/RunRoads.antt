-- The road of a run, as it was read or renumbered.
use Rattle.std.specs.Prelude.{◌≡◌, ◌≤◌, List, None, length}
use Rattle.ea_batch.specs.Solved.{IsLaidOut}
use Rattle.ea_layout.specs.declared.layout.Layout.{Layout}
use Rattle.ea_layout.specs.Orders.{LaysOut, file_roads}
use Rattle.ea_load.specs.declared.road.Road.{Road}
use Rattle.ea_options.specs.declared.options.RunOptions.{RunOptions}
use Rattle.ea_road.specs.Queries.{Asking}
use Rattle.ea_road.specs.Roads.{Roads, top_class}
use Rattle.ea_travel_times.specs.declared.road_times.RoadTimes.{RoadTimes}
use Rattle.earliest.specs.Choices.{CanRenumber}
use Rattle.earliest.specs.declared.run_road.PairRoad.{PairRoad}
use Rattle.earliest.specs.declared.run_road.PairRoad.TheVariants as pair
use Rattle.earliest.specs.declared.run_road.RenumberedRoad.{RenumberedRoad}
use Rattle.earliest.specs.declared.run_road.RunRoad.{RunRoad}
use Rattle.earliest.specs.declared.run_road.RunRoad.TheVariants as run

-- The road in the numbers of its files.
abbrev pub road_in : RenumberedRoad → Road
road_in renumbered = record { network = file_roads renumbered.layout; times = renumbered.times }

abbrev pub road_of_pairs : PairRoad → Road
road_of_pairs (pair.AsRead road) = road
road_of_pairs (pair.Renumbered renumbered) = road_in renumbered

abbrev pub road_of_run : RunRoad → Road
road_of_run (run.AsRead road) = road.now
road_of_run (run.Renumbered renumbered) = road_in renumbered.now

-- A layout without a preparation, whose arcs have travel times.
pub record CanPrepareLaid (layout : Layout) (times : RoadTimes) : Type 0 where
  pub none : layout.prepared ≡ None
  pub classed : top_class layout.network.arcs ≤ length times.tables.list.items

-- It may be prepared for these travel times now, and is of the same network.
pub record IsPreparedIn (layout : Layout) (times : RoadTimes) (prepared : Layout) : Type 0 where
  pub same : file_roads prepared ≡ file_roads layout
  pub laid_out : (roads : Roads) → LaysOut roads layout → IsLaidOut (record { network = roads; times = times }) prepared

-- A road was renumbered: its layout is one of it, and so is its preparation, if it has one.
pub record IsRenumberedOf (road : Road) (renumbered : RenumberedRoad) : Type 0 where
  pub same : road_in renumbered ≡ road
  pub laid_out : IsLaidOut (road_in renumbered) renumbered.layout

-- It is the same road, in either form.
abbrev pub HoldsRoad : Road → PairRoad → Type 0
HoldsRoad road (pair.AsRead other) = other ≡ road
HoldsRoad road (pair.Renumbered renumbered) = IsRenumberedOf road renumbered

-- Problems on a renumbered road aren't counted, and there are some.
abbrev pub CanRunOn : List Asking → RunOptions → PairRoad → Type 0
CanRunOn queries options (pair.AsRead road) = Unit {0}
CanRunOn queries options (pair.Renumbered renumbered) = CanRenumber queries options

-- The same of a road that is lent.
abbrev pub IsReadyFor : List Asking → RunOptions → RunRoad → Type 0
IsReadyFor queries options (run.AsRead road) = Unit {0}
IsReadyFor queries options (run.Renumbered renumbered) = IsLaidOut (road_in renumbered.now) renumbered.now.layout × CanRenumber queries options

-- The road of pairs, lent.
abbrev pub IsLentOf : PairRoad → RunRoad → Type 0
IsLentOf (pair.AsRead road) (run.AsRead lent) = lent.now ≡ road
IsLentOf (pair.AsRead road) (run.Renumbered lent) = ⊥
IsLentOf (pair.Renumbered road) (run.AsRead lent) = ⊥
IsLentOf (pair.Renumbered road) (run.Renumbered lent) = lent.now ≡ road
