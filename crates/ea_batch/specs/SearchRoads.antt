-- The forms of a road on which searches run.
use Rattle.std.specs.Prelude.{◌≡◌}
use Rattle.ea_batch.specs.declared.search_road.SearchNetwork.{SearchNetwork}
use Rattle.ea_batch.specs.declared.search_road.SearchNetwork.TheVariants as form
use Rattle.ea_batch.specs.Solved.{IsLaidOut}
use Rattle.ea_layout.specs.Orders.{file_roads}
use Rattle.ea_load.specs.declared.road.Road.{Road}
use Rattle.ea_road.specs.Roads.{Roads}
use Rattle.ea_travel_times.specs.declared.road_times.RoadTimes.{RoadTimes}

-- The network in the numbers of its files.
abbrev pub roads_in : SearchNetwork → Roads
roads_in (form.AsGiven network) = network.now
roads_in (form.Renumbered layout) = file_roads layout.now

-- A layout is a layout of its network renamed back, and its preparation, if it has one, is of these travel times.
abbrev pub IsOwn : SearchNetwork → RoadTimes → Type 0
IsOwn (form.AsGiven network) times = Unit {0}
IsOwn (form.Renumbered layout) times = IsLaidOut (record { network = file_roads layout.now; times = times }) layout.now

-- The network of a road, or a layout of it.
abbrev pub IsFormOf : Road → SearchNetwork → Type 0
IsFormOf road (form.AsGiven network) = network.now ≡ road.network
IsFormOf road (form.Renumbered layout) = (file_roads layout.now ≡ road.network) × IsLaidOut road layout.now
