-- When a graph and a table make a network with timetables.
use Rattle.std.specs.Prelude.{◌≤◌, length}
use Rattle.ea_road.specs.Roads.{IsNetwork, top_class}
use Rattle.ea_road.specs.Assigned.{AreAssigned}
use Rattle.ea_travel_times.specs.Timetables.{AreFit}
use Rattle.ea_load.specs.Given.{Given, roads_of}

-- The arcs are a network's, assigned numbers are those of arcs, the kinds' numbers and steps are in their
-- ranges, and each class is one of the kinds or plain.
pub record IsSound (given : Given) : Type 0 where
  pub network : IsNetwork (roads_of given)
  pub assigned : AreAssigned (length given.graph.arcs) given.table.assigned
  pub kinds : AreFit given.table.kinds given.table.steps
  pub classed : top_class (roads_of given).arcs ≤ length given.table.kinds
