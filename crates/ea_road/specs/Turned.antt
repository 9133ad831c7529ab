-- The network with every arc turned round: the same numbers, weights and classes, from the head to the tail.
use Rattle.std.specs.Prelude.{List, map}
use Rattle.ea_base.specs.declared.direction.Direction.{Direction}
use Rattle.ea_base.specs.declared.direction.Direction.TheVariants.{Forward, Turned}
use Rattle.ea_base.specs.declared.graph.RawArc.{RawArc}
use Rattle.ea_road.specs.declared.arc.Arc.{Arc}
use Rattle.ea_road.specs.Roads.{Roads}

abbrev pub turned_arc : Arc → Arc
turned_arc arc = record { tail = arc.head; head = arc.tail; weight = arc.weight; class = arc.class }

-- The same of an arc as it was read.
abbrev pub turned_raw : RawArc → RawArc
turned_raw arc = record { tail = arc.head; head = arc.tail; weight = arc.weight }

abbrev pub turned_roads : Roads → Roads
turned_roads roads = record { nodes = roads.nodes; arcs = map turned_arc roads.arcs }

-- Arcs in a direction, and a network: as it is, or turned round.
abbrev pub arcs_in : Direction → List Arc → List Arc
arcs_in Forward arcs = arcs
arcs_in Turned arcs = map turned_arc arcs

abbrev pub directed_roads : Direction → Roads → Roads
directed_roads direction roads = record { nodes = roads.nodes; arcs = arcs_in direction roads.arcs }
