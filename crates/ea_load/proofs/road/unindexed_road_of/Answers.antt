use Rattle.ea_load.specs.Given.{given_by, roads_of}
use Rattle.ea_road.proofs.Turning.{directed_is_network}
use Rattle.ea_load.proofs.road.unindexed_road_of.Goals as goal

pub with_classes-requires : goal.with_classes-requires
with_classes-requires c = rw c.deref.ensures.value c.requires.assigned

pub new-requires : goal.new-requires
new-requires c = rw (c.directed_arcs.ensures, c.in_ok-list.ensures, c.deref.ensures.value) (directed_is_network c.args.direction (roads_of (given_by c.args.graph c.args.table)) c.requires.network)
