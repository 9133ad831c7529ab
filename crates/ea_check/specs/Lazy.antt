-- A network whose index by tail may not be there yet.
use Rattle.ea_road.specs.Roads.{Roads}
use Rattle.ea_check.specs.declared.lazy_network.LazyNetwork.{LazyNetwork}
use Rattle.ea_check.specs.declared.lazy_network.LazyNetwork.TheVariants.{Given, Indexed, Unindexed}

-- What it is as a network.
abbrev pub roads_in : LazyNetwork → Roads
roads_in (Unindexed arcs) = arcs
roads_in (Indexed network) = network
roads_in (Given network) = network.now

-- It has its index.
abbrev pub IsIndexed : LazyNetwork → Type 0
IsIndexed (Unindexed arcs) = ⊥
IsIndexed (Indexed network) = Unit {0}
IsIndexed (Given network) = Unit {0}
