-- The network of a layout under its own numbers.
use Rattle.std.proofs.Common.{◌≡◌, ap, ◌∙◌}
use Rattle.ea_road.specs.Roads.{IsNetwork, Roads}
use Rattle.ea_layout.specs.declared.layout.Layout.{Layout}
use Rattle.ea_layout.specs.Orders.{LaysOut, file_roads}
use Rattle.ea_layout.specs.Renamed.{AreReverse, renamed_roads}
use Rattle.ea_layout.proofs.Renaming.{in_reverse, renamed_network, roads_again}

-- it is a network
pub network_of : (layout : Layout) → IsNetwork layout.network → AreReverse layout.network.nodes layout.places.items layout.nodes.items → IsNetwork (file_roads layout)
network_of layout network reverse =
    renamed_network layout.network layout.nodes.items layout.places.items network (in_reverse layout.network.nodes layout.places.items layout.nodes.items reverse)

-- a layout of a network is of no other
pub told_back : (roads : Roads) (layout : Layout) → IsNetwork roads → LaysOut roads layout → file_roads layout ≡ roads
told_back roads layout network laid =
    ap (λ (r : Roads). renamed_roads layout.nodes.items r) laid.network ∙ roads_again roads layout.places.items layout.nodes.items network laid.reverse
