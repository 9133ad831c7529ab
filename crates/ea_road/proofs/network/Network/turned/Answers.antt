use Rattle.ea_road.proofs.Turning.{turned_is_network}
use Rattle.ea_road.proofs.network.Network.turned.Goals as goal

pub new-requires : goal.new-requires
new-requires c = rw (c.nodes.ensures.nodes, c.in_ok-arcs.ensures, c.arcs.ensures.arcs) (turned_is_network c.args.self.now c.arcs.ensures.network)
