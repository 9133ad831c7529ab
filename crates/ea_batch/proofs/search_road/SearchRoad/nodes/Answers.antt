use Rattle.std.proofs.Common.{subst}
use Rattle.ea_batch.specs.SearchRoads.{IsOwn}
use Rattle.ea_batch.specs.declared.search_road.SearchNetwork.{SearchNetwork}
use Rattle.ea_layout.proofs.Told.{network_of}
use Rattle.ea_batch.proofs.search_road.SearchRoad.nodes.Goals as goal

pub returns-in-Renumbered-clause-network : goal.returns-in-Renumbered-clause-network
returns-in-Renumbered-clause-network c =
    let own = subst (λ (n : SearchNetwork). IsOwn n c.self.inside.times.now) c.in-Renumbered.is c.self.invariant in
    rw (← c.self.view_is, c.in-Renumbered.is) (network_of c.in-Renumbered.layout.now c.nodes-in-Renumbered.ensures.network own.laid_out.reverse)
