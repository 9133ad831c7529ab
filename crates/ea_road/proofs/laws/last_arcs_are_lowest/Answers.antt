use Rattle.ea_road.proofs.LastArcs.{last_lowest}
use Rattle.ea_road.proofs.laws.last_arcs_are_lowest.Goals as goal

pub returns : goal.returns
returns g c = λ node level from number other walk canonical above below tight.
    last_lowest c.args.network.now _ c.args.query.now.sources _ node level from number other walk canonical above below tight
