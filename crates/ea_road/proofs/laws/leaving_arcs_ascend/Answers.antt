use Rattle.ea_road.proofs.Ascending.{leaving_ascend}
use Rattle.ea_road.proofs.ByTail.{leaving_has, leaving_is_arc}
use Rattle.ea_road.proofs.laws.leaving_arcs_ascend.Goals as goal

pub returns-clause-members : goal.returns-clause-members
returns-clause-members c = λ node number.
    (leaving_is_arc c.args.network.now node number, λ found. leaving_has c.args.network.now node number found.0 found.1 found.2)

pub returns-clause-ascend : goal.returns-clause-ascend
returns-clause-ascend c = λ node. leaving_ascend node 1 c.args.network.now.arcs
