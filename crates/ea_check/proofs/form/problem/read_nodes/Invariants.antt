use Rattle.std.proofs.Common.{◌≡◌, ◌+◌, ◌-◌, ◌≤◌, length}
use Rattle.ea_check.specs.Streams.{IsSound, LeadsTo}
use Rattle.ea_check.proofs.Keeping.{NodesLeft}
use Rattle.ea_check.proofs.form.problem.read_nodes.Given as goal

abbrev pub invariant-nodes : goal.invariant-nodes
invariant-nodes g l = record {
  sound : IsSound l.lines;
  each_node : length l.reported + 1 ≡ l.node;
  few : l.node ≤ l.nodes + 1;
  leads : LeadsTo (NodesLeft l.node l.nodes l.reported) (g.R.Device.seen l.fn.device) l.fn.lines (g.R.Device.seen l.device) l.lines;
}

abbrev pub decreases-nodes : goal.decreases-nodes
decreases-nodes g l = l.nodes + 1 - l.node
