use Rattle.std.proofs.Common.{◌≡◌, false, length, Contains}
use Rattle.ea_search.specs.Listings.{AreLabelsListed, AreLinksListed}
use Rattle.ea_search.proofs.labels.reached_nodes.Listed.put_back.Given as goal

abbrev pub invariant-loop-node : goal.invariant-loop-node
invariant-loop-node l = record {
  some : l.self-inside.all ≡ false;
  labels : AreLabelsListed l.table (Contains l.self-inside.nodes.items);
  links : AreLinksListed l.links (Contains l.self-inside.nodes.items);
}

abbrev pub decreases-loop-node : goal.decreases-loop-node
decreases-loop-node l = length l.self-inside.nodes.items
