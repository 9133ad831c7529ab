use Rattle.ea_search.specs.Listings.{AreLabelsListed, IsListed}
use Rattle.ea_asked.specs.Stores.{Shows}
use Rattle.ea_asked.proofs.arrays.show.Given as goal

-- the nodes so far are shown
abbrev pub invariant-loop-node : goal.invariant-loop-node
invariant-loop-node l = record {
  shows : Shows l.table l.asked l.node-index l.labels.items;
  listed : AreLabelsListed l.labels.items (IsListed l.shown);
}
