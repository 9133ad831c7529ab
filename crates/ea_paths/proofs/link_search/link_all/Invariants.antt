use Rattle.std.proofs.Common.{◌≡◌, ◌+◌, length}
use Rattle.ea_paths.specs.Offers.{Linking, AreSown, levels}
use Rattle.ea_paths.proofs.link_search.link_all.Given as goal

-- the sources so far were linked
abbrev pub invariant-loop-source : goal.invariant-loop-source
invariant-loop-source g l = record {
  linking : Linking l.network (g.T.TravelTimes.answers l.times) l.sources l.table l.links l.waiting.waiting;
  sown : AreSown l.sources l.table l.links l.source-index;
  room : l.waiting.nodes ≡ l.network.nodes;
}

abbrev pub invariant-loop-node : goal.invariant-loop-node
invariant-loop-node g l = record {
  linking : Linking l.network (g.T.TravelTimes.answers l.times) l.sources l.table l.links l.waiting.waiting;
  sown : AreSown l.sources l.table l.links (length l.sources);
  room : l.waiting.nodes ≡ l.network.nodes;
}

-- each better link takes at least one from the levels and adds at most one waiting node
abbrev pub decreases-loop-node : goal.decreases-loop-node
decreases-loop-node g l = levels l.links + length l.waiting.waiting
