use Rattle.ea_hierarchy.specs.Growth.{AreMade, IsGrowing}
use Rattle.ea_hierarchy.specs.Waiting.{higher_ends, lower_ends}
use Rattle.ea_hierarchy.proofs.upward.upward_of.Given as goal

abbrev pub invariant-loop-rank : goal.invariant-loop-rank
invariant-loop-rank l = record {
  growing : IsGrowing l.network.nodes l.rank l.growing;
  made : AreMade l.rank (lower_ends l.ranks l.network.arcs) (higher_ends l.ranks l.network.arcs) l.growing.upward.firsts.items l.growing.upward.heads.items;
}
