use Rattle.std.proofs.Common.{ℕ, ◌≤◌}
use Rattle.ea_road.specs.Roads.{IsArc}
use Rattle.ea_road.specs.declared.arc.Arc.{Arc}
use Rattle.ea_hierarchy.specs.Hierarchies.{AreNumbers}
use Rattle.ea_hierarchy.specs.Preparations.{IsLowCovered}
use Rattle.ea_hierarchy.proofs.cover.cover.Given as goal

abbrev pub invariant-loop-place : goal.invariant-loop-place
invariant-loop-place g l = record {
  numbers : AreNumbers l.upward.heads.items l.numbers.ups.items l.numbers.downs.items;
  covered : (number : ℕ) (arc : Arc) → number ≤ l.place → IsArc l.network number arc → IsLowCovered (g.T.TravelTimes.answers l.times) l.ranks l.upward.firsts.items l.upward.heads.items l.numbers.ups.items l.numbers.downs.items arc;
}
