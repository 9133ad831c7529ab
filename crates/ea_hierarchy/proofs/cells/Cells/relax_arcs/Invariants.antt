use Rattle.std.proofs.Common.{◌≡◌}
use Rattle.ea_hierarchy.specs.Cells.{RelaxesReach}
use Rattle.ea_hierarchy.proofs.cells.Cells.relax_arcs.Given as goal

abbrev pub invariant-loop-place : goal.invariant-loop-place
invariant-loop-place l = record {
  aim : l.self.aim ≡ l.initial.self.aim;
  relaxes : RelaxesReach l.upward.firsts.items l.upward.heads.items l.numbers.downs.items l.initial.self.aim l.initial.self.list.items l.self.list.items l.rank l.place l.highest;
}
