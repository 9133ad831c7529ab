use Rattle.std.proofs.Common.{ℕ, ◌≡◌}
use Rattle.std.specs.Vec.{vec_capacity}
use Rattle.ea_hierarchy.specs.Cells.{AreFound, FindsMore, IsPath, IsTopFound, IsWayFrom}
use Rattle.ea_hierarchy.proofs.cells.Cells.descend.Given as goal

abbrev pub invariant-loop-rank : goal.invariant-loop-rank
invariant-loop-rank l = record {
  aim : l.self.aim ≡ l.initial.self.aim;
  room : vec_capacity l.path ≡ vec_capacity l.initial.path;
  found : AreFound l.upward.firsts.items l.upward.heads.items l.numbers.ups.items l.initial.self.aim l.self.list.items;
  finds : FindsMore l.initial.self.aim l.initial.self.list.items l.self.list.items;
  path_is : IsPath l.upward.firsts.items l.upward.heads.items l.path.items;
  top : IsTopFound l.upward.firsts.items l.upward.heads.items l.initial.self.aim l.self.list.items l.path.items;
  way : (rank : ℕ) → IsWayFrom l.initial.self.aim l.initial.self.list.items l.initial.path.items rank → IsWayFrom l.initial.self.aim l.self.list.items l.path.items rank;
}

abbrev pub decreases-loop-rank : goal.decreases-loop-rank
decreases-loop-rank l = goal.left-loop-rank l
