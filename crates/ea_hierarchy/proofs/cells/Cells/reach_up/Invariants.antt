use Rattle.std.proofs.Common.{length, ◌-◌, ◌<◌, ◌≡◌}
use Rattle.ea_hierarchy.proofs.Reaching.{IsClimbing}
use Rattle.ea_hierarchy.proofs.cells.Cells.reach_up.Given as goal

abbrev pub invariant-loop-target : goal.invariant-loop-target
invariant-loop-target l = record {
  aim : l.self.aim ≡ l.initial.self.aim;
  below : l.rank < length l.upward.firsts.items - 1;
  climbing : IsClimbing (length l.upward.firsts.items - 1) l.upward.firsts.items l.upward.heads.items l.numbers.downs.items l.target l.self.aim l.self.list.items l.rank l.top;
}

abbrev pub decreases-loop-target : goal.decreases-loop-target
decreases-loop-target l = length l.upward.firsts.items - l.rank
