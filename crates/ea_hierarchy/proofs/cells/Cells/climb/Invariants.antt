use Rattle.std.proofs.Common.{◌≡◌, ◌-◌, length}
use Rattle.std.specs.Vec.{vec_capacity}
use Rattle.ea_hierarchy.proofs.Paths.{Climbs}
use Rattle.ea_hierarchy.proofs.cells.Cells.climb.Given as goal

abbrev pub invariant-loop-path : goal.invariant-loop-path
invariant-loop-path l = record {
  room : vec_capacity l.path ≡ vec_capacity l.initial.path;
  climbs : Climbs l.upward.firsts.items l.upward.heads.items l.path.items l.rank l.at;
}

abbrev pub decreases-loop-path : goal.decreases-loop-path
decreases-loop-path l = length l.upward.firsts.items - l.at
