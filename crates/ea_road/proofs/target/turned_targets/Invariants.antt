use Rattle.std.proofs.Common.{◌≡◌, take}
use Rattle.ea_road.specs.LatestDepartures.{turned_targets}
use Rattle.ea_road.proofs.target.turned_targets.Given as goal

abbrev pub invariant-loop-target : goal.invariant-loop-target
invariant-loop-target l = l.sources.items ≡ turned_targets (take l.target-index l.targets)
