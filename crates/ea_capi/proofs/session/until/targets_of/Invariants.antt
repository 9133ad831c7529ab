use Rattle.std.proofs.Common.{◌≡◌, take}
use Rattle.ea_capi.specs.Latest.{stops}
use Rattle.ea_capi.proofs.session.until.targets_of.Given as goal

abbrev pub invariant-loop-i : goal.invariant-loop-i
invariant-loop-i l = l.targets.items ≡ stops (take l.i l.nodes) (take l.i l.times)
