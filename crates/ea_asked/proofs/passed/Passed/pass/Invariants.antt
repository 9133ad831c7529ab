use Rattle.std.proofs.Common.{◌-◌, length}
use Rattle.ea_asked.specs.Seeking.{IsPassed}
use Rattle.ea_asked.proofs.passed.Passed.pass.Given as goal

abbrev pub invariant-loop-self : goal.invariant-loop-self
invariant-loop-self l = IsPassed l.table l.asked l.self

abbrev pub decreases-loop-self : goal.decreases-loop-self
decreases-loop-self l = length l.initial.asked - l.self.count
