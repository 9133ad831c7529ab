use Rattle.std.proofs.Common.{◌⊎◌, ℕ}
use Rattle.ea_check.specs.Supported.{IsMarked}
use Rattle.ea_check.specs.Parts.{IsMarkedIn}
use Rattle.ea_check.proofs.judge.part.gather_marks.Given as goal

abbrev pub invariant-loop-part : goal.invariant-loop-part
invariant-loop-part l = record {
  only : (node : ℕ) → IsMarked l.marks node → IsMarked l.fn.marks node ⊎ IsMarkedIn l.parts node;
}
