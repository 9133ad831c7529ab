use Rattle.std.proofs.Common.{inl, inr}
use Rattle.ea_check.specs.FaultNames.{fault_name, fault_number}
use Rattle.ea_messages.specs.Said.{IsSaid, check_line}
use Rattle.ea_messages.proofs.outcome_lines.say_check.Goals as goal

pub returns-in-BadLine-clause-line : goal.returns-in-BadLine-clause-line
returns-in-BadLine-clause-line g c =
    let fault = c.args.fault in
    let told : IsSaid (check_line (fault_number fault) (fault_name fault) c.in-BadLine.line) (g.W.Device.seen c.args.out.now) (g.W.Device.seen c.put_verdict.new.out) = rw (c.number-number.ensures, c.name-name.ensures) at c.put_verdict.ensures in
    elim c.in-BadLine.is [
      | inl bad ↦ rw bad (rw bad at told)
      | inr other ↦ elim other [
        | inl not_attained ↦ rw not_attained (rw not_attained at told)
        | inr other ↦ elim other [
          | inl not_least ↦ rw not_least (rw not_least at told)
          | inr not_canonical ↦ rw not_canonical (rw not_canonical at told)
        ]
      ]
    ]
