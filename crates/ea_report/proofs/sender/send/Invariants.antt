use Rattle.std.proofs.Common.{◌≤◌, ◌+◌, ◌-◌, length, take}
use Rattle.std.specs.Io.KnownBytes.{Appends}
use Rattle.ea_bytes.specs.Device.{Seen}
use Rattle.ea_report.specs.Sent.{HasBorne}
use Rattle.ea_report.proofs.sender.send.Given as goal

abbrev pub invariant-loop-sent : goal.invariant-loop-sent
invariant-loop-sent g l = record {
  sent : Appends (g.W.Device.seen l.fn.out).bytes (g.W.Device.seen l.out).bytes (take l.sent l.bytes);
  within : l.sent ≤ length l.bytes;
  borne : l.interruptions ≤ 1000;
  counted : (first : Seen) → HasBorne first (g.W.Device.seen l.fn.out) l.fn.interruptions → HasBorne first (g.W.Device.seen l.out) l.interruptions;
}

abbrev pub decreases-loop-sent : goal.decreases-loop-sent
decreases-loop-sent g l = (length l.bytes - l.sent) + (1000 - l.interruptions)
