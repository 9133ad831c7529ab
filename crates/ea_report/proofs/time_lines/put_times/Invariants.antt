use Rattle.std.proofs.Common.{◌≡◌, ◌+◌, ◌-◌, ◌*◌, ◌≤◌, drop, length}
use Rattle.ea_report.specs.Report.{node_time, some_nodes}
use Rattle.ea_report.specs.declared.time_lines.TheConstants.{LINE}
use Rattle.ea_report.proofs.time_lines.put_times.Given as goal

-- the last of the lines are written, and there is room for the others
abbrev pub invariant-loop-done : goal.invariant-loop-done
invariant-loop-done l = record {
  inside : l.at ≤ length l.text;
  room : l.count * LINE ≤ l.at + l.done * LINE;
  written : drop l.at l.text ≡ some_nodes (node_time l.direction l.answer) (l.after + (l.count - l.done)) l.done;
}
