use Rattle.std.proofs.Common.{◌+◌, ◌-◌, ◌≤◌, drop, length, take}
use Rattle.ea_check.specs.Runs.{IsRun, TakesTime}
use Rattle.ea_check.proofs.form.plain_lines.take_times.Given as goal

abbrev pub invariant-lines : goal.invariant-lines
invariant-lines l = record {
  inside : l.bytes + l.size ≤ length l.text;
  few : l.first + length l.times.items ≤ l.last;
  run : IsRun l.way l.first l.times.items (take l.bytes l.text);
  here : TakesTime l.way (l.first + length l.times.items) l.time (drop l.bytes l.text) l.size;
}

abbrev pub decreases-lines : goal.decreases-lines
decreases-lines l = l.last - (l.first + length l.times.items)
