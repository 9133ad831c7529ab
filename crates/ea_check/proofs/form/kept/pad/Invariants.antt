use Rattle.std.proofs.Common.{◌≡◌, ◌++◌, ◌-◌, ◌≤◌, length, replicate}
use Rattle.std.specs.Prelude.{None}
use Rattle.ea_check.proofs.form.kept.pad.Given as goal

abbrev pub invariant-loop-walks : goal.invariant-loop-walks
invariant-loop-walks l = record {
  grown : length l.fn.walks.items ≤ length l.walks.items;
  few : length l.walks.items ≤ l.len;
  padded : l.walks.items ≡ l.fn.walks.items ++ replicate (length l.walks.items - length l.fn.walks.items) None;
}

abbrev pub decreases-loop-walks : goal.decreases-loop-walks
decreases-loop-walks l = l.len - length l.walks.items
