use Rattle.std.proofs.Common.{◌≡◌, ◌≤◌, ◌*◌, length, take}
use Rattle.ea_machine.specs.Totals.{total}
use Rattle.ea_pool.proofs.solo.Solo.len.Given as goal

abbrev pub invariant-loop-heap : goal.invariant-loop-heap
invariant-loop-heap g l = (l.sum ≡ total length (take l.heap-index l.heap-items)) × (l.sum ≤ l.heap-index * 18446744073709551616)
