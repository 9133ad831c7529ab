use Rattle.std.proofs.Common.{ℕ}
use Rattle.ea_search.specs.Frontiers.{WaitsAt}
use Rattle.ea_search.specs.Searching.{KeepsRoom}
use Rattle.ea_search.specs.Underway.{bound_of}
use Rattle.ea_search.proofs.buckets.frontier.Frontier.move_in.Given as goal

abbrev pub invariant-moving : goal.invariant-moving
invariant-moving g l = record {
  rest : (node : ℕ) → WaitsAt l.initial.self (bound_of (g.L.Table.labels l.table)) node → WaitsAt l.self (bound_of (g.L.Table.labels l.table)) node;
  room : KeepsRoom l.initial.self.todo l.self.todo;
}
