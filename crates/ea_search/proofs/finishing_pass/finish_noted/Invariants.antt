use Rattle.std.proofs.Common.{◌≡◌, ◌+◌, sum, length, Contains}
use Rattle.ea_search.specs.Scans.{AwaitsScansFrom}
use Rattle.ea_search.specs.Searching.{SearchesOn}
use Rattle.ea_search.proofs.finishing_pass.finish_noted.Given as goal

abbrev pub invariant-loop-node : goal.invariant-loop-node
invariant-loop-node g l = record {
  underway : AwaitsScansFrom l.network (g.T.TravelTimes.answers l.times) l.query.sources l.query.target (g.L.Table.labels l.table) (g.L.Table.met l.table) (Contains l.todo.waiting);
  onward : SearchesOn l.network (g.T.TravelTimes.answers l.times) l.query.target (g.L.Table.labels l.initial.table) (g.L.Table.lists l.initial.table) (g.L.Table.had l.initial.table) (g.L.Table.labels l.table) (g.L.Table.lists l.table) (g.L.Table.had l.table);
  room : l.todo.nodes ≡ l.network.nodes;
  walks : l.todo.walks ≡ l.initial.todo.walks;
}

-- each lowering takes at least one from the sum and adds at most one waiting node
abbrev pub decreases-loop-node : goal.decreases-loop-node
decreases-loop-node g l = sum (g.L.Table.labels l.table) + length l.todo.waiting
