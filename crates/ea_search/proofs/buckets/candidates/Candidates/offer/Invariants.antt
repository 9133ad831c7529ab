use Rattle.std.proofs.Common.{take}
use Rattle.ea_search.specs.Candidates.{Offered}
use Rattle.ea_search.specs.Searching.{KeepsSearch}
use Rattle.ea_search.specs.Underway.{bound_of}
use Rattle.ea_search.proofs.buckets.candidates.Candidates.offer.Given as goal

-- the candidates so far were offered
abbrev pub invariant-loop-place : goal.invariant-loop-place
invariant-loop-place g l = record {
  offered : Offered (take l.place l.self-inside.list) (g.L.Table.labels l.initial.table) (g.W.Opens.waits l.initial.todo (bound_of (g.L.Table.labels l.initial.table))) (g.L.Table.met l.initial.table) (g.L.Table.had l.initial.table) (g.L.Table.labels l.table) (g.W.Opens.waits l.todo (bound_of (g.L.Table.labels l.table))) (g.L.Table.met l.table) (g.L.Table.had l.table);
  keeps : KeepsSearch (g.L.Table.labels l.initial.table) (g.L.Table.lists l.initial.table) (g.W.Opens.room l.initial.todo) (g.W.Opens.size l.initial.todo) (g.L.Table.labels l.table) (g.L.Table.lists l.table) (g.W.Opens.room l.todo) (g.W.Opens.size l.todo);
}
