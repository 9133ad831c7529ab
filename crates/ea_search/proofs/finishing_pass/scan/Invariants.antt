use Rattle.std.proofs.Common.{◌≤◌, take}
use Rattle.ea_road.specs.Roads.{leaving}
use Rattle.ea_search.specs.Notes.{AreHad}
use Rattle.ea_search.specs.Scans.{Scanned}
use Rattle.ea_search.specs.Searching.{KeepsSearch}
use Rattle.ea_search.specs.Underway.{bound_of}
use Rattle.ea_search.proofs.finishing_pass.scan.Given as goal

-- the arcs so far were followed
abbrev pub invariant-loop-place : goal.invariant-loop-place
invariant-loop-place g l = record {
  scanned : Scanned l.network (g.T.TravelTimes.answers l.times) l.node l.departure (take l.place (leaving l.network l.node)) (g.L.Table.labels l.initial.table) (g.W.Opens.waits l.initial.todo (bound_of (g.L.Table.labels l.initial.table))) (g.L.Table.met l.initial.table) (g.L.Table.labels l.table) (g.W.Opens.waits l.todo (bound_of (g.L.Table.labels l.table))) (g.L.Table.met l.table);
  had : bound_of (g.L.Table.labels l.initial.table) l.node ≤ l.departure → AreHad l.network (g.T.TravelTimes.answers l.times) (g.L.Table.labels l.initial.table) (g.L.Table.had l.initial.table) → AreHad l.network (g.T.TravelTimes.answers l.times) (g.L.Table.labels l.table) (g.L.Table.had l.table);
  keeps : KeepsSearch (g.L.Table.labels l.initial.table) (g.L.Table.lists l.initial.table) (g.W.Opens.room l.initial.todo) (g.W.Opens.size l.initial.todo) (g.L.Table.labels l.table) (g.L.Table.lists l.table) (g.W.Opens.room l.todo) (g.W.Opens.size l.todo);
}
