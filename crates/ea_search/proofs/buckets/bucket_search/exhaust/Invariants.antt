use Rattle.std.proofs.Common.{◌≡◌, ◌+◌, [], None, sum}
use Rattle.ea_search.specs.Frontiers.{WaitsAt, entries_in}
use Rattle.ea_search.specs.Scans.{AwaitsScansFrom}
use Rattle.ea_search.specs.Searching.{KeepsRoom, SearchesOn}
use Rattle.ea_search.specs.Underway.{bound_of}
use Rattle.ea_search.proofs.buckets.bucket_search.exhaust.Given as goal

abbrev pub invariant-scanning : goal.invariant-scanning
invariant-scanning g l = record {
  underway : AwaitsScansFrom l.network (g.T.TravelTimes.answers l.times) l.query.sources l.query.target (g.L.Table.labels l.table) (g.L.Table.met l.table) (WaitsAt l.frontier (bound_of (g.L.Table.labels l.table)));
  onward : SearchesOn l.network (g.T.TravelTimes.answers l.times) l.query.target (g.L.Table.labels l.initial.table) (g.L.Table.lists l.initial.table) (g.L.Table.had l.initial.table) (g.L.Table.labels l.table) (g.L.Table.lists l.table) (g.L.Table.had l.table);
  room : KeepsRoom l.initial.frontier.todo l.frontier.todo;
  none : l.candidates ≡ [];
  whole : l.initial.left ≡ None → l.left ≡ None;
}

-- each lowering takes at least one from the sum and adds at most one entry
abbrev pub decreases-scanning : goal.decreases-scanning
decreases-scanning g l = sum (g.L.Table.labels l.table) + entries_in l.frontier
