use Rattle.std.proofs.Common.{ℕ, take}
use Rattle.ea_search.specs.Frontiers.{WaitsAt}
use Rattle.ea_search.specs.Listings.{AreLabelsListed}
use Rattle.ea_search.specs.Scans.{AwaitsScansFrom}
use Rattle.ea_search.specs.Searching.{KeepsRoom}
use Rattle.ea_search.specs.Underway.{bound_of}
use Rattle.ea_search.proofs.buckets.bucket_search.begin.Given as goal

-- right for the sources so far
abbrev pub invariant-loop-source : goal.invariant-loop-source
invariant-loop-source g l = record {
  underway : AwaitsScansFrom l.network (g.T.TravelTimes.answers l.times) (take l.source-index l.query.sources) l.query.target (g.L.Table.labels l.table) (g.L.Table.met l.table) (WaitsAt l.frontier (bound_of (g.L.Table.labels l.table)));
  adds : (v u k : ℕ) → g.L.Table.had l.table v u k → g.L.Table.had l.initial.table v u k;
  room : KeepsRoom l.initial.frontier.todo l.frontier.todo;
  listed : AreLabelsListed (g.L.Table.labels l.table) (g.L.Table.lists l.table);
}
